-- What a walk finds is what the path names.
use Rattle.std.proofs.Common.{◌≡◌, ℕ, Bool, true, false, cond, List, suc, [], ◌∷◌, ◌++◌, length, Option, Some, None, Result, Ok, Err, refl, sym, ap, ◌∙◌, subst, append_assoc, append-nil}
use Rattle.std.specs.List.{AllByRecursion}
use Rattle.std.specs.Map.{lookup}
use Rattle.tl_types.specs.Same.{path_same}
use Rattle.tl_types.specs.declared.file_id.FileId.{FileId}
use Rattle.tl_model.specs.declared.reply.Reply.{Reply}
use Rattle.tl_model.specs.Namespace.{PathOf, Node, dir, file, Names, node_at}
use Rattle.tl_model.specs.Replies.{Found, and_then, walk_on, walk, want_file, walk_to_file, refusal_of, or_else, inputs_refusal}
use Rattle.tl_model.specs.History.{files_at, file_at}

walk_on-finds : (names : Names) (at : PathOf) (o : Option Node) (rest : List (List ℕ)) (node : Node) → node_at names at ≡ o → walk_on names at o rest ≡ Ok node →
    node_at names (at ++ rest) ≡ Some node
walk_on-finds names at None rest node e is = absurd (cc)
walk_on-finds names at (Some here) [] node e is = let same : here ≡ node = cc in ap (node_at names) (append-nil at) ∙ e ∙ ap Some same
walk_on-finds names at (Some (file f pinned)) (part ∷ rest) node e is = absurd (cc)
walk_on-finds names at (Some dir) (part ∷ rest) node e is =
    ap (node_at names) (sym (append_assoc at (part ∷ []) rest)) ∙ walk_on-finds names (at ++ part ∷ []) (node_at names (at ++ part ∷ [])) rest node refl is

-- what a walk finds stands at the path
pub walk-finds : (names : Names) (path : PathOf) (node : Node) → walk names path ≡ Ok node → node_at names path ≡ Some node
walk-finds names path node is = walk_on-finds names [] (node_at names []) path node refl is

wants-file : (names : Names) (path : PathOf) (x : Found) (f : FileId) → walk names path ≡ x → and_then x want_file ≡ Ok f → (pinned : Bool) × (node_at names path ≡ Some (file f pinned))
wants-file names path (Ok dir) f e is = absurd (cc)
wants-file names path (Ok (file g pinned)) f e is = let same : g ≡ f = cc in (pinned, walk-finds names path (file g pinned) e ∙ ap (λ (x : FileId). Some (file x pinned)) same)
wants-file names path (Err r) f e is = absurd (cc)

-- a walk to a file finds the file that the path names
pub walk_to_file-finds : (names : Names) (path : PathOf) (f : FileId) → walk_to_file names path ≡ Ok f → (pinned : Bool) × (node_at names path ≡ Some (file f pinned))
walk_to_file-finds names path f is = wants-file names path (walk names path) f refl is

input-found : (names : Names) (path : PathOf) (x : Result FileId Reply) (later : Option Reply) → walk_to_file names path ≡ x → or_else (refusal_of x) later ≡ None →
    (later ≡ None) × ((f : FileId) × (pinned : Bool) × (node_at names path ≡ Some (file f pinned)))
input-found names path (Ok f) later e is = let found = walk_to_file-finds names path f e in (is, (f, found.0, found.1))
input-found names path (Err r) later e is = absurd (cc)

-- each input that is not refused names a file
pub inputs-found : (names : Names) (paths : List PathOf) → inputs_refusal names paths ≡ None → length (files_at names paths) ≡ length paths
inputs-found names [] is = refl
inputs-found names (path ∷ paths) is =
    let one = input-found names path (walk_to_file names path) (inputs_refusal names paths) refl is in
    ap (λ o. length (file_at o (files_at names paths))) one.1.2 ∙ ap suc (inputs-found names paths one.0)

lookup-at : (P : Node → Type 0) (path key : PathOf) (node : Node) (names : Names) (b : Bool) (it : Node) → P node →
    (lookup (path_same path) names ≡ Some it → P it) → cond b (Some node) (lookup (path_same path) names) ≡ Some it → P it
lookup-at P path key node names true it p later is = let same : node ≡ it = cc in subst P same p
lookup-at P path key node names false it p later is = later is

-- what holds of each node that is named holds of the one at a path
pub node-among : (P : Node → Type 0) (names : Names) (path : PathOf) (it : Node) → AllByRecursion (λ entry. P entry.1) names → node_at names path ≡ Some it → P it
node-among P [] path it all is = absurd (cc)
node-among P (entry ∷ names) path it all is =
    lookup-at P path entry.0 entry.1 names (path_same path entry.0) it all.0 (node-among P names path it all.1) is
