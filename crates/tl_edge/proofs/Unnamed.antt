-- Which file an event leaves without a name: only a delete does, and it is the file at its path.
use Rattle.std.proofs.Common.{◌≡◌, ℕ, ◌+◌, Bool, true, false, ◌&&◌, ◌||◌, not, if◌then◌else◌, List, [], ◌∷◌, map, None, Some, cond, refl, sym, ap, ◌∙◌}
use Rattle.std.proofs.lemmas.Bool.{or_right}
use Rattle.tl_types.specs.Same.{path_same, file_same-Decides, path_same-Decides}
use Rattle.tl_types.specs.declared.actor.Actor.{Actor}
use Rattle.tl_types.specs.declared.file_id.FileId.{FileId}
use Rattle.tl_types.specs.declared.record_id.RecordId.{RecordId}
use Rattle.tl_model.specs.declared.command.Command.{Command}
use Rattle.tl_model.specs.declared.command.Command.TheVariants.{Put, Job, Delete, Mkdir, Rename, Pin, Unpin}
use Rattle.tl_model.specs.declared.reply.Reply.{Reply}
use Rattle.tl_model.specs.declared.reply.Reply.TheVariants.{Made, Fine}
use Rattle.tl_model.specs.declared.header.Header.{Header}
use Rattle.tl_model.specs.declared.event.Event.{Event}
use Rattle.tl_model.specs.declared.event.Act.{Act}
use Rattle.tl_model.specs.declared.event.Act.TheVariants.{Call}
use Rattle.tl_model.specs.Namespace.{PathOf, Node, dir, file, Names, moved, node_at, with_pin, without_name}
use Rattle.tl_model.specs.Past.{Past, act_with, event_with, without_tickets}
use Rattle.tl_model.specs.History.{is_file_node, is_named, names, names_after}
use Rattle.tl_model.specs.Rules.{Judge, all_permitted}
use Rattle.tl_laws.proofs.FreePaths.{grown_names, grown_outputs, none-taken}
use Rattle.tl_laws.proofs.Growing.{IsGrown, last-grows}
use Rattle.tl_steps.specs.Steps.{UnnamesOnly, is_gone}
use Rattle.tl_edge.specs.Names.{HasFilesOnce, HasPathsOnce, IsAlone, deletes, deletes_by, file_in, has_name}

abbrev Keeps : FileId → Names → Names → Type 0
Keeps f before now = has_name f before ≡ true → has_name f now ≡ true

outputs-keep : (f : FileId) (ns : Names) (made : RecordId) (k : ℕ) (outputs : List PathOf) → Keeps f ns (grown_outputs ns made k outputs)
outputs-keep f ns made k [] is = is
outputs-keep f ns made k (path ∷ outputs) is =
    outputs-keep f ((path, file (record { rec = made; out = k }) false) ∷ ns) made (k + 1) outputs
    (or_right (is_file_node f (file (record { rec = made; out = k }) false)) (has_name f ns) is)

-- where each node is the same file
pub changed-keep : (f : FileId) (change : PathOf × Node → PathOf × Node) → ((entry : PathOf × Node) → is_file_node f (change entry).1 ≡ is_file_node f entry.1) →
    (ns : Names) → has_name f (map change ns) ≡ has_name f ns
changed-keep f change same [] = refl
changed-keep f change same (entry ∷ ns) = λ i. same entry i || changed-keep f change same ns i

pin-keeps : (f : FileId) (b pinned : Bool) (node : Node) → is_file_node f (if b then with_pin pinned node else node) ≡ is_file_node f node
pin-keeps f true pinned dir = refl
pin-keeps f true pinned (file g was) = refl
pin-keeps f false pinned node = refl

pub pins-keep : (f : FileId) (path : PathOf) (pinned : Bool) (ns : Names) →
    has_name f (map (λ entry. (entry.0, if path_same path entry.0 then with_pin pinned entry.1 else entry.1)) ns) ≡ has_name f ns
pins-keep f path pinned ns =
    changed-keep f (λ entry. (entry.0, if path_same path entry.0 then with_pin pinned entry.1 else entry.1)) (λ entry. pin-keeps f (path_same path entry.0) pinned entry.1) ns

grown-keeps : (f : FileId) (reply : Reply) (command : Command (Unit {0})) (ns : Names) → deletes_by reply command ≡ false → Keeps f ns (grown_names reply command ns)
grown-keeps f (Made made) (Put path len digest ticket) ns other is = or_right (is_file_node f (file (record { rec = made; out = 0 }) false)) (has_name f ns) is
grown-keeps f (Made made) (Job core prio inputs outputs) ns other is = outputs-keep f ns made 0 outputs is
grown-keeps f Fine (Delete path) ns other is = absurd (cc)
grown-keeps f Fine (Mkdir path) ns other is = is
grown-keeps f Fine (Rename from to) ns other is = changed-keep f (λ entry. (moved from to entry.0, entry.1)) (λ entry. refl) ns ∙ is
grown-keeps f Fine (Pin path) ns other is = pins-keep f path true ns ∙ is
grown-keeps f Fine (Unpin path) ns other is = pins-keep f path false ns ∙ is
grown-keeps f reply command ns other is = is

none-lost : (was now : Bool) → (was ≡ true → now ≡ true) → false ≡ (was && not now)
none-lost true now keeps = ap not (sym (keeps refl))
none-lost false now keeps = refl

-- an event that is no such delete, and gives names to free paths only, leaves no file without a name
none-unnamed : (past : Past) (actor : Actor) (act : Act (Unit {0})) → IsGrown past act → deletes act ≡ false → UnnamesOnly past (record { actor = actor; act = act }) None
none-unnamed past actor (Call command reply) grown other f =
    none-lost (is_named past f) (has_name f (names_after reply command (names past)))
    (λ was. ap (has_name f) grown ∙ grown-keeps f reply command (names past) other was)
none-unnamed past actor act grown other f = none-lost (is_named past f) (is_named past f) (λ is. is)

-- nor does such an event of a journal whose events are permitted
pub last-unnames-none : {T : Type 0} (judge : Judge T) (header : Header) (e : Event T) (events : List (Event T)) → all_permitted judge header (e ∷ events) ≡ true →
    deletes (act_with {U = Unit {0}} (λ _. tt) e.act) ≡ false → UnnamesOnly (without_tickets events) (event_with {U = Unit {0}} (λ _. tt) e) None
last-unnames-none judge header e events ok other =
    none-unnamed (without_tickets events) e.actor (act_with {U = Unit {0}} (λ _. tt) e.act) (last-grows judge header e events ok) other

-- ---- a delete

alone-not : (f : FileId) (node : Node) (ns : Names) → IsAlone node ns → is_file_node f node ≡ true → has_name f ns ≡ false
alone-not f dir ns alone is = absurd (cc)
alone-not f (file g pinned) ns alone is = ap (λ (x : FileId). has_name x ns) ((file_same-Decides f g).0 is) ∙ alone

of-node : (f : FileId) (node : Node) → is_gone (file_in (Some node)) f ≡ is_file_node f node
of-node f dir = refl
of-node f (file g pinned) = refl

-- the first entry is the one that is taken away
taken-here : (x h : Bool) → (x ≡ true → h ≡ false) → x ≡ ((x || h) && not h)
taken-here true h alone = ap not (sym (alone refl))
taken-here false true alone = refl
taken-here false false alone = refl

-- it is a later one
taken-later : (x h after gone : Bool) → (x ≡ true → h ≡ false) → gone ≡ (h && not after) → gone ≡ ((x || h) && not (x || after))
taken-later true h after gone alone is = is ∙ ap (λ b. b && not after) (alone refl)
taken-later false h after gone alone is = is

abbrev Taken : PathOf → FileId → Names → Type 0
Taken path f ns = is_gone (file_in (node_at ns path)) f ≡ (has_name f ns && not (has_name f (without_name ns path)))

taken-at : (path : PathOf) (f : FileId) (entry : PathOf × Node) (ns : Names) (b : Bool) → path_same path entry.0 ≡ b → node_at ns entry.0 ≡ None → IsAlone entry.1 ns → Taken path f ns →
    is_gone (file_in (cond b (Some entry.1) (node_at ns path))) f
    ≡ (has_name f (entry ∷ ns) && not (has_name f (cond (not b) (entry ∷ without_name ns path) (without_name ns path))))
taken-at path f entry ns true e none alone rest =
    let same : path ≡ entry.0 = (path_same-Decides path entry.0).0 e in
    of-node f entry.1
    ∙ taken-here (is_file_node f entry.1) (has_name f ns) (alone-not f entry.1 ns alone)
    ∙ ap (λ more. has_name f (entry ∷ ns) && not (has_name f more)) (sym (none-taken path ns (ap (node_at ns) same ∙ none)))
taken-at path f entry ns false e none alone rest =
    taken-later (is_file_node f entry.1) (has_name f ns) (has_name f (without_name ns path)) (is_gone (file_in (node_at ns path)) f) (alone-not f entry.1 ns alone) rest

taken-all : (path : PathOf) (f : FileId) (ns : Names) → HasPathsOnce ns → HasFilesOnce ns → Taken path f ns
taken-all path f [] paths files = refl
taken-all path f (entry ∷ ns) paths files =
    taken-at path f entry ns (path_same path entry.0) refl paths.0 files.0 (taken-all path f ns paths.1 files.1)

-- where each path and each file stands once, a delete leaves the file at its path without a name
pub deleted-unnamed : (past : Past) (actor : Actor) (path : PathOf) → HasPathsOnce (names past) → HasFilesOnce (names past) →
    UnnamesOnly past (record { actor = actor; act = Call (Delete path) Fine }) (file_in (node_at (names past) path))
deleted-unnamed past actor path paths files f = taken-all path f (names past) paths files
