-- A call that is answered as the definitions say gives names to paths that were free, so that no pair takes the place of another.
use Rattle.std.proofs.Common.{◌≡◌, ℕ, zero, suc, ◌+◌, ◌-◌, ◌<◌, ◌≤◌, Bool, true, false, cond, ◌&&◌, not, if◌then◌else◌, List, [], ◌∷◌, ◌++◌, length, map, filter, take, drop, Option, Some, None, is_some, refl, sym, ap, ◌∙◌, subst, arith, append_assoc, append-nil, length-append}
use Rattle.std.specs.List.{AllByRecursion}
use Rattle.std.proofs.lemmas.Bool.{false_from_ne_true}
use Rattle.std.proofs.lemmas.List.{append_cancel_left, length-take-le, take-append-drop}
use Rattle.std.proofs.lemmas.Slice.Eq.{starts_is, bytes_eq-Decides}
use Rattle.std.proofs.Math.Seq.{take-append-add, drop-append_seam}
use Rattle.tl_types.specs.Same.{path_same, path_same-Decides}
use Rattle.tl_types.specs.declared.record_id.RecordId.{RecordId}
use Rattle.tl_model.specs.declared.command.Command.{Command}
use Rattle.tl_model.specs.declared.command.Command.TheVariants.{Put, Job, Delete, Mkdir, Rename, Pin, Unpin}
use Rattle.tl_model.specs.declared.reply.Reply.{Reply}
use Rattle.tl_model.specs.declared.reply.Reply.TheVariants.{Made, Fine}
use Rattle.tl_model.specs.Namespace.{PathOf, Node, dir, file, Names, node_at, is_below, parent, without_name, with_name, moved, is_replaced, with_moved, with_pinned}
use Rattle.tl_laws.proofs.Order.{all-both, all-map, all-mapped}

-- ---- names where no pair takes the place of another

abbrev pub grown_outputs : Names → RecordId → ℕ → List PathOf → Names
grown_outputs names made k [] = names
grown_outputs names made k (path ∷ paths) = grown_outputs ((path, file (record { rec = made; out = k }) false) ∷ names) made (k + 1) paths

-- the names after a call that was answered so, each new pair before what was there
abbrev pub grown_names : {T : Type 0} → Reply → Command T → Names → Names
grown_names (Made made) (Put path len digest ticket) names = (path, file (record { rec = made; out = 0 }) false) ∷ names
grown_names (Made made) (Job core prio inputs outputs) names = grown_outputs names made 0 outputs
grown_names Fine (Delete path) names = without_name names path
grown_names Fine (Mkdir path) names = (path, dir) ∷ names
grown_names Fine (Rename from to) names = map (λ entry. (moved from to entry.0, entry.1)) names
grown_names Fine (Pin path) names = with_pinned names path true
grown_names Fine (Unpin path) names = with_pinned names path false
grown_names _ _ names = names

-- ---- look-ups

pub path-self : (path : PathOf) → path_same path path ≡ true
path-self path = (path_same-Decides path path).1 refl

stays-whole : (path : PathOf) (entry : PathOf × Node) (names : Names) (b : Bool) → cond b (Some entry.1) (node_at names path) ≡ None →
    (node_at names path ≡ None → without_name names path ≡ names) → cond (not b) (entry ∷ without_name names path) (without_name names path) ≡ entry ∷ names
stays-whole path entry names true none rest = absurd (cc)
stays-whole path entry names false none rest = ap (λ more. entry ∷ more) (rest none)

-- a path that names nothing takes no name away
pub none-taken : (path : PathOf) (names : Names) → node_at names path ≡ None → without_name names path ≡ names
none-taken path [] none = refl
none-taken path (entry ∷ names) none = stays-whole path entry names (path_same path entry.0) none (none-taken path names)

-- a pair of a free path stands before what was there
pub name-added : (names : Names) (path : PathOf) (node : Node) → node_at names path ≡ None → with_name names path node ≡ (path, node) ∷ names
name-added names path node none = ap (λ rest. (path, node) ∷ rest) (none-taken path names none)

among-step : (Q : PathOf → Type 0) (path : PathOf) (entry : PathOf × Node) (names : Names) (b : Bool) → path_same path entry.0 ≡ b → Q entry.0 →
    (is_some (node_at names path) ≡ true → Q path) → is_some (cond b (Some entry.1) (node_at names path)) ≡ true → Q path
among-step Q path entry names true e here later is = subst Q (sym ((path_same-Decides path entry.0).0 e)) here
among-step Q path entry names false e here later is = later is

-- what holds of each path that is named holds of one that names something
pub path-among : (Q : PathOf → Type 0) (names : Names) (path : PathOf) → AllByRecursion (λ entry. Q entry.0) names → is_some (node_at names path) ≡ true → Q path
path-among Q [] path all is = absurd (cc)
path-among Q (entry ∷ names) path all is = among-step Q path entry names (path_same path entry.0) refl all.0 (path-among Q names path all.1) is

found-more : (b : Bool) (node : Node) (o : Option Node) → is_some o ≡ true → is_some (cond b (Some node) o) ≡ true
found-more true node o is = refl
found-more false node o is = is

-- each path that is named names something
pub each-found : (names : Names) → AllByRecursion (λ entry. is_some (node_at names entry.0) ≡ true) names
each-found [] = tt
each-found (entry ∷ names) = (
  ap (λ b. is_some (cond b (Some entry.1) (node_at names entry.0))) (path-self entry.0),
  all-map (λ e. is_some (node_at names e.0) ≡ true) (λ e. is_some (node_at (entry ∷ names) e.0) ≡ true)
      (λ e is. found-more (path_same e.0 entry.0) entry.1 (node_at names e.0) is) names (each-found names),
)

none-not-some : {A : Type 0} (o : Option A) → o ≡ None → is_some o ≡ true → ⊥
none-not-some o none is = let never : true ≡ false = sym is ∙ ap is_some none in cc

-- ---- paths below others

below-rest : (path above : PathOf) → is_below path above ≡ true → path ≡ above ++ drop (length above) path
below-rest path above below = (starts_is bytes_eq-Decides path above (is_below path above) refl).0 below

pub below-from : (path above rest : PathOf) → path ≡ above ++ rest → is_below path above ≡ true
below-from path above rest is = (starts_is bytes_eq-Decides path above (is_below path above) refl).1 rest is

parent-append : (above : PathOf) (part : List ℕ) (rest : PathOf) → parent (above ++ part ∷ rest) ≡ above ++ take (length rest) (part ∷ rest)
parent-append above part rest =
    let long : length (above ++ part ∷ rest) ≡ length above + length (part ∷ rest) = length-append above (part ∷ rest) in
    let number : length (above ++ part ∷ rest) - 1 ≡ length above + length rest = omega arith in
    ap (λ n. take n (above ++ part ∷ rest)) number ∙ take-append-add above (part ∷ rest) (length rest)

-- ---- each path stands in a directory

-- the path is `/`, or what stands above it is a directory
abbrev pub IsUnder : Names → PathOf → Type 0
IsUnder names path = 0 < length path → node_at names (parent path) ≡ Some dir

abbrev pub HasParents : Names → Type 0
HasParents names = AllByRecursion (λ entry. IsUnder names entry.0) names

take-short : (n : ℕ) (part : List ℕ) (rest : PathOf) → length rest ≤ n → length (take (length rest) (part ∷ rest)) ≤ n
take-short n part rest few =
    let long : length (take (length rest) (part ∷ rest)) ≡ length rest = length-take-le (length rest) (part ∷ rest) (omega arith) in omega arith

none-below-at : (names : Names) (to : PathOf) → HasParents names → node_at names to ≡ None → (n : ℕ) (rest : PathOf) → length rest ≤ n →
    (b : Bool) → is_some (node_at names (to ++ rest)) ≡ b → b ≡ false
none-below-at names to all none n rest few false is = refl
none-below-at names to all none n [] few true is =
    absurd (none-not-some (node_at names to) none (ap (λ p. is_some (node_at names p)) (sym (append-nil to)) ∙ is))
none-below-at names to all none zero (part ∷ rest) few true is = absurd (omega arith)
none-below-at names to all none (suc n) (part ∷ rest) few true is =
    let long : length (to ++ part ∷ rest) ≡ length to + length (part ∷ rest) = length-append to (part ∷ rest) in
    let under : node_at names (parent (to ++ part ∷ rest)) ≡ Some dir = path-among (IsUnder names) names (to ++ part ∷ rest) all is (omega arith) in
    let above : is_some (node_at names (to ++ take (length rest) (part ∷ rest))) ≡ true =
    ap (λ p. is_some (node_at names p)) (sym (parent-append to part rest)) ∙ ap is_some under in
    let never : true ≡ false =
    none-below-at names to all none n (take (length rest) (part ∷ rest)) (take-short n part rest (omega arith)) true above in
    absurd (cc)

-- nothing stands at or below a free path
none-below : (names : Names) (to : PathOf) → HasParents names → node_at names to ≡ None → (path : PathOf) → is_below path to ≡ true → is_some (node_at names path) ≡ false
none-below names to all none path below =
    let rest : PathOf = drop (length to) path in
    none-below-at names to all none (length rest) rest (omega arith) (is_some (node_at names path))
    (ap (λ p. is_some (node_at names p)) (sym (below-rest path to below)))

abbrev pub IsClear : PathOf → Names → Type 0
IsClear to names = AllByRecursion (λ entry. is_below entry.0 to ≡ false) names

pub clear-below : (names : Names) (to : PathOf) → HasParents names → node_at names to ≡ None → IsClear to names
clear-below names to all none =
    all-map (λ e. is_some (node_at names e.0) ≡ true) (λ e. is_below e.0 to ≡ false)
    (λ e found. false_from_ne_true (is_below e.0 to) (λ below. absurd (let never : true ≡ false = sym found ∙ none-below names to all none e.0 below in cc)))
    names (each-found names)

-- ---- a rename takes no pair's place

kept-whole : (keep : PathOf × Node → Bool) (names : Names) → AllByRecursion (λ entry. keep entry ≡ true) names → filter keep names ≡ names
kept-whole keep [] all = refl
kept-whole keep (entry ∷ names) all =
    ap (λ b. cond b (entry ∷ filter keep names) (filter keep names)) all.0 ∙ ap (λ more. entry ∷ more) (kept-whole keep names all.1)

not-three : (a b c : Bool) → b ≡ false → not (a && b && c) ≡ true
not-three true true c h = absurd (cc)
not-three true false c h = refl
not-three false b c h = refl

-- a rename to a free path moves pairs, and replaces none
pub names-moved : (names : Names) (from to : PathOf) → HasParents names → node_at names to ≡ None →
    with_moved names from to ≡ map (λ entry. (moved from to entry.0, entry.1)) names
names-moved names from to all none =
    ap (map (λ entry. (moved from to entry.0, entry.1)))
    (kept-whole (λ e. not (is_replaced names from to e.0)) names
    (all-map (λ e. is_below e.0 to ≡ false) (λ e. not (is_replaced names from to e.0) ≡ true)
    (λ e apart. not-three (not (is_below e.0 from)) (is_below e.0 to) (is_some (node_at names (moved to from e.0))) apart)
    names (clear-below names to all none)))

-- ---- moved paths

both-ways : (a b : Bool) → (a ≡ true → b ≡ true) → (b ≡ true → a ≡ true) → a ≡ b
both-ways true b f g = sym (f refl)
both-ways false true f g = g refl
both-ways false false f g = refl

pub not-both : (b : Bool) → b ≡ true → b ≡ false → ⊥
not-both b is none = let never : true ≡ false = sym is ∙ none in cc

moved-one : (from to p q : PathOf) (b c : Bool) → is_below p from ≡ b → is_below q from ≡ c → is_below p to ≡ false → is_below q to ≡ false →
    (if b then to ++ drop (length from) p else p) ≡ (if c then to ++ drop (length from) q else q) → p ≡ q
moved-one from to p q true true e f apart_p apart_q same =
    below-rest p from e
    ∙ ap (λ rest. from ++ rest) (append_cancel_left to (drop (length from) p) (drop (length from) q) same)
    ∙ sym (below-rest q from f)
moved-one from to p q true false e f apart_p apart_q same = absurd (not-both (is_below q to) (below-from q to (drop (length from) p) (sym same)) apart_q)
moved-one from to p q false true e f apart_p apart_q same = absurd (not-both (is_below p to) (below-from p to (drop (length from) q) same) apart_p)
moved-one from to p q false false e f apart_p apart_q same = same

moved-same : (from to p q : PathOf) → is_below p to ≡ false → is_below q to ≡ false → path_same (moved from to p) (moved from to q) ≡ path_same p q
moved-same from to p q apart_p apart_q =
    both-ways (path_same (moved from to p) (moved from to q)) (path_same p q)
    (λ h. (path_same-Decides p q).1
    (moved-one from to p q (is_below p from) (is_below q from) refl refl apart_p apart_q ((path_same-Decides (moved from to p) (moved from to q)).0 h)))
    (λ h. (path_same-Decides (moved from to p) (moved from to q)).1 (ap (moved from to) ((path_same-Decides p q).0 h)))

abbrev pub move_names : PathOf → PathOf → Names → Names
move_names from to names = map (λ entry. (moved from to entry.0, entry.1)) names

pub moved-node : (from to p : PathOf) (names : Names) → IsClear to names → is_below p to ≡ false → node_at (move_names from to names) (moved from to p) ≡ node_at names p
moved-node from to p [] clear apart = refl
moved-node from to p (entry ∷ names) clear apart =
    λ i. cond (moved-same from to p entry.0 apart clear.0 i) (Some entry.1) (moved-node from to p names clear.1 apart i)

parent-below : (path above : PathOf) → is_below (parent path) above ≡ true → is_below path above ≡ true
parent-below path above below =
    let rest : PathOf = drop (length above) (parent path) in
    let last : PathOf = drop (length path - 1) path in
    below-from path above (rest ++ last)
    (sym (take-append-drop (length path - 1) path)
    ∙ ap (λ front. front ++ last) (below-rest (parent path) above below)
    ∙ append_assoc above rest last)

parent-apart : (path above : PathOf) → is_below path above ≡ false → is_below (parent path) above ≡ false
parent-apart path above apart = false_from_ne_true (is_below (parent path) above) (λ below. not-both (is_below path above) (parent-below path above below) apart)

stays-put : (from to path : PathOf) → is_below path from ≡ false → moved from to path ≡ path
stays-put from to path apart = ap (λ b. if b then to ++ drop (length from) path else path) apart

-- what stays keeps its directory
under-stays : (from to path : PathOf) (names : Names) → IsClear to names → is_below path to ≡ false → is_below path from ≡ false → IsUnder names path →
    IsUnder (move_names from to names) path
under-stays from to path names clear apart stays under = λ long.
    ap (node_at (move_names from to names)) (sym (stays-put from to (parent path) (parent-apart path from stays)))
    ∙ moved-node from to (parent path) names clear (parent-apart path to apart)
    ∙ under long

-- what moves finds it moved along
under-moves : (from to rest : PathOf) (names : Names) → IsClear to names → is_below (from ++ rest) to ≡ false → is_below to from ≡ false →
    node_at names (parent to) ≡ Some dir → IsUnder names (from ++ rest) → IsUnder (move_names from to names) (to ++ rest)
under-moves from to [] names clear apart outside above under = λ long.
    let whole : to ++ [] ≡ to = append-nil to in
    let some : 0 < length to = subst (λ p. 0 < length p) whole long in
    let short : is_below (parent to) to ≡ false = false_from_ne_true (is_below (parent to) to) (λ below. too-short to some (below-rest (parent to) to below)) in
    ap (λ p. node_at (move_names from to names) (parent p)) whole
    ∙ ap (node_at (move_names from to names)) (sym (stays-put from to (parent to) (parent-apart to from outside)))
    ∙ moved-node from to (parent to) names clear short
    ∙ above
  where
    too-short : (to : PathOf) → 0 < length to → parent to ≡ to ++ drop (length to) (parent to) → ⊥
    too-short to some is =
        let few : length (parent to) ≡ length to - 1 = length-take-le (length to - 1) to (omega arith) in
        let long : length (parent to) ≡ length to + length (drop (length to) (parent to)) = ap length is ∙ length-append to (drop (length to) (parent to)) in
        omega arith
under-moves from to (part ∷ rest) names clear apart outside above under = λ long.
    let front : PathOf = take (length rest) (part ∷ rest) in
    let was : parent (from ++ part ∷ rest) ≡ from ++ front = parent-append from part rest in
    let size : length (from ++ part ∷ rest) ≡ length from + length (part ∷ rest) = length-append from (part ∷ rest) in
    let moves : moved from to (from ++ front) ≡ to ++ front =
    ap (λ b. if b then to ++ drop (length from) (from ++ front) else from ++ front) (below-from (from ++ front) from front refl)
    ∙ ap (λ r. to ++ r) (drop-append_seam from front) in
    let clear_of : is_below (from ++ front) to ≡ false = subst (λ p. is_below p to ≡ false) was (parent-apart (from ++ part ∷ rest) to apart) in
    ap (node_at (move_names from to names)) (parent-append to part rest ∙ sym moves)
    ∙ moved-node from to (from ++ front) names clear clear_of
    ∙ ap (node_at names) (sym was)
    ∙ under (omega arith)

under-moved : (from to path : PathOf) (names : Names) (b : Bool) → is_below path from ≡ b → IsClear to names → is_below path to ≡ false → is_below to from ≡ false →
    node_at names (parent to) ≡ Some dir → IsUnder names path → IsUnder (move_names from to names) (if b then to ++ drop (length from) path else path)
under-moved from to path names true e clear apart outside above under =
    let rest : PathOf = drop (length from) path in
    let whole : path ≡ from ++ rest = below-rest path from e in
    under-moves from to rest names clear (subst (λ p. is_below p to ≡ false) whole apart) outside above (subst (IsUnder names) whole under)
under-moved from to path names false e clear apart outside above under = under-stays from to path names clear apart e under

pub parents-moved : (from to : PathOf) (names : Names) → HasParents names → IsClear to names → is_below to from ≡ false → node_at names (parent to) ≡ Some dir →
    HasParents (move_names from to names)
parents-moved from to names all clear outside above =
    all-mapped (λ e. IsUnder names e.0 × (is_below e.0 to ≡ false)) (λ e. IsUnder (move_names from to names) e.0) (λ e. (moved from to e.0, e.1))
    (λ e known. under-moved from to e.0 names (is_below e.0 from) refl clear known.1 outside above known.0)
    names (all-both (λ e. IsUnder names e.0) (λ e. is_below e.0 to ≡ false) names all clear)
