-- A call that is answered as the definitions say: no new pair takes the place of another, and each path still stands in a directory.
use Rattle.std.proofs.Common.{◌≡◌, ℕ, ◌+◌, ◌-◌, ◌<◌, ◌==◌, nat_lt, Bool, true, false, cond, ◌&&◌, ◌||◌, not, if◌then◌else◌, List, [], ◌∷◌, ◌++◌, length, drop, Option, Some, None, is_some, is_none, Ok, Err, refl, sym, ap, ◌∙◌, subst, arith}
use Rattle.std.specs.List.{AllByRecursion}
use Rattle.std.proofs.lemmas.Bool.{and_parts, and_from, eq-eqb, false_from_ne_true, lt-ltb}
use Rattle.std.proofs.lemmas.List.{length-take-le, take-append-drop}
use Rattle.tl_types.specs.Same.{path_same, path_same-Decides}
use Rattle.tl_types.specs.declared.actor.Actor.{Actor}
use Rattle.tl_types.specs.declared.record_id.RecordId.{RecordId}
use Rattle.tl_model.specs.declared.command.Command.{Command}
use Rattle.tl_model.specs.declared.command.Command.TheVariants.{Put, Job, Delete, Mkdir, Rename, Pin, Unpin}
use Rattle.tl_model.specs.declared.reply.Reply.{Reply}
use Rattle.tl_model.specs.declared.reply.Reply.TheVariants.{Made, Fine, Exists, NotEmpty, TooDeep, IntoItself, TooMany}
use Rattle.tl_model.specs.declared.header.Header.{Header}
use Rattle.tl_model.specs.declared.event.Act.{Act}
use Rattle.tl_model.specs.declared.event.Act.TheVariants.{Call, Served, Shut, Claim, Done, Back, Lose, Free, Drop, Load, Save, Saved, Unsave, Collect}
use Rattle.tl_model.specs.declared.event.Event.{Event}
use Rattle.tl_model.specs.Past.{Past, act_with, command_with, without_tickets}
use Rattle.tl_model.specs.Namespace.{PathOf, Node, dir, file, Names, node_at, is_below, parent, is_child, children, without_name, with_name, with_outputs, with_pin, with_pinned}
use Rattle.tl_model.specs.Replies.{Found, and_then, walk, want_dir, walk_to_parent, refusal_of, or_else, refuse_where, unless, new_refusal, count_refusal, inputs_refusal, outputs_refusal, has_children, is_full, delete_refusal, is_too_deep, rename_refusal, reply_to, reply_same}
use Rattle.tl_model.specs.History.{calls_of, with_call, names, names_of, names_after, records, records_of, reply_after}
use Rattle.tl_model.specs.Actors.{is_idle}
use Rattle.tl_model.specs.Rules.{Judge, all_permitted, broken, is_client, is_permitted}
use Rattle.tl_laws.proofs.Paths.{walk-finds}
use Rattle.tl_laws.proofs.Order.{all-both, all-map, all-filter, all-mapped}
use Rattle.tl_laws.proofs.Permits.{permitted_of}
use Rattle.tl_laws.proofs.Tickets.{names-with, reply_to-with}
use Rattle.tl_laws.proofs.Saves.{permitted-reply}
use Rattle.tl_laws.proofs.FreePaths.{grown_outputs, grown_names, name-added, IsClear, IsUnder, HasParents, clear-below, names-moved, not-both, below-from, parents-moved}
use Rattle.tl_laws.proofs.Refusals.{OnlyRefuses, or-none, or_else-refuses, refuse_where-refuses, new_refusal-refuses, inputs-refuse, outputs-refuse, delete-refuses, rename-refuses, job_made}

-- ---- what is answered as done was not refused

fine-unrefused : (refusal : Option Reply) → OnlyRefuses refusal → reply_same (unless refusal Fine) Fine ≡ true → refusal ≡ None
fine-unrefused None only same = refl
fine-unrefused (Some Fine) only same = absurd (cc)
fine-unrefused (Some r) only same = absurd (cc)

made-unrefused : (refusal : Option Reply) (next made : RecordId) → OnlyRefuses refusal → reply_same (unless refusal (Made next)) (Made made) ≡ true → refusal ≡ None
made-unrefused None next made only same = refl
made-unrefused (Some (Made other)) next made only same = absurd (cc)
made-unrefused (Some r) next made only same = absurd (cc)

-- ---- a new name

none-where : (o : Option Node) → refuse_where (is_some o) Exists ≡ None → o ≡ None
none-where None h = refl
none-where (Some node) h = absurd (cc)

dir-found : (names : Names) (path : PathOf) (x : Found) → walk names path ≡ x → refusal_of (and_then x want_dir) ≡ None → node_at names path ≡ Some dir
dir-found names path (Ok dir) e none = walk-finds names path dir e
dir-found names path (Ok (file f pinned)) e none = absurd (cc)
dir-found names path (Err r) e none = absurd (cc)

-- where a name can be made, the path is free and stands in a directory
pub new-is-free : (names : Names) (path : PathOf) → new_refusal names path ≡ None → (node_at names path ≡ None) × (node_at names (parent path) ≡ Some dir)
new-is-free names [] none = absurd (cc)
new-is-free names (part ∷ rest) none =
    let path : PathOf = part ∷ rest in
    let parts = or-none (refusal_of (walk_to_parent names path)) (refuse_where (is_some (node_at names path)) Exists) none in
    (none-where (node_at names path) parts.1, dir-found names (parent path) (walk names (parent path)) refl parts.0)

other-found : (names : Names) (path q : PathOf) (node : Node) (b : Bool) → path_same q path ≡ b → node_at names path ≡ None → node_at names q ≡ Some dir →
    cond b (Some node) (node_at names q) ≡ Some dir
other-found names path q node true e none found =
    absurd (let never : None ≡ Some dir = sym none ∙ ap (node_at names) (sym ((path_same-Decides q path).0 e)) ∙ found in cc)
other-found names path q node false e none found = found

parents-more : (names : Names) (path : PathOf) (node : Node) → HasParents names → node_at names path ≡ None → node_at names (parent path) ≡ Some dir →
    HasParents ((path, node) ∷ names)
parents-more names path node all none above =
    let more : Names = (path, node) ∷ names in
    let found : (q : PathOf) → node_at names q ≡ Some dir → node_at more q ≡ Some dir = λ q h. other-found names path q node (path_same q path) refl none h in (
      λ long. found (parent path) above,
      all-map (λ e. IsUnder names e.0) (λ e. IsUnder more e.0) (λ e under long. found (parent e.0) (under long)) names all,
    )

-- ---- a record's outputs

abbrev pub Grows : Names → Names → Type 0
Grows now grown = (now ≡ grown) × HasParents now

outputs-grow : (names : Names) (count k : ℕ) (outputs : List PathOf) → HasParents names → outputs_refusal names count k outputs ≡ None →
    Grows (with_outputs names (record { 0 = count }) k outputs) (grown_outputs names (record { 0 = count }) k outputs)
outputs-grow names count k [] all none = (refl, all)
outputs-grow names count k (path ∷ outputs) all none =
    let made : RecordId = record { 0 = count } in
    let node : Node = file (record { rec = made; out = k }) false in
    let parts = or-none (new_refusal names path) (outputs_refusal (with_name names path node) count (k + 1) outputs) none in
    let fresh = new-is-free names path parts.0 in
    let added : with_name names path node ≡ (path, node) ∷ names = name-added names path node fresh.0 in
    let rest = outputs-grow ((path, node) ∷ names) count (k + 1) outputs (parents-more names path node all fresh.0 fresh.1)
    (subst (λ ns. outputs_refusal ns count (k + 1) outputs ≡ None) added parts.1) in (
      ap (λ ns. with_outputs ns made (k + 1) outputs) added ∙ rest.0,
      subst HasParents (ap (λ ns. with_outputs ns made (k + 1) outputs) (sym added)) rest.1,
    )

-- ---- a delete

without-step : (path p : PathOf) (entry : PathOf × Node) (names : Names) (b : Bool) → path_same path entry.0 ≡ b → (path ≡ p → ⊥) →
    node_at (without_name names path) p ≡ node_at names p →
    node_at (cond (not b) (entry ∷ without_name names path) (without_name names path)) p ≡ node_at (entry ∷ names) p
without-step path p entry names true e apart rest =
    let here : path ≡ entry.0 = (path_same-Decides path entry.0).0 e in
    let other : path_same p entry.0 ≡ false = false_from_ne_true (path_same p entry.0) (λ same. apart (here ∙ sym ((path_same-Decides p entry.0).0 same))) in
    rest ∙ sym (ap (λ b. cond b (Some entry.1) (node_at names p)) other)
without-step path p entry names false e apart rest = ap (cond (path_same p entry.0) (Some entry.1)) rest

-- a path that is taken away leaves the others
pub without-other : (path p : PathOf) (names : Names) → (path ≡ p → ⊥) → node_at (without_name names path) p ≡ node_at names p
without-other path p [] apart = refl
without-other path p (entry ∷ names) apart = without-step path p entry names (path_same path entry.0) refl apart (without-other path p names apart)

no-child : (entry : PathOf × Node) (path : PathOf) (b : Bool) (kept : Names) → nat_lt 0 (length (cond b (entry ∷ kept) kept)) ≡ false → (b ≡ false) × (nat_lt 0 (length kept) ≡ false)
no-child entry path true kept none = absurd (not-both (nat_lt 0 (length (entry ∷ kept))) (lt-ltb 0 (length (entry ∷ kept)) (omega arith)) none)
no-child entry path false kept none = (refl, none)

childless : (names : Names) (path : PathOf) → has_children names path ≡ false → AllByRecursion (λ entry. is_child path entry.0 ≡ false) names
childless [] path none = tt
childless (entry ∷ names) path none =
    let parts = no-child entry path (is_child path entry.0) (children names path) none in (parts.0, childless names path parts.1)

-- what stands in a path's directory is its child
child-of : (above path : PathOf) → 0 < length path → above ≡ parent path → is_child above path ≡ true
child-of above path long is =
    let short : length (parent path) ≡ length path - 1 = length-take-le (length path - 1) path (omega arith) in
    let same : length above ≡ length (parent path) = ap length is in
    let number : length path ≡ length above + 1 = omega arith in
    and_from (length path == length above + 1) (is_below path above) (eq-eqb (length path) (length above + 1) number)
    (below-from path above (drop (length path - 1) path) (sym (take-append-drop (length path - 1) path) ∙ ap (λ front. front ++ drop (length path - 1) path) (sym is)))

abbrev IsNoneAbove : PathOf → Names → Type 0
IsNoneAbove path names = AllByRecursion (λ entry. 0 < length entry.0 → path ≡ parent entry.0 → ⊥) names

or-right-false : (a b : Bool) → (a || b) ≡ false → b ≡ false
or-right-false true b h = absurd (cc)
or-right-false false b h = h

empty-is : (b : Bool) → refusal_of {A = Node} (if b then Err NotEmpty else Ok dir) ≡ None → b ≡ false
empty-is true none = absurd (cc)
empty-is false none = refl

none-above : (names : Names) (path : PathOf) (x : Found) → walk names path ≡ x → HasParents names →
    refusal_of (and_then x (λ node. if is_full names path node then Err NotEmpty else Ok node)) ≡ None → IsNoneAbove path names
none-above names path (Ok dir) e all none =
    let empty : has_children names path ≡ false =
    or-right-false (length path == 0) (has_children names path) (empty-is (length path == 0 || has_children names path) none) in
    all-map (λ e. is_child path e.0 ≡ false) (λ e. 0 < length e.0 → path ≡ parent e.0 → ⊥)
    (λ e apart long is. not-both (is_child path e.0) (child-of path e.0 long is) apart) names (childless names path empty)
none-above names path (Ok (file f pinned)) e all none =
    let here : node_at names path ≡ Some (file f pinned) = walk-finds names path (file f pinned) e in
    all-map (λ e. IsUnder names e.0) (λ e. 0 < length e.0 → path ≡ parent e.0 → ⊥)
    (λ e under long is. let never : Some (file f pinned) ≡ Some dir = sym here ∙ ap (node_at names) is ∙ under long in cc) names all
none-above names path (Err r) e all none = absurd (cc)

parents-without : (names : Names) (path : PathOf) → HasParents names → IsNoneAbove path names → HasParents (without_name names path)
parents-without names path all apart =
    all-filter (λ e. IsUnder (without_name names path) e.0) (λ e. not (path_same path e.0)) names
    (all-map (λ e. IsUnder names e.0 × (0 < length e.0 → path ≡ parent e.0 → ⊥)) (λ e. IsUnder (without_name names path) e.0)
    (λ e known long. without-other path (parent e.0) names (known.1 long) ∙ known.0 long)
    names (all-both (λ e. IsUnder names e.0) (λ e. 0 < length e.0 → path ≡ parent e.0 → ⊥) names all apart))

-- ---- pins

abbrev pin_entry : PathOf → Bool → PathOf × Node → PathOf × Node
pin_entry path pinned entry = (entry.0, if path_same path entry.0 then with_pin pinned entry.1 else entry.1)

dir-pinned : (b pinned : Bool) → (if b then with_pin pinned dir else dir) ≡ dir
dir-pinned true pinned = refl
dir-pinned false pinned = refl

pinned-step : (path q : PathOf) (pinned : Bool) (entry : PathOf × Node) (names : Names) (b : Bool) →
    (node_at names q ≡ Some dir → node_at (with_pinned names path pinned) q ≡ Some dir) → cond b (Some entry.1) (node_at names q) ≡ Some dir →
    cond b (Some (if path_same path entry.0 then with_pin pinned entry.1 else entry.1)) (node_at (with_pinned names path pinned) q) ≡ Some dir
pinned-step path q pinned entry names true rest found =
    let it : entry.1 ≡ dir = cc in
    ap (λ node. Some (if path_same path entry.0 then with_pin pinned node else node)) it ∙ ap Some (dir-pinned (path_same path entry.0) pinned)
pinned-step path q pinned entry names false rest found = rest found

pinned-dir : (path q : PathOf) (pinned : Bool) (names : Names) → node_at names q ≡ Some dir → node_at (with_pinned names path pinned) q ≡ Some dir
pinned-dir path q pinned [] found = found
pinned-dir path q pinned (entry ∷ names) found = pinned-step path q pinned entry names (path_same q entry.0) (pinned-dir path q pinned names) found

parents-pinned : (path : PathOf) (pinned : Bool) (names : Names) → HasParents names → HasParents (with_pinned names path pinned)
parents-pinned path pinned names all =
    all-mapped (λ e. IsUnder names e.0) (λ e. IsUnder (with_pinned names path pinned) e.0) (pin_entry path pinned)
    (λ e under long. pinned-dir path (parent e.0) pinned names (under long)) names all

-- ---- calls

fine-new : (names : Names) (path : PathOf) (node : Node) → HasParents names → new_refusal names path ≡ None → Grows (with_name names path node) ((path, node) ∷ names)
fine-new names path node all none =
    let fresh = new-is-free names path none in
    let added : with_name names path node ≡ (path, node) ∷ names = name-added names path node fresh.0 in
    (added, subst HasParents (sym added) (parents-more names path node all fresh.0 fresh.1))

apart-from : (b : Bool) → refuse_where b IntoItself ≡ None → b ≡ false
apart-from true h = absurd (cc)
apart-from false h = refl

fine-rename : (names : Names) (from to : PathOf) → HasParents names → rename_refusal names from to ≡ None → Grows (names_after {T = Unit {0}} Fine (Rename from to) names) (grown_names {T = Unit {0}} Fine (Rename from to) names)
fine-rename names from to all none =
    let one = or-none (refusal_of (walk names from)) _ none in
    let two = or-none (refuse_where (is_below to from) IntoItself) _ one.1 in
    let three = or-none (new_refusal names to) (refuse_where (is_too_deep names from to) TooDeep) two.1 in
    let fresh = new-is-free names to three.0 in
    let moves = names-moved names from to all fresh.0 in
    (moves, subst HasParents (sym moves) (parents-moved from to names all (clear-below names to all fresh.0) (apart-from (is_below to from) two.0) fresh.1))

-- nothing stands at or below the path to which a rename that is answered as done moves
pub renames-clear : (names : Names) (from to : PathOf) → HasParents names → reply_same (unless (rename_refusal names from to) Fine) Fine ≡ true → IsClear to names
renames-clear names from to all same =
    let none = fine-unrefused (rename_refusal names from to) (rename-refuses names from to) same in
    let one = or-none (refusal_of (walk names from)) _ none in
    let two = or-none (refuse_where (is_below to from) IntoItself) _ one.1 in
    let three = or-none (new_refusal names to) (refuse_where (is_too_deep names from to) TooDeep) two.1 in
    clear-below names to all (new-is-free names to three.0).0

-- after a call that is answered so no pair has taken another's place, and each path stands in a directory
pub call-grows : {T : Type 0} (reply : Reply) (command : Command T) (names : Names) (count : ℕ) → HasParents names → reply_same (reply_to names count command) reply ≡ true →
    Grows (names_after reply command names) (grown_names reply command names)
call-grows (Made made) (Put path len digest ticket) names count all same =
    let none = made-unrefused (or_else (new_refusal names path) (count_refusal count)) (record { 0 = count }) made
    (or_else-refuses (new_refusal names path) (count_refusal count) (new_refusal-refuses names path) (refuse_where-refuses _ TooMany refl)) same in
    fine-new names path (file (record { rec = made; out = 0 }) false) all (or-none (new_refusal names path) (count_refusal count) none).0
call-grows {T} (Made made) (Job core prio inputs outputs) names count all same =
    let later : Option Reply = or_else (outputs_refusal names count 0 outputs) (count_refusal count) in
    let none = made-unrefused (or_else (inputs_refusal names inputs) later) (record { 0 = count }) made
    (or_else-refuses (inputs_refusal names inputs) later (inputs-refuse names inputs)
    (or_else-refuses (outputs_refusal names count 0 outputs) (count_refusal count) (outputs-refuse names count 0 outputs) (refuse_where-refuses _ TooMany refl))) same in
    let fresh = (or-none (outputs_refusal names count 0 outputs) (count_refusal count) (or-none (inputs_refusal names inputs) later none).1).0 in
    subst (λ r. Grows (with_outputs names r 0 outputs) (grown_outputs names r 0 outputs)) (sym (job_made T names count core prio inputs outputs made same))
    (outputs-grow names count 0 outputs all fresh)
call-grows Fine (Delete path) names count all same =
    let none = fine-unrefused (delete_refusal names path) (delete-refuses names path) same in
    (refl, parents-without names path all (none-above names path (walk names path) refl all none))
call-grows Fine (Mkdir path) names count all same =
    fine-new names path dir all (fine-unrefused (new_refusal names path) (new_refusal-refuses names path) same)
call-grows Fine (Rename from to) names count all same =
    fine-rename names from to all (fine-unrefused (rename_refusal names from to) (rename-refuses names from to) same)
call-grows Fine (Pin path) names count all same = (refl, parents-pinned path true names all)
call-grows Fine (Unpin path) names count all same = (refl, parents-pinned path false names all)
call-grows reply command names count all same = (refl, all)

-- ---- journals

act-parents : {T : Type 0} (judge : Judge T) (header : Header) (events : List (Event T)) (past : Past) (actor : Actor) (act : Act T) →
    HasParents (names_of (calls_of events)) → is_permitted judge header events past actor act ≡ true → HasParents (names_of (with_call actor act (calls_of events)))
act-parents judge header events past actor (Call command reply) all ok =
    (call-grows reply command (names_of (calls_of events)) (length (records_of (calls_of events))) all
    (and_parts (is_client actor && is_idle past actor && judge.put_fits command) (reply_same (reply_after (calls_of events) command) reply) ok).1).1
act-parents judge header events past actor act all ok = all

all-parents-of : {T : Type 0} (judge : Judge T) (header : Header) (events : List (Event T)) → all_permitted judge header events ≡ true →
    HasParents (names_of (calls_of events))
all-parents-of judge header [] ok = (λ long. absurd (omega arith), tt)
all-parents-of judge header (e ∷ events) ok =
    let parts = and_parts (is_none (broken judge header events e)) (all_permitted judge header events) ok in
    act-parents judge header events (without_tickets events) e.actor e.act (all-parents-of judge header events parts.1)
    (permitted_of judge header events e parts.0).1

-- in a journal whose events are permitted each path that is named stands in a directory
pub all-parents : {T : Type 0} (judge : Judge T) (header : Header) (events : List (Event T)) → all_permitted judge header events ≡ true →
    HasParents (names (without_tickets events))
all-parents judge header events ok = subst HasParents (sym (names-with (λ _. tt) events)) (all-parents-of judge header events ok)

-- a call gives names to free paths only
abbrev pub IsGrown : Past → Act (Unit {0}) → Type 0
IsGrown past (Call command reply) = names_after reply command (names past) ≡ grown_names reply command (names past)
IsGrown past _ = Unit {0}

permitted-grows : {T : Type 0} (judge : Judge T) (header : Header) (events : List (Event T)) (actor : Actor) (act : Act T) → HasParents (names (without_tickets events)) →
    is_permitted judge header events (without_tickets events) actor act ≡ true → IsGrown (without_tickets events) (act_with {U = Unit {0}} (λ _. tt) act)
permitted-grows judge header events actor (Call command reply) all ok =
    let past : Past = without_tickets events in
    (call-grows reply (command_with {U = Unit {0}} (λ _. tt) command) (names past) (length (records past)) all
    (ap (λ r. reply_same r reply) (reply_to-with (λ _. tt) (names past) (length (records past)) command) ∙ permitted-reply judge header events actor command reply ok)).0
permitted-grows judge header events actor (Served f digest) all ok = tt
permitted-grows judge header events actor (Shut f) all ok = tt
permitted-grows judge header events actor (Claim worker made) all ok = tt
permitted-grows judge header events actor (Done worker made) all ok = tt
permitted-grows judge header events actor (Back made) all ok = tt
permitted-grows judge header events actor (Lose worker) all ok = tt
permitted-grows judge header events actor (Free f) all ok = tt
permitted-grows judge header events actor (Drop worker f) all ok = tt
permitted-grows judge header events actor (Load worker f) all ok = tt
permitted-grows judge header events actor (Save f) all ok = tt
permitted-grows judge header events actor (Saved f size digest) all ok = tt
permitted-grows judge header events actor (Unsave f) all ok = tt
permitted-grows judge header events actor (Collect made) all ok = tt

-- the last of some events that are permitted gives names to free paths only
pub last-grows : {T : Type 0} (judge : Judge T) (header : Header) (e : Event T) (events : List (Event T)) → all_permitted judge header (e ∷ events) ≡ true →
    IsGrown (without_tickets events) (act_with {U = Unit {0}} (λ _. tt) e.act)
last-grows judge header e events ok =
    let parts = and_parts (is_none (broken judge header events e)) (all_permitted judge header events) ok in
    permitted-grows judge header events e.actor e.act (all-parents judge header events parts.1) (permitted_of judge header events e parts.0).1
