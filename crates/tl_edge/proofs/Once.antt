-- In a journal whose events are permitted each path and each file stands once among the names.
use Rattle.std.proofs.Common.{◌≡◌, ℕ, suc, ◌+◌, ◌≤◌, Bool, true, false, ◌&&◌, ◌||◌, not, if◌then◌else◌, cond, List, [], ◌∷◌, length, filter, Some, None, is_none, refl, sym, ap, ◌∙◌, subst, arith}
use Rattle.std.proofs.lemmas.Bool.{and_parts, false_from_ne_true}
use Rattle.tl_types.specs.Same.{path_same, file_same, file_same-Decides}
use Rattle.tl_types.specs.declared.actor.Actor.{Actor}
use Rattle.tl_types.specs.declared.file_id.FileId.{FileId}
use Rattle.tl_types.specs.declared.record_id.RecordId.{RecordId}
use Rattle.tl_model.specs.declared.command.Command.{Command}
use Rattle.tl_model.specs.declared.command.Command.TheVariants.{Put, Job, Delete, Mkdir, Rename, Pin, Unpin}
use Rattle.tl_model.specs.declared.reply.Reply.{Reply}
use Rattle.tl_model.specs.declared.reply.Reply.TheVariants.{Made, Fine}
use Rattle.tl_model.specs.declared.header.Header.{Header}
use Rattle.tl_model.specs.declared.event.Event.{Event}
use Rattle.tl_model.specs.declared.event.Act.{Act}
use Rattle.tl_model.specs.declared.event.Act.TheVariants.{Call}
use Rattle.tl_model.specs.Namespace.{PathOf, Node, dir, file, Names, moved, node_at, with_name, with_outputs, with_pin, with_pinned, without_name}
use Rattle.tl_model.specs.Past.{Past, act_with, event_with, without_tickets}
use Rattle.tl_model.specs.Replies.{reply_to, reply_same}
use Rattle.tl_model.specs.History.{calls_of, is_file_node, names, names_after, names_of, records_of, reply_after, with_call}
use Rattle.tl_model.specs.Actors.{is_idle}
use Rattle.tl_model.specs.Rules.{Judge, all_permitted, broken, is_client, is_permitted}
use Rattle.tl_laws.specs.Order.{EachNode, IsBelow}
use Rattle.tl_laws.proofs.Order.{all-ordered}
use Rattle.tl_laws.proofs.Permits.{permitted_of}
use Rattle.tl_laws.proofs.Refusals.{job_made, put_made}
use Rattle.tl_laws.proofs.Tickets.{names-with}
use Rattle.tl_laws.proofs.FreePaths.{HasParents, IsClear, move_names, moved-node}
use Rattle.tl_laws.proofs.Growing.{all-parents, call-grows, renames-clear}
use Rattle.tl_steps.specs.Steps.{UnnamesOnly}
use Rattle.tl_edge.specs.Names.{HasFilesOnce, HasPathsOnce, IsAlone, file_in, has_name}
use Rattle.tl_edge.proofs.Unnamed.{changed-keep, deleted-unnamed, pins-keep}

-- ---- paths

filter-step : (keep : PathOf × Node → Bool) (p : PathOf) (entry : PathOf × Node) (ns : Names) (b c : Bool) → path_same p entry.0 ≡ b →
    cond b (Some entry.1) (node_at ns p) ≡ None → (node_at ns p ≡ None → node_at (filter keep ns) p ≡ None) →
    node_at (cond c (entry ∷ filter keep ns) (filter keep ns)) p ≡ None
filter-step keep p entry ns true c e none rest = absurd (cc)
filter-step keep p entry ns false true e none rest = ap (λ b. cond b (Some entry.1) (node_at (filter keep ns) p)) e ∙ rest none
filter-step keep p entry ns false false e none rest = rest none

-- what names nothing names nothing among fewer names
filter-none : (keep : PathOf × Node → Bool) (p : PathOf) (ns : Names) → node_at ns p ≡ None → node_at (filter keep ns) p ≡ None
filter-none keep p [] none = refl
filter-none keep p (entry ∷ ns) none = filter-step keep p entry ns (path_same p entry.0) (keep entry) refl none (filter-none keep p ns)

paths-kept : (entry : PathOf × Node) (c : Bool) (ns : Names) → node_at ns entry.0 ≡ None → HasPathsOnce ns → HasPathsOnce (cond c (entry ∷ ns) ns)
paths-kept entry true ns none once = (none, once)
paths-kept entry false ns none once = once

paths-filter : (keep : PathOf × Node → Bool) (ns : Names) → HasPathsOnce ns → HasPathsOnce (filter keep ns)
paths-filter keep [] once = tt
paths-filter keep (entry ∷ ns) once = paths-kept entry (keep entry) (filter keep ns) (filter-none keep entry.0 ns once.0) (paths-filter keep ns once.1)

gone-step : (path : PathOf) (entry : PathOf × Node) (ns : Names) (b : Bool) → path_same path entry.0 ≡ b → node_at (without_name ns path) path ≡ None →
    node_at (cond (not b) (entry ∷ without_name ns path) (without_name ns path)) path ≡ None
gone-step path entry ns true e rest = rest
gone-step path entry ns false e rest = ap (λ b. cond b (Some entry.1) (node_at (without_name ns path) path)) e ∙ rest

-- a path that is taken away names nothing
without-gone : (path : PathOf) (ns : Names) → node_at (without_name ns path) path ≡ None
without-gone path [] = refl
without-gone path (entry ∷ ns) = gone-step path entry ns (path_same path entry.0) refl (without-gone path ns)

paths-with : (path : PathOf) (node : Node) (ns : Names) → HasPathsOnce ns → HasPathsOnce (with_name ns path node)
paths-with path node ns once = (without-gone path ns, paths-filter (λ entry. not (path_same path entry.0)) ns once)

paths-outputs : (ns : Names) (made : RecordId) (k : ℕ) (outputs : List PathOf) → HasPathsOnce ns → HasPathsOnce (with_outputs ns made k outputs)
paths-outputs ns made k [] once = once
paths-outputs ns made k (path ∷ outputs) once =
    paths-outputs (with_name ns path (file (record { rec = made; out = k }) false)) made (k + 1) outputs
    (paths-with path (file (record { rec = made; out = k }) false) ns once)

pinned-step : (path p : PathOf) (pinned : Bool) (entry : PathOf × Node) (ns : Names) (b : Bool) → cond b (Some entry.1) (node_at ns p) ≡ None →
    (node_at ns p ≡ None → node_at (with_pinned ns path pinned) p ≡ None) →
    cond b (Some (if path_same path entry.0 then with_pin pinned entry.1 else entry.1)) (node_at (with_pinned ns path pinned) p) ≡ None
pinned-step path p pinned entry ns true none rest = absurd (cc)
pinned-step path p pinned entry ns false none rest = rest none

pinned-none : (path p : PathOf) (pinned : Bool) (ns : Names) → node_at ns p ≡ None → node_at (with_pinned ns path pinned) p ≡ None
pinned-none path p pinned [] none = refl
pinned-none path p pinned (entry ∷ ns) none = pinned-step path p pinned entry ns (path_same p entry.0) none (pinned-none path p pinned ns)

paths-pinned : (path : PathOf) (pinned : Bool) (ns : Names) → HasPathsOnce ns → HasPathsOnce (with_pinned ns path pinned)
paths-pinned path pinned [] once = tt
paths-pinned path pinned (entry ∷ ns) once = (pinned-none path entry.0 pinned ns once.0, paths-pinned path pinned ns once.1)

paths-moved : (from to : PathOf) (ns : Names) → IsClear to ns → HasPathsOnce ns → HasPathsOnce (move_names from to ns)
paths-moved from to [] clear once = tt
paths-moved from to (entry ∷ ns) clear once = (moved-node from to entry.0 ns clear.1 clear.0 ∙ once.0, paths-moved from to ns clear.1 once.1)

-- ---- files

both-false : (a b : Bool) → a ≡ false → b ≡ false → (a || b) ≡ false
both-false true b e h = absurd (cc)
both-false false b e h = h

parts-false : (a b : Bool) → (a || b) ≡ false → (a ≡ false) × (b ≡ false)
parts-false true b h = absurd (cc)
parts-false false b h = (refl, h)

not-older : (f : FileId) (n : ℕ) (node : Node) → IsBelow n node → n ≤ f.rec.0 → is_file_node f node ≡ false
not-older f n dir below le = refl
not-older f n (file g pinned) below le =
    false_from_ne_true (file_same f g) (λ same.
    let number : f.rec.0 ≡ g.rec.0 = ap (λ (h : FileId). h.rec.0) ((file_same-Decides f g).0 same) in
    absurd (omega arith))

-- a file of a new record has no name
new-absent : (f : FileId) (n : ℕ) (ns : Names) → EachNode (IsBelow n) ns → n ≤ f.rec.0 → has_name f ns ≡ false
new-absent f n [] all le = refl
new-absent f n (entry ∷ ns) all le =
    both-false (is_file_node f entry.1) (has_name f ns) (not-older f n entry.1 all.0 le) (new-absent f n ns all.1 le)

absent-step : (f : FileId) (entry : PathOf × Node) (c : Bool) (ns : Names) → is_file_node f entry.1 ≡ false → has_name f ns ≡ false → has_name f (cond c (entry ∷ ns) ns) ≡ false
absent-step f entry true ns here rest = both-false (is_file_node f entry.1) (has_name f ns) here rest
absent-step f entry false ns here rest = rest

absent-filter : (keep : PathOf × Node → Bool) (f : FileId) (ns : Names) → has_name f ns ≡ false → has_name f (filter keep ns) ≡ false
absent-filter keep f [] none = refl
absent-filter keep f (entry ∷ ns) none =
    let parts = parts-false (is_file_node f entry.1) (has_name f ns) none in
    absent-step f entry (keep entry) (filter keep ns) parts.0 (absent-filter keep f ns parts.1)

alone-as : (node : Node) (ns now : Names) → ((f : FileId) → has_name f ns ≡ false → has_name f now ≡ false) → IsAlone node ns → IsAlone node now
alone-as dir ns now same alone = tt
alone-as (file f pinned) ns now same alone = same f alone

files-kept : (entry : PathOf × Node) (c : Bool) (ns : Names) → IsAlone entry.1 ns → HasFilesOnce ns → HasFilesOnce (cond c (entry ∷ ns) ns)
files-kept entry true ns alone once = (alone, once)
files-kept entry false ns alone once = once

files-filter : (keep : PathOf × Node → Bool) (ns : Names) → HasFilesOnce ns → HasFilesOnce (filter keep ns)
files-filter keep [] once = tt
files-filter keep (entry ∷ ns) once =
    files-kept entry (keep entry) (filter keep ns)
    (alone-as entry.1 ns (filter keep ns) (λ f none. absent-filter keep f ns none) once.0) (files-filter keep ns once.1)

files-with : (path : PathOf) (f : FileId) (pinned : Bool) (ns : Names) → has_name f ns ≡ false → HasFilesOnce ns → HasFilesOnce (with_name ns path (file f pinned))
files-with path f pinned ns none once =
    (absent-filter (λ entry. not (path_same path entry.0)) f ns none, files-filter (λ entry. not (path_same path entry.0)) ns once)

later-output : (made : RecordId) (k j : ℕ) → suc k ≤ j → file_same (record { rec = made; out = j }) (record { rec = made; out = k }) ≡ false
later-output made k j more =
    false_from_ne_true (file_same (record { rec = made; out = j }) (record { rec = made; out = k })) (λ same.
    let number : j ≡ k = ap (λ (h : FileId). h.out) ((file_same-Decides (record { rec = made; out = j }) (record { rec = made; out = k })).0 same) in
    absurd (omega arith))

files-outputs : (ns : Names) (made : RecordId) (k : ℕ) (outputs : List PathOf) → ((j : ℕ) → k ≤ j → has_name (record { rec = made; out = j }) ns ≡ false) → HasFilesOnce ns →
    HasFilesOnce (with_outputs ns made k outputs)
files-outputs ns made k [] none once = once
files-outputs ns made k (path ∷ outputs) none once =
    let f : FileId = record { rec = made; out = k } in
    files-outputs (with_name ns path (file f false)) made (k + 1) outputs
    (λ j more.
    both-false (is_file_node (record { rec = made; out = j }) (file f false)) (has_name (record { rec = made; out = j }) (without_name ns path))
    (later-output made k j (omega arith))
    (absent-filter (λ entry. not (path_same path entry.0)) (record { rec = made; out = j }) ns (none j (omega arith))))
    (files-with path f false ns (none k (omega arith)) once)

alone-pinned : (b pinned : Bool) (node : Node) (ns now : Names) → ((f : FileId) → has_name f ns ≡ false → has_name f now ≡ false) → IsAlone node ns →
    IsAlone (if b then with_pin pinned node else node) now
alone-pinned true pinned dir ns now same alone = tt
alone-pinned true pinned (file f was) ns now same alone = same f alone
alone-pinned false pinned node ns now same alone = alone-as node ns now same alone

files-pinned : (path : PathOf) (pinned : Bool) (ns : Names) → HasFilesOnce ns → HasFilesOnce (with_pinned ns path pinned)
files-pinned path pinned [] once = tt
files-pinned path pinned (entry ∷ ns) once = (
  alone-pinned (path_same path entry.0) pinned entry.1 ns (with_pinned ns path pinned) (λ f none. pins-keep f path pinned ns ∙ none) once.0,
  files-pinned path pinned ns once.1,
)

files-moved : (from to : PathOf) (ns : Names) → HasFilesOnce ns → HasFilesOnce (move_names from to ns)
files-moved from to [] once = tt
files-moved from to (entry ∷ ns) once = (
  alone-as entry.1 ns (move_names from to ns) (λ f none. changed-keep f (λ e. (moved from to e.0, e.1)) (λ e. refl) ns ∙ none) once.0,
  files-moved from to ns once.1,
)

-- ---- calls

-- each path stands once, and each file
pub record IsOnce (ns : Names) : Type 0 where
  pub paths : HasPathsOnce ns
  pub files : HasFilesOnce ns

same-number : (made : RecordId) (n j : ℕ) → made ≡ record { 0 = n } → n ≤ made.0
same-number made n j is = let at : made.0 ≡ n = ap (λ (r : RecordId). r.0) is in omega arith

call-once : {T : Type 0} (reply : Reply) (command : Command T) (ns : Names) (count : ℕ) → HasParents ns → EachNode (IsBelow count) ns →
    reply_same (reply_to ns count command) reply ≡ true → IsOnce ns → IsOnce (names_after reply command ns)
call-once (Made made) (Put path len digest ticket) ns count under below same once =
    let le : count ≤ made.0 = same-number made count 0 (put_made ns count path len digest ticket made same) in
    record {
      paths = paths-with path (file (record { rec = made; out = 0 }) false) ns once.paths;
      files = files-with path (record { rec = made; out = 0 }) false ns (new-absent (record { rec = made; out = 0 }) count ns below le) once.files;
    }
call-once {T} (Made made) (Job core prio inputs outputs) ns count under below same once =
    let le : count ≤ made.0 = same-number made count 0 (job_made T ns count core prio inputs outputs made same) in
    record {
      paths = paths-outputs ns made 0 outputs once.paths;
      files = files-outputs ns made 0 outputs (λ j more. new-absent (record { rec = made; out = j }) count ns below le) once.files;
    }
call-once Fine (Delete path) ns count under below same once = record {
  paths = paths-filter (λ entry. not (path_same path entry.0)) ns once.paths;
  files = files-filter (λ entry. not (path_same path entry.0)) ns once.files;
}
call-once Fine (Mkdir path) ns count under below same once = record {
  paths = paths-with path dir ns once.paths;
  files = (tt, files-filter (λ entry. not (path_same path entry.0)) ns once.files);
}
call-once {T} Fine (Rename from to) ns count under below same once =
    subst IsOnce (sym (call-grows {T = T} Fine (Rename from to) ns count under same).0)
    (record {
      paths = paths-moved from to ns (renames-clear ns from to under same) once.paths;
      files = files-moved from to ns once.files;
    })
call-once Fine (Pin path) ns count under below same once =
    record { paths = paths-pinned path true ns once.paths; files = files-pinned path true ns once.files }
call-once Fine (Unpin path) ns count under below same once =
    record { paths = paths-pinned path false ns once.paths; files = files-pinned path false ns once.files }
call-once reply command ns count under below same once = once

-- ---- journals

act-once : {T : Type 0} (judge : Judge T) (header : Header) (events : List (Event T)) (past : Past) (actor : Actor) (act : Act T) → HasParents (names_of (calls_of events)) →
    EachNode (IsBelow (length (records_of (calls_of events)))) (names_of (calls_of events)) → is_permitted judge header events past actor act ≡ true →
    IsOnce (names_of (calls_of events)) → IsOnce (names_of (with_call actor act (calls_of events)))
act-once judge header events past actor (Call command reply) under below ok once =
    call-once reply command (names_of (calls_of events)) (length (records_of (calls_of events))) under below
    (and_parts (is_client actor && is_idle past actor && judge.put_fits command) (reply_same (reply_after (calls_of events) command) reply) ok).1 once
act-once judge header events past actor act under below ok once = once

once-of : {T : Type 0} (judge : Judge T) (header : Header) (events : List (Event T)) → all_permitted judge header events ≡ true → IsOnce (names_of (calls_of events))
once-of judge header [] ok = record { paths = (refl, tt); files = (tt, tt) }
once-of judge header (e ∷ events) ok =
    let parts = and_parts (is_none (broken judge header events e)) (all_permitted judge header events) ok in
    act-once judge header events (without_tickets events) e.actor e.act
    (subst HasParents (names-with (λ _. tt) events) (all-parents judge header events parts.1)) (all-ordered judge header events parts.1).named
    (permitted_of judge header events e parts.0).1 (once-of judge header events parts.1)

-- in a journal whose events are permitted each path and each file stands once
pub all-once : {T : Type 0} (judge : Judge T) (header : Header) (events : List (Event T)) → all_permitted judge header events ≡ true → IsOnce (names (without_tickets events))
all-once judge header events ok = subst IsOnce (sym (names-with (λ _. tt) events)) (once-of judge header events ok)

-- and a delete leaves the file at its path without a name
pub last-unnames-one : {T : Type 0} (judge : Judge T) (header : Header) (e : Event T) (events : List (Event T)) → all_permitted judge header (e ∷ events) ≡ true →
    (path : PathOf) → e.act ≡ Call (Delete path) Fine →
    UnnamesOnly (without_tickets events) (event_with {U = Unit {0}} (λ _. tt) e) (file_in (node_at (names (without_tickets events)) path))
last-unnames-one judge header e events ok path is =
    let past : Past = without_tickets events in
    let once = all-once judge header events (and_parts (is_none (broken judge header events e)) (all_permitted judge header events) ok).1 in
    subst (λ act. UnnamesOnly past (record { actor = e.actor; act = act_with {U = Unit {0}} (λ _. tt) act }) (file_in (node_at (names past) path))) (sym is)
    (deleted-unnamed past e.actor path once.paths once.files)
