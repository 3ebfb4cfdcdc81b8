-- What one event changes in what is kept of a file.
use Rattle.std.proofs.Common.{◌≡◌, ◌∙◌, arith, ℕ, zero, suc, ◌+◌, ◌<◌, ◌≤◌, ◌^◌, Bool, true, false, ◌&&◌, ◌||◌, not, if◌then◌else◌, List, [], ◌∷◌, ◌++◌, length, map, slice_get, Option, Some, None, refl, sym, ap, append-nil}
use Rattle.std.specs.List.{AllByRecursion, list_any}
use Rattle.std.proofs.lemmas.List.Folds.{list_any-append}
use Rattle.tl_types.specs.declared.actor.Actor.{Actor}
use Rattle.tl_types.specs.declared.file_id.FileId.{FileId}
use Rattle.tl_types.specs.declared.record_id.RecordId.{RecordId}
use Rattle.tl_model.specs.declared.event.Act.{Act}
use Rattle.tl_model.specs.declared.event.Act.TheVariants.{Call, Claim}
use Rattle.tl_model.specs.declared.command.Command.{Command}
use Rattle.tl_model.specs.declared.command.Command.TheVariants as command
use Rattle.tl_model.specs.declared.reply.Reply.{Reply}
use Rattle.tl_model.specs.declared.reply.Reply.TheVariants.{Made}
use Rattle.tl_model.specs.declared.record.Record.{Record}
use Rattle.tl_model.specs.Past.{Past, Plain}
use Rattle.tl_model.specs.History.{files_at, has_input, id_of, inputs_of, is_named, names, output_count, outputs_of, record_made, records}
use Rattle.tl_model.specs.Actors.{actors}
use Rattle.tl_model.specs.Residency.{claim_reads, does, is_saved, is_use, place, reads, saved_as, was_done}
use Rattle.tl_model.specs.Checkpoints.{is_leaf, last_done}
use Rattle.tl_laws.specs.Numbers.{Numbered}
use Rattle.tl_laws.proofs.Numbering.{get-within}
use Rattle.tl_laws.specs.Made.{IsOutputOf}
use Rattle.tl_laws.specs.Order.{HasOlderInputs}
use Rattle.tl_laws.proofs.Order.{among-holds}
use Rattle.tl_steps.specs.Steps.{UnnamesOnly, accepts, added, next_of}
use Rattle.tl_steps.specs.Within.{IsWithin}
use Rattle.tl_steps.proofs.Lists.{map_after, map_same}
use Rattle.tl_steps.proofs.Named.{NoNewNames, named-same}
use Rattle.tl_steps.proofs.Files.{after, each-file, is-output, new-number, not-true, not-yet, nowhere, place-same, saved-same}
use Rattle.tl_edge.specs.declared.kept.Kept.{Kept}
use Rattle.tl_edge.specs.declared.output.Output.{Output}
use Rattle.tl_edge.specs.Data.{files_after, is_in, new_output, next_number, save_next, taken_up}
use Rattle.tl_edge.specs.Standing.{files_in, kept_of, output_of, outputs_in, save_of}
use Rattle.tl_edge.proofs.Rows.{starts}
use Rattle.tl_edge.proofs.Acting.{after-in-rows, has_input_at, is_taken_up, is_use_now, output_after, taken_with}

-- there is a place for each record that is added
abbrev pub RoomFor : Option Kept → List Record → Type 0
RoomFor next [] = Unit {0}
RoomFor next (r ∷ rs) = next ≡ Some (kept_of r)

-- ---- saves

pub saves-after : (e : Plain) (past : Past) → map (save_next e) (map (save_of past) actors) ≡ map (save_of (e ∷ past)) actors
saves-after e past = map_after (save_of past) (save_next e) actors

-- ---- leaves

not-taken : (next : Option Kept) (act : Act (Unit {0})) (f : FileId) → accepts act ≡ false → is_taken_up next act f ≡ false
not-taken next act f none = ap (λ b. taken_with b next f) none ∙ never-taken next f
  where
    never-taken : (next : Option Kept) (f : FileId) → taken_with false next f ≡ false
    never-taken None f = refl
    never-taken (Some kept) f = refl

or-false : (b : Bool) → b ≡ (b || false)
or-false true = refl
or-false false = refl

taken-called : (next : Option Kept) (reply : Reply) (c : Command (Unit {0})) (past : Past) (f : FileId) → RoomFor next (record_made reply c (names past)) →
    is_taken_up next (Call c reply) f ≡ list_any (has_input f) (record_made reply c (names past))
taken-called next (Made made) (command.Put path len digest ticket) past f room =
    ap (λ o. is_taken_up o (Call (command.Put path len digest ticket) (Made made)) f) room
taken-called next (Made made) (command.Job core prio inputs outputs) past f room =
    ap (λ o. is_taken_up o (Call (command.Job core prio inputs outputs) (Made made)) f) room
    ∙ or-false (is_in f (files_at (names past) inputs))
taken-called next reply c past f room = not-taken next (Call c reply) f refl

taken-same : (next : Option Kept) (act : Act (Unit {0})) (past : Past) (f : FileId) → RoomFor next (added past act) →
    is_taken_up next act f ≡ list_any (has_input f) (added past act)
taken-same next (Call c reply) past f room = taken-called next reply c past f room
taken-same next act past f room = not-taken next act f refl

pub records-after : (actor : Actor) (act : Act (Unit {0})) (past : Past) → records (after actor act past) ≡ records past ++ added past act
records-after actor (Call c reply) past = refl
records-after actor act past = sym (append-nil (records past))

not-or : (a b : Bool) → (not a && not b) ≡ not (a || b)
not-or true b = refl
not-or false b = refl

leaf-same : (next : Option Kept) (actor : Actor) (act : Act (Unit {0})) (past : Past) (f : FileId) → RoomFor next (added past act) →
    (is_leaf past f && not (is_taken_up next act f)) ≡ is_leaf (after actor act past) f
leaf-same next actor act past f room =
    ap (λ b. is_leaf past f && not b) (taken-same next act past f room)
    ∙ not-or (list_any (has_input f) (records past)) (list_any (has_input f) (added past act))
    ∙ ap not (sym (list_any-append (has_input f) (records past) (added past act)) ∙ ap (list_any (has_input f)) (sym (records-after actor act past)))

-- ---- reads

claimed-same : (past : Past) (f : FileId) (rs : List Record) (n : ℕ) → has_input_at (slice_get (map inputs_of rs) n) f ≡ claim_reads past f (slice_get rs n)
claimed-same past f [] zero = refl
claimed-same past f [] (suc n) = refl
claimed-same past f (r ∷ rs) zero = refl
claimed-same past f (r ∷ rs) (suc n) = claimed-same past f rs n

use-same : (past : Past) (act : Act (Unit {0})) (f : FileId) → is_use_now (map inputs_of (records past)) act f ≡ is_use past act f
use-same past (Claim worker made) f = claimed-same past f (records past) made.0
use-same past _ f = refl

more-reads : (b : Bool) (n m : ℕ) → n ≤ m → (if b then n + 1 else n) ≤ suc m
more-reads true n m le = omega arith
more-reads false n m le = omega arith

reads-bound : (past : Past) (f : FileId) → reads past f ≤ length past
reads-bound [] f = omega arith
reads-bound (e ∷ past) f = more-reads (is_use past e.act f) (reads past f) (length past) (reads-bound past f)

pub next-is : (n m : ℕ) → n ≤ m → suc m < 2 ^ 64 → next_number n ≡ n + 1
next-is n m le few = omega arith

reads-same : (actor : Actor) (act : Act (Unit {0})) (past : Past) (f : FileId) → suc (length past) < 2 ^ 64 →
    (if is_use_now (map inputs_of (records past)) act f then next_number (reads past f) else reads past f) ≡ reads (after actor act past) f
reads-same actor act past f few =
    λ i. if use-same past act f i then next-is (reads past f) (length past) (reads-bound past f) few i else reads past f

-- ---- a file

pub output-same : (next : Option Kept) (lost : Option FileId) (actor : Actor) (act : Act (Unit {0})) (past : Past) (f : FileId) → IsOutputOf (records past) f →
    RoomFor next (added past act) → UnnamesOnly past (record { actor = actor; act = act }) lost → NoNewNames past (after actor act past) → suc (length past) < 2 ^ 64 →
    output_after (map inputs_of (records past)) next (length past) lost act f (output_of past f) ≡ output_of (after actor act past) f
output-same next lost actor act past f is room only older few =
    λ i. record {
      file = f;
      place = place-same past act f (place past f) is i;
      is_named = named-same past (record { actor = actor; act = act }) lost f only older is i;
      is_saved = saved-same act f (saved_as past f) i;
      is_leaf = leaf-same next actor act past f room i;
      reads = reads-same actor act past f few i;
      last_done = last_done (after actor act past) f.rec;
    }

-- the files of all records
pub files-same : (next : Option Kept) (lost : Option FileId) (actor : Actor) (act : Act (Unit {0})) (past : Past) → Numbered (records past) →
    RoomFor next (added past act) → UnnamesOnly past (record { actor = actor; act = act }) lost → NoNewNames past (after actor act past) → suc (length past) < 2 ^ 64 →
    taken_up (next_of act next) (files_after (map inputs_of (records past)) (length past) lost act (files_in past (records past))) ≡ files_in (after actor act past) (records past)
files-same next lost actor act past numbered room only older few =
    let step : FileId → Output = λ f. output_after (map inputs_of (records past)) next (length past) lost act f (output_of past f) in
    after-in-rows (map inputs_of (records past)) next (length past) lost act (output_of past) (records past) (starts (records past) numbered)
    ∙ map_same (λ r. map step (outputs_of r)) (outputs_in (after actor act past)) (records past)
    (λ at r got.
    each-file step (output_of (after actor act past)) (id_of r) 0 (output_count r) (output_count r) (omega arith)
    (λ j less. output-same next lost actor act past (record { rec = id_of r; out = j }) (is-output (records past) r at j numbered got less) room only older few))

-- ---- a record that a call adds

both-false : (a b : Bool) → a ≡ false → b ≡ false → (a || b) ≡ false
both-false true b e h = absurd (cc)
both-false false b e h = h

-- no record has a file of its own number or a later one as input
none-reads : (f : FileId) (rs : List Record) → ((i : ℕ) (r : Record) → slice_get rs i ≡ Some r → (id_of r).0 ≤ f.rec.0) → AllByRecursion HasOlderInputs rs →
    list_any (has_input f) rs ≡ false
none-reads f [] few all = refl
none-reads f (r ∷ rs) few all =
    both-false (has_input f r) (list_any (has_input f) rs)
    (not-true (has_input f r) (λ is.
    let less : f.rec.0 < (id_of r).0 = among-holds (λ g. g.rec.0 < (id_of r).0) f (inputs_of r) all.0 is in
    let le : (id_of r).0 ≤ f.rec.0 = few 0 r refl in
    absurd (omega arith)))
    (none-reads f rs (λ i x at. few (suc i) x at) all.1)

number-within : (past now : Past) (r x : Record) (i : ℕ) → records now ≡ records past ++ r ∷ [] → Numbered (records now) → slice_get (records now) i ≡ Some x →
    (id_of x).0 ≤ length (records past)
number-within past now r x i is numbered at =
    let own : (id_of x).0 ≡ i = ap (λ (id : RecordId). id.0) (numbered i x at) in
    let less : i < length (records past ++ r ∷ []) = get-within (records past ++ r ∷ []) i x (ap (λ rs. slice_get rs i) (sym is) ∙ at) in
    let long : length (records past ++ r ∷ []) ≡ length (records past) + 1 = length-more (records past) r in
    omega arith
  where
    length-more : (rs : List Record) (x : Record) → length (rs ++ x ∷ []) ≡ length rs + 1
    length-more [] x = refl
    length-more (y ∷ rs) x = let rest : length (rs ++ x ∷ []) ≡ length rs + 1 = length-more rs x in omega arith

last-of : (b rest : Bool) (n k : ℕ) → (b || rest) ≡ false → (rest ≡ false → k ≡ 0) → (if b then n else k) ≡ 0
last-of true rest n k never later = absurd (cc)
last-of false rest n k never later = later never

never-done : (past : Past) (made : RecordId) → was_done past made ≡ false → last_done past made ≡ 0
never-done [] made never = refl
never-done (e ∷ past) made never =
    last-of (does made e.act) (was_done past made) (length past) (last_done past made) never (never-done past made)

pub outputs-new : (actor : Actor) (c : Command (Unit {0})) (reply : Reply) (past : Past) (r : Record) → IsWithin past →
    records (after actor (Call c reply) past) ≡ records past ++ r ∷ [] → Numbered (records (after actor (Call c reply) past)) →
    AllByRecursion HasOlderInputs (records (after actor (Call c reply) past)) →
    ((j : ℕ) → j < output_count r → is_named (after actor (Call c reply) past) (record { rec = id_of r; out = j }) ≡ true) →
    (kept_of r).outputs ≡ outputs_in (after actor (Call c reply) past) r
outputs-new actor c reply past r within is numbered older named =
    let now = after actor (Call c reply) past in
    let number : (id_of r).0 ≡ length (records past) = new-number past now r is numbered in
    let undone : was_done past (id_of r) ≡ false = not-true (was_done past (id_of r)) (λ e. let less : (id_of r).0 < length (records past) = within.done (id_of r) e in absurd (omega arith)) in
    each-file new_output (output_of now) (id_of r) 0 (output_count r) (output_count r) (omega arith)
    (λ j less.
    let f : FileId = record { rec = id_of r; out = j } in
    let unread : list_any (has_input f) (records now) ≡ false = none-reads f (records now)
    (λ i x at. let le : (id_of x).0 ≤ length (records past) = number-within past now r x i is numbered at in omega arith) older in
    λ i. record {
      file = f;
      place = sym (nowhere (place past f) (λ e. not-yet past (id_of r) j number (within.placed f e))) i;
      is_named = sym (named j less) i;
      is_saved = sym (not-true (is_saved past f) (λ e. not-yet past (id_of r) j number (within.saved f e))) i;
      is_leaf = sym (ap not unread) i;
      reads = sym (within.unread f (not-yet past (id_of r) j number)) i;
      last_done = sym (never-done past (id_of r) undone) i;
    })
