-- What the walk from the last record to the first finds is as the past says.
use Rattle.std.proofs.Common.{◌≡◌, ◌∙◌, arith, ℕ, suc, max, Bool, true, false, ◌&&◌, not, if◌then◌else◌, List, [], ◌∷◌, filter, length, map, slice_get, Option, Some, None, is_some, option_map, refl, sym, ap}
use Rattle.std.specs.List.{list_any}
use Rattle.tl_types.specs.Same.{file_same, record_same}
use Rattle.tl_types.specs.declared.actor.Actor.{Actor}
use Rattle.tl_types.specs.declared.record_id.RecordId.{RecordId}
use Rattle.tl_model.specs.declared.header.OrderRule.{OrderRule}
use Rattle.tl_model.specs.declared.record.Record.{Record}
use Rattle.tl_model.specs.Past.{Past}
use Rattle.tl_model.specs.Tables.{Table, answer_at, better, downward, first_by}
use Rattle.tl_model.specs.History.{id_of, inputs_of, outputs_of, records}
use Rattle.tl_model.specs.Actors.{OpenRead, actors, is_running, open_read}
use Rattle.tl_model.specs.Plan.{can_run, greatest, has_turn_before, has_id, is_ready, is_task, next, prio, prio_among, prio_of_own, prio_of_read, prio_of_reads, prio_of_waiting, ready}
use Rattle.tl_laws.specs.Numbers.{Numbered}
use Rattle.tl_laws.proofs.Next.{goes_before, next-first}
use Rattle.tl_laws.proofs.Ready.{answer-at-place}
use Rattle.tl_steps.specs.declared.seat.Seat.{Seat}
use Rattle.tl_steps.specs.Steps.{seat_of}
use Rattle.tl_steps.proofs.Lists.{any_map, get_map, map_after}
use Rattle.tl_steps.proofs.Seats.{running-same, seats_of}
use Rattle.tl_prio.specs.declared.choice.Choice.{Choice}
use Rattle.tl_prio.specs.declared.kept.Kept.{Kept}
use Rattle.tl_prio.specs.declared.output.Output.{Output}
use Rattle.tl_prio.specs.Data.{OrderData, all_raised, better_choice, choice_from, choice_in, greatest_read, none_waiting, number_or_none, prio_before, prio_from, prio_with, read_prio, waiting_after, waiting_at, waiting_from}
use Rattle.tl_prio.specs.Standing.{StandsFor, kept_in, output_in}
use Rattle.tl_prio.proofs.Places.{StartsAt, any-at, from_place, place-of, starts}
use Rattle.tl_prio.proofs.Raising.{all-raised, hits, missing-same, none-raised}

-- ---- a record's priority

abbrev outputs_in : Past → Record → List Output
outputs_in past r = map (output_in past) (outputs_of r)

read-prio-same : (past : Past) (r : Record) (o : Option OpenRead) → read_prio (outputs_in past r) o ≡ prio_of_read r o
read-prio-same past r None = refl
read-prio-same past r (Some read) =
    ap (λ b. if b then read.prio else 0) (any_map (λ (output : Output). file_same read.file output.file) (output_in past) (outputs_of r))

reads-same : (past : Past) (r : Record) → greatest_read (outputs_in past r) (seats_of past) ≡ prio_of_reads past r
reads-same past r =
    ap greatest
    (map_after (seat_of past) (λ (seat : Seat). read_prio (outputs_in past r) seat.read) actors
    ∙ ap (λ (h : Actor → ℕ). map h actors) (λ i actor. read-prio-same past r (open_read past actor) i))

prio-same : (past : Past) (table : Table Record ℕ) (r : Record) (n : ℕ) → n ≡ prio_of_waiting past table r →
    prio_with (seats_of past) (kept_in past r) n ≡ prio_among past table r
prio-same past table r n is = λ i. max (prio_of_own past r) (max (reads-same past r i) (is i))

-- ---- who waits

wait-if : (p : ℕ) (g : Record → ℕ) (h : Record → Bool) (all : List Record) (a b : Bool) →
    (if a && b then map (λ x. max (if h x then p else 0) (g x)) all else map g all) ≡ map (λ x. max (if a && (b && h x) then p else 0) (g x)) all
wait-if p g h all true true = refl
wait-if p g h all true false = none-raised g all
wait-if p g h all false b = none-raised g all

abbrev missed : Past → Record → Record → Bool
missed past r x = list_any (hits past x) (inputs_of r)

after-same : (past : Past) (table : Table Record ℕ) (r : Record) (p : ℕ) (all : List Record) → StartsAt 0 all →
    waiting_after (is_task past) (seats_of past) (map (kept_in past) all) (kept_in past r) p (map (prio_of_waiting past table) all)
    ≡ map (prio_of_waiting past ((r, p) ∷ table)) all
after-same past table r p all from =
    let g : Record → ℕ = prio_of_waiting past table in
    let task = is_task past (id_of r) in
    let rest = not (is_running past (id_of r)) in
    ap (λ c. if task && not c then all_raised p (map (kept_in past) all) (inputs_of r) (map g all) else map g all) (running-same past (id_of r))
    ∙ ap (λ ns. if task && rest then ns else map g all) (all-raised past p (inputs_of r) g all from)
    ∙ wait-if p g (missed past r) all task rest
    ∙ ap (λ (h : Record → ℕ). map h all) (λ i x. max (if task && (rest && missing-same past r x i) then p else 0) (g x))

-- what waits, once the priorities of the records from a place on are known
abbrev waited : Past → List Record → List ℕ
waited past rs = map (prio_of_waiting past (downward (prio_among past) rs)) (records past)

abbrev kept_all : Past → List Kept
kept_all past = map (kept_in past) (records past)

abbrev walked : Past → List Record → List ℕ
walked past rs = waiting_from (is_task past) (seats_of past) (kept_all past) (none_waiting (records past)) (map (kept_in past) rs)

abbrev prio_in : Past → Record → List Record → ℕ
prio_in past r later = prio_before (is_task past) (seats_of past) (kept_all past) (none_waiting (records past)) (kept_in past r) (map (kept_in past) later)

prio-walked : (past : Past) (k : ℕ) (r : Record) (later : List Record) → Numbered (records past) → slice_get (records past) k ≡ Some r →
    walked past later ≡ waited past later → prio_in past r later ≡ prio_among past (downward (prio_among past) later) r
prio-walked past k r later numbered at same =
    let table = downward (prio_among past) later in
    let place : slice_get (records past) (id_of r).0 ≡ Some r = ap (λ (id : RecordId). slice_get (records past) id.0) (numbered k r at) ∙ at in
    prio-same past table r (waiting_at (id_of r) (walked past later))
    (ap (waiting_at (id_of r)) same ∙ ap number_or_none (get_map (prio_of_waiting past table) (records past) (id_of r).0 r place))

walk-same : (past : Past) (k : ℕ) (rs : List Record) → Numbered (records past) → from_place (records past) k ≡ rs → walked past rs ≡ waited past rs
walk-same past k [] numbered at = refl
walk-same past k (r ∷ later) numbered at =
    let place = place-of k (records past) r later at in
    let same = walk-same past (suc k) later numbered place.1 in
    let answer = prio-walked past k r later numbered place.0 same in
    let table = downward (prio_among past) later in
    (λ i. waiting_after (is_task past) (seats_of past) (kept_all past) (kept_in past r) (answer i) (same i))
    ∙ after-same past table r (prio_among past table r) (records past) (starts (records past) numbered)

answer-same : (past : Past) (k : ℕ) (r : Record) (later : List Record) → Numbered (records past) → from_place (records past) k ≡ r ∷ later →
    prio_in past r later ≡ prio_among past (downward (prio_among past) later) r
answer-same past k r later numbered at =
    let place = place-of k (records past) r later at in
    prio-walked past k r later numbered place.0 (walk-same past (suc k) later numbered place.1)

-- ---- the priority of a number

prio-from-same : (past : Past) (made : RecordId) (k : ℕ) (rs : List Record) → Numbered (records past) → from_place (records past) k ≡ rs →
    prio_from (is_task past) (seats_of past) (kept_all past) (none_waiting (records past)) made (map (kept_in past) rs)
    ≡ answer_at (has_id made) 0 (downward (prio_among past) rs)
prio-from-same past made k [] numbered at = refl
prio-from-same past made k (r ∷ later) numbered at =
    let place = place-of k (records past) r later at in
    λ i. if record_same made (id_of r) then answer-same past k r later numbered at i else prio-from-same past made (suc k) later numbered place.1 i

-- ---- the choice

abbrev choice_of : Past → Record → Choice
choice_of past r = record { made = id_of r; prio = prio past (id_of r) }

choice-if : (past : Past) (r s : Record) (b : Bool) →
    (if b then choice_of past s else choice_of past r) ≡ choice_of past (if b then s else r)
choice-if past r s true = refl
choice-if past r s false = refl

better-same : (rule : OrderRule) (past : Past) (r : Record) (o : Option Record) →
    better_choice (has_turn_before rule past) (id_of r) (prio past (id_of r)) (option_map (choice_of past) o) ≡ choice_of past (better (goes_before rule past) r o)
better-same rule past r None = refl
better-same rule past r (Some s) = choice-if past r s (goes_before rule past s r)

first-if : (rule : OrderRule) (past : Past) (r : Record) (rs : List Record) (b : Bool) →
    (if b then Some (better_choice (has_turn_before rule past) (id_of r) (prio past (id_of r)) (option_map (choice_of past) (first_by (goes_before rule past) rs)))
    else option_map (choice_of past) (first_by (goes_before rule past) rs))
    ≡ option_map (choice_of past) (first_by (goes_before rule past) (if b then r ∷ rs else rs))
first-if rule past r rs true = ap Some (better-same rule past r (first_by (goes_before rule past) rs))
first-if rule past r rs false = refl

prio-at : (past : Past) (k : ℕ) (r : Record) (later : List Record) → Numbered (records past) → from_place (records past) k ≡ r ∷ later → prio_in past r later ≡ prio past (id_of r)
prio-at past k r later numbered at =
    let place = place-of k (records past) r later at in
    answer-same past k r later numbered at
    ∙ ap (λ rs. prio_among past (downward (prio_among past) rs) r) (sym place.1)
    ∙ sym (answer-at-place 0 (prio_among past) (records past) k r numbered place.0)

ready-at : (past : Past) (k : ℕ) (r : Record) → Numbered (records past) → slice_get (records past) k ≡ Some r → is_ready past (id_of r) ≡ can_run past r
ready-at past k r numbered at =
    let number : (id_of r).0 ≡ k = ap (λ (id : RecordId). id.0) (numbered k r at) in
    any-at (can_run past) (id_of r) 0 (records past) k r (starts (records past) numbered) (omega arith) at

choice-same : (rule : OrderRule) (past : Past) (k : ℕ) (rs : List Record) → Numbered (records past) → from_place (records past) k ≡ rs →
    choice_from (has_turn_before rule past) (is_task past) (is_ready past) (seats_of past) (kept_all past) (none_waiting (records past)) (map (kept_in past) rs)
    ≡ option_map (choice_of past) (first_by (goes_before rule past) (filter (can_run past) rs))
choice-same rule past k [] numbered at = refl
choice-same rule past k (r ∷ later) numbered at =
    let place = place-of k (records past) r later at in
    let rest = choice-same rule past (suc k) later numbered place.1 in
    (λ i. if ready-at past k r numbered place.0 i then Some (better_choice (has_turn_before rule past) (id_of r) (prio-at past k r later numbered at i) (rest i)) else rest i)
    ∙ first-if rule past r (filter (can_run past) later) (can_run past r)

-- ---- of what is kept

-- one number a record, whatever it was
none-same : {A B : Type 0} (xs : List A) (f : B → A) (ys : List B) → xs ≡ map f ys → none_waiting xs ≡ none_waiting ys
none-same xs f ys is = ap none_waiting is ∙ map_after f (λ x. 0) ys

made-of : (past : Past) (o : Option Record) → option_map (λ (choice : Choice). choice.made) (option_map (choice_of past) o) ≡ option_map id_of o
made-of past None = refl
made-of past (Some r) = refl

pub next-found : (order : OrderData) (past : Past) → StandsFor order past →
    option_map (λ (choice : Choice). choice.made)
    (choice_in order.turns.rule past order.seats order.records (none_waiting order.records))
    ≡ next order.turns.rule past
next-found order past stands =
    let rule = order.turns.rule in
    ap (option_map (λ (choice : Choice). choice.made))
    ((λ i. choice_in rule past (stands.seats i) (stands.records i) (none-same order.records (kept_in past) (records past) stands.records i))
    ∙ choice-same rule past 0 (records past) stands.within.numbered refl)
    ∙ made-of past (first_by (goes_before rule past) (ready past))
    ∙ sym (next-first rule past)

pub prio-found : (order : OrderData) (past : Past) (made : RecordId) → StandsFor order past →
    prio_from (is_task past) order.seats order.records (none_waiting order.records) made order.records ≡ prio past made
prio-found order past made stands =
    (λ i. prio_from (is_task past) (stands.seats i) (stands.records i) (none-same order.records (kept_in past) (records past) stands.records i) made (stands.records i))
    ∙ prio-from-same past made 0 (records past) stands.within.numbered refl

-- as many numbers as records
pub none-as : {A : Type 0} (xs : List A) (ns : List ℕ) → length xs ≡ length ns → none_waiting ns ≡ none_waiting xs
none-as [] [] same = refl
none-as [] (n ∷ ns) same = absurd (omega arith)
none-as (x ∷ xs) [] same = absurd (omega arith)
none-as (x ∷ xs) (n ∷ ns) same = ap (λ ms. 0 ∷ ms) (none-as xs ns (omega arith))

none-first : (before : Record → Record → Bool) (rs : List Record) →
    (is_some (option_map id_of (first_by before rs)) ≡ false → rs ≡ []) × (rs ≡ [] → is_some (option_map id_of (first_by before rs)) ≡ false)
none-first before [] = (λ h. refl, λ e. refl)
none-first before (r ∷ rs) = (λ h. absurd (cc), λ e. absurd (cc))

pub none-ready : (rule : OrderRule) (past : Past) (found : Option RecordId) → found ≡ next rule past →
    (is_some found ≡ false → ready past ≡ []) × (ready past ≡ [] → is_some found ≡ false)
none-ready rule past found is =
    let both = none-first (goes_before rule past) (ready past) in
    let first = is ∙ next-first rule past in
    (λ h. both.0 (ap is_some (sym first) ∙ h), λ e. ap is_some first ∙ both.1 e)
