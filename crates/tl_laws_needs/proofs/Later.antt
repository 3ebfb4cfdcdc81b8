-- What isn't needed is never needed again, and what is needed is kept.
use Rattle.std.proofs.Common.{◌≡◌, ℕ, suc, inl, inr, Bool, true, false, not, if◌then◌else◌, List, [], ◌∷◌, ◌++◌, slice_get, Option, Some, None, is_some, refl, sym, ap, ◌∙◌}
use Rattle.std.proofs.lemmas.Bool.{and_parts, and_from, or_cases, or_left, not-true, false_from_ne_true, both_ways}
use Rattle.tl_types.specs.Same.{record_same-Decides}
use Rattle.tl_types.specs.declared.actor.Actor.{Actor}
use Rattle.tl_types.specs.declared.record_id.RecordId.{RecordId}
use Rattle.tl_model.specs.declared.record.Record.{Record}
use Rattle.tl_model.specs.declared.header.Header.{Header}
use Rattle.tl_model.specs.declared.event.Act.{Act}
use Rattle.tl_model.specs.declared.event.Act.TheVariants.{Collect}
use Rattle.tl_model.specs.declared.event.Event.{Event}
use Rattle.tl_model.specs.Past.{Past, act_with, without_tickets}
use Rattle.tl_model.specs.Tables.{Table, downward, answer_at}
use Rattle.tl_model.specs.History.{records, record_at, id_of}
use Rattle.tl_model.specs.Residency.{collects, is_collected, is_kept}
use Rattle.tl_model.specs.Actors.{is_running}
use Rattle.tl_model.specs.Plan.{has_id, is_task, next}
use Rattle.tl_model.specs.Needs.{needed_among, is_needed}
use Rattle.tl_model.specs.Rules.{Judge, is_permitted, all_permitted}
use Rattle.tl_laws.specs.Numbers.{Numbered}
use Rattle.tl_laws_needs.proofs.Sound.{permitted-before, permitted-last, past-numbered}
use Rattle.tl_laws_needs.proofs.Next.{IsNext, event-next}
use Rattle.tl_laws.proofs.Next.{next-is}
use Rattle.tl_laws_needs.proofs.Unneeded.{at-ahead, live-is-needed, needed-was}

-- an accepted record that isn't needed
abbrev pub IsUnneeded : Past → RecordId → Type 0
IsUnneeded past made = (is_some (record_at past made) ≡ true) × (is_needed past made ≡ false)

some-record : (o : Option Record) → is_some o ≡ true → (r : Record) × (o ≡ Some r)
some-record None h = absurd (cc)
some-record (Some r) h = (r, refl)

-- an unneeded record stays so after one event
unneeded-next : (past ahead : Past) → IsNext past ahead → Numbered (records past) → Numbered (records ahead) → (made : RecordId) → IsUnneeded past made → IsUnneeded ahead made
unneeded-next past ahead next n m made h =
    let r = some-record (record_at past made) h.0 in
    let number : made ≡ id_of r.0 = sym (n made.0 r.0 r.1) in (
      ap is_some (at-ahead past ahead next made.0 r.0 r.1),
      false_from_ne_true (is_needed ahead made)
          (λ k. both_ways (is_needed past made) h.1
          (ap (is_needed past) number ∙ needed-was past ahead next n m made.0 r.0 r.1 (ap (is_needed ahead) (sym number) ∙ k))),
    )

-- one more event that no rule refuses makes no unneeded record needed
pub stays-unneeded : {T : Type 0} (judge : Judge T) (header : Header) (e : Event T) (events : List (Event T)) → all_permitted judge header (e ∷ events) ≡ true →
    (made : RecordId) → IsUnneeded (without_tickets events) made → IsUnneeded (without_tickets (e ∷ events)) made
stays-unneeded judge header e events ok made h =
    unneeded-next (without_tickets events) (without_tickets (e ∷ events))
    (event-next judge header e events ok)
    (past-numbered judge header events (permitted-before judge header e events ok)) (past-numbered judge header (e ∷ events) ok) made h

-- and no later events do
pub never-needed : {T : Type 0} (judge : Judge T) (header : Header) (later events : List (Event T)) → all_permitted judge header (later ++ events) ≡ true →
    (made : RecordId) → IsUnneeded (without_tickets events) made → IsUnneeded (without_tickets (later ++ events)) made
never-needed judge header [] events ok made h = h
never-needed judge header (e ∷ later) events ok made h =
    stays-unneeded judge header e (later ++ events) ok made
    (never-needed judge header later events (permitted-before judge header e (later ++ events) ok) made h)

-- ---- what is needed is kept

collected-by : {T : Type 0} (judge : Judge T) (header : Header) (events : List (Event T)) (actor : Actor) (act : Act T) (made : RecordId) →
    is_permitted judge header events (without_tickets events) actor act ≡ true → collects made (act_with {U = Unit {0}} (λ _. tt) act) ≡ true →
    IsUnneeded (without_tickets events) made
collected-by judge header events actor (Collect other) made ok is =
    let past : Past = without_tickets events in
    let same : other ≡ made = sym ((record_same-Decides made other).0 is) in
    let parts = and_parts (is_kept past other) (not (is_needed past other)) ok in
    let there = (and_parts (is_some (record_at past other)) (not (is_collected past other)) parts.0).0 in
    (ap (λ x. is_some (record_at past x)) (sym same) ∙ there, ap (is_needed past) (sym same) ∙ not-true (is_needed past other) parts.1)
collected-by judge header events actor act made ok is = absurd (cc)

-- what was collected isn't needed
pub collected-is-unneeded : {T : Type 0} (judge : Judge T) (header : Header) (events : List (Event T)) → all_permitted judge header events ≡ true →
    (made : RecordId) → is_collected (without_tickets events) made ≡ true → IsUnneeded (without_tickets events) made
collected-is-unneeded judge header [] ok made is = absurd (cc)
collected-is-unneeded judge header (e ∷ events) ok made is =
    stays-unneeded judge header e events ok made
    (elim (or_cases (collects made (act_with {U = Unit {0}} (λ _. tt) e.act)) (is_collected (without_tickets events) made) is) [
      | inl now ↦ collected-by judge header events e.actor e.act made (permitted-last judge header e events ok) now
      | inr before ↦ collected-is-unneeded judge header events (permitted-before judge header e events ok) made before
    ])

answer-in : (answer : Table Record Bool → Record → Bool) (test : Record → Bool) (x : Record) (xs : List Record) (b : Bool) → test x ≡ b →
    (answer_at test false (downward answer xs) ≡ true → (i : ℕ) × (r : Record) × (slice_get xs i ≡ Some r) × (test r ≡ true)) →
    (if b then answer (downward answer xs) x else answer_at test false (downward answer xs)) ≡ true →
    (i : ℕ) × (r : Record) × (slice_get (x ∷ xs) i ≡ Some r) × (test r ≡ true)
answer-in answer test x xs true e later is = (0, x, refl, e)
answer-in answer test x xs false e later is = let it = later is in (suc it.0, it.1, it.2, it.3)

-- whose answer is yes is one of the records
who-answers : (answer : Table Record Bool → Record → Bool) (test : Record → Bool) (rs : List Record) → answer_at test false (downward answer rs) ≡ true →
    (i : ℕ) × (r : Record) × (slice_get rs i ≡ Some r) × (test r ≡ true)
who-answers answer test [] is = absurd (cc)
who-answers answer test (x ∷ xs) is = answer-in answer test x xs (test x) refl (who-answers answer test xs) is

-- what is needed was accepted
pub needed-is-accepted : (past : Past) → Numbered (records past) → (made : RecordId) → is_needed past made ≡ true → is_some (record_at past made) ≡ true
needed-is-accepted past n made needed =
    let it = who-answers (needed_among past) (has_id made) (records past) needed in
    let same : made ≡ id_of it.1 = (record_same-Decides made (id_of it.1)).0 it.3 in
    let place : made.0 ≡ it.0 = ap (λ (r : RecordId). r.0) (same ∙ n it.0 it.1 it.2) in
    ap is_some (ap (slice_get (records past)) place ∙ it.2)

pub needed-is-kept : {T : Type 0} (judge : Judge T) (header : Header) (events : List (Event T)) → all_permitted judge header events ≡ true →
    (made : RecordId) → is_needed (without_tickets events) made ≡ true → is_kept (without_tickets events) made ≡ true
needed-is-kept judge header events ok made needed =
    let past : Past = without_tickets events in
    and_from (is_some (record_at past made)) (not (is_collected past made)) (needed-is-accepted past (past-numbered judge header events ok) made needed)
    (ap not (false_from_ne_true (is_collected past made) (λ h. both_ways (is_needed past made) (collected-is-unneeded judge header events ok made h).1 needed)))

-- what is next is needed, and so kept
pub next-is-kept : {T : Type 0} (judge : Judge T) (header : Header) (events : List (Event T)) → all_permitted judge header events ≡ true →
    (made : RecordId) → next header.order (without_tickets events) ≡ Some made → is_kept (without_tickets events) made ≡ true
next-is-kept judge header events ok made is =
    let past : Past = without_tickets events in
    let numbers = past-numbered judge header events ok in
    let it = next-is header.order past made is numbers in
    let live = or_left (is_task past (id_of it.it)) (is_running past (id_of it.it)) it.task in
    needed-is-kept judge header events ok made
    (ap (is_needed past) (sym it.id) ∙ live-is-needed past it.place.0 it.it numbers it.place.1 live)
