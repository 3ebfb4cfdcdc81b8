-- A record that was let go was accepted.
use Rattle.std.proofs.Common.{◌≡◌, arith, inl, inr, ℕ, ◌<◌, true, not, List, [], ◌∷◌, ◌++◌, length, slice_get, Option, Some, None, is_some, refl, sym, subst, append-nil, length-append}
use Rattle.std.proofs.lemmas.Bool.{and_parts, or_cases}
use Rattle.tl_types.specs.Same.{record_same-Decides}
use Rattle.tl_types.specs.declared.actor.Actor.{Actor}
use Rattle.tl_types.specs.declared.record_id.RecordId.{RecordId}
use Rattle.tl_model.specs.declared.event.Act.{Act}
use Rattle.tl_model.specs.declared.event.Act.TheVariants.{Call, Collect}
use Rattle.tl_model.specs.declared.event.Event.{Event}
use Rattle.tl_model.specs.declared.header.Header.{Header}
use Rattle.tl_model.specs.declared.record.Record.{Record}
use Rattle.tl_model.specs.Past.{Past, act_with, without_tickets}
use Rattle.tl_model.specs.Rules.{Judge, all_permitted, is_permitted}
use Rattle.tl_model.specs.History.{record_at, records}
use Rattle.tl_model.specs.Residency.{collects, is_collected, is_kept}
use Rattle.tl_model.specs.Needs.{is_needed}
use Rattle.tl_laws.proofs.Numbering.{get-within}
use Rattle.tl_laws_needs.proofs.Sound.{permitted-before, permitted-last}
use Rattle.tl_steps.specs.Steps.{added}
use Rattle.tl_steps.proofs.Files.{after}

pub records-after : (actor : Actor) (act : Act (Unit {0})) (past : Past) → records (after actor act past) ≡ records past ++ added past act
records-after actor (Call c reply) past = refl
records-after actor act past = sym (append-nil (records past))

some-within : (rs : List Record) (n : ℕ) (o : Option Record) → slice_get rs n ≡ o → is_some o ≡ true → n < length rs
some-within rs n None at is = absurd (cc)
some-within rs n (Some r) at is = get-within rs n r at

collected-now : {T : Type 0} (judge : Judge T) (header : Header) (events : List (Event T)) (actor : Actor) (act : Act T) (made : RecordId) →
    is_permitted judge header events (without_tickets events) actor act ≡ true → collects made (act_with {U = Unit {0}} (λ _. tt) act) ≡ true →
    made.0 < length (records (without_tickets events))
collected-now judge header events actor (Collect other) made ok is =
    let past = without_tickets events in
    let kept = (and_parts (is_kept past other) (not (is_needed past other)) ok).0 in
    let there = (and_parts (is_some (record_at past other)) (not (is_collected past other)) kept).0 in
    subst (λ (id : RecordId). id.0 < length (records past)) (sym ((record_same-Decides made other).0 is))
    (some-within (records past) other.0 (record_at past other) refl there)
collected-now judge header events actor act made ok is = absurd (cc)

still-within : (past : Past) (actor : Actor) (act : Act (Unit {0})) (n : ℕ) → n < length (records past) → n < length (records (after actor act past))
still-within past actor act n less =
    subst (λ (rs : List Record). n < length rs) (sym (records-after actor act past)) (omega (arith, length-append (records past) (added past act)))

pub collected-within : {T : Type 0} (judge : Judge T) (header : Header) (events : List (Event T)) → all_permitted judge header events ≡ true →
    (made : RecordId) → is_collected (without_tickets events) made ≡ true → made.0 < length (records (without_tickets events))
collected-within judge header [] ok made is = absurd (cc)
collected-within judge header (e ∷ events) ok made is =
    still-within (without_tickets events) e.actor (act_with {U = Unit {0}} (λ _. tt) e.act) made.0
    (elim (or_cases (collects made (act_with {U = Unit {0}} (λ _. tt) e.act)) (is_collected (without_tickets events) made) is) [
      | inl now ↦ collected-now judge header events e.actor e.act made (permitted-last judge header e events ok) now
      | inr before ↦ collected-within judge header events (permitted-before judge header e events ok) made before
    ])
