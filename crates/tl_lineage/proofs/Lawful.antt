-- Slots of lawful journals.
use Rattle.std.proofs.Common.{◌≡◌, ℕ, zero, suc, ◌<◌, ◌≤◌, Bool, true, false, ◌||◌, not, List, [], ◌∷◌, ◌++◌, length, slice_get, is_some, is_none, option_map, refl, ap, ◌∙◌, arith, length-append}
use Rattle.std.proofs.lemmas.Bool.{and_parts, ne_eqb}
use Rattle.tl_types.specs.declared.actor.Actor.{Actor}
use Rattle.tl_model.specs.declared.event.Act.{Act}
use Rattle.tl_model.specs.declared.event.Act.TheVariants.{Call, Collect}
use Rattle.tl_model.specs.declared.event.Event.{Event}
use Rattle.tl_model.specs.declared.header.Header.{Header}
use Rattle.tl_model.specs.declared.record.Record.{Record}
use Rattle.tl_model.specs.Past.{Past, act_with, event_with, without_tickets}
use Rattle.tl_model.specs.History.{names, record_at, record_made, records}
use Rattle.tl_model.specs.Residency.{is_collected, is_kept}
use Rattle.tl_model.specs.Needs.{is_needed}
use Rattle.tl_model.specs.Rules.{Judge, all_permitted, broken, is_permitted}
use Rattle.tl_laws.proofs.Permits.{permitted_of}
use Rattle.tl_lineage.specs.declared.slot.Slot.{Slot}
use Rattle.tl_lineage.specs.Standing.{is_gone, slot_of, slots_of, Stand}
use Rattle.tl_lineage.proofs.Stands.{next-stands}

-- no record that was not accepted was collected
abbrev NoneBeyond : Past → Type 0
NoneBeyond past = (n : ℕ) → length (records past) ≤ n → is_gone past n ≡ false

-- what is collected was accepted
abbrev CollectsWithin : Past → Act (Unit {0}) → Type 0
CollectsWithin past (Collect made) = made.0 < length (records past)
CollectsWithin past _ = Unit {0}

some-within : (rs : List Record) (n : ℕ) → is_some (slice_get rs n) ≡ true → n < length rs
some-within [] n h = absurd (cc)
some-within (r ∷ rs) zero h = omega arith
some-within (r ∷ rs) (suc n) h = let rest : n < length rs = some-within rs n h in omega arith

longer : (rs more : List Record) (n : ℕ) → length (rs ++ more) ≤ n → length rs ≤ n
longer rs more n h = omega (arith, length-append rs more)

collects-within : {T : Type 0} (judge : Judge T) (header : Header) (events : List (Event T)) (past : Past) (actor : Actor) (act : Act T) →
    is_permitted judge header events past actor act ≡ true → CollectsWithin past (act_with (λ _. tt) act)
collects-within judge header events past actor (Collect made) ok =
    some-within (records past) made.0
    (and_parts (is_some (record_at past made)) (not (is_collected past made)) (and_parts (is_kept past made) (not (is_needed past made)) ok).0).0
collects-within judge header events past actor _ ok = tt

none-after : (past : Past) (actor : Actor) (act : Act (Unit {0})) → NoneBeyond past → CollectsWithin past act → NoneBeyond (record { actor = actor; act = act } ∷ past)
none-after past actor (Call command reply) none within n h = none n (longer (records past) (record_made reply command (names past)) n h)
none-after past actor (Collect made) none within n h =
    ap (λ b. b || is_gone past n) (ne_eqb n made.0 (λ e. omega arith)) ∙ none n h
none-after past actor _ none within n h = none n h

none-beyond : {T : Type 0} (judge : Judge T) (header : Header) (events : List (Event T)) → all_permitted judge header events ≡ true → NoneBeyond (without_tickets events)
none-beyond judge header [] ok n h = refl
none-beyond judge header (e ∷ events) ok n h =
    let parts = and_parts (is_none (broken judge header events e)) (all_permitted judge header events) ok in
    none-after (without_tickets events) e.actor (act_with (λ _. tt) e.act) (none-beyond judge header events parts.1)
    (collects-within judge header events (without_tickets events) e.actor e.act (permitted_of judge header events e parts.0).1) n h

same-length : (gone : ℕ → Bool) (rs : List Record) (slots : List Slot) → ((n : ℕ) → slice_get slots n ≡ option_map (slot_of (gone n)) (slice_get rs n)) → length rs ≤ length slots
same-length gone [] slots h = omega arith
same-length gone (r ∷ rs) [] h = let at = h 0 in absurd (cc)
same-length gone (r ∷ rs) (slot ∷ slots) h =
    let rest : length rs ≤ length slots = same-length (λ k. gone (suc k)) rs slots (λ k. h (suc k)) in omega arith

-- where all events are permitted, the slots that they leave stand for them
pub permitted-stand : {T : Type 0} (judge : Judge T) (header : Header) (events : List (Event T)) → all_permitted judge header events ≡ true →
    Stand (without_tickets events) (slots_of (without_tickets events))
permitted-stand judge header [] ok = record { each = λ n. refl }
permitted-stand judge header (e ∷ events) ok =
    let rest = (and_parts (is_none (broken judge header events e)) (all_permitted judge header events) ok).1 in
    let past = without_tickets events in
    let stand = permitted-stand judge header events rest in
    next-stands past (slots_of past) (event_with (λ _. tt) e) stand
    (none-beyond judge header events rest (length (slots_of past)) (same-length (is_gone past) (records past) (slots_of past) stand.each))
