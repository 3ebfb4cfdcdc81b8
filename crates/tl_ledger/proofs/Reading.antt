-- The read that an actor has open, of the sixteen that there are and of others.
use Rattle.std.proofs.Common.{◌≡◌, ◌∙◌, ◌<◌, ◌≤◌, inl, inr, arith, true, false, List, Option, None, sym}
use Rattle.std.proofs.lemmas.Bool.{ltb-true}
use Rattle.tl_types.specs.declared.actor.Actor.{Actor}
use Rattle.tl_model.specs.declared.event.Event.{Event}
use Rattle.tl_model.specs.declared.header.Header.{Header}
use Rattle.tl_model.specs.Past.{without_tickets}
use Rattle.tl_model.specs.Actors.{OpenRead, open_read}
use Rattle.tl_model.specs.Rules.{all_permitted, is_actor, lawful_judge}
use Rattle.tl_laws.proofs.Actors.{none-at-work}
use Rattle.tl_laws.proofs.Numbering.{below_or_not}
use Rattle.tl_steps.proofs.Files.{not-true}

-- an actor that there is not reads nothing
unknown-reads : {T : Type 0} (header : Header) (events : List (Event T)) (actor : Actor) → all_permitted lawful_judge header events ≡ true →
    16 ≤ actor.0 → open_read (without_tickets events) actor ≡ None
unknown-reads header events actor ok unknown =
    let none : is_actor actor ≡ false =
    not-true (is_actor actor) (λ is. let known : actor.0 < 16 = ltb-true actor.0 16 is in absurd (omega arith)) in
    (none-at-work lawful_judge header events ok actor none).read

-- what is told of the actors that there are, and that others have none, is the open read of all
pub reading-is : {T : Type 0} (header : Header) (events : List (Event T)) (actor : Actor) (read : Option OpenRead) →
    all_permitted lawful_judge header events ≡ true → (actor.0 < 16 → read ≡ open_read (without_tickets events) actor) → (16 ≤ actor.0 → read ≡ None) →
    read ≡ open_read (without_tickets events) actor
reading-is header events actor read ok known unknown = elim (below_or_not actor.0 16) [
  | inl h ↦ known h
  | inr h ↦ unknown h ∙ sym (unknown-reads header events actor ok h)
]
