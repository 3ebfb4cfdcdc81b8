-- Nothing is under way between the lines of a script.
use Rattle.std.proofs.Common.{◌≡◌, ◌∙◌, List, [], None, Result, Ok, Err, IfOk, refl, sym, subst}
use Rattle.tl_types.specs.declared.actor.Actor.{Actor}
use Rattle.tl_model.specs.declared.event.Event.{Event}
use Rattle.tl_model.specs.Past.{Past, without_tickets}
use Rattle.tl_core.specs.Answers.{past_of}
use Rattle.tl_core.specs.State.{State}
use Rattle.tl_client.specs.Rest.{AllAtRest, IsAtRest, SameOpen}

-- of a cluster of no events nothing is open
pub none-open : {T E : Type 0} (r : Result (State T) E) → IfOk r (λ cluster. cluster.events ≡ []) → IfOk r (λ cluster. AllAtRest (past_of cluster))
none-open {T} (Ok cluster) h = subst (λ (events : List (Event T)). AllAtRest (without_tickets events)) (sym h) (λ a. (refl, (refl, λ b. refl)))
none-open (Err e) h = tt

-- a command leaves all at rest
pub all-rest : (before after : Past) (actor : Actor) → AllAtRest before → IsAtRest after actor → SameOpen before after → AllAtRest after
all-rest before after actor all rest same = λ a. (same.0 a ∙ (all a).0, (same.1 a ∙ (all a).1.0, rest.1.1))
