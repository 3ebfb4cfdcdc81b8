use Rattle.std.proofs.Common.{◌∷◌, subst, sym}
use Rattle.tl_model.specs.Past.{act_with, without_tickets}
use Rattle.tl_model.specs.Rules.{lawful_judge}
use Rattle.tl_steps.proofs.Within.{all-within}
use Rattle.tl_prio.specs.Data.{OrderData}
use Rattle.tl_prio.specs.Standing.{StandsFor}
use Rattle.tl_prio.proofs.Noting.{stands-after}
use Rattle.tl_prio.proofs.order.Order.note.Goals as goal

pub returns-clause-stands : goal.returns-clause-stands
returns-clause-stands g c = λ header past stands room permitted.
    let event = c.args.event.now in
    subst (λ (order : OrderData). StandsFor order (without_tickets (event ∷ past))) (sym c.note_event.ensures)
    (stands-after event.actor (act_with (λ _. tt) event.act) (without_tickets past) c.args.self.now stands room
    (all-within lawful_judge header (event ∷ past) permitted))
