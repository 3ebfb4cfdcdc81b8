use Rattle.std.proofs.Common.{sym, subst}
use Rattle.tl_model.specs.declared.event.Act.{Act}
use Rattle.tl_model.specs.Past.{act_with}
use Rattle.tl_prio.specs.Data.{OrderData}
use Rattle.tl_prio.specs.Standing.{StandsBefore, StandsFor}
use Rattle.tl_ledger.proofs.parts.count_claim.Goals as goal

pub returns-in-Claim-clause-stands : goal.returns-in-Claim-clause-stands
returns-in-Claim-clause-stands g c = λ past plan order few.
    subst (λ (act : Act _). StandsBefore (act_with (λ _. tt) act) c.claimed.new.self past) (sym c.in-Claim.is)
    (c.claimed.ensures.stands past c.in-Claim.field-0 c.in-Claim.made
    (subst (λ (o : OrderData). StandsFor o past) (sym c.prio-prio.ensures.same) order) (c.prio-prio.ensures.prio past order plan) few)
