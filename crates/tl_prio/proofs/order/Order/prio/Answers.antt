use Rattle.std.proofs.Common.{◌∙◌}
use Rattle.tl_prio.proofs.Walking.{prio-found}
use Rattle.tl_prio.proofs.order.Order.prio.Goals as goal

pub returns-clause-prio : goal.returns-clause-prio
returns-clause-prio g c = λ past stands speaks. c.found_prio.ensures.found past speaks ∙ prio-found c.args.self.now past c.args.made stands
