use Rattle.std.proofs.Common.{◌∙◌}
use Rattle.tl_plan.proofs.Looking.{ready-looked}
use Rattle.tl_plan.proofs.plan.PlanFacts.is_ready.Goals as goal

pub returns : goal.returns
returns c = λ past stands. c.found_ready.ensures ∙ ready-looked c.args.self.now past c.args.made stands
