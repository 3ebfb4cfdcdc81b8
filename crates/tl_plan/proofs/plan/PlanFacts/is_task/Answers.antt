use Rattle.std.proofs.Common.{◌∙◌}
use Rattle.tl_plan.proofs.Looking.{task-looked}
use Rattle.tl_plan.proofs.plan.PlanFacts.is_task.Goals as goal

pub returns : goal.returns
returns c = λ past stands. c.found_task.ensures ∙ task-looked c.args.self.now past c.args.made stands
