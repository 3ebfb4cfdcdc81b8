use Rattle.std.proofs.Common.{◌∙◌}
use Rattle.tl_plan.proofs.Looking.{here-looked}
use Rattle.tl_plan.proofs.plan.Plan.is_available.Goals as goal

pub returns : goal.returns
returns c = λ past stands. c.is_here.ensures ∙ here-looked c.args.self.now past c.args.file stands
