use Rattle.std.proofs.Common.{◌∙◌}
use Rattle.tl_plan.proofs.Looking.{wanted-looked}
use Rattle.tl_plan.proofs.plan.PlanFacts.is_wanted.Goals as goal

pub returns : goal.returns
returns c = λ past stands. c.found_wanted.ensures ∙ wanted-looked c.args.self.now past c.args.file stands
