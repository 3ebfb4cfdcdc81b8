use Rattle.std.proofs.Common.{◌∙◌}
use Rattle.tl_plan.proofs.Looking.{place-looked}
use Rattle.tl_plan.proofs.plan.Plan.place.Goals as goal

pub returns : goal.returns
returns c = λ past stands. c.found_place.ensures ∙ place-looked c.args.self.now past c.args.file stands
