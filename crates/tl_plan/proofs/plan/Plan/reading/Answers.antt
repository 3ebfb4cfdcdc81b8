use Rattle.std.proofs.Common.{◌∙◌}
use Rattle.tl_plan.proofs.Looking.{no-reading, reading-looked}
use Rattle.tl_plan.proofs.plan.Plan.reading.Goals as goal

pub returns-clause-known : goal.returns-clause-known
returns-clause-known c = λ past stands known. c.found_read.ensures ∙ reading-looked c.args.self.now past c.args.actor stands known

pub returns-clause-unknown : goal.returns-clause-unknown
returns-clause-unknown c = λ past stands unknown. c.found_read.ensures ∙ no-reading c.args.self.now past c.args.actor stands unknown
