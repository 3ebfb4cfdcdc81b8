use Rattle.std.proofs.Common.{◌∙◌}
use Rattle.tl_gc.proofs.Choosing.{garbage-same}
use Rattle.tl_gc.proofs.gc.Gc.garbage.Goals as goal

pub returns-clause-garbage : goal.returns-clause-garbage
returns-clause-garbage g c = λ past stands speaks. c.find.ensures.found past speaks ∙ garbage-same c.args.self.now past stands
