use Rattle.std.proofs.Common.{◌∙◌}
use Rattle.tl_edge.proofs.Choosing.{choice-same}
use Rattle.tl_edge.proofs.edge.Edge.pick.Goals as goal

pub returns : goal.returns
returns c = λ header past stands. c.choose.ensures ∙ choice-same header c.args.self.now past stands
