use Rattle.std.proofs.Common.{take}
use Rattle.tl_cluster.specs.Jobs.{state_of}
use Rattle.tl_cluster.specs.Works.{AreFed}
use Rattle.tl_cluster.proofs.parts.Parts.feeds.Given as goal

abbrev pub invariant-loop-file : goal.invariant-loop-file
invariant-loop-file g l = AreFed g.T.Ticket.tells g.T.Ticket.content (state_of l.self) (take l.file-index l.files) l.feeds.items
