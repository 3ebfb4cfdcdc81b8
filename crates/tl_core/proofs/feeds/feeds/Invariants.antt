use Rattle.std.proofs.Common.{reverse, take}
use Rattle.tl_core.specs.Taken.{AreFedBy}
use Rattle.tl_core.proofs.feeds.feeds.Given as goal

abbrev pub invariant-loop-file : goal.invariant-loop-file
invariant-loop-file g l = AreFedBy g.T.Ticket.content (reverse l.events) l.residents (take l.file-index l.files) l.feeds.items
