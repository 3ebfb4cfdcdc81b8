use Rattle.tl_run.proofs.Streams.{none_left}
use Rattle.tl_run.proofs.reading.read_piece.Goals as goal

pub returns-clause-end : goal.returns-clause-end
returns-clause-end g c = none_left (g.I.Source.left c.args.input.now) (g.I.Source.left c.read.new.self) c.in_ok-n.n c.read.new.into c.in_ok-n.ensures.bytes
