use Rattle.std.proofs.Common.{arith}
use Rattle.tl_run.proofs.Streams.{writes_more, writes_front, on_err}
use Rattle.tl_run.proofs.writing.write_all.Goals as goal

pub returns-in_err-n-clause-front : goal.returns-in_err-n-clause-front
returns-in_err-n-clause-front g c = on_err c.from_residual.result (writes_front _ _ _ _ _ c.loop-rest.invariant.written c.in_err-n.ensures.bytes)

pub loop-rest-preserved : goal.loop-rest-preserved
loop-rest-preserved g c = record {
  written = rw c.split_at.ensures.back (writes_more _ _ _ _ _ _ c.loop-rest.invariant.written c.in_ok-n.ensures.bytes);
  never_falls = omega (arith, c.loop-rest.invariant.never_falls, c.in_ok-n.ensures.never_falls);
}
