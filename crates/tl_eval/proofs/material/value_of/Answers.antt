use Rattle.tl_eval.proofs.Sharing.{entry_found, entry_passed}
use Rattle.tl_eval.proofs.material.value_of.Goals as goal

pub returns-then-eq : goal.returns-then-eq
returns-then-eq c = entry_found c.args.key.now c.args.entries.now c.loop-entry.entry-index c.entry-item.result c.entry-item.is c.loop-entry-test.true c.loop-entry.invariant c.if-eq.ensures

pub loop-entry-preserved : goal.loop-entry-preserved
loop-entry-preserved c = entry_passed c.args.key.now c.args.entries.now c.loop-entry.entry-index c.entry-item.result c.entry-item.is c.loop-entry-test.true c.loop-entry.invariant c.if-eq.ensures
