use Rattle.std.proofs.Common.{rules}
use Rattle.tl_store.proofs.Victims.{stops, goes_on}
use Rattle.tl_store.proofs.store.last_kept.Goals as goal

pub returns-then-not-holds : goal.returns-then-not-holds
returns-then-not-holds g c =
    stops (g.X.Excepted.excepted c.args.x.now) c.args.entries.now.entries c.loop-file.left c.next_back.new.self c.in-Some.file.now c.in-Some.field-0-1.now c.in-Some.ensures.steps c.loop-file.invariant.each c.loop-file.invariant.same (search rules)

pub loop-file-preserved : goal.loop-file-preserved
loop-file-preserved g c =
    let on = goes_on (g.X.Excepted.excepted c.args.x.now) c.args.entries.now.entries c.loop-file.left c.next_back.new.self c.in-Some.file.now c.in-Some.field-0-1.now c.in-Some.ensures.steps c.loop-file.invariant.each c.loop-file.invariant.same (search rules) in
    record { each = on.0; same = on.1 }
