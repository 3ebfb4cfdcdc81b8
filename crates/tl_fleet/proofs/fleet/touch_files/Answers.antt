use Rattle.std.proofs.Common.{rules, ◌∙◌, ap}
use Rattle.tl_fleet.specs.Workers.{all_touched}
use Rattle.tl_fleet.proofs.Used.{one_used}
use Rattle.tl_fleet.proofs.fleet.touch_files.Goals as goal

pub loop-f-preserved : goal.loop-f-preserved
loop-f-preserved c =
    c.touch_all.ensures
    ∙ ap (all_touched _) c.loop-f.invariant
    ∙ one_used c.args.files.now c.loop-f.f-index _ c.args.workers.now (search rules)
