use Rattle.tl_fleet.specs.Workers.{emptied}
use Rattle.tl_fleet.proofs.Changes.{set_changed}
use Rattle.tl_fleet.proofs.fleet.lose_at.Goals as goal

pub returns : goal.returns
returns c = rw c.empty.ensures (set_changed c.args.workers.now c.args.w c.index-workers-w.result emptied)
