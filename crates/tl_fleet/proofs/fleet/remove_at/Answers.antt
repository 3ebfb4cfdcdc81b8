use Rattle.tl_store.specs.Contents.{without}
use Rattle.tl_fleet.specs.Workers.{with_blocks}
use Rattle.tl_fleet.proofs.Changes.{set_changed}
use Rattle.tl_fleet.proofs.fleet.remove_at.Goals as goal

pub returns : goal.returns
returns c = rw c.remove.ensures.rest (set_changed c.args.workers.now c.args.w c.index-workers-w.result (with_blocks (without c.args.f)))
