use Rattle.tl_fleet.specs.Workers.{with_blocks, put_front}
use Rattle.tl_fleet.proofs.Changes.{set_changed, on_ok}
use Rattle.tl_fleet.proofs.fleet.install_at.Goals as goal

pub returns-clause-ok : goal.returns-clause-ok
returns-clause-ok c = on_ok c.put.result c.put.ensures.ok (λ same. rw same (set_changed c.args.workers.now c.args.w c.index-workers-w.result (with_blocks (put_front c.args.block))))
