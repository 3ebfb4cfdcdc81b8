use Rattle.std.proofs.Common.{rules, ◌∙◌, ap, slice_set, slice_index_or}
use Rattle.tl_store.specs.Contents.{touched}
use Rattle.tl_fleet.specs.Workers.{with_blocks}
use Rattle.tl_fleet.proofs.Changes.{changed_first, changed_next, changed_all}
use Rattle.tl_fleet.proofs.fleet.touch_all.Goals as goal

pub loop-worker-preserved : goal.loop-worker-preserved
loop-worker-preserved c =
    ap (λ s. slice_set c.loop-worker.workers c.loop-worker.worker-index (record { store = s; incarnation = (slice_index_or c.loop-worker.workers c.loop-worker.worker-index c.worker-item.result).incarnation })) c.touch.ensures
    ∙ changed_next c.args.workers.now c.loop-worker.workers c.loop-worker.worker-index c.worker-item.result (with_blocks (touched c.args.f)) c.loop-worker.invariant (search rules)

pub returns : goal.returns
returns c =
    c.loop-worker.invariant ∙ ap (λ k. changed_first k (with_blocks (touched c.args.f)) c.args.workers.now) (search rules) ∙ changed_all c.args.workers.now (with_blocks (touched c.args.f))
