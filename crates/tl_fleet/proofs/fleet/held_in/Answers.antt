use Rattle.std.proofs.Common.{rules, arith, ◌≡◌, ◌∙◌, ◌+◌, ap, length, slice_index_or, take}
use Rattle.tl_fleet.specs.Workers.{blocks_on, held_count}
use Rattle.tl_fleet.proofs.Held.{one_more}
use Rattle.tl_fleet.proofs.fleet.held_in.Goals as goal

pub loop-worker-preserved : goal.loop-worker-preserved
loop-worker-preserved c =
    let here : c.worker-item.result ≡ slice_index_or c.args.workers.now c.loop-worker.worker-index c.worker-item.result = search rules in
    record {
      sum = ap (λ n. n + c.len.result) c.loop-worker.invariant.sum
          ∙ ap (λ n. held_count (take c.loop-worker.worker-index c.args.workers.now) + n) (c.len.ensures ∙ ap (λ w. length (blocks_on w)) here)
          ∙ one_more c.args.workers.now c.loop-worker.worker-index c.worker-item.result (search rules);
      bound = omega (arith, c.len.type_inv, c.loop-worker.invariant.bound);
    }
