use Rattle.std.proofs.Common.{◌≡◌, ◌+◌, ◌-◌, ◌∙◌, arith, ap, sym}
use Rattle.tl_plan.proofs.Steps.{made_from, none_made, step_next}
use Rattle.tl_plan.proofs.tables.make_tables.Goals as goal

pub loop-i-init : goal.loop-i-init
loop-i-init c = sym (none_made c.args.seats.now 0 c.args.jobs.now c.args.files.now)

pub loop-i-preserved : goal.loop-i-preserved
loop-i-preserved c =
    let same : c.loop-i.i ≡ (c.loop-i.i - 1) + 1 = omega arith in
    c.make_table_at.ensures
    ∙ step_next c.args.seats.now (c.loop-i.i - 1) c.args.jobs.now c.args.files.now (c.loop-i.jobs, c.loop-i.files)
    (c.loop-i.invariant ∙ ap (λ k. made_from c.args.seats.now k 0 c.args.jobs.now c.args.files.now) same) (omega arith)
