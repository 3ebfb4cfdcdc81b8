use Rattle.std.proofs.Common.{sym, ap, ◌∙◌}
use Rattle.tl_names.proofs.Making.{job_inputs, job_made, job_refused, no_first}
use Rattle.tl_names.proofs.makes.job.Goals as goal

pub returns-in-Some-clause-ok : goal.returns-in-Some-clause-ok
returns-in-Some-clause-ok c = job_inputs c.args.dirs.now.slots c.args.pins.now c.args.inputs.now c.args.outputs.now c.args.next c.in-Some.refusal c.requires.tree c.in-Some.ensures

pub returns-in-None-clause-ok : goal.returns-in-None-clause-ok
returns-in-None-clause-ok c =
    job_made c.args.dirs.now.slots c.make_files.new.dirs.slots c.args.pins.now c.make_files.new.pins c.args.inputs.now c.args.outputs.now c.args.next
    (no_first c.first_refusal.result c.in_default.not-Some ∙ c.first_refusal.ensures)
    (λ names stands. sym c.in-None.is ∙ c.in_ok-make_files.ensures.refusal names stands) (rw c.in-None.is at c.in_ok-make_files.ensures.made)

pub returns-in-Some-2-clause-ok : goal.returns-in-Some-2-clause-ok
returns-in-Some-2-clause-ok c =
    let kept = (rw c.in-Some-2.is at c.in_ok-make_files.ensures.kept) in
    job_refused c.args.dirs.now.slots c.make_files.new.dirs.slots c.args.pins.now c.make_files.new.pins c.args.inputs.now c.args.outputs.now c.args.next c.in-Some-2.refusal c.requires.tree
    (no_first c.first_refusal.result c.in_default.not-Some ∙ c.first_refusal.ensures)
    (λ names stands. sym c.in-Some-2.is ∙ c.in_ok-make_files.ensures.refusal names stands) (ap (λ slab. slab.slots) kept.0) kept.1
