use Rattle.std.proofs.Common.{◌∙◌, ap, sym, subst, All, length}
use Rattle.tl_lang.specs.Kinds.{IsOutcome}
use Rattle.tl_lang.specs.Job.{job_mean}
use Rattle.tl_lang.proofs.CheckedLaws.{IsOutcome-mean}
use Rattle.tl_eval.specs.Evaluation.{seen}
use Rattle.tl_eval.proofs.machine.Machine.new.Goals.{in-Going, in-Over}
use Rattle.tl_eval.proofs.machine.Machine.new.Goals as goal

pub returns-clause-sound : goal.returns-clause-sound
returns-clause-sound c =
    let job = c.args.spec.now in
    let means = IsOutcome-mean job.program.program (length job.program.program.outputs) job.conf c.args.inputs.items job.fuel c.requires in
    let same = ap (λ j. job_mean j c.args.inputs.items) c.get.ensures in
    elim c.match-branch-2.branch [
      | in-Going w ↦ subst (All IsOutcome) (sym (ap (λ s. (seen s).outcomes) w.state-is ∙ (rw w.in-Going.is at c.in_ok-running.ensures).1 ∙ same)) means
      | in-Over w ↦ subst (All IsOutcome) (sym (ap (λ s. (seen s).outcomes) w.state-is ∙ (rw w.in-Over.is at c.in_ok-running.ensures).0 ∙ same)) means
    ]
