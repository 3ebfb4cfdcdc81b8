use Rattle.std.proofs.Common.{◌≡◌, ◌<◌, ap, subst}
use Rattle.std.specs.List.{AllByRecursion}
use Rattle.std.proofs.lemmas.Bool.{and_parts}
use Rattle.tl_types.specs.declared.record_id.RecordId.{RecordId}
use Rattle.tl_model.specs.declared.record.Record.TheVariants as kind
use Rattle.tl_model.specs.History.{calls_of, records_of}
use Rattle.tl_model.specs.Rules.{lawful_judge, all_permitted, is_quiet}
use Rattle.tl_laws.proofs.Numbering.{all-numbered}
use Rattle.tl_laws.specs.Order.{HasOlderInputs}
use Rattle.tl_laws.proofs.Order.{all-ordered, all-get}
use Rattle.tl_laws_values.proofs.Told.{job-at}
use Rattle.tl_laws_values.proofs.job_outputs_are_what_the_program_means.Goals as goal

pub returns : goal.returns
returns c = λ header past lawful i id core prio inputs outputs at.
    let ok = (and_parts (all_permitted lawful_judge header past) (is_quiet lawful_judge past) lawful).0 in
    let number : id.0 ≡ i = ap (λ (r : RecordId). r.0) (all-numbered lawful_judge header past ok i (kind.Job id core prio inputs outputs) at) in
    let older : HasOlderInputs (kind.Job id core prio inputs outputs) =
    all-get HasOlderInputs (records_of (calls_of past)) i (kind.Job id core prio inputs outputs) (all-ordered lawful_judge header past ok).older at in
    job-at (calls_of past) i id core prio inputs outputs at (subst (λ n. AllByRecursion (λ f. f.rec.0 < n) inputs) number older)
