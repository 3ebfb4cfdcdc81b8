-- What a job makes of what it is fed is what its outputs hold.
use Rattle.std.proofs.Common.{◌≡◌, ◌==◌, ℕ, suc, ◌+◌, Bool, true, false, if◌then◌else◌, List, [], ◌∷◌, length, map, slice_get, Option, Some, None, unwrap_or, option_and_then, option_map, refl, sym, ap, ◌∙◌, subst, arith}
use Rattle.std.specs.List.{AllByRecursion}
use Rattle.std.proofs.lemmas.Bool.{and_parts, eqb-true}
use Rattle.std.proofs.lemmas.List.{length-map}
use Rattle.tl_types.specs.Block.{FileOutcome}
use Rattle.tl_types.specs.declared.record_id.RecordId.{RecordId}
use Rattle.tl_types.specs.declared.outcome.Outcome.{Outcome}
use Rattle.tl_lang.specs.declared.expr.Expr.{Expr}
use Rattle.tl_lang.specs.declared.job.JobSpecCore.{JobSpecCore}
use Rattle.tl_lang.specs.declared.program.Program.{Program}
use Rattle.tl_lang.specs.Job.{job_mean}
use Rattle.tl_lang.specs.Kinds.{KindsHold, outputs_differ, refusal_in}
use Rattle.tl_lang.specs.Mean.{outcomes, values}
use Rattle.tl_lang.specs.Names.{Names}
use Rattle.tl_model.specs.declared.record.Record.{Record}
use Rattle.tl_model.specs.declared.record.Record.TheVariants as kind
use Rattle.tl_model.specs.Past.{Told, events_with}
use Rattle.tl_model.specs.History.{calls_of, files_from, outputs_of, records_of}
use Rattle.tl_model.specs.Rules.{all_permitted, is_lawful, is_quiet, lawful_judge}
use Rattle.tl_model.specs.Values.{Outcomes, no_outcome, outcome_in, outcomes_of, value}
use Rattle.tl_laws.specs.Order.{HasOlderInputs}
use Rattle.tl_laws.proofs.Order.{all-get, all-ordered}
use Rattle.tl_laws.proofs.Tickets.{records-with}
use Rattle.tl_laws_values.proofs.Told.{job-at}
use Rattle.tl_cluster.specs.declared.work.Work.{Work}
use Rattle.tl_cluster.specs.Works.{file_of}
use Rattle.tl_desk.specs.Turns.{AreOutputs, AreValues}
use Rattle.tl_pieces.specs.Setting.{Setting, Events}
use Rattle.tl_work.specs.Made.{IsMade, blocks_from}
use Rattle.tl_work.specs.Runs.{IsTakenUp}

-- ---- as many outcomes as outputs

outcomes-count : (inputs : Option (List (List ℕ))) (conf : Names (List ℕ)) (fuel : ℕ) (outputs : List Expr) → length (outcomes inputs conf fuel outputs) ≡ length outputs
outcomes-count None conf fuel outputs = length-map outputs _
outcomes-count (Some texts) conf fuel outputs = length-map outputs _

mean-count : (core : JobSpecCore) (inputs : List Outcome) → length (job_mean core inputs) ≡ length core.program.program.outputs
mean-count core inputs = outcomes-count (values inputs) core.conf core.fuel core.program.program.outputs

count-if : (n outputs : ℕ) (b : Bool) (refusals : Option ℕ) → (n == outputs) ≡ b → (if b then refusals else Some outputs_differ) ≡ None → n ≡ outputs
count-if n outputs true refusals e h = eqb-true n outputs e
count-if n outputs false refusals e h = absurd (cc)

-- where the kind rules hold there are as many outputs as the job has
kinds-count : (program : Program) (inputs outputs : ℕ) → KindsHold program inputs outputs → length program.outputs ≡ outputs
kinds-count program inputs outputs kinds = count-if (length program.outputs) outputs (length program.outputs == outputs) (refusal_in inputs program.outputs) refl kinds

-- ---- its blocks

block-files : (made : RecordId) (k : ℕ) (os : List Outcome) → map file_of (blocks_from made k os) ≡ files_from made k (length os)
block-files made k [] = refl
block-files made k (o ∷ os) = ap (λ fs. record { rec = made; out = k } ∷ fs) (block-files made (k + 1) os)

block-values : (tells : Bool) (table : Outcomes) (made : RecordId) (all : List Outcome) (k : ℕ) (os : List Outcome) →
    (tells ≡ true → slice_get table made.0 ≡ Some all) → ((i : ℕ) → slice_get os i ≡ slice_get all (k + i)) →
    AllByRecursion (λ block. tells ≡ true → block.outcome ≡ outcome_in table block.file) (blocks_from made k os)
block-values tells table made all k [] at same = tt
block-values tells table made all k (o ∷ os) at same =
    let here : slice_get all k ≡ Some o = ap (slice_get all) (let e : k ≡ k + 0 = omega arith in e) ∙ sym (same 0) in (
      λ told. sym (ap (λ x. unwrap_or (option_and_then (λ outcomes. slice_get outcomes k) x) no_outcome) (at told) ∙ ap (λ x. unwrap_or x no_outcome) here),
      block-values tells table made all (k + 1) os at (λ i. same (suc i) ∙ ap (slice_get all) (let e : k + suc i ≡ k + 1 + i = omega arith in e)),
    )

-- ---- a job that was taken up

-- the files of the blocks that it makes are its outputs
pub made-outputs : {T : Type 0} (s : Setting T) (events : Events T) (work : Work T) (blocks : List FileOutcome) → IsTakenUp s work events →
    KindsHold work.core.program.program work.core.program.inputs work.core.program.outputs → IsMade s.tells s.content work blocks →
    AreOutputs events work.rec blocks
made-outputs s events work blocks t kinds m =
    let means = job_mean work.core m.got in
    let count : length means ≡ t.outputs =
    mean-count work.core m.got ∙ kinds-count work.core.program.program work.core.program.inputs work.core.program.outputs kinds ∙ t.makes in
    ap (option_map outputs_of) t.job
    ∙ ap (λ n. Some (files_from work.rec 0 n)) (sym count)
    ∙ ap Some (sym (block-files work.rec 0 means))
    ∙ ap (λ bs. Some (map file_of bs)) (sym m.means)

-- and where told they are what its outputs hold
pub made-values : {T : Type 0} (s : Setting T) (events : Events T) (work : Work T) (blocks : List FileOutcome) → is_lawful s.header events ≡ true → IsTakenUp s work events →
    IsMade s.tells s.content work blocks → AreValues s.tells s.content events blocks
made-values s events work blocks lawful t m =
    let told : Told = events_with s.content events in
    let job : Record = kind.Job work.rec work.core t.prio t.inputs t.outputs in
    let ok = (and_parts (all_permitted lawful_judge s.header events) (is_quiet lawful_judge events) lawful).0 in
    let place : slice_get (records_of (calls_of events)) work.rec.0 ≡ Some job = ap (λ (rs : List Record). slice_get rs work.rec.0) (sym (records-with (λ _. tt) events)) ∙ t.job in
    let told_place : slice_get (records_of (calls_of told)) work.rec.0 ≡ Some job = ap (λ (rs : List Record). slice_get rs work.rec.0) (records-with s.content events) ∙ place in
    let older : HasOlderInputs job = all-get HasOlderInputs (records_of (calls_of events)) work.rec.0 job (all-ordered lawful_judge s.header events ok).older place in
    let table : Outcomes = outcomes_of (calls_of told) in
    let means : slice_get table work.rec.0 ≡ Some (job_mean work.core (map (value told) t.inputs)) =
    job-at (calls_of told) work.rec.0 work.rec work.core t.prio t.inputs t.outputs told_place older in
    let all = job_mean work.core m.got in
    subst (λ (bs : List FileOutcome). AreValues s.tells s.content events bs) (sym m.means)
    (block-values s.tells table work.rec all 0 all
    (λ tells. means ∙ ap (λ os. Some (job_mean work.core os)) (sym (m.told tells ∙ t.told tells)))
    (λ i. ap (slice_get all) (let e : i ≡ 0 + i = omega arith in e)))
