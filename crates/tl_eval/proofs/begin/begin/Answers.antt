use Rattle.std.proofs.Common.{◌≡◌, ◌<◌, Some, None, sym, ◌∙◌, ap, refl, arith, map}
use Rattle.std.specs.Prelude.{option_map}
use Rattle.tl_lang.specs.Mean.{values}
use Rattle.tl_eval.specs.Materials.{entry_of}
use Rattle.tl_eval.proofs.Beginning.{input_faults, no_fuel_left, no_output, goes}
use Rattle.tl_eval.proofs.begin.begin.Goals as goal

pub returns-in_default : goal.returns-in_default
returns-in_default c =
    let none : None ≡ values c.args.inputs.items = sym (ap (option_map (λ v. v.items)) c.in_default.is) ∙ c.in_ok-inputs.ensures in
    input_faults _ c.args.job.now c.args.inputs.items _ (c.as_slice-outputs.ensures ∙ ap (λ p. p.outputs) c.program.ensures.value) none c.over.ensures

pub returns-then-job-eq0 : goal.returns-then-job-eq0
returns-then-job-eq0 c =
    let some : Some c.in-Some.inputs.items ≡ values c.args.inputs.items = sym (ap (option_map (λ v. v.items)) c.in-Some.is) ∙ c.in_ok-inputs.ensures in
    no_fuel_left _ c.args.job.now c.args.inputs.items _ c.in-Some.inputs.items (c.as_slice-outputs.ensures ∙ ap (λ p. p.outputs) c.program.ensures.value) some c.if-job-eq0.true c.over-then-job-eq0.ensures

pub returns-in_default-get : goal.returns-in_default-get
returns-in_default-get c =
    no_output _ c.args.job.now c.args.inputs.items _ _ c.in_ok-roots.roots _ (c.as_slice-outputs.ensures ∙ ap (λ p. p.outputs) c.program.ensures.value) c.in_default-get.ensures.value c.in_ok-roots.ensures c.over-in_default-get.ensures

pub returns : goal.returns
returns c =
    let some : Some c.in-Some.inputs.items ≡ values c.args.inputs.items = sym (ap (option_map (λ v. v.items)) c.in-Some.is) ∙ c.in_ok-inputs.ensures in
    let small : c.outputs.result < 256 = omega (arith, c.outputs.type_inv) in
    let conf = ap (map entry_of) c.as_slice-2.ensures.value ∙ c.in_ok-entries.ensures ∙ c.pairs.ensures.value in
    goes c.args.job.now c.args.inputs.items _ c.in-Some.inputs.items _ _ c.in-Some-get.root.now c.outputs.result refl c.if-job-eq0.false refl refl c.in_ok-outcomes.ensures.items c.new.ensures c.in_ok-node.ensures c.in-Some-get.ensures.value
    (c.as_slice-outputs.ensures ∙ ap (λ p. p.outputs) c.program.ensures.value) c.outputs.ensures.value small c.outputs.ensures.kinds some
    (λ i. record { inputs = c.as_slice.ensures.value i; conf = conf i }) c.in_ok-roots.ensures
