use Rattle.std.proofs.Common.{◌≡◌, drop}
use Rattle.tl_lang.specs.Kinds.{refusal_in}
use Rattle.tl_kind.proofs.kinds.check_outputs.Given as goal

abbrev pub invariant-loop-output : goal.invariant-loop-output
invariant-loop-output l = refusal_in l.inputs (drop l.output-index l.outputs) ≡ refusal_in l.inputs l.outputs
