use Rattle.std.proofs.Common.{◌≡◌, All, vec_len}
use Rattle.tl_names.specs.Answers.{HasFewOutputs}
use Rattle.tl_bench.proofs.names.commands_of.Given as goal

abbrev pub invariant-loop-k : goal.invariant-loop-k
invariant-loop-k l = record {
  count : vec_len l.commands ≡ l.k;
  few : All HasFewOutputs l.commands.items;
}
