use Rattle.std.proofs.Common.{◌≡◌, drop}
use Rattle.tl_prio.specs.Data.{all_raised}
use Rattle.tl_prio.proofs.waiting.raise_all.Given as goal

abbrev pub invariant-loop-input : goal.invariant-loop-input
invariant-loop-input l = all_raised l.prio l.records (drop l.input-index l.inputs) l.waiting ≡ all_raised l.prio l.records l.inputs l.initial.waiting
