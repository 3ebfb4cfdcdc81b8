use Rattle.std.proofs.Common.{ℕ, ◌+◌, ◌≤◌, List, ◌++◌, length}
use Rattle.tl_script.specs.declared.bad_kind.BadKind.{BadKind}
use Rattle.tl_script.specs.declared.script.Line.{Line}
use Rattle.tl_script.specs.Lines.{lines_of}
use Rattle.tl_script.specs.Script.{SayAll, IsFirstBad}
use Rattle.tl_script.proofs.parsing.entries.Given as goal

abbrev pub invariant-loop-rest : goal.invariant-loop-rest
invariant-loop-rest l = record {
  count : l.number + length l.rest ≤ 2 + length l.text;
  read : (more : List Line) → SayAll l.header l.number (lines_of l.rest) more → SayAll l.header 2 (lines_of l.text) (l.entries.items ++ more);
  refused : (at : ℕ) (kind : BadKind) → IsFirstBad l.header l.number (lines_of l.rest) at kind → IsFirstBad l.header 2 (lines_of l.text) at kind;
}

abbrev pub decreases-loop-rest : goal.decreases-loop-rest
decreases-loop-rest l = length l.rest
