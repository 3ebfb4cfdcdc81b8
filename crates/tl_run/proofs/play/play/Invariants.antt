use Rattle.std.proofs.Common.{◌≡◌, ◌++◌, List, reverse, vec_len}
use Rattle.std.specs.List.{AllByRecursion}
use Rattle.tl_core.specs.Answers.{past_of}
use Rattle.tl_client.specs.Rest.{AllAtRest}
use Rattle.tl_script.specs.declared.script.Line.{Line}
use Rattle.tl_run.specs.Plays.{IsLine, Played}
use Rattle.tl_run.proofs.play.play.Given as goal

abbrev pub invariant-lines : goal.invariant-lines
invariant-lines l = record {
  played : (done : List Line) × (reverse l.fn.lines.items ≡ l.rest.items ++ done) × Played l.fn.header done l.cluster.events l.printed.items;
  lines : AllByRecursion (IsLine l.fn.header) (reverse l.rest.items);
  rest : AllAtRest (past_of l.cluster);
  header : l.cluster.header ≡ l.fn.header;
}

abbrev pub decreases-lines : goal.decreases-lines
decreases-lines l = vec_len l.rest
