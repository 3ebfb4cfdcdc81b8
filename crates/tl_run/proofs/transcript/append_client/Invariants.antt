use Rattle.std.proofs.Common.{◌≡◌, ◌++◌, length}
use Rattle.tl_run.specs.Plays.{client_text}
use Rattle.tl_run.proofs.transcript.append_client.Given as goal

abbrev pub invariant-lines : goal.invariant-lines
invariant-lines l = l.text.items ++ client_text l.fn.client l.rest ≡ l.fn.text.items ++ client_text l.fn.client l.fn.printed

abbrev pub decreases-lines : goal.decreases-lines
decreases-lines l = length l.rest
