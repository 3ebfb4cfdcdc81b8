use Rattle.tl_pieces.proofs.Begun.{run-adds}
use Rattle.tl_pieces.proofs.running.a_run_adds_its_claim_and_end.Goals as goal

pub returns : goal.returns
returns g c = λ s worker is_so run before after r. run-adds s worker is_so run before after r
