use Rattle.tl_pieces.proofs.Begun.{lost-by-others}
use Rattle.tl_pieces.proofs.running.a_run_is_lost_by_others_alone.Goals as goal

pub returns : goal.returns
returns g c = λ s worker is_so run before after r lost. lost-by-others s worker is_so run before after r lost
