use Rattle.tl_eval.proofs.Pieces.{over_here}
use Rattle.tl_eval.proofs.split.front_pieces.Goals as goal

pub returns-then-not-fits : goal.returns-then-not-fits
returns-then-not-fits c =
    over_here c.args.byte _ c.loop-piece.rest.now _ _ _ _ c.loop-piece.invariant c.in-Some.ensures.cut c.in_ok-fits.ensures.fits c.if-not-fits.true
