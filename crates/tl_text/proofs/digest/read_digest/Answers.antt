use Rattle.std.proofs.Common.{refl}
use Rattle.std.proofs.lemmas.List.{take_rest, drop-drop}
use Rattle.tl_text.proofs.Digests.{one_digest_stands}
use Rattle.tl_text.proofs.digest.read_digest.Goals as goal

pub returns-in-Ok-clause-found : goal.returns-in-Ok-clause-found
returns-in-Ok-clause-found c = rw (← drop-drop 64 c.args.at c.args.text.now) (rw (take_rest c.args.text.now c.args.at) at c.in-Ok.ensures.found)

pub returns-in-Ok-clause-only : goal.returns-in-Ok-clause-only
returns-in-Ok-clause-only c = λ bytes rest h.
    ((one_digest_stands _ c.in-Ok.digest.0 bytes _ rest (rw (take_rest c.args.text.now c.args.at) at c.in-Ok.ensures.found) h).0, refl)
