use Rattle.std.proofs.Common.{Ok, refl, ap, length, arith, w64}
use Rattle.std.proofs.lemmas.Int.{to_z-of_z}
use Rattle.std.specs.Fmt.{signed_decimal}
use Rattle.tl_text.specs.Signed.{IsSigned}
use Rattle.tl_text.proofs.SignedNumbers.{one_signed_stands}
use Rattle.tl_text.proofs.Places.{refusal_from, only_reading}
use Rattle.tl_text.proofs.signed.read_signed.Goals as goal

pub returns-in-Ok-clause-only : goal.returns-in-Ok-clause-only
returns-in-Ok-clause-only c = λ z rest stands. rw (to_z-of_z w64 c.in-Ok.number (record { sfits = c.in-Ok.ensures.found.fits.sfits })) (ap (λ r. Ok r) (only_reading IsSigned (λ z. length (signed_decimal z)) c.args.text.now c.args.at c.in-Ok.len c.in-Ok.number z _ rest one_signed_stands c.in-Ok.ensures.found c.in-Ok.ensures.length stands))

pub returns-in-Err-clause-bad : goal.returns-in-Err-clause-bad
returns-in-Err-clause-bad c = (refl, omega arith, refusal_from IsSigned c.args.text.now c.args.at c.in-Err.offset c.in-Err.ensures.bad)
