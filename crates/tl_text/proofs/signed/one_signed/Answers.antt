use Rattle.tl_text.proofs.SignedNumbers.{one_signed_stands}
use Rattle.tl_text.proofs.signed.one_signed.Goals as goal

pub returns : goal.returns
returns c = λ text v w rest others g h. one_signed_stands text v w rest others g h
