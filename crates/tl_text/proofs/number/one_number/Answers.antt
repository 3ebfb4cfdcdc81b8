use Rattle.std.proofs.Common.{arith}
use Rattle.tl_text.proofs.Numbers.{one_number_stands}
use Rattle.tl_text.proofs.number.one_number.Goals as goal

pub returns : goal.returns
returns c = λ text v w rest others g h. one_number_stands 18446744073709551615 v w text rest others (omega arith) g h
