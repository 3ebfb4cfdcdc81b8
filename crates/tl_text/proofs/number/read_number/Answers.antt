use Rattle.std.proofs.Common.{Ok, refl, ap, length, arith}
use Rattle.std.specs.Fmt.{decimal}
use Rattle.tl_text.specs.Number.{IsNumber}
use Rattle.tl_text.proofs.Numbers.{one_number_stands}
use Rattle.tl_text.proofs.Places.{refusal_from, only_reading}
use Rattle.tl_text.proofs.number.read_number.Goals as goal

pub returns-in-Ok-clause-only : goal.returns-in-Ok-clause-only
returns-in-Ok-clause-only c = λ n rest stands. ap (λ r. Ok r) (only_reading (IsNumber 18446744073709551615) (λ n. length (decimal n)) c.args.text.now c.args.at c.in-Ok.len c.in-Ok.number n _ rest (λ text v w r s g h. one_number_stands 18446744073709551615 v w text r s (omega arith) g h) c.in-Ok.ensures.found c.in-Ok.ensures.length stands)

pub returns-in-Err-clause-bad : goal.returns-in-Err-clause-bad
returns-in-Err-clause-bad c = (refl, omega arith, refusal_from (IsNumber 18446744073709551615) c.args.text.now c.args.at c.in-Err.offset c.in-Err.ensures.bad)
