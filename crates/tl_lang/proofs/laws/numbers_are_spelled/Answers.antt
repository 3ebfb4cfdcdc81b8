use Rattle.tl_lang.proofs.NumberLaws.{num-signed_decimal, num-Ok}
use Rattle.tl_lang.proofs.laws.numbers_are_spelled.Goals as goal

pub returns-clause-read : goal.returns-clause-read
returns-clause-read c n fits = num-signed_decimal n fits

pub returns-clause-spelled : goal.returns-clause-spelled
returns-clause-spelled c s n e = (num-Ok s n e).1

pub returns-clause-fits : goal.returns-clause-fits
returns-clause-fits c s n e = (num-Ok s n e).0
