use Rattle.tl_text.proofs.Quotes.{one_quoted_stands}
use Rattle.tl_text.proofs.quoted.one_quoted.Goals as goal

pub returns : goal.returns
returns c = λ text v w rest others g h. one_quoted_stands text v w rest others g h
