use Rattle.tl_text.proofs.Digests.{one_digest_stands}
use Rattle.tl_text.proofs.digest.one_digest.Goals as goal

pub returns : goal.returns
returns c = λ text v w rest others g h. one_digest_stands text v w rest others g h
