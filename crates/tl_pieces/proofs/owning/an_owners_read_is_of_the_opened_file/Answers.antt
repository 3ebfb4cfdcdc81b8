use Rattle.tl_pieces.proofs.Owners.{owned-read}
use Rattle.tl_pieces.proofs.owning.an_owners_read_is_of_the_opened_file.Goals as goal

pub returns : goal.returns
returns g c = λ s count command number block f before after whole is l. owned-read s command number block f before after whole is l.ended
