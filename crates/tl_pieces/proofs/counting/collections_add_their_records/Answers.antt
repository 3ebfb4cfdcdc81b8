use Rattle.tl_pieces.proofs.Pieced.{let-go-adds}
use Rattle.tl_pieces.proofs.counting.collections_add_their_records.Goals as goal

pub returns : goal.returns
returns g c = λ s records before after r. let-go-adds s records before after r
