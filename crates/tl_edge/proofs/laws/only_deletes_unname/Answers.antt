use Rattle.tl_edge.proofs.Unnamed.{last-unnames-none}
use Rattle.tl_edge.proofs.laws.only_deletes_unname.Goals as goal

pub returns : goal.returns
returns g c = λ judge header event past ok other. last-unnames-none judge header event past ok other
