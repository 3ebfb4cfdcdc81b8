use Rattle.tl_edge.proofs.Once.{last-unnames-one}
use Rattle.tl_edge.proofs.laws.a_delete_unnames_its_file.Goals as goal

pub returns : goal.returns
returns g c = λ judge header event past ok path is. last-unnames-one judge header event past ok path is
