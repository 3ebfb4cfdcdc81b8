use Rattle.tl_text.proofs.Paths.{one_path_stands}
use Rattle.tl_text.proofs.path.one_path.Goals as goal

pub returns : goal.returns
returns c = λ text v w rest others g h. one_path_stands text v w rest others g h
