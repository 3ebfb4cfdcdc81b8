use Rattle.tl_laws_drops.proofs.Choosing.{numbered-one}
use Rattle.tl_laws_drops.proofs.choice.numbered_records_are_one_of_each.Goals as goal

pub returns : goal.returns
returns c = λ rs n. numbered-one rs n
