use Rattle.std.proofs.lemmas.Bool.{and_parts}
use Rattle.tl_model.specs.Rules.{all_permitted, is_quiet, lawful_judge}
use Rattle.tl_lineage.proofs.Lawful.{permitted-stand}
use Rattle.tl_lineage.proofs.laws.lawful_journals_have_slots.Goals as goal

pub returns : goal.returns
returns g c = λ header past lawful.
    permitted-stand lawful_judge header past (and_parts (all_permitted lawful_judge header past) (is_quiet lawful_judge past) lawful).0
