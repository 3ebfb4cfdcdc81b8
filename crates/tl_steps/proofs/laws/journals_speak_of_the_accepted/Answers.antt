use Rattle.tl_model.specs.Rules.{lawful_judge}
use Rattle.tl_steps.proofs.Within.{all-within}
use Rattle.tl_steps.proofs.laws.journals_speak_of_the_accepted.Goals as goal

pub returns : goal.returns
returns g c = λ header past permitted. all-within lawful_judge header past permitted
