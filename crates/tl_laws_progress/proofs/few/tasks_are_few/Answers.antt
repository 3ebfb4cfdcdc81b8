use Rattle.std.proofs.lemmas.Bool.{and_parts}
use Rattle.tl_model.specs.Rules.{all_permitted, is_quiet, lawful_judge}
use Rattle.tl_laws_progress.proofs.Counting.{past-few, tasks-counted, tasks-few}
use Rattle.tl_laws_progress.proofs.few.tasks_are_few.Goals as goal

pub returns-clause-among : goal.returns-clause-among
returns-clause-among g c = λ past. tasks-few past

pub returns-clause-limited : goal.returns-clause-limited
returns-clause-limited g c = λ header events lawful.
    past-few lawful_judge header events (and_parts (all_permitted lawful_judge header events) (is_quiet lawful_judge events) lawful).0

pub returns-clause-few : goal.returns-clause-few
returns-clause-few g c = λ header events lawful.
    tasks-counted lawful_judge header events (and_parts (all_permitted lawful_judge header events) (is_quiet lawful_judge events) lawful).0
