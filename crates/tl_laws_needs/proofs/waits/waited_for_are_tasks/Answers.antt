use Rattle.tl_model.specs.Past.{without_tickets}
use Rattle.tl_laws_needs.proofs.Sound.{sound-of}
use Rattle.tl_laws_needs.proofs.Waiting.{waited-is-task}
use Rattle.tl_laws_needs.proofs.waits.waited_for_are_tasks.Goals as goal

pub returns : goal.returns
returns g c = λ judge header events h i j reader maker at_r at_q waiting.
    waited-is-task (without_tickets events) (sound-of judge header events h) i j reader maker at_r at_q waiting
