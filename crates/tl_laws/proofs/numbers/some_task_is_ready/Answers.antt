use Rattle.tl_model.specs.Past.{without_tickets}
use Rattle.tl_laws.proofs.Ready.{lawful-rests, resting-next}
use Rattle.tl_laws.proofs.numbers.some_task_is_ready.Goals as goal

pub returns : goal.returns
returns g c = λ header past lawful idle i r at task. resting-next header.order (without_tickets past) (lawful-rests header past lawful idle) i r at task
