use Rattle.tl_laws_progress.proofs.OpenReads.{waiting-read-has-next}
use Rattle.tl_laws_progress.proofs.a_read_that_waits_has_a_next.Goals as goal

pub returns : goal.returns
returns g c = λ header events lawful idle actor read is missing. waiting-read-has-next header events lawful idle actor read is missing
