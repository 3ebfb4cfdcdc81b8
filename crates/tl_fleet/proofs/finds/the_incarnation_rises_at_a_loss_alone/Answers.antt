use Rattle.tl_store.specs.Contents.{touched, without}
use Rattle.tl_fleet.specs.Workers.{put_front}
use Rattle.tl_fleet.proofs.Incarnations.{changed_same, lost_raises, mapped_same}
use Rattle.tl_fleet.proofs.finds.the_incarnation_rises_at_a_loss_alone.Goals as goal

pub returns-clause-installed : goal.returns-clause-installed
returns-clause-installed c = λ v w block ws. changed_same (put_front block) v.0 w.0 ws

pub returns-clause-touched : goal.returns-clause-touched
returns-clause-touched c = λ v f ws. mapped_same (touched f) v.0 ws

pub returns-clause-freed : goal.returns-clause-freed
returns-clause-freed c = λ v f ws. mapped_same (without f) v.0 ws

pub returns-clause-changed : goal.returns-clause-changed
returns-clause-changed c = λ v w change ws. changed_same change v.0 w.0 ws

pub returns-clause-lost : goal.returns-clause-lost
returns-clause-lost c = lost_raises
