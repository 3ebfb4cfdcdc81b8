use Rattle.tl_steps.proofs.Saving.{all-once}
use Rattle.tl_steps.proofs.laws.a_file_is_saved_by_one_actor.Goals as goal

pub returns-clause-unsaved : goal.returns-clause-unsaved
returns-clause-unsaved g c = λ judge header past ok actor f is. (all-once judge header past ok).unsaved actor f is

pub returns-clause-alone : goal.returns-clause-alone
returns-clause-alone g c = λ judge header past ok a b f is other. (all-once judge header past ok).alone a b f is other
