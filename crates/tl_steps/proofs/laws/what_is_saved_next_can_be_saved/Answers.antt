use Rattle.tl_steps.proofs.Saving.{can-parts, next-can}
use Rattle.tl_steps.proofs.laws.what_is_saved_next_can_be_saved.Goals as goal

pub returns-clause-named : goal.returns-clause-named
returns-clause-named c = λ header past f is. (can-parts past f (next-can header past f is)).named

pub returns-clause-resident : goal.returns-clause-resident
returns-clause-resident c = λ header past f is. (can-parts past f (next-can header past f is)).resident

pub returns-clause-unsaved : goal.returns-clause-unsaved
returns-clause-unsaved c = λ header past f is. (can-parts past f (next-can header past f is)).unsaved

pub returns-clause-idle : goal.returns-clause-idle
returns-clause-idle c = λ header past f is. (can-parts past f (next-can header past f is)).idle
