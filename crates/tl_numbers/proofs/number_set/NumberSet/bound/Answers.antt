use Rattle.std.proofs.Common.{◌∙◌, ap, sym, length}
use Rattle.tl_numbers.proofs.Views.{length-members}
use Rattle.tl_numbers.proofs.number_set.NumberSet.bound.Goals as goal

pub returns : goal.returns
returns c = sym (length-members c.self.inside.bound c.self.inside.first.items) ∙ ap length c.self.view_is
