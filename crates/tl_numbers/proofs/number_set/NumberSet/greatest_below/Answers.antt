use Rattle.std.proofs.Common.{Bool, List, subst}
use Rattle.tl_numbers.specs.Members.{IsGreatestBelow}
use Rattle.tl_numbers.proofs.Views.{greatest-below}
use Rattle.tl_numbers.proofs.number_set.NumberSet.greatest_below.Goals as goal

pub returns : goal.returns
returns c =
    let found = rw (c.deref-4.ensures.value, c.min-first.ensures) at c.last_below.ensures in
    subst (λ (members : List Bool). IsGreatestBelow members c.args.n c.last_below.result) c.self.view_is
    (greatest-below c.self.inside.bound c.self.inside.first.items c.args.n c.last_below.result found)
