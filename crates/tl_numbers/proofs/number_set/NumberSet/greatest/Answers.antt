use Rattle.std.proofs.Common.{◌∙◌, length, ap, sym}
use Rattle.tl_numbers.proofs.Views.{greatest-of, length-members}
use Rattle.tl_numbers.proofs.number_set.NumberSet.greatest.Goals as goal

pub returns : goal.returns
returns c =
    let size = ap length (sym c.self.view_is) ∙ length-members c.self.inside.bound c.self.inside.first.items in
    greatest-of c.args.self.now c.self.inside.bound size c.greatest_below.result c.greatest_below.ensures
