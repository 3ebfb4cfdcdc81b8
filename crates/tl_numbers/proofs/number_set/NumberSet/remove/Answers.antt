use Rattle.std.proofs.Common.{false, length, ap, sym, arith}
use Rattle.std.proofs.lemmas.List.{set_past}
use Rattle.tl_numbers.proofs.Views.{length-members}
use Rattle.tl_numbers.proofs.number_set.NumberSet.remove.Goals as goal

pub set-requires : goal.set-requires
set-requires c =
    let size = length-members c.self.inside.bound c.self.inside.first.items in
    omega (arith, size, ap length c.self.view_is, c.if-n-self.true)

pub returns-else-n-self : goal.returns-else-n-self
returns-else-n-self c =
    let size = length-members c.self.inside.bound c.self.inside.first.items in
    sym (set_past c.args.self.now c.args.n false (omega (arith, size, ap length c.self.view_is, c.if-n-self.false)))
