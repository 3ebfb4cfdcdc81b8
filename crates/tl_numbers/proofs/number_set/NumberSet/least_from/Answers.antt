use Rattle.std.proofs.Common.{Bool, List, subst, arith}
use Rattle.tl_numbers.specs.Members.{IsLeastFrom}
use Rattle.tl_numbers.proofs.Rows.{unmarked-past}
use Rattle.tl_numbers.proofs.Views.{least-from}
use Rattle.tl_numbers.proofs.number_set.NumberSet.least_from.Goals as goal

pub first_from-found-requires-clause-after : goal.first_from-found-requires-clause-after
first_from-found-requires-clause-after c k from =
    rw c.deref.ensures.value (unmarked-past c.self.inside.fourth.items k (omega (arith, from, c.self.invariant.fourth_short)))

pub returns : goal.returns
returns c =
    let found = rw c.deref-4.ensures.value at c.first_from.ensures in
    subst (λ (members : List Bool). IsLeastFrom members c.args.n c.first_from.result) c.self.view_is
    (least-from c.self.inside.bound c.self.inside.first.items c.self.invariant.none_past c.args.n c.first_from.result found)
