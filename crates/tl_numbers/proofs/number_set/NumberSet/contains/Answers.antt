use Rattle.std.proofs.Common.{◌==◌, ◌∙◌, ◌↔◌, IsTrue, Bool, List, ℕ, ap, subst}
use Rattle.tl_numbers.specs.Layers.{bit_in}
use Rattle.tl_numbers.specs.Members.{IsMember}
use Rattle.tl_numbers.proofs.Views.{contains-by}
use Rattle.tl_numbers.proofs.number_set.NumberSet.contains.Goals as goal

pub returns : goal.returns
returns c =
    let old = c.self.inside in
    let test = c.bit.ensures ∙ ap (λ (words : List ℕ). bit_in words c.args.n == 1) c.deref.ensures.value in
    subst (λ (members : List Bool). IsTrue c.bit.result ↔ IsMember members c.args.n) c.self.view_is
    (contains-by old.bound old.first.items c.self.invariant.none_past c.args.n c.bit.result test)
