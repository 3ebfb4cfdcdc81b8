use Rattle.std.proofs.Common.{◌∙◌, List, ℕ, false, length, replicate, ap, sym}
use Rattle.tl_numbers.specs.Layers.{bit_in}
use Rattle.tl_numbers.proofs.Layering.{erased, erased-bit}
use Rattle.tl_numbers.proofs.Views.{length-members, members-erased}
use Rattle.tl_numbers.proofs.number_set.NumberSet.clear.Goals as goal

pub invariant_of-self : goal.invariant_of-self
invariant_of-self c =
    rw (c.erase.ensures, c.erase-2.ensures, c.erase-3.ensures, c.erase-4.ensures) (erased _ _ _ _ _ c.self.invariant)

pub returns : goal.returns
returns c =
    let old = c.self.inside in
    members-erased old.bound c.erase.new.words.items (λ k. ap (λ (words : List ℕ). bit_in words k) c.erase.ensures ∙ erased-bit _ k)
    ∙ ap (λ n. replicate n false) (sym (length-members old.bound old.first.items) ∙ ap length c.self.view_is)
