use Rattle.std.proofs.Common.{◌∙◌, ap, subst, Ok}
use Rattle.std.specs.Prelude.{IsPermutation}
use Rattle.tl_lang.specs.Value.{list}
use Rattle.tl_lang.proofs.SortLaws.{sorted-only}
use Rattle.tl_eval.proofs.lists.sort.Goals as goal

pub returns : goal.returns
returns c =
    let moved = subst (λ ts. IsPermutation ts c.sort.new.self.items) c.in_ok-sorted.ensures c.in_ok-sort.ensures.permutation in
    ap (λ ts. Ok (list ts)) (c.in_ok-new.ensures ∙ c.from_vec.ensures ∙ sorted-only c.args.texts.now c.sort.new.self.items moved c.in_ok-sort.ensures.sorted)
