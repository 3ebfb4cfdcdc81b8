use Rattle.std.proofs.Common.{rules, ◌∙◌, ap, sym}
use Rattle.std.proofs.lemmas.List.Filters.{dedup_is}
use Rattle.std.proofs.lemmas.List.Kept.{IsStrictlySortedBy-dedup}
use Rattle.std.proofs.lemmas.List.Sorted.{list_any-IsPermutation}
use Rattle.tl_types.specs.Same.{file_same}
use Rattle.tl_fleet.specs.Events.{among}
use Rattle.tl_fleet.proofs.Sorted.{among_dedup, ascends_strictly, file_cmp-total}
use Rattle.tl_fleet.proofs.sorts.put_in_order.Goals as goal

pub returns-clause-ascends : goal.returns-clause-ascends
returns-clause-ascends c =
    rw (dedup_is _ _ _ c.dedup.ensures.filtered)
    (ascends_strictly _ (IsStrictlySortedBy-dedup file_cmp-total {E = file_same} (λ x y. search rules) _ c.sort_unstable.ensures.sorted))

pub returns-clause-same : goal.returns-clause-same
returns-clause-same c f =
    ap (among f) (dedup_is file_same _ _ c.dedup.ensures.filtered)
    ∙ among_dedup f c.sort_unstable.new.self.items
    ∙ sym (list_any-IsPermutation (file_same f) _ _ c.sort_unstable.ensures.permutation)
