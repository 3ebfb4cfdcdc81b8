-- What sorting and dropping repeats leaves: the same files, each less than those after it.
use Rattle.std.proofs.Common.{◌≡◌, ◌∙◌, inl, inr, Bool, true, false, ◌||◌, cond, List, [], ◌∷◌, refl, ap, sym}
use Rattle.std.specs.Cmp.{IsTotalOrder}
use Rattle.std.specs.List.{dedup, dedup_from}
use Rattle.std.specs.List.Sorted.{IsStrictlySortedBy}
use Rattle.std.proofs.lemmas.Cmp.{nat_cmp_total, on_total, then_total}
use Rattle.tl_types.specs.Same.{file_cmp, file_same}
use Rattle.tl_types.specs.declared.file_id.FileId.{FileId}
use Rattle.tl_fleet.specs.Events.{among}
use Rattle.tl_fleet.specs.Order.{Ascends}
use Rattle.tl_fleet.proofs.Files.{either, same_is}

pub file_cmp-total : IsTotalOrder file_cmp
file_cmp-total = then_total (on_total (λ f. f.rec.0) nat_cmp_total) (on_total (λ f. f.out) nat_cmp_total)

pub ascends_strictly : (fs : List FileId) → IsStrictlySortedBy file_cmp fs → Ascends fs
unfolding IsStrictlySortedBy
ascends_strictly [] h = tt
ascends_strictly (f ∷ fs) h = (h.0, ascends_strictly fs h.1)

or_twice : (a b : Bool) → (a || b) ≡ (a || (a || b))
or_twice true b = refl
or_twice false b = refl

among_from : (f k : FileId) (fs : List FileId) → among f (dedup_from file_same k fs) ≡ (file_same f k || among f fs)
among_from f k [] = refl
among_from f k (g ∷ fs) = elim (either (file_same g k)) [
  | inl t ↦
      ap (λ b. among f (cond b (dedup_from file_same k fs) (k ∷ dedup_from file_same g fs))) t
      ∙ among_from f k fs ∙ or_twice (file_same f k) (among f fs)
      ∙ ap (λ h. file_same f k || (file_same f h || among f fs)) (sym (same_is g k t))
  | inr t ↦
      ap (λ b. among f (cond b (dedup_from file_same k fs) (k ∷ dedup_from file_same g fs))) t
      ∙ ap (λ b. file_same f k || b) (among_from f g fs)
]

-- dropping repeats drops no file
pub among_dedup : (f : FileId) (fs : List FileId) → among f (dedup file_same fs) ≡ among f fs
among_dedup f [] = refl
among_dedup f (g ∷ fs) = among_from f g fs
