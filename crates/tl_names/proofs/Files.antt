-- The list of files in their order.
use Rattle.std.proofs.Common.{◌≡◌, refl, sym, ap, ◌∙◌}
use Rattle.std.specs.Prelude.{◌==◌, ◌&&◌}
use Rattle.std.specs.Cmp.{unsigned_ties}
use Rattle.std.specs.Ordering.{is_eq, nat_cmp, ordering_then}
use Rattle.std.specs.declared.cmp.Ordering.{Ordering}
use Rattle.std.specs.declared.cmp.Ordering.TheVariants.{Less, Equal, Greater}
use Rattle.tl_types.specs.Same.{file_cmp, file_same, file_same-Decides}
use Rattle.tl_types.specs.declared.file_id.FileId.{FileId}
use Rattle.tl_names.proofs.Entries.{IsKeyed}

file_ties : (a b : FileId) → is_eq (file_cmp a b) ≡ file_same a b
file_ties a b =
    then_eq (nat_cmp a.rec.0 b.rec.0) (nat_cmp a.out b.out)
    ∙ ap (λ t. t && is_eq (nat_cmp a.out b.out)) (sym (unsigned_ties a.rec.0 b.rec.0))
    ∙ ap (λ t. (a.rec.0 == b.rec.0) && t) (sym (unsigned_ties a.out b.out))
  where
    then_eq : (x y : Ordering) → is_eq (ordering_then x y) ≡ (is_eq x && is_eq y)
    then_eq Less y = refl
    then_eq Equal y = refl
    then_eq Greater y = refl

pub by_file : IsKeyed file_cmp file_same
by_file = record { ties = file_ties; decides = file_same-Decides }
