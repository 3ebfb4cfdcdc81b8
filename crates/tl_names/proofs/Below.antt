-- Which paths lie at or below another.
use Rattle.std.proofs.Common.{◌≡◌, ℕ, ◌+◌, ◌<◌, true, false, List, [], ◌∷◌, ◌++◌, length, drop, refl, sym, ap, ◌∙◌, arith, length-append}
use Rattle.std.proofs.lemmas.Slice.Eq.{starts_is, bytes_eq-Decides}
use Rattle.std.proofs.lemmas.Bool.{true≢false, false_from_ne_true}
use Rattle.tl_types.specs.Same.{path_same, path_same-Decides}
use Rattle.tl_model.specs.Namespace.{PathOf, is_below}

-- the components by which a path lies below another
pub below_rest : (path above : PathOf) → is_below path above ≡ true → path ≡ above ++ drop (length above) path
below_rest path above below = (starts_is bytes_eq-Decides path above (is_below path above) refl).0 below

pub is_below-append : (above rest : PathOf) → is_below (above ++ rest) above ≡ true
is_below-append above rest = (starts_is bytes_eq-Decides (above ++ rest) above (is_below (above ++ rest) above) refl).1 rest refl

pub below_from : (path above rest : PathOf) → path ≡ above ++ rest → is_below path above ≡ true
below_from path above rest is = (starts_is bytes_eq-Decides path above (is_below path above) refl).1 rest is

pub not_below : (path above : PathOf) → is_below path above ≡ false → (rest : PathOf) → path ≡ above ++ rest → ⊥
not_below path above apart rest is = true≢false (sym (below_from path above rest is) ∙ apart)

pub paths_apart : (p q : PathOf) → (p ≡ q → ⊥) → path_same p q ≡ false
paths_apart p q apart = false_from_ne_true (path_same p q) (λ same. apart ((path_same-Decides p q).0 same))

pub same_path : (p : PathOf) → path_same p p ≡ true
same_path p = (path_same-Decides p p).1 refl

-- a front of a path is not longer
pub front_short : (path : PathOf) (m : List ℕ) (r s : PathOf) (n : List ℕ) (above : PathOf) → path ≡ m ∷ r ++ s → m ∷ r ≡ above ++ n ∷ [] → length above < length path
front_short path m r s n above is same =
    let long : length path ≡ length (m ∷ r) + length s = ap length is ∙ length-append (m ∷ r) s in
    let front : length (m ∷ r) ≡ length above + length (n ∷ []) = ap length same ∙ length-append above (n ∷ []) in
    omega arith
