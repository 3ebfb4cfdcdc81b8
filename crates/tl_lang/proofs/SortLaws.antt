-- `sorted` gives the one ascending list with the same texts.
use Rattle.std.proofs.Common.{◌≡◌, ◌<◌, ◌+◌, ℕ, zero, suc, Bool, true, false, if◌then◌else◌, List, [], ◌∷◌, length, get_or, sym, ◌∙◌, ap, refl, subst, arith}
use Rattle.std.specs.Prelude.{sum_by, IsPermutation, IsSorted}
use Rattle.std.specs.Ordering.{nat_cmp, is_lt, is_le, is_eq, ordering_reverse}
use Rattle.std.specs.declared.cmp.Ordering.{Ordering}
use Rattle.std.specs.declared.cmp.Ordering.TheVariants.{Less, Equal, Greater}
use Rattle.std.specs.Cmp.{IsStrictWeakOrder}
use Rattle.std.specs.Cmp.Lexicographic.{slice_cmp}
use Rattle.std.specs.List.{AllByRecursion}
use Rattle.std.proofs.lemmas.Cmp.{nat_list_cmp_total, tied_itself}
use Rattle.std.proofs.lemmas.Map.Text.{is_eq-slice_cmp}
use Rattle.std.proofs.lemmas.Slice.Eq.{bytes_eq-Decides}
use Rattle.std.proofs.lemmas.List.Elements.{recursion_from_All}
use Rattle.std.proofs.lemmas.List.Sums.{sum_by-cons}
use Rattle.std.proofs.lemmas.List.Sorted.{ranks_by, sorted_far, IsPermutation-refl, IsPermutation-cons, IsPermutation-trans, IsPermutation-middle, sum_by-IsPermutation}
use Rattle.tl_lang.specs.Lists.{put, sorted}

abbrev order : List ℕ → List ℕ → Ordering
order = slice_cmp nat_cmp

abbrev less : List ℕ → List ℕ → Bool
less s t = is_lt (order s t)

weak : IsStrictWeakOrder less
weak = ranks_by nat_list_cmp_total (λ s. s)

-- s stands no later than t
abbrev UpTo : List ℕ → List ℕ → Type 0
UpTo s t = less t s ≡ false

UpTo-refl : (s : List ℕ) → UpTo s s
UpTo-refl s = ap is_lt (tied_itself nat_list_cmp_total s)

UpTo-trans : (s t u : List ℕ) → UpTo s t → UpTo t u → UpTo s u
UpTo-trans s t u p q = weak.chain u t s q p

turned : (r q : Ordering) → (is_lt r ≡ true → is_lt q ≡ false) → is_le r ≡ true → (r ≡ Equal → is_lt q ≡ false) → is_lt q ≡ false
turned Less q f e g = f refl
turned Equal q f e g = g refl
turned Greater q f e g = absurd (cc)

equal_same : (s t : List ℕ) → order s t ≡ Equal → s ≡ t
equal_same s t e = (bytes_eq-Decides s t).0 (sym (is_eq-slice_cmp s t) ∙ ap is_eq e)

equal_back : (s t : List ℕ) → order s t ≡ Equal → UpTo s t
equal_back s t e = subst (UpTo s) (equal_same s t e) (UpTo-refl s)

UpTo-yes : (s t : List ℕ) → is_le (order s t) ≡ true → UpTo s t
UpTo-yes s t e = turned (order s t) (order t s) (λ h. weak.one_way s t h) e (equal_back s t)

not_le : (r : Ordering) → is_le r ≡ false → is_lt r ≡ false
not_le Less e = absurd (cc)
not_le Equal e = refl
not_le Greater e = refl

UpTo-no : (s t : List ℕ) → is_le (order s t) ≡ false → UpTo t s
UpTo-no s t e = not_le (order s t) e

tie : (r q : Ordering) → q ≡ ordering_reverse r → is_lt r ≡ false → is_lt q ≡ false → r ≡ Equal
tie Less q turn e d = absurd (cc)
tie Equal q turn e d = refl
tie Greater q turn e d = let h : is_lt q ≡ true = ap is_lt turn in absurd (cc)

UpTo-antisym : (s t : List ℕ) → UpTo s t → UpTo t s → s ≡ t
UpTo-antisym s t p q = equal_same s t (tie (order s t) (order t s) (nat_list_cmp_total.antisymm t s) q p)

-- ---- ascending lists

abbrev First : List ℕ → List (List ℕ) → Type 0
First s ts = AllByRecursion (UpTo s) ts

abbrev Ascends : List (List ℕ) → Type 0
Ascends [] = Unit {0}
Ascends (t ∷ ts) = First t ts × Ascends ts

First-trans : (s t : List ℕ) (ts : List (List ℕ)) → UpTo s t → First t ts → First s ts
First-trans s t [] p f = tt
First-trans s t (u ∷ ts) p f = (UpTo-trans s t u p f.0, First-trans s t ts p f.1)

First-if : (b : Bool) (s : List ℕ) (xs ys : List (List ℕ)) → (b ≡ true → First s xs) → (b ≡ false → First s ys) → First s (if b then xs else ys)
First-if true s xs ys f g = f refl
First-if false s xs ys f g = g refl

Ascends-if : (b : Bool) (xs ys : List (List ℕ)) → (b ≡ true → Ascends xs) → (b ≡ false → Ascends ys) → Ascends (if b then xs else ys)
Ascends-if true xs ys f g = f refl
Ascends-if false xs ys f g = g refl

Same-if : (b : Bool) (zs xs ys : List (List ℕ)) → IsPermutation zs xs → IsPermutation zs ys → IsPermutation zs (if b then xs else ys)
Same-if true zs xs ys f g = f
Same-if false zs xs ys f g = g

First-put : (u s : List ℕ) (ts : List (List ℕ)) → UpTo u s → First u ts → First u (put s ts)
First-put u s [] p f = (p, tt)
First-put u s (t ∷ ts) p f = First-if (is_le (order s t)) u (s ∷ t ∷ ts) (t ∷ put s ts) (λ e. (p, f)) (λ e. (f.0, First-put u s ts p f.1))

Ascends-put : (s : List ℕ) (ts : List (List ℕ)) → Ascends ts → Ascends (put s ts)
Ascends-put s [] a = (tt, tt)
Ascends-put s (t ∷ ts) a =
    Ascends-if (is_le (order s t)) (s ∷ t ∷ ts) (t ∷ put s ts)
    (λ e. let p = UpTo-yes s t e in ((p, First-trans s t ts p a.0), a))
    (λ e. (First-put t s ts (UpTo-no s t e) a.0, Ascends-put s ts a.1))

Ascends-sorted : (ts : List (List ℕ)) → Ascends (sorted ts)
Ascends-sorted [] = tt
Ascends-sorted (t ∷ ts) = Ascends-put t (sorted ts) (Ascends-sorted ts)

steps_up : (ts : List (List ℕ)) → Ascends ts → (k : ℕ) (d : List ℕ) → suc k < length ts → UpTo (get_or ts k d) (get_or ts (suc k) d)
steps_up [] a k d less = absurd (omega arith)
steps_up (t ∷ []) a k d less = absurd (omega arith)
steps_up (t ∷ u ∷ ts) a zero d less = a.0.0
steps_up (t ∷ u ∷ ts) a (suc k) d less = steps_up (u ∷ ts) a.1 k d (omega arith)

pub IsSorted-sorted : (ts : List (List ℕ)) → IsSorted order (sorted ts)
IsSorted-sorted ts k d low less =
    let next : suc k ≡ k + 1 = omega arith in
    subst (λ j. UpTo (get_or (sorted ts) k d) (get_or (sorted ts) j d)) next (steps_up (sorted ts) (Ascends-sorted ts) k d (omega arith))

IsPermutation-put : (s : List ℕ) (ts : List (List ℕ)) → IsPermutation (s ∷ ts) (put s ts)
IsPermutation-put s [] = IsPermutation-refl (s ∷ [])
IsPermutation-put s (t ∷ ts) =
    Same-if (is_le (order s t)) (s ∷ t ∷ ts) (s ∷ t ∷ ts) (t ∷ put s ts) (IsPermutation-refl (s ∷ t ∷ ts))
    (IsPermutation-trans (s ∷ t ∷ ts) (t ∷ s ∷ ts) (t ∷ put s ts) (IsPermutation-middle (s ∷ []) t ts) (IsPermutation-cons t (s ∷ ts) (put s ts) (IsPermutation-put s ts)))

pub IsPermutation-sorted : (ts : List (List ℕ)) → IsPermutation ts (sorted ts)
IsPermutation-sorted [] = IsPermutation-refl []
IsPermutation-sorted (t ∷ ts) =
    IsPermutation-trans (t ∷ ts) (t ∷ sorted ts) (put t (sorted ts)) (IsPermutation-cons t ts (sorted ts) (IsPermutation-sorted ts)) (IsPermutation-put t (sorted ts))

-- ---- there is no other

-- each sum over the one is that over the other
abbrev SameSums : List (List ℕ) → List (List ℕ) → Type 0
SameSums xs ys = (f : List ℕ → ℕ) → sum_by f xs ≡ sum_by f ys

abbrev one_if : Bool → ℕ
one_if b = if b then 1 else 0

-- 1 for a text that stands before s
abbrev before : List ℕ → List ℕ → ℕ
before s t = one_if (less t s)

before-none : (s t : List ℕ) → UpTo s t → before s t ≡ 0
before-none s t p = ap one_if p

before-zero : (b : Bool) → one_if b ≡ 0 → b ≡ false
before-zero true e = absurd (omega (arith, e))
before-zero false e = refl

none_before : (s : List ℕ) (ts : List (List ℕ)) → First s ts → sum_by (before s) ts ≡ 0
none_before s [] f = refl
none_before s (t ∷ ts) f = sum_by-cons (before s) t ts ∙ (let one = before-none s t f.0 in let rest = none_before s ts f.1 in omega (arith, one, rest))

first_of_same : (s t : List ℕ) (xs ys : List (List ℕ)) → First s xs → SameSums (s ∷ xs) (t ∷ ys) → UpTo s t
first_of_same s t xs ys f same =
    let none = none_before s (s ∷ xs) (UpTo-refl s, f) in
    let there = same (before s) in
    let parts = sum_by-cons (before s) t ys in
    before-zero (less t s) (omega (arith, none, there, parts))

SameSums-tail : (s : List ℕ) (xs ys : List (List ℕ)) → SameSums (s ∷ xs) (s ∷ ys) → SameSums xs ys
SameSums-tail s xs ys same f = let left = sum_by-cons f s xs in let right = sum_by-cons f s ys in let both = same f in omega (arith, left, right, both)

only_one : (xs ys : List (List ℕ)) → Ascends xs → Ascends ys → SameSums xs ys → xs ≡ ys
only_one [] [] a b same = refl
only_one [] (y ∷ ys) a b same = let parts = sum_by-cons (λ t. 1) y ys in let there = same (λ t. 1) in absurd (omega (arith, parts, there))
only_one (x ∷ xs) [] a b same = let parts = sum_by-cons (λ t. 1) x xs in let there = same (λ t. 1) in absurd (omega (arith, parts, there))
only_one (x ∷ xs) (y ∷ ys) a b same =
    let head : x ≡ y = UpTo-antisym x y (first_of_same x y xs ys a.0 same) (first_of_same y x ys xs b.0 (λ f. sym (same f))) in
    let rest : SameSums xs ys = SameSums-tail y xs ys (subst (λ z. SameSums (z ∷ xs) (y ∷ ys)) head same) in
    let tail : xs ≡ ys = only_one xs ys a.1 b.1 rest in
    cc

First-from_IsSorted : (t : List ℕ) (ts : List (List ℕ)) → IsSorted order (t ∷ ts) → First t ts
First-from_IsSorted t ts up = recursion_from_All (UpTo t) ts (λ k d less_than. sorted_far less weak (t ∷ ts) up 0 (suc k) d (omega arith) (omega arith))

IsSorted-tail : (t : List ℕ) (ts : List (List ℕ)) → IsSorted order (t ∷ ts) → IsSorted order ts
IsSorted-tail t ts up k d low less_than =
    let next : suc k + 1 ≡ suc (k + 1) = omega arith in
    subst (λ j. UpTo (get_or ts k d) (get_or (t ∷ ts) j d)) next (up (suc k) d (omega arith) (omega arith))

Ascends-from_IsSorted : (ts : List (List ℕ)) → IsSorted order ts → Ascends ts
Ascends-from_IsSorted [] up = tt
Ascends-from_IsSorted (t ∷ ts) up = (First-from_IsSorted t ts up, Ascends-from_IsSorted ts (IsSorted-tail t ts up))

pub sorted-only : (ts us : List (List ℕ)) → IsPermutation ts us → IsSorted order us → us ≡ sorted ts
sorted-only ts us moved up =
    only_one us (sorted ts) (Ascends-from_IsSorted us up) (Ascends-sorted ts)
    (λ f. sum_by-IsPermutation f ts us moved ∙ sym (sum_by-IsPermutation f ts (sorted ts) (IsPermutation-sorted ts)))
