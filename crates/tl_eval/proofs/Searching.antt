-- Where a text stands in another, and where a text is cut at a byte.
use Rattle.std.proofs.Common.{◌≡◌, ◌≤◌, ◌<◌, ◌+◌, ℕ, zero, suc, true, ◌==◌, List, [], ◌∷◌, length, take, drop, get_or, Option, None, Some, sym, ◌∙◌, ap, refl, subst, arith, ⊎_elim}
use Rattle.std.specs.Prelude.{nat_eq}
use Rattle.std.specs.List.{slice_split, onto_first}
use Rattle.std.specs.Option.{is_some}
use Rattle.std.specs.Cmp.Lexicographic.{pointwise}
use Rattle.std.proofs.lemmas.Bool.{and_parts, and_from, or_cases, or_left, or_right, eq-eqb, eqb-true, false_from_ne_true}
use Rattle.std.proofs.lemmas.List.Splits.{slice_split-cons_yes, slice_split-cons_no}
use Rattle.memchr.specs.Find.{OccursAt, FindsNeedle, IsFirstByte, is_byte}
use Rattle.tl_lang.specs.Texts.{occurs}

-- ---- one text in another

starts_from : (s t : List ℕ) → length t ≤ length s → ((j : ℕ) → j < length t → get_or s j 0 ≡ get_or t j 0) → pointwise nat_eq t (take (length t) s) ≡ true
starts_from s [] fits reads = refl
starts_from [] (y ∷ t) fits reads = absurd (omega arith)
starts_from (x ∷ s) (y ∷ t) fits reads =
    and_from (nat_eq y x) _ (eq-eqb y x (sym (reads 0 (omega arith)))) (starts_from s t (omega arith) (λ j less. reads (suc j) (omega arith)))

reads_cons : (s t : List ℕ) (x y : ℕ) → x ≡ y → ((j : ℕ) → j < length t → get_or s j 0 ≡ get_or t j 0) → (j : ℕ) → j < length (y ∷ t) → get_or (x ∷ s) j 0 ≡ get_or (y ∷ t) j 0
reads_cons s t x y first rest zero less = first
reads_cons s t x y first rest (suc j) less = rest j (omega arith)

starts_to : (s t : List ℕ) → pointwise nat_eq t (take (length t) s) ≡ true → (length t ≤ length s) × ((j : ℕ) → j < length t → get_or s j 0 ≡ get_or t j 0)
starts_to s [] e = (omega arith, λ j less. absurd (omega arith))
starts_to [] (y ∷ t) e = cc
starts_to (x ∷ s) (y ∷ t) e =
    let parts = and_parts (nat_eq y x) _ e in
    let rest = starts_to s t parts.1 in
    let first : x ≡ y = sym (eqb-true y x parts.0) in
    (omega (arith, rest.0), reads_cons s t x y first rest.1)

none : (j : ℕ) → j ≡ 0 + j
none j = omega arith

next : (k j : ℕ) → suc (k + j) ≡ suc k + j
next k j = omega arith

occurs_from : (s t : List ℕ) (k : ℕ) → k + length t ≤ length s → ((j : ℕ) → j < length t → get_or s (k + j) 0 ≡ get_or t j 0) → occurs t s ≡ true
occurs_from [] t k fits reads = starts_from [] t (omega arith) (λ j less. absurd (omega arith))
occurs_from (c ∷ s) t zero fits reads = or_left _ _ (starts_from (c ∷ s) t (omega (arith, fits)) (λ j less. (λ i. get_or (c ∷ s) (none j i) 0) ∙ reads j less))
occurs_from (c ∷ s) t (suc k) fits reads = or_right _ _ (occurs_from s t k (omega arith) (λ j less. (λ i. get_or (c ∷ s) (next k j i) 0) ∙ reads j less))

occurs_to : (s t : List ℕ) → occurs t s ≡ true → (k : ℕ) × OccursAt s t k
occurs_to [] t e = let parts = starts_to [] t e in (0, record { fits = omega (arith, parts.0); reads = λ j less. (λ i. get_or [] (sym (none j) i) 0) ∙ parts.1 j less })
occurs_to (c ∷ s) t e =
    ⊎_elim
    (λ here. let parts = starts_to (c ∷ s) t here in (0, record { fits = omega (arith, parts.0); reads = λ j less. (λ i. get_or (c ∷ s) (sym (none j) i) 0) ∙ parts.1 j less }))
    (λ later.
    let found = occurs_to s t later in
    let fits = found.1.fits in
    (suc found.0, record { fits = omega arith; reads = λ j less. (λ i. get_or (c ∷ s) (sym (next found.0 j) i) 0) ∙ found.1.reads j less }))
    (or_cases _ _ e)

pub is_some-occurs : (s t : List ℕ) (r : Option ℕ) → FindsNeedle s t 0 r → is_some r ≡ occurs t s
is_some-occurs s t None found =
    sym (false_from_ne_true (occurs t s) (λ e.
    let place = occurs_to s t e in
    let fits = place.1.fits in
    found place.0 (omega arith) (omega arith) place.1))
is_some-occurs s t (Some k) found = sym (occurs_from s t k found.1.fits found.1.reads)

-- ---- a text cut at a byte

module _ (b : ℕ) where
  no_cut : (xs : List ℕ) → ((k : ℕ) → k < length xs → (get_or xs k 0 == b) ≡ true → ⊥) → slice_split (λ c. c == b) xs ≡ xs ∷ []
  no_cut [] h = refl
  no_cut (x ∷ xs) h =
      slice_split-cons_no (λ c. c == b) x xs (false_from_ne_true (x == b) (h 0 (omega arith)))
      ∙ ap (onto_first x) (no_cut xs (λ k less. h (suc k) (omega arith)))

  first_cut : (k : ℕ) (xs : List ℕ) → k < length xs → (get_or xs k 0 == b) ≡ true → ((j : ℕ) → j < k → (get_or xs j 0 == b) ≡ true → ⊥) → slice_split (λ c. c == b) xs ≡ take k xs ∷ slice_split (λ c. c == b) (drop (suc k) xs)
  first_cut k [] less here before = absurd (omega arith)
  first_cut zero (x ∷ xs) less here before = slice_split-cons_yes (λ c. c == b) x xs here
  first_cut (suc k) (x ∷ xs) less here before =
      slice_split-cons_no (λ c. c == b) x xs (false_from_ne_true (x == b) (before 0 (omega arith)))
      ∙ ap (onto_first x) (first_cut k xs (omega arith) here (λ j below. before (suc j) (omega arith)))

drop_next : (xs : List ℕ) (k : ℕ) → drop (suc k) xs ≡ drop 1 (drop k xs)
drop_next [] zero = refl
drop_next [] (suc k) = refl
drop_next (x ∷ xs) zero = refl
drop_next (x ∷ xs) (suc k) = drop_next xs k

pub uncut : (b : ℕ) (text : List ℕ) (r : Option ℕ) → r ≡ None → IsFirstByte (is_byte b) text r → slice_split (λ c. c == b) text ≡ text ∷ []
uncut b text r is h =
    let nowhere = subst (IsFirstByte (is_byte b) text) is h in
    no_cut b text (λ k less. nowhere k (omega arith) less)

pub cut_first : (b k : ℕ) (text front rest after : List ℕ) → IsFirstByte (is_byte b) text (Some k) → front ≡ take k text → rest ≡ drop k text → after ≡ drop 1 rest → slice_split (λ c. c == b) text ≡ front ∷ slice_split (λ c. c == b) after
cut_first b k text front rest after h front_is rest_is after_is =
    let high = h.0.high in
    first_cut b k text high h.1 (λ j below. h.0.before j (omega arith) below)
    ∙ (λ i. sym front_is i ∷ slice_split (λ c. c == b) (drop_next text k i))
    ∙ (λ i. front ∷ slice_split (λ c. c == b) (sym (after_is ∙ ap (drop 1) rest_is) i))
