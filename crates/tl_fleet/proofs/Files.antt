-- Lists of files: which are in them, and the sum over one in which none stands twice.
use Rattle.std.proofs.Common.{◌≡◌, ◌∙◌, ℕ, ◌+◌, ◌⊎◌, inl, inr, Bool, true, false, not, ◌&&◌, ◌||◌, cond, List, [], ◌∷◌, filter, is_some, Some, refl, sym, ap, subst, arith}
use Rattle.std.specs.Prelude.{⊤, sum_by}
use Rattle.std.specs.List.{AllByRecursion}
use Rattle.std.specs.declared.cmp.Ordering.TheVariants.{Less}
use Rattle.std.proofs.lemmas.Bool.{or_cases, or_parts}
use Rattle.std.proofs.lemmas.List.Sums.{sum_by-cons}
use Rattle.tl_types.specs.Same.{file_cmp, file_same, file_same-Decides}
use Rattle.tl_types.specs.declared.file_id.FileId.{FileId}
use Rattle.tl_store.specs.Contents.{Blocks, block_of, has}
use Rattle.tl_fleet.specs.Events.{among, files_of}
use Rattle.tl_fleet.specs.Order.{Ascends}
use Rattle.tl_fleet.proofs.Sooner.{lesser_asym}

pub same_self : (f : FileId) → file_same f f ≡ true
same_self f = (file_same-Decides f f).1 refl

pub same_is : (f g : FileId) → file_same f g ≡ true → f ≡ g
same_is f g h = (file_same-Decides f g).0 h

pub either : (b : Bool) → (b ≡ true) ⊎ (b ≡ false)
either true = inl refl
either false = inr refl

-- what is so of each is so of one
pub all_among : (P : FileId → Type 0) (fs : List FileId) (f : FileId) → AllByRecursion P fs → among f fs ≡ true → P f
all_among P [] f all h = absurd (cc)
all_among P (g ∷ fs) f all h = elim (or_cases (file_same f g) (among f fs) h) [
  | inl t ↦ subst P (sym (same_is f g t)) all.0
  | inr t ↦ all_among P fs f all.1 t
]

pub all_filtered : (P : FileId → Type 0) (p : FileId → Bool) (fs : List FileId) → AllByRecursion P fs → AllByRecursion P (filter p fs)
all_filtered P p [] all = tt
all_filtered P p (f ∷ fs) all = elim (p f) as (λ b. AllByRecursion P (cond b (f ∷ filter p fs) (filter p fs))) [
  | true ↦ (all.0, all_filtered P p fs all.1)
  | false ↦ all_filtered P p fs all.1
]

pub ascends_filtered : (p : FileId → Bool) (fs : List FileId) → Ascends fs → Ascends (filter p fs)
ascends_filtered p [] h = tt
ascends_filtered p (f ∷ fs) h = elim (p f) as (λ b. Ascends (cond b (f ∷ filter p fs) (filter p fs))) [
  | true ↦ (all_filtered (λ g. file_cmp f g ≡ Less) p fs h.0, ascends_filtered p fs h.1)
  | false ↦ ascends_filtered p fs h.1
]

kept_test : (b s m q : Bool) → (s ≡ true → b ≡ q) → cond b (s || (m && q)) (m && q) ≡ ((s || m) && q)
kept_test true false m q h = refl
kept_test false false m q h = refl
kept_test true true m true h = refl
kept_test true true m false h = let no : true ≡ false = h refl in cc
kept_test false true m true h = let no : false ≡ true = h refl in cc
kept_test false true true false h = refl
kept_test false true false false h = refl

among_cond : (g f : FileId) (rest : List FileId) (b m : Bool) → among g rest ≡ m → among g (cond b (f ∷ rest) rest) ≡ cond b (file_same g f || m) m
among_cond g f rest true m h = ap (λ r. file_same g f || r) h
among_cond g f rest false m h = h

pub among_filtered : (p : FileId → Bool) (g : FileId) (fs : List FileId) → among g (filter p fs) ≡ (among g fs && p g)
among_filtered p g [] = refl
among_filtered p g (f ∷ fs) =
    among_cond g f (filter p fs) (p f) (among g fs && p g) (among_filtered p g fs)
    ∙ kept_test (p f) (file_same g f) (among g fs) (p g) (λ t. ap p (sym (same_is g f t)))

-- no file stands twice
abbrev pub Distinct : List FileId → Type 0
Distinct [] = ⊤
Distinct (f ∷ fs) = (among f fs ≡ false) × Distinct fs

none_of : (P : FileId → Type 0) (f : FileId) (fs : List FileId) → AllByRecursion P fs → (P f → ⊥) → among f fs ≡ false
none_of P f fs all apart = elim (either (among f fs)) [
  | inl t ↦ absurd (apart (all_among P fs f all t))
  | inr t ↦ t
]

pub distinct_all : (P : FileId → FileId → Type 0) → ((f : FileId) → P f f → ⊥) → (f : FileId) (fs : List FileId) → AllByRecursion (P f) fs → among f fs ≡ false
distinct_all P apart f fs all = none_of (P f) f fs all (apart f)

pub ascends_distinct : (fs : List FileId) → Ascends fs → Distinct fs
ascends_distinct [] h = tt
ascends_distinct (f ∷ fs) h = (none_of (λ g. file_cmp f g ≡ Less) f fs h.0 (λ l. lesser_asym f f l l), ascends_distinct fs h.1)

and_off : (m b : Bool) → m ≡ false → (m && b) ≡ false
and_off true b h = absurd (cc)
and_off false b h = refl

pub distinct_filtered : (p : FileId → Bool) (fs : List FileId) → Distinct fs → Distinct (filter p fs)
distinct_filtered p [] h = tt
distinct_filtered p (f ∷ fs) h = elim (p f) as (λ b. Distinct (cond b (f ∷ filter p fs) (filter p fs))) [
  | true ↦ (among_filtered p f fs ∙ and_off (among f fs) (p f) h.0, distinct_filtered p fs h.1)
  | false ↦ distinct_filtered p fs h.1
]

-- ---- sums

abbrev is_other : FileId → FileId → Bool
is_other f g = not (file_same f g)

abbrev others : FileId → List FileId → List FileId
others f fs = filter (is_other f) fs

others_all : (f : FileId) (fs : List FileId) → among f fs ≡ false → others f fs ≡ fs
others_all f [] h = refl
others_all f (g ∷ fs) h =
    let parts = or_parts (file_same f g) (among f fs) h in
    ap (λ b. cond (not b) (g ∷ others f fs) (others f fs)) parts.0 ∙ ap (λ gs. g ∷ gs) (others_all f fs parts.1)

swap_front : (a b c d : ℕ) → d ≡ a + c → b + d ≡ a + (b + c)
swap_front a b c d e = omega arith

sum_out : (size : FileId → ℕ) (f : FileId) (fs : List FileId) → Distinct fs → among f fs ≡ true → sum_by size fs ≡ size f + sum_by size (others f fs)
sum_out size f [] d h = absurd (cc)
sum_out size f (g ∷ fs) d h = (elim (either (file_same f g)) [
  | inl t ↦
      let at : f ≡ g = same_is f g t in
      let none : among f fs ≡ false = subst (λ x. among x fs ≡ false) (sym at) d.0 in
      sum_by-cons size g fs ∙ ap (λ x. size x + sum_by size fs) (sym at)
      ∙ ap (λ gs. size f + sum_by size gs) (sym (others_all f fs none) ∙ ap (λ b. cond (not b) (g ∷ others f fs) (others f fs)) (sym t))
  | inr t ↦
      let there : among f fs ≡ true = sym (ap (λ b. b || among f fs) t) ∙ h in
      sum_by-cons size g fs
      ∙ swap_front (size f) (size g) (sum_by size (others f fs)) (sum_by size fs) (sum_out size f fs d.1 there)
      ∙ ap (λ n. size f + n) (sym (sum_by-cons size g (others f fs)))
      ∙ ap (λ gs. size f + sum_by size gs) (ap (λ b. cond (not b) (g ∷ others f fs) (others f fs)) (sym t))
])

left_test : (s m n b : Bool) → (s || m) ≡ n → (b ≡ true → m ≡ false) → (b ≡ s) → m ≡ (n && not b)
left_test true m n true e off is = off refl ∙ (elim n as (λ x. false ≡ (x && false)) [ true ↦ refl | false ↦ refl ])
left_test true m n false e off is = absurd (cc)
left_test false m n true e off is = absurd (cc)
left_test false true true false e off is = refl
left_test false false false false e off is = refl
left_test false true false false e off is = absurd (cc)
left_test false false true false e off is = absurd (cc)

pub same_turned : (f g : FileId) → file_same f g ≡ file_same g f
same_turned f g = elim (either (file_same f g)) [
  | inl t ↦ let at : f ≡ g = same_is f g t in ap (λ x. file_same x g) at ∙ ap (λ x. file_same g x) (sym at)
  | inr t ↦ (elim (either (file_same g f)) [
    | inl u ↦ let at : g ≡ f = same_is g f u in ap (λ x. file_same x g) (sym at) ∙ ap (λ x. file_same g x) at
    | inr u ↦ t ∙ sym u
  ])
]

-- two lists in which none stands twice and which have the same files have the same sum
pub same_sum : (size : FileId → ℕ) (fs gs : List FileId) → Distinct fs → Distinct gs → ((f : FileId) → among f fs ≡ among f gs) → sum_by size fs ≡ sum_by size gs
same_sum size [] [] d e same = refl
same_sum size [] (g ∷ gs) d e same = let no : false ≡ true = same g ∙ ap (λ b. b || among g gs) (same_self g) in absurd (cc)
same_sum size (f ∷ fs) gs d e same =
    let there : among f gs ≡ true = sym (same f) ∙ ap (λ b. b || among f fs) (same_self f) in
    let rest : (g : FileId) → among g fs ≡ among g (others f gs) =
    λ g. left_test (file_same g f) (among g fs) (among g gs) (file_same f g) (same g)
    (λ t. ap (λ x. among x fs) (sym (same_is f g t)) ∙ d.0) (same_turned f g)
    ∙ sym (among_filtered (is_other f) g gs) in
    sum_by-cons size f fs ∙ ap (λ n. size f + n) (same_sum size fs (others f gs) d.1 (distinct_filtered (is_other f) gs e) rest)
    ∙ sym (sum_out size f gs e there)

-- ---- the files of blocks

pub has_among : (f : FileId) (blocks : Blocks) → has f blocks ≡ among f (files_of blocks)
has_among f [] = refl
has_among f (b ∷ bs) = elim (file_same f b.file) as (λ t. is_some (cond t (Some b) (block_of f bs)) ≡ (t || among f (files_of bs))) [
  | true ↦ refl
  | false ↦ has_among f bs
]
