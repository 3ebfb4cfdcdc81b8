-- The one file of some that is evicted sooner than all others.
use Rattle.std.proofs.Common.{◌≡◌, ◌∙◌, ℕ, ◌<◌, ◌≤◌, ◌⊎◌, inl, inr, Bool, true, false, not, ◌&&◌, ◌||◌, cond, List, [], ◌∷◌, ◌++◌, reverse, Option, Some, None, refl, sym, ap, subst, arith}
use Rattle.std.specs.Prelude.{⊤, nat_lt, MatchOption}
use Rattle.std.specs.List.{AllByRecursion}
use Rattle.std.specs.declared.cmp.Ordering.TheVariants.{Less}
use Rattle.std.proofs.lemmas.Bool.{or_cases, and_parts, and_from, ltb-true, ltb-false, cases_lt}
use Rattle.std.proofs.lemmas.List.{reverse-append}
use Rattle.tl_types.specs.Same.{file_cmp, file_same}
use Rattle.tl_types.specs.declared.file_id.FileId.{FileId}
use Rattle.tl_model.specs.Tables.{better, first_by}
use Rattle.tl_store.specs.Contents.{Blocks, first_kept, victim}
use Rattle.tl_fleet.specs.Order.{IsSooner, Ascends}
use Rattle.tl_fleet.proofs.Sooner.{sooner_asym, sooner_le}
use Rattle.tl_fleet.specs.Events.{among, files_of}
use Rattle.tl_fleet.proofs.Files.{same_self, same_is, either, all_among}

-- of the files that pass a test, the one that is evicted sooner than all others; none where none passes
abbrev pub IsLeast : (FileId → ℕ) → (FileId → Bool) → Option FileId → Type 0
IsLeast recency test least =
    MatchOption least ((g : FileId) → test g ≡ false) (λ m. (test m ≡ true) × ((g : FileId) → test g ≡ true → (g ≡ m) ⊎ IsSooner recency m g))

pub least_one : (recency : FileId → ℕ) (test : FileId → Bool) (one other : Option FileId) → IsLeast recency test one → IsLeast recency test other → one ≡ other
least_one recency test None None h k = refl
least_one recency test None (Some m) h k = let no : true ≡ false = sym k.0 ∙ h m in absurd (cc)
least_one recency test (Some m) None h k = let no : true ≡ false = sym h.0 ∙ k m in absurd (cc)
least_one recency test (Some m) (Some n) h k = elim (h.1 n k.0) [
  | inl same ↦ ap Some (sym same)
  | inr l ↦ elim (k.1 m h.0) [
    | inl same ↦ ap Some same
    | inr g ↦ absurd (sooner_asym recency m n l g)
  ]
]

pub least_of_same : (recency : FileId → ℕ) (test other : FileId → Bool) (least : Option FileId) → ((g : FileId) → test g ≡ other g) → IsLeast recency test least → IsLeast recency other least
least_of_same recency test other None same h = λ g. sym (same g) ∙ h g
least_of_same recency test other (Some m) same h = (sym (same m) ∙ h.0, λ g t. h.1 g (same g ∙ t))

-- ---- the last of a list in order that is not excepted

abbrev pub or_else : Option FileId → Option FileId → Option FileId
or_else None other = other
or_else (Some f) other = Some f

abbrev pub unless : Bool → FileId → Option FileId
unless b f = cond b None (Some f)

abbrev pub last_of : (FileId → Bool) → List FileId → Option FileId
last_of excepted [] = None
last_of excepted (f ∷ fs) = or_else (last_of excepted fs) (unless (excepted f) f)

first_ends : (excepted : FileId → Bool) (blocks : Blocks) (b : _) → first_kept excepted (blocks ++ b ∷ []) ≡ or_else (first_kept excepted blocks) (unless (excepted b.file) b.file)
first_ends excepted [] b = elim (excepted b.file) as (λ t. cond t None (Some b.file) ≡ unless t b.file) [ true ↦ refl | false ↦ refl ]
first_ends excepted (c ∷ blocks) b =
    elim (excepted c.file) as (λ t. cond t (first_kept excepted (blocks ++ b ∷ [])) (Some c.file) ≡ or_else (cond t (first_kept excepted blocks) (Some c.file)) (unless (excepted b.file) b.file)) [
      | true ↦ first_ends excepted blocks b
      | false ↦ refl
    ]

pub victim_last : (excepted : FileId → Bool) (blocks : Blocks) → victim excepted blocks ≡ last_of excepted (files_of blocks)
victim_last excepted [] = refl
victim_last excepted (b ∷ blocks) =
    ap (first_kept excepted) (reverse-append (b ∷ []) blocks) ∙ first_ends excepted (reverse blocks) b
    ∙ ap (λ o. or_else o (unless (excepted b.file) b.file)) (victim_last excepted blocks)

-- each is evicted sooner than those before it
abbrev pub FilesInOrder : (FileId → ℕ) → List FileId → Type 0
FilesInOrder recency [] = ⊤
FilesInOrder recency (f ∷ fs) = AllByRecursion (λ g. IsSooner recency g f) fs × FilesInOrder recency fs

abbrev pub goes : (FileId → Bool) → List FileId → FileId → Bool
goes excepted fs g = among g fs && not (excepted g)

not_excepted : (excepted : FileId → Bool) (g f : FileId) → excepted f ≡ true → g ≡ f → (m : Bool) → (m && not (excepted g)) ≡ false
not_excepted excepted g f e at true = ap not (ap excepted at ∙ e)
not_excepted excepted g f e at false = refl

behind : (s m q : Bool) → s ≡ false → ((s || m) && q) ≡ (m && q)
behind true m q h = absurd (cc)
behind false m q h = refl

before : (s m q : Bool) → (m && q) ≡ true → ((s || m) && q) ≡ true
before true true true h = refl
before true true false h = absurd (cc)
before true false q h = absurd (cc)
before false m q h = h

module _ (recency : FileId → ℕ) (excepted : FileId → Bool) where
  last_step : (f : FileId) (fs : List FileId) (o : Option FileId) (x : Bool) → IsLeast recency (goes excepted fs) o → AllByRecursion (λ g. IsSooner recency g f) fs → excepted f ≡ x →
      IsLeast recency (goes excepted (f ∷ fs)) (or_else o (unless x f))
  last_step f fs None true h all e = λ g. elim (either (file_same g f)) [
    | inl t ↦ not_excepted excepted g f e (same_is g f t) (file_same g f || among g fs)
    | inr t ↦ behind (file_same g f) (among g fs) (not (excepted g)) t ∙ h g
  ]
  last_step f fs None false h all e = (
    and_from (file_same f f || among f fs) (not (excepted f)) (ap (λ b. b || among f fs) (same_self f)) (ap not e),
    λ g t. elim (either (file_same g f)) [
      | inl s ↦ inl (same_is g f s)
      | inr s ↦ let no : true ≡ false = sym t ∙ behind (file_same g f) (among g fs) (not (excepted g)) s ∙ h g in absurd (cc)
    ],
  )
  last_step f fs (Some m) x h all e = (
    before (file_same m f) (among m fs) (not (excepted m)) h.0,
    λ g t. elim (either (file_same g f)) [
      | inl s ↦ inr (subst (λ y. IsSooner recency m y) (sym (same_is g f s)) (all_among (λ y. IsSooner recency y f) fs m all (and_parts (among m fs) (not (excepted m)) h.0).0))
      | inr s ↦ h.1 g (sym (behind (file_same g f) (among g fs) (not (excepted g)) s) ∙ t)
    ],
  )

  pub least_last : (fs : List FileId) → FilesInOrder recency fs → IsLeast recency (goes excepted fs) (last_of excepted fs)
  least_last [] h = λ g. refl
  least_last (f ∷ fs) h = last_step f fs (last_of excepted fs) (excepted f) (least_last fs h.1) h.0 refl

-- ---- the first of an ascending list that is least recently used

abbrev pub sooner_used : (FileId → ℕ) → FileId → FileId → Bool
sooner_used recency g f = nat_lt (recency g) (recency f)

module _ (recency : FileId → ℕ) where
  at_most : (m g : FileId) → (g ≡ m) ⊎ IsSooner recency m g → recency m ≤ recency g
  at_most m g h = elim h [
    | inl at ↦ let e : recency g ≡ recency m = ap recency at in omega arith
    | inr s ↦ sooner_le recency m g s
  ]

  later_too : (f g : FileId) → recency f ≤ recency g → file_cmp f g ≡ Less → IsSooner recency f g
  later_too f g le l = elim (cases_lt (recency f) (recency g)) [
    | inl less ↦ inl less
    | inr not_less ↦ inr (let e : recency f ≡ recency g = omega arith in e, l)
  ]

  better_step : (f m : FileId) (fs : List FileId) (b : Bool) → IsLeast recency (λ g. among g fs) (Some m) → AllByRecursion (λ g. file_cmp f g ≡ Less) fs → nat_lt (recency m) (recency f) ≡ b →
      IsLeast recency (λ g. among g (f ∷ fs)) (Some (cond b m f))
  better_step f m fs true h all e = (
    (elim (file_same m f) as (λ t. (t || among m fs) ≡ true) [ true ↦ refl | false ↦ h.0 ]),
    λ g t. elim (or_cases (file_same g f) (among g fs) t) [
      | inl s ↦ inr (inl (subst (λ y. recency m < recency y) (sym (same_is g f s)) (ltb-true (recency m) (recency f) e)))
      | inr s ↦ h.1 g s
    ],
  )
  better_step f m fs false h all e = (
    ap (λ t. t || among f fs) (same_self f),
    λ g t. elim (or_cases (file_same g f) (among g fs) t) [
      | inl s ↦ inl (same_is g f s)
      | inr s ↦
          let le : recency f ≤ recency m = ltb-false (recency m) (recency f) e in
          let more : recency m ≤ recency g = at_most m g (h.1 g s) in
          inr (later_too f g (omega arith) (all_among (λ y. file_cmp f y ≡ Less) fs g all s))
    ],
  )

  first_step : (f : FileId) (fs : List FileId) (o : Option FileId) → IsLeast recency (λ g. among g fs) o → AllByRecursion (λ g. file_cmp f g ≡ Less) fs →
      IsLeast recency (λ g. among g (f ∷ fs)) (Some (better (sooner_used recency) f o))
  first_step f fs None h all = (
    ap (λ t. t || among f fs) (same_self f),
    λ g t. elim (or_cases (file_same g f) (among g fs) t) [
      | inl s ↦ inl (same_is g f s)
      | inr s ↦ let no : true ≡ false = sym s ∙ h g in absurd (cc)
    ],
  )
  first_step f fs (Some m) h all = better_step f m fs (nat_lt (recency m) (recency f)) h all refl

  pub least_first : (fs : List FileId) → Ascends fs → IsLeast recency (λ g. among g fs) (first_by (sooner_used recency) fs)
  least_first [] h = λ g. refl
  least_first (f ∷ fs) h = first_step f fs (first_by (sooner_used recency) fs) (least_first fs h.1) h.0
