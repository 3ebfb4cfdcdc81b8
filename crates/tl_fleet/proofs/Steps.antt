-- One worker's blocks stand in order for what is known of files, and for what is known after a change.
use Rattle.std.proofs.Common.{◌≡◌, ◌∙◌, ℕ, ◌<◌, ◌⊎◌, inl, inr, Bool, true, false, not, ◌&&◌, cond, if◌then◌else◌, [], ◌∷◌, filter, Option, Some, None, is_some, refl, sym, ap, subst, arith}
use Rattle.std.specs.Prelude.{◌==◌}
use Rattle.std.specs.List.{AllByRecursion}
use Rattle.std.specs.Option.{option_map_or}
use Rattle.std.specs.declared.cmp.Ordering.TheVariants.{Less}
use Rattle.std.proofs.lemmas.Bool.Decides.{Decides-eqb}
use Rattle.tl_types.specs.Block.{FileOutcome}
use Rattle.tl_types.specs.Same.{file_cmp, file_same}
use Rattle.tl_types.specs.declared.file_id.FileId.{FileId}
use Rattle.tl_types.specs.declared.worker_id.WorkerId.{WorkerId}
use Rattle.tl_model.specs.Residency.{is_at}
use Rattle.tl_model.specs.Eviction.{Sizes}
use Rattle.tl_store.specs.Contents.{Blocks, is_of_other, block_of, has, without, touched}
use Rattle.tl_fleet.specs.Events.{among, files_of}
use Rattle.tl_fleet.specs.Order.{Sight, IsSooner, InOrder, IsOfFile, StandsAt}
use Rattle.tl_fleet.proofs.Files.{same_self, same_is, same_turned, either, has_among, among_filtered}

abbrev pub number : ℕ → WorkerId
number n = record { 0 = n }

-- ---- what is known after a change

-- a file comes to a worker at some time
abbrev pub brought : WorkerId → FileId → ℕ → Sight → Sight
brought w g time s = record {
  place = λ f. if file_same f g then Some w else s.place f;
  recency = λ f. if file_same f g then time else s.recency f;
  is_made = s.is_made;
}

-- a file is used at some time
abbrev pub used_at : FileId → ℕ → Sight → Sight
used_at g time s = record { place = s.place; recency = λ f. if file_same f g then time else s.recency f; is_made = s.is_made }

-- a file goes from wherever it is
abbrev pub gone : FileId → Sight → Sight
gone g s = record { place = λ f. if file_same f g then None else s.place f; recency = s.recency; is_made = s.is_made }

-- a file goes from a worker
abbrev pub gone_from : WorkerId → FileId → Sight → Sight
gone_from w g s = record { place = λ f. if file_same f g && is_at w (s.place f) then None else s.place f; recency = s.recency; is_made = s.is_made }

-- all files go from a worker
abbrev pub cleared : WorkerId → Sight → Sight
cleared w s = record { place = λ f. if is_at w (s.place f) then None else s.place f; recency = s.recency; is_made = s.is_made }

-- each other file in memory was used sooner, or then, and is lesser
abbrev pub IsNewest : Sight → ℕ → FileId → Type 0
IsNewest s time g = (f : FileId) → file_same f g ≡ false → is_some (s.place f) ≡ true → (s.recency f < time) ⊎ ((s.recency f ≡ time) × (file_cmp f g ≡ Less))

-- ---- lists of blocks

has_front : (b : FileOutcome) (bs : Blocks) → has b.file (b ∷ bs) ≡ true
has_front b bs = ap (λ t. is_some (cond t (Some b) (block_of b.file bs))) (same_self b.file)

has_later : (f : FileId) (b : FileOutcome) (bs : Blocks) → has f bs ≡ true → has f (b ∷ bs) ≡ true
has_later f b bs h = elim (file_same f b.file) as (λ t. is_some (cond t (Some b) (block_of f bs)) ≡ true) [ true ↦ refl | false ↦ h ]

-- what is so of each block is so of it in other words
pub each_there : (P Q : FileOutcome → Type 0) (bs : Blocks) → ((b : FileOutcome) → has b.file bs ≡ true → P b → Q b) → AllByRecursion P bs → AllByRecursion Q bs
each_there P Q [] so h = tt
each_there P Q (b ∷ bs) so h = (so b (has_front b bs) h.0, each_there P Q bs (λ c t. so c (has_later c.file b bs t)) h.1)

each_without : (P : FileOutcome → Type 0) (g : FileId) (bs : Blocks) → AllByRecursion P bs → AllByRecursion P (without g bs)
each_without P g [] h = tt
each_without P g (b ∷ bs) h = elim (is_of_other g b) as (λ t. AllByRecursion P (cond t (b ∷ without g bs) (without g bs))) [
  | true ↦ (h.0, each_without P g bs h.1)
  | false ↦ each_without P g bs h.1
]

order_without : (r : FileId → ℕ) (g : FileId) (bs : Blocks) → InOrder r bs → InOrder r (without g bs)
order_without r g [] h = tt
order_without r g (b ∷ bs) h = elim (is_of_other g b) as (λ t. InOrder r (cond t (b ∷ without g bs) (without g bs))) [
  | true ↦ (each_without (λ c. IsSooner r c.file b.file) g bs h.0, order_without r g bs h.1)
  | false ↦ order_without r g bs h.1
]

sooner_like : (r s : FileId → ℕ) (g f : FileId) → s g ≡ r g → s f ≡ r f → IsSooner r g f → IsSooner s g f
sooner_like r s g f a b h = elim h [
  | inl l ↦ inl (omega arith)
  | inr l ↦ inr (a ∙ l.0 ∙ sym b, l.1)
]

-- the order of blocks rests on the recency of their files alone
pub order_like : (r s : FileId → ℕ) (bs : Blocks) → ((f : FileId) → has f bs ≡ true → s f ≡ r f) → InOrder r bs → InOrder s bs
order_like r s [] like h = tt
order_like r s (b ∷ bs) like h = (
  each_there (λ c. IsSooner r c.file b.file) (λ c. IsSooner s c.file b.file) bs
      (λ c t l. sooner_like r s c.file b.file (like c.file (has_later c.file b bs t)) (like b.file (has_front b bs)) l) h.0,
  order_like r s bs (λ f t. like f (has_later f b bs t)) h.1,
)

files_without : (g : FileId) (bs : Blocks) → files_of (without g bs) ≡ filter (λ f. not (file_same g f)) (files_of bs)
files_without g [] = refl
files_without g (b ∷ bs) = elim (file_same g b.file) as (λ t. files_of (cond (not t) (b ∷ without g bs) (without g bs)) ≡ cond (not t) (b.file ∷ filter (λ f. not (file_same g f)) (files_of bs)) (filter (λ f. not (file_same g f)) (files_of bs))) [
  | true ↦ files_without g bs
  | false ↦ ap (λ fs. b.file ∷ fs) (files_without g bs)
]

pub has_without : (f g : FileId) (bs : Blocks) → has f (without g bs) ≡ (has f bs && not (file_same f g))
has_without f g bs =
    has_among f (without g bs) ∙ ap (among f) (files_without g bs) ∙ among_filtered (λ h. not (file_same g h)) f (files_of bs)
    ∙ ap (λ t. t && not (file_same g f)) (sym (has_among f bs)) ∙ ap (λ t. has f bs && not t) (same_turned g f)

found_is : (g : FileId) (bs : Blocks) (b : FileOutcome) (P : FileOutcome → Type 0) → block_of g bs ≡ Some b → AllByRecursion P bs → (file_same g b.file ≡ true) × P b
found_is g [] b P e h = absurd (cc)
found_is g (c ∷ bs) b P e h = (elim (either (file_same g c.file)) [
  | inl t ↦ let at : Some c ≡ Some b = ap (λ x. cond x (Some c) (block_of g bs)) (sym t) ∙ e in
      let same : c ≡ b = cc in (ap (λ (x : FileOutcome). file_same g x.file) (sym same) ∙ t, subst P same h.0)
  | inr t ↦ found_is g bs b P (ap (λ x. cond x (Some c) (block_of g bs)) (sym t) ∙ e) h.1
])

apart : (f g : FileId) (bs : Blocks) → has g bs ≡ false → has f bs ≡ true → file_same f g ≡ false
apart f g bs off on = elim (either (file_same f g)) [
  | inl t ↦ let no : true ≡ false = sym on ∙ ap (λ x. has x bs) (same_is f g t) ∙ off in absurd (cc)
  | inr t ↦ t
]

pub some_at : (w : WorkerId) (o : Option WorkerId) → is_at w o ≡ true → is_some o ≡ true
some_at w None h = absurd (cc)
some_at w (Some v) h = refl

later_recency : (r : FileId → ℕ) (time : ℕ) (f g : FileId) → file_same f g ≡ false → (if file_same f g then time else r f) ≡ r f
later_recency r time f g off = ap (λ t. if t then time else r f) off

-- the file at hand, which was used last, is behind no other
newest_front : (s : Sight) (time : ℕ) (g f : FileId) → file_same f g ≡ false → is_some (s.place f) ≡ true → IsNewest s time g →
    IsSooner (λ h. if file_same h g then time else s.recency h) f g
newest_front s time g f off there newest =
    let now : (if file_same f g then time else s.recency f) ≡ s.recency f = later_recency s.recency time f g off in
    let last : (if file_same g g then time else s.recency g) ≡ time = ap (λ t. if t then time else s.recency g) (same_self g) in
    elim (newest f off there) [
      | inl l ↦ inl (omega arith)
      | inr l ↦ inr (now ∙ l.0 ∙ sym last, l.1)
    ]

pub off_worker : (n m : ℕ) → (n ≡ m → ⊥) → (n == m) ≡ false
off_worker n m off = elim (either (n == m)) [
  | inl t ↦ absurd (off ((Decides-eqb n m).0 t))
  | inr t ↦ t
]

module _ (sizes : Sizes) (s : Sight) where
  -- the same blocks, where of their files the same is known
  pub stays : (later : Sizes) (t : Sight) (n : ℕ) (bs : Blocks) → StandsAt sizes s n bs → ((f : FileId) → has f bs ≡ is_at (number n) (t.place f)) →
      ((f : FileId) → has f bs ≡ true → t.recency f ≡ s.recency f) → ((f : FileId) → s.is_made f ≡ true → (later f ≡ sizes f) × (t.is_made f ≡ true)) → StandsAt later t n bs
  stays later t n bs h places recencies made = record {
    resident = places;
    order = order_like s.recency t.recency bs recencies h.order;
    files = each_there (IsOfFile sizes s) (IsOfFile later t) bs (λ b there k. let m = made b.file k.1 in (k.0 ∙ sym m.0, m.1)) h.files;
  }

  elsewhere : (n : ℕ) (bs : Blocks) → StandsAt sizes s n bs → (t : Sight) → ((f : FileId) → has f bs ≡ is_at (number n) (t.place f)) →
      ((f : FileId) → has f bs ≡ true → t.recency f ≡ s.recency f) → t.is_made ≡ s.is_made → StandsAt sizes t n bs
  elsewhere n bs h t places recencies same =
      stays sizes t n bs h places recencies (λ f m. (refl, ap (λ (made : FileId → Bool). made f) same ∙ m))

  -- ---- a file comes

  pub brought_here : (w : WorkerId) (block : FileOutcome) (time n : ℕ) (bs : Blocks) → StandsAt sizes s n bs → n ≡ w.0 → has block.file bs ≡ false → IsOfFile sizes s block → IsNewest s time block.file →
      StandsAt sizes (brought w block.file time s) n (block ∷ bs)
  brought_here w block time n bs h at absent of newest =
      let g : FileId = block.file in
      let r : FileId → ℕ = λ f. if file_same f g then time else s.recency f in
      record {
        resident = λ f. elim (file_same f g) as (λ t. is_some (cond t (Some block) (block_of f bs)) ≡ is_at (number n) (if t then Some w else s.place f)) [
          | true ↦ sym ((Decides-eqb n w.0).1 at)
          | false ↦ h.resident f
        ];
        order = (
          each_there (IsOfFile sizes s) (λ b. IsSooner r b.file g) bs
              (λ b there k. newest_front s time g b.file (apart b.file g bs absent there) (some_at (number n) (s.place b.file) (sym (h.resident b.file) ∙ there)) newest) h.files,
          order_like s.recency r bs (λ f there. later_recency s.recency time f g (apart f g bs absent there)) h.order,
        );
        files = (of, h.files);
      }

  pub brought_there : (w : WorkerId) (g : FileId) (time n : ℕ) (bs : Blocks) → StandsAt sizes s n bs → (n ≡ w.0 → ⊥) → has g bs ≡ false → StandsAt sizes (brought w g time s) n bs
  brought_there w g time n bs h off absent =
      elsewhere n bs h (brought w g time s)
      (λ f. (elim (either (file_same f g)) [
        | inl t ↦ ap (λ x. has x bs) (same_is f g t) ∙ absent ∙ sym (off_worker n w.0 off) ∙ ap (λ x. is_at (number n) (if x then Some w else s.place f)) (sym t)
        | inr t ↦ h.resident f ∙ ap (λ x. is_at (number n) (if x then Some w else s.place f)) (sym t)
      ]))
      (λ f there. later_recency s.recency time f g (apart f g bs absent there)) refl

  -- ---- a file is used

  front_has : (f g : FileId) (b : FileOutcome) (bs : Blocks) → file_same g b.file ≡ true → has g bs ≡ true → has f (b ∷ without g bs) ≡ has f bs
  front_has f g b bs at there =
      let same : g ≡ b.file = same_is g b.file at in
      (elim (either (file_same f g)) [
        | inl t ↦ ap (λ x. is_some (cond x (Some b) (block_of f (without g bs)))) (ap (file_same f) (sym same) ∙ t) ∙ sym there ∙ ap (λ x. has x bs) (sym (same_is f g t))
        | inr t ↦ ap (λ x. is_some (cond x (Some b) (block_of f (without g bs)))) (ap (file_same f) (sym same) ∙ t) ∙ has_without f g bs
            ∙ ap (λ x. has f bs && not x) t ∙ (elim (has f bs) as (λ x. (x && true) ≡ x) [ true ↦ refl | false ↦ refl ])
      ])

  kept_apart : (f g : FileId) (bs : Blocks) → has f (without g bs) ≡ true → (has f bs ≡ true) × (file_same f g ≡ false)
  kept_apart f g bs h = both (has f bs) (file_same f g) (sym (has_without f g bs) ∙ h)
    where
      both : (a b : Bool) → (a && not b) ≡ true → (a ≡ true) × (b ≡ false)
      both true true h = absurd (cc)
      both true false h = (refl, refl)
      both false b h = absurd (cc)

  touched_some : (g : FileId) (time n : ℕ) (bs : Blocks) (o : Option FileOutcome) → block_of g bs ≡ o → StandsAt sizes s n bs → IsNewest s time g →
      StandsAt sizes (used_at g time s) n (option_map_or (λ b. b ∷ without g bs) o bs)
  touched_some g time n bs None e h newest =
      elsewhere n bs h (used_at g time s) h.resident (λ f there. later_recency s.recency time f g (apart f g bs (ap is_some e) there)) refl
  touched_some g time n bs (Some b) e h newest =
      let found = found_is g bs b (IsOfFile sizes s) e h.files in
      let r : FileId → ℕ = λ f. if file_same f g then time else s.recency f in
      record {
        resident = λ f. front_has f g b bs found.0 (ap is_some e) ∙ h.resident f;
        order = (
          each_there (IsOfFile sizes s) (λ c. IsSooner r c.file b.file) (without g bs)
              (λ c there k. let parts = kept_apart c.file g bs there in
              subst (λ x. IsSooner r c.file x) (same_is g b.file found.0)
              (newest_front s time g c.file parts.1 (some_at (number n) (s.place c.file) (sym (h.resident c.file) ∙ parts.0)) newest))
              (each_without (IsOfFile sizes s) g bs h.files),
          order_like s.recency r (without g bs) (λ f there. later_recency s.recency time f g (kept_apart f g bs there).1) (order_without s.recency g bs h.order),
        );
        files = (found.1, each_without (IsOfFile sizes s) g bs h.files);
      }

  pub touched_here : (g : FileId) (time n : ℕ) (bs : Blocks) → StandsAt sizes s n bs → IsNewest s time g → StandsAt sizes (used_at g time s) n (touched g bs)
  touched_here g time n bs h newest = touched_some g time n bs (block_of g bs) refl h newest

  -- ---- a file goes

  pub gone_here : (g : FileId) (n : ℕ) (bs : Blocks) → StandsAt sizes s n bs → StandsAt sizes (gone g s) n (without g bs)
  gone_here g n bs h = record {
    resident = λ f. has_without f g bs ∙ ap (λ x. x && not (file_same f g)) (h.resident f) ∙ left f (file_same f g);
    order = order_without s.recency g bs h.order;
    files = each_without (IsOfFile sizes s) g bs h.files;
  }
    where
      left : (f : FileId) (t : Bool) → (is_at (number n) (s.place f) && not t) ≡ is_at (number n) (if t then None else s.place f)
      left f true = elim (is_at (number n) (s.place f)) as (λ x. (x && false) ≡ false) [ true ↦ refl | false ↦ refl ]
      left f false = elim (is_at (number n) (s.place f)) as (λ x. (x && true) ≡ x) [ true ↦ refl | false ↦ refl ]

  left_at : (w : WorkerId) (t : Bool) (o : Option WorkerId) → (is_at w o && not t) ≡ is_at w (if t && is_at w o then None else o)
  left_at w true o = elim (either (is_at w o)) [
    | inl on ↦ ap (λ x. x && false) on ∙ ap (λ x. is_at w (if x then None else o)) (sym on)
    | inr on ↦ ap (λ x. x && false) on ∙ sym on ∙ ap (λ x. is_at w (if x then None else o)) (sym on)
  ]
  left_at w false o = elim (is_at w o) as (λ x. (x && true) ≡ x) [ true ↦ refl | false ↦ refl ]

  -- a file that is on another worker is not here
  off_here : (n m : ℕ) (t : Bool) (o : Option WorkerId) → (n ≡ m → ⊥) → is_at (number n) o ≡ is_at (number n) (if t && is_at (number m) o then None else o)
  off_here n m t None off = elim (t && false) as (λ x. false ≡ is_at (number n) (if x then None else None)) [ true ↦ refl | false ↦ refl ]
  off_here n m false (Some v) off = refl
  off_here n m true (Some v) off = elim (either (m == v.0)) [
    | inl on ↦ let at : m ≡ v.0 = (Decides-eqb m v.0).0 on in
        off_worker n v.0 (λ e. off (e ∙ sym at)) ∙ ap (λ x. is_at (number n) (if x then None else Some v)) (sym on)
    | inr on ↦ ap (λ x. is_at (number n) (if x then None else Some v)) (sym on)
  ]

  pub gone_from_here : (w : WorkerId) (g : FileId) (n : ℕ) (bs : Blocks) → StandsAt sizes s n bs → n ≡ w.0 → StandsAt sizes (gone_from w g s) n (without g bs)
  gone_from_here w g n bs h at = record {
    resident = λ f. has_without f g bs ∙ ap (λ x. x && not (file_same f g)) (h.resident f)
        ∙ subst (λ k. (is_at (number n) (s.place f) && not (file_same f g)) ≡ is_at (number n) (if file_same f g && is_at (number k) (s.place f) then None else s.place f)) at (left_at (number n) (file_same f g) (s.place f));
    order = order_without s.recency g bs h.order;
    files = each_without (IsOfFile sizes s) g bs h.files;
  }

  pub gone_from_there : (w : WorkerId) (g : FileId) (n : ℕ) (bs : Blocks) → StandsAt sizes s n bs → (n ≡ w.0 → ⊥) → StandsAt sizes (gone_from w g s) n bs
  gone_from_there w g n bs h off =
      elsewhere n bs h (gone_from w g s) (λ f. h.resident f ∙ off_here n w.0 (file_same f g) (s.place f) off) (λ f there. refl) refl

  none_left : (w : WorkerId) (o : Option WorkerId) → false ≡ is_at w (if is_at w o then None else o)
  none_left w o = elim (either (is_at w o)) [
    | inl on ↦ ap (λ x. is_at w (if x then None else o)) (sym on)
    | inr on ↦ sym on ∙ ap (λ x. is_at w (if x then None else o)) (sym on)
  ]

  pub cleared_here : (w : WorkerId) (n : ℕ) → n ≡ w.0 → StandsAt sizes (cleared w s) n []
  cleared_here w n at = record {
    resident = λ f. subst (λ k. false ≡ is_at (number n) (if is_at (number k) (s.place f) then None else s.place f)) at (none_left (number n) (s.place f));
    order = tt;
    files = tt;
  }

  pub cleared_there : (w : WorkerId) (n : ℕ) (bs : Blocks) → StandsAt sizes s n bs → (n ≡ w.0 → ⊥) → StandsAt sizes (cleared w s) n bs
  cleared_there w n bs h off =
      elsewhere n bs h (cleared w s) (λ f. h.resident f ∙ off_here n w.0 true (s.place f) off) (λ f there. refl) refl
