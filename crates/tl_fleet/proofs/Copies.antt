-- How many of some blocks are of a file, and how many are left without it.
use Rattle.std.proofs.Common.{◌≡◌, ◌∙◌, arith, ℕ, suc, ◌+◌, ◌≤◌, Bool, true, false, not, cond, inl, inr, [], ◌∷◌, length, Option, Some, None, is_some, refl, sym, ap, subst}
use Rattle.std.specs.Option.{option_map_or}
use Rattle.std.proofs.lemmas.Option.{none-some, same_Some}
use Rattle.tl_types.specs.Block.{FileOutcome}
use Rattle.tl_types.specs.declared.file_id.FileId.{FileId}
use Rattle.tl_store.specs.Contents.{Blocks, block_of, has, is_of, is_of_other, touched, without}
use Rattle.tl_fleet.specs.Workers.{copies_in}
use Rattle.tl_fleet.proofs.Files.{either, same_is}

pub nothing : (n : ℕ) → 0 ≤ n
nothing n = omega arith

pub copies_some : (f : FileId) (bs : Blocks) → has f bs ≡ true → 1 ≤ copies_in f bs
copies_some f [] = λ h. absurd (cc)
copies_some f (b ∷ bs) = elim (is_of f b) as (λ x. is_some (cond x (Some b) (block_of f bs)) ≡ true → 1 ≤ cond x (1 + copies_in f bs) (copies_in f bs)) [
  | true ↦ λ h. omega arith
  | false ↦ λ h. copies_some f bs h
]

pub copies_none : (f : FileId) (bs : Blocks) → has f bs ≡ false → copies_in f bs ≡ 0
copies_none f [] = λ h. refl
copies_none f (b ∷ bs) = elim (is_of f b) as (λ x. is_some (cond x (Some b) (block_of f bs)) ≡ false → cond x (1 + copies_in f bs) (copies_in f bs) ≡ 0) [
  | true ↦ λ h. absurd (cc)
  | false ↦ λ h. copies_none f bs h
]

-- what goes and what is left are all
pub copies_left : (f : FileId) (bs : Blocks) → length (without f bs) + copies_in f bs ≡ length bs
copies_left f [] = refl
copies_left f (b ∷ bs) = elim (is_of f b) as (λ x. length (cond (not x) (b ∷ without f bs) (without f bs)) + cond x (1 + copies_in f bs) (copies_in f bs) ≡ suc (length bs)) [
  | true ↦ omega (arith, copies_left f bs)
  | false ↦ omega (arith, copies_left f bs)
]

copies_cond : (f : FileId) (t : Bool) (b : FileOutcome) (bs : Blocks) (n : ℕ) → copies_in f bs ≡ n → copies_in f (cond t (b ∷ bs) bs) ≡ cond t (cond (is_of f b) (1 + n) n) n
copies_cond f true b bs n e = ap (λ m. cond (is_of f b) (1 + m) m) e
copies_cond f false b bs n e = e

gone_step : (x : Bool) → ◌≡◌ {A = ℕ} (cond (not x) (cond x (1 + 0) 0) 0) 0
gone_step true = refl
gone_step false = refl

copies_gone : (f : FileId) (bs : Blocks) → copies_in f (without f bs) ≡ 0
copies_gone f [] = refl
copies_gone f (b ∷ bs) = copies_cond f (is_of_other f b) b (without f bs) 0 (copies_gone f bs) ∙ gone_step (is_of f b)

less_step : (t x : Bool) (m n : ℕ) → m ≤ n → cond t (cond x (1 + m) m) m ≤ cond x (1 + n) n
less_step true true m n l = omega arith
less_step true false m n l = l
less_step false true m n l = omega arith
less_step false false m n l = l

pub copies_without : (f g : FileId) (bs : Blocks) → copies_in f (without g bs) ≤ copies_in f bs
copies_without f g [] = nothing 0
copies_without f g (b ∷ bs) =
    subst (λ k. k ≤ copies_in f (b ∷ bs)) (sym (copies_cond f (is_of_other g b) b (without g bs) (copies_in f (without g bs)) refl))
    (less_step (is_of_other g b) (is_of f b) (copies_in f (without g bs)) (copies_in f bs) (copies_without f g bs))

pub block_is : (g : FileId) (bs : Blocks) (b : FileOutcome) → block_of g bs ≡ Some b → b.file ≡ g
block_is g [] b e = absurd (none-some b e)
block_is g (c ∷ bs) b e = elim (either (is_of g c)) [
  | inl t ↦
      let same : c ≡ b = same_Some c b (ap (λ x. cond x (Some c) (block_of g bs)) (sym t) ∙ e) in
      ap (λ (x : FileOutcome). x.file) (sym same) ∙ sym (same_is g c.file t)
  | inr t ↦ block_is g bs b (ap (λ x. cond x (Some c) (block_of g bs)) (sym t) ∙ e)
]

front_step : (x : Bool) (m n : ℕ) → (x ≡ true → (m ≡ 0) × (1 ≤ n)) → m ≤ n → cond x (1 + m) m ≤ n
front_step true m n h l = let both = h refl in omega (arith, both.0, both.1)
front_step false m n h l = l

touched_at : (f g : FileId) (bs : Blocks) (o : Option FileOutcome) → block_of g bs ≡ o → copies_in f (option_map_or (λ b. b ∷ without g bs) o bs) ≤ copies_in f bs
touched_at f g bs None e = omega arith
touched_at f g bs (Some b) e = front_step (is_of f b) (copies_in f (without g bs)) (copies_in f bs)
    (λ t.
    let same : g ≡ f = sym (same_is f b.file t ∙ block_is g bs b e) in
    (subst (λ h. copies_in h (without g bs) ≡ 0) same (copies_gone g bs), subst (λ h. 1 ≤ copies_in h bs) same (copies_some g bs (ap is_some e))))
    (copies_without f g bs)

pub copies_touched : (f g : FileId) (bs : Blocks) → copies_in f (touched g bs) ≤ copies_in f bs
copies_touched f g bs = touched_at f g bs (block_of g bs) refl

length_at : (f : FileId) (bs : Blocks) (o : Option FileOutcome) → block_of f bs ≡ o → copies_in f bs ≤ 1 → length (option_map_or (λ b. b ∷ without f bs) o bs) ≡ length bs
length_at f bs None e once = refl
length_at f bs (Some b) e once =
    let left : length (without f bs) + copies_in f bs ≡ length bs = copies_left f bs in
    let there : 1 ≤ copies_in f bs = copies_some f bs (ap is_some e) in
    omega arith

-- a file of which there is one block is used
pub touched_length : (f : FileId) (bs : Blocks) → copies_in f bs ≤ 1 → length (touched f bs) ≡ length bs
touched_length f bs once = length_at f bs (block_of f bs) refl once
