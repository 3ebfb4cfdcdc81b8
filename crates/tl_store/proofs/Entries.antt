-- The entries of a cache under a test of equality of files, and the blocks that they are.
use Rattle.std.proofs.Common.{◌≡◌, ◌∙◌, arith, ℕ, suc, ◌+◌, ◌-◌, ◌*◌, ◌^◌, ◌<◌, ◌≤◌, Bool, true, false, not, [], ◌∷◌, length, take, Option, Some, None, is_some, IfSome, refl, sym, ap, subst}
use Rattle.std.proofs.Math.Bool.{cond}
use Rattle.std.proofs.lemmas.List.{take_all}
use Rattle.std.proofs.lemmas.List.Sums.{sum_by-cons}
use Rattle.std.proofs.lemmas.Map.Keys.{IsDistinct-head, IsDistinct-tail}
use Rattle.std.specs.List.{AllByRecursion, IsDistinct}
use Rattle.std.specs.Map.{keys_of, values_of, lookup, lookup_entry, remove_entry}
use Rattle.std.specs.Option.{option_map, option_map_or}
use Rattle.lru.specs.LruCache.{LruCache, promoted, put_entries}
use Rattle.tl_types.specs.Block.{FileOutcome}
use Rattle.tl_types.specs.Same.{file_same, file_same-Decides}
use Rattle.tl_types.specs.declared.file_id.FileId.{FileId}
use Rattle.tl_store.specs.Contents.{block_of, has, without, touched, block_size, used_by, size_of_block}
use Rattle.tl_store.specs.Kept.{Entries, IsKept, EachKept}

-- the sizes of words add up within 128 bits
small_step : (n m u : ℕ) → m < 2 ^ 64 → u ≤ n * 2 ^ 64 → m + u ≤ suc n * 2 ^ 64
small_step n m u a b = omega arith

small_end : (n m u : ℕ) → m < 2 ^ 64 → n < 2 ^ 63 → u ≤ n * 2 ^ 64 → u + m < 2 ^ 128
small_end n m u a b d = omega arith

small : (es : Entries) → EachKept es → used_by (values_of es) ≤ length es * 2 ^ 64
small [] k = omega arith
small (e ∷ es) k = subst (λ u. u ≤ suc (length es) * 2 ^ 64) (sym (sum_by-cons block_size e.1 (values_of es))) (small_step (length es) (block_size e.1) (used_by (values_of es)) k.0.1 (small es k.1))

pub fits : (es : Entries) (size : ℕ) → EachKept es → length es < 2 ^ 63 → size < 2 ^ 64 → used_by (values_of es) + size < 2 ^ 128
fits es size k few word = small_end (length es) size (used_by (values_of es)) word few (small es k)

regroup : (a b s u : ℕ) → b + s ≡ u → (a + b) + s ≡ a + u
regroup a b s u e = omega arith

behind : (u a : ℕ) → u + a ≡ a + u
behind u a = omega arith

room : (n m : ℕ) → n < m → n ≤ m - 1
room n m l = omega arith

module _ (eq : FileId → FileId → Bool) (eqs : (a b : FileId) → eq a b ≡ file_same a b) where
  -- an entry passes where its block does
  of : (f : FileId) (e : FileId × FileOutcome) → IsKept e → (b : Bool) → eq f e.0 ≡ b → file_same f e.1.file ≡ b
  of f e k b h = sym (ap (file_same f) k.0) ∙ sym (eqs f e.0) ∙ h

  pub entry_block : (f : FileId) (es : Entries) → EachKept es → option_map (λ e. e.1) (lookup_entry (eq f) es) ≡ block_of f (values_of es)
  entry_block f [] k = refl
  entry_block f (e ∷ es) k = (elim (eq f e.0) as (λ b. eq f e.0 ≡ b → option_map (λ e. e.1) (cond b (Some e) (lookup_entry (eq f) es)) ≡ block_of f (e.1 ∷ values_of es)) [
    | true ↦ λ h. sym (ap (λ b. cond b (Some e.1) (block_of f (values_of es))) (of f e k.0 true h))
    | false ↦ λ h. entry_block f es k.1 ∙ sym (ap (λ b. cond b (Some e.1) (block_of f (values_of es))) (of f e k.0 false h))
  ]) refl

  pub lookup_block : (f : FileId) (es : Entries) → EachKept es → lookup (eq f) es ≡ block_of f (values_of es)
  lookup_block f [] k = refl
  lookup_block f (e ∷ es) k = (elim (eq f e.0) as (λ b. eq f e.0 ≡ b → cond b (Some e.1) (lookup (eq f) es) ≡ block_of f (e.1 ∷ values_of es)) [
    | true ↦ λ h. sym (ap (λ b. cond b (Some e.1) (block_of f (values_of es))) (of f e k.0 true h))
    | false ↦ λ h. lookup_block f es k.1 ∙ sym (ap (λ b. cond b (Some e.1) (block_of f (values_of es))) (of f e k.0 false h))
  ]) refl

  -- where no entry passes, none is left out
  others : (f : FileId) (es : Entries) → EachKept es → AllByRecursion (λ y. eq f y ≡ false) (keys_of es) → without f (values_of es) ≡ values_of es
  others f [] k a = refl
  others f (e ∷ es) k a =
      ap (λ b. cond (not b) (e.1 ∷ without f (values_of es)) (without f (values_of es))) (of f e k.0 false a.0)
      ∙ ap (λ vs. e.1 ∷ vs) (others f es k.1 a.1)

  pub removed : (f : FileId) (es : Entries) → EachKept es → IsDistinct eq (keys_of es) → values_of (remove_entry (eq f) es) ≡ without f (values_of es)
  removed f [] k d = refl
  removed f (e ∷ es) k d = (elim (eq f e.0) as (λ b. eq f e.0 ≡ b → values_of (cond b es (e ∷ remove_entry (eq f) es)) ≡ without f (e.1 ∷ values_of es)) [
    | true ↦ λ h. let at : f ≡ e.0 = (file_same-Decides f e.0).0 (sym (eqs f e.0) ∙ h) in
        sym (ap (λ b. cond (not b) (e.1 ∷ without f (values_of es)) (without f (values_of es))) (of f e k.0 true h)
        ∙ others f es k.1 (subst (λ g. AllByRecursion (λ y. eq g y ≡ false) (keys_of es)) (sym at) (IsDistinct-head eq e.0 (keys_of es) d)))
    | false ↦ λ h. sym (ap (λ b. cond (not b) (e.1 ∷ without f (values_of es)) (without f (values_of es))) (of f e k.0 false h)
        ∙ ap (λ vs. e.1 ∷ vs) (sym (removed f es k.1 (IsDistinct-tail eq e.0 (keys_of es) d))))
  ]) refl

  pub kept_removed : (f : FileId) (es : Entries) → EachKept es → EachKept (remove_entry (eq f) es)
  kept_removed f [] k = k
  kept_removed f (e ∷ es) k = elim (eq f e.0) as (λ b. EachKept (cond b es (e ∷ remove_entry (eq f) es))) [
    | true ↦ k.1
    | false ↦ (k.0, kept_removed f es k.1)
  ]

  found_kept : (f : FileId) (es : Entries) → EachKept es → IfSome (lookup_entry (eq f) es) IsKept
  found_kept f [] k = tt
  found_kept f (e ∷ es) k = elim (eq f e.0) as (λ b. IfSome (cond b (Some e) (lookup_entry (eq f) es)) IsKept) [
    | true ↦ k.0
    | false ↦ found_kept f es k.1
  ]

  used_entry : (f : FileId) (es : Entries) → used_by (values_of (remove_entry (eq f) es)) + size_of_block (option_map (λ e. e.1) (lookup_entry (eq f) es)) ≡ used_by (values_of es)
  used_entry f [] = refl
  used_entry f (e ∷ es) = (elim (eq f e.0) as (λ b. used_by (values_of (cond b es (e ∷ remove_entry (eq f) es))) + size_of_block (option_map (λ e. e.1) (cond b (Some e) (lookup_entry (eq f) es))) ≡ block_size e.1 + used_by (values_of es)) [
    | true ↦ behind (used_by (values_of es)) (block_size e.1)
    | false ↦ ap (λ u. u + size_of_block (option_map (λ e. e.1) (lookup_entry (eq f) es))) (sum_by-cons block_size e.1 (values_of (remove_entry (eq f) es)))
        ∙ regroup (block_size e.1) (used_by (values_of (remove_entry (eq f) es))) (size_of_block (option_map (λ e. e.1) (lookup_entry (eq f) es))) (used_by (values_of es)) (used_entry f es)
  ]) ∙ sym (sum_by-cons block_size e.1 (values_of es))

  pub used_removed : (f : FileId) (es : Entries) → EachKept es → used_by (values_of (remove_entry (eq f) es)) + size_of_block (lookup (eq f) es) ≡ used_by (values_of es)
  used_removed f es k = ap (λ o. used_by (values_of (remove_entry (eq f) es)) + size_of_block o) (lookup_block f es k ∙ sym (entry_block f es k)) ∙ used_entry f es

  promoted_blocks : (f : FileId) (es : Entries) → EachKept es → IsDistinct eq (keys_of es) → (o : Option (FileId × FileOutcome))
      → values_of (option_map_or (λ e. e ∷ remove_entry (eq f) es) o es) ≡ option_map_or (λ block. block ∷ without f (values_of es)) (option_map (λ e. e.1) o) (values_of es)
  promoted_blocks f es k d None = refl
  promoted_blocks f es k d (Some e) = ap (λ vs. e.1 ∷ vs) (removed f es k d)

  pub promoted_touched : (f : FileId) (es : Entries) → EachKept es → IsDistinct eq (keys_of es) → values_of (promoted (eq f) es) ≡ touched f (values_of es)
  promoted_touched f es k d = promoted_blocks f es k d (lookup_entry (eq f) es) ∙ ap (λ o. option_map_or (λ block. block ∷ without f (values_of es)) o (values_of es)) (entry_block f es k)

  kept_front : (f : FileId) (es : Entries) → EachKept es → (o : Option (FileId × FileOutcome)) → IfSome o IsKept → EachKept (option_map_or (λ e. e ∷ remove_entry (eq f) es) o es)
  kept_front f es k None found = k
  kept_front f es k (Some e) found = (found, kept_removed f es k)

  pub kept_promoted : (f : FileId) (es : Entries) → EachKept es → EachKept (promoted (eq f) es)
  kept_promoted f es k = kept_front f es k (lookup_entry (eq f) es) (found_kept f es k)

  used_front : (f : FileId) (es : Entries) → (o : Option (FileId × FileOutcome)) → lookup_entry (eq f) es ≡ o → used_by (values_of (option_map_or (λ e. e ∷ remove_entry (eq f) es) o es)) ≡ used_by (values_of es)
  used_front f es None h = refl
  used_front f es (Some e) h =
      sum_by-cons block_size e.1 (values_of (remove_entry (eq f) es))
      ∙ sym (behind (used_by (values_of (remove_entry (eq f) es))) (block_size e.1))
      ∙ ap (λ o. used_by (values_of (remove_entry (eq f) es)) + size_of_block (option_map (λ e. e.1) o)) (sym h)
      ∙ used_entry f es

  pub used_promoted : (f : FileId) (es : Entries) → used_by (values_of (promoted (eq f) es)) ≡ used_by (values_of es)
  used_promoted f es = used_front f es (lookup_entry (eq f) es) refl

  fresh : (c : LruCache FileId FileOutcome) (f : FileId) (block : FileOutcome) → length c.entries < c.cap → (o : Option (FileId × FileOutcome)) → is_some (option_map (λ e. e.1) o) ≡ false
      → option_map_or (λ e. (e.0, block) ∷ remove_entry (eq f) c.entries) o ((f, block) ∷ take (c.cap - 1) c.entries) ≡ (f, block) ∷ c.entries
  fresh c f block l None a = ap (λ es. (f, block) ∷ es) (take_all (c.cap - 1) c.entries (room (length c.entries) c.cap l))
  fresh c f block l (Some e) a = cc

  -- a new file goes to the front, and nothing is dropped
  pub put_new : (c : LruCache FileId FileOutcome) (old : Entries) (f : FileId) (block : FileOutcome) → f ≡ block.file → c.entries ≡ old → EachKept old → has block.file (values_of old) ≡ false → length c.entries < c.cap
      → put_entries eq c f block ≡ (block.file, block) ∷ old
  put_new c old f block at same k a l =
      let kept : EachKept c.entries = subst EachKept (sym same) k in
      let absent : has f (values_of c.entries) ≡ false = ap (λ g. has g (values_of c.entries)) at ∙ ap (λ es. has block.file (values_of es)) same ∙ a in
      fresh c f block l (lookup_entry (eq f) c.entries) (ap is_some (entry_block f c.entries kept) ∙ absent)
      ∙ ap (λ g. (g, block) ∷ c.entries) at ∙ ap (λ es. (block.file, block) ∷ es) same
