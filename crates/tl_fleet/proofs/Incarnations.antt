-- The incarnations of workers after a change of workers.
use Rattle.std.proofs.Common.{◌≡◌, ◌∙◌, ℕ, zero, suc, ◌+◌, Bool, true, false, inl, inr, if◌then◌else◌, [], ◌∷◌, map, slice_get, Option, Some, None, refl, sym, ap}
use Rattle.std.specs.Prelude.{◌==◌}
use Rattle.std.specs.Option.{option_map}
use Rattle.std.proofs.lemmas.Bool.Decides.{Decides-eqb}
use Rattle.std.proofs.lemmas.Option.{slice_get-map}
use Rattle.tl_types.specs.Same.{worker_same}
use Rattle.tl_types.specs.declared.worker_id.WorkerId.{WorkerId}
use Rattle.tl_store.specs.Contents.{Blocks}
use Rattle.tl_fleet.specs.Workers.{Workers, changed_at, emptied, incarnation_of, lost, with_blocks}
use Rattle.tl_fleet.specs.declared.worker.Worker.{Worker}
use Rattle.tl_fleet.proofs.Files.{either}

abbrev incarnation_at : ℕ → Workers → Option ℕ
incarnation_at i ws = option_map incarnation_of (slice_get ws i)

mapped_one : (change : Blocks → Blocks) (o : Option Worker) → option_map incarnation_of (option_map (with_blocks change) o) ≡ option_map incarnation_of o
mapped_one change None = refl
mapped_one change (Some w) = refl

-- the blocks of each worker change
pub mapped_same : (change : Blocks → Blocks) (i : ℕ) (ws : Workers) → incarnation_at i (map (with_blocks change) ws) ≡ incarnation_at i ws
mapped_same change i ws = ap (option_map incarnation_of) (slice_get-map (with_blocks change) ws i) ∙ mapped_one change (slice_get ws i)

-- the blocks of one worker change
pub changed_same : (change : Blocks → Blocks) (i k : ℕ) (ws : Workers) → incarnation_at i (changed_at k (with_blocks change) ws) ≡ incarnation_at i ws
changed_same change i zero [] = refl
changed_same change i (suc k) [] = refl
changed_same change zero zero (w ∷ ws) = refl
changed_same change zero (suc k) (w ∷ ws) = refl
changed_same change (suc i) zero (w ∷ ws) = refl
changed_same change (suc i) (suc k) (w ∷ ws) = changed_same change i k ws

-- ---- one worker is lost

lost_here : (k : ℕ) (ws : Workers) → incarnation_at k (changed_at k emptied ws) ≡ option_map (λ n. n + 1) (incarnation_at k ws)
lost_here zero [] = refl
lost_here (suc k) [] = refl
lost_here zero (w ∷ ws) = refl
lost_here (suc k) (w ∷ ws) = lost_here k ws

lost_elsewhere : (i k : ℕ) (ws : Workers) → (i ≡ k → ⊥) → incarnation_at i (changed_at k emptied ws) ≡ incarnation_at i ws
lost_elsewhere i zero [] off = refl
lost_elsewhere i (suc k) [] off = refl
lost_elsewhere zero zero (w ∷ ws) off = absurd (off refl)
lost_elsewhere zero (suc k) (w ∷ ws) off = refl
lost_elsewhere (suc i) zero (w ∷ ws) off = refl
lost_elsewhere (suc i) (suc k) (w ∷ ws) off = lost_elsewhere i k ws (λ same. off (ap suc same))

no_more : (o : Option ℕ) → o ≡ option_map (λ n. n) o
no_more None = refl
no_more (Some n) = refl

apart : (i k : ℕ) → (i == k) ≡ false → i ≡ k → ⊥
apart i k off same = let no : true ≡ false = sym ((Decides-eqb i k).1 same) ∙ off in cc

pub lost_raises : (v w : WorkerId) (ws : Workers) →
    incarnation_at v.0 (lost w ws) ≡ option_map (λ incarnation. if worker_same v w then incarnation + 1 else incarnation) (incarnation_at v.0 ws)
lost_raises v w ws =
    let raised = λ (t : Bool). option_map (λ incarnation. if t then incarnation + 1 else incarnation) (incarnation_at v.0 ws) in
    elim (either (v.0 == w.0)) [
      | inl t ↦ ap (λ k. incarnation_at v.0 (changed_at k emptied ws)) (sym ((Decides-eqb v.0 w.0).0 t)) ∙ lost_here v.0 ws ∙ ap raised (sym t)
      | inr t ↦ lost_elsewhere v.0 w.0 ws (apart v.0 w.0 t) ∙ no_more (incarnation_at v.0 ws) ∙ ap raised (sym t)
    ]
