-- Where a fleet that stands in order finds a file: where the past has it.
use Rattle.std.proofs.Common.{◌≡◌, ◌∙◌, ℕ, zero, suc, ◌+◌, ◌<◌, Bool, true, false, ◌||◌, [], ◌∷◌, length, Option, Some, None, is_some, refl, sym, ap, subst, arith}
use Rattle.std.specs.List.{list_any}
use Rattle.std.specs.Option.{option_map, option_map_or}
use Rattle.std.proofs.lemmas.Bool.Decides.{Decides-eqb}
use Rattle.tl_types.specs.Block.{FileOutcome}
use Rattle.tl_types.specs.declared.file_id.FileId.{FileId}
use Rattle.tl_types.specs.declared.worker_id.WorkerId.{WorkerId}
use Rattle.tl_model.specs.declared.header.Header.{Header}
use Rattle.tl_model.specs.Past.{Past}
use Rattle.tl_model.specs.Residency.{place, is_at}
use Rattle.tl_model.specs.Eviction.{Sizes}
use Rattle.tl_store.specs.Contents.{block_of}
use Rattle.tl_fleet.specs.Workers.{Workers, has_file, is_resident, found_from, found, worker_found}
use Rattle.tl_fleet.specs.Order.{Sight, sight_of, EachStands, StandsInOrder}
use Rattle.tl_fleet.proofs.Steps.{number, off_worker}

next_found : (n : ℕ) (o : Option FileOutcome) (rest : Option (WorkerId × FileOutcome)) (b : Bool) → is_some o ≡ b → (want : Option WorkerId) →
    (b ≡ true → Some (number n) ≡ want) → (b ≡ false → option_map worker_found rest ≡ want) → option_map worker_found (option_map_or (λ block. Some (number n, block)) o rest) ≡ want
next_found n None rest true e want here later = absurd (cc)
next_found n None rest false e want here later = later refl
next_found n (Some block) rest true e want here later = here refl
next_found n (Some block) rest false e want here later = absurd (cc)

module _ (sizes : Sizes) (header : Header) (s : Sight) (f : FileId) where
  found_nowhere : (n : ℕ) (ws : Workers) → EachStands sizes header s n ws → s.place f ≡ None → option_map worker_found (found_from n f ws) ≡ None
  found_nowhere n [] h e = refl
  found_nowhere n (w ∷ ws) h e =
      next_found n (block_of f w.store.blocks) (found_from (n + 1) f ws) false (h.0.1.resident f ∙ ap (is_at (number n)) e) None
      (λ no_test. absurd (cc)) (λ same. found_nowhere (n + 1) ws h.1 e)

  found_there : (n k : ℕ) (ws : Workers) (w : WorkerId) → EachStands sizes header s n ws → s.place f ≡ Some w → w.0 ≡ n + k → k < length ws → option_map worker_found (found_from n f ws) ≡ Some w
  found_there n k [] w h e at l = absurd (omega arith)
  found_there n zero (x ∷ ws) w h e at l =
      let here : n ≡ w.0 = omega arith in
      next_found n (block_of f x.store.blocks) (found_from (n + 1) f ws) true (h.0.1.resident f ∙ ap (is_at (number n)) e ∙ (Decides-eqb n w.0).1 here) (Some w)
      (λ same. λ i. Some (record { 0 = here i })) (λ no_test. absurd (cc))
  found_there n (suc k) (x ∷ ws) w h e at l =
      next_found n (block_of f x.store.blocks) (found_from (n + 1) f ws) false (h.0.1.resident f ∙ ap (is_at (number n)) e ∙ off_worker n w.0 (apart n k w at)) (Some w)
      (λ no_test. absurd (cc)) (λ same. found_there (n + 1) k ws w h.1 e (omega arith) (omega arith))
    where
      apart : (n k : ℕ) (w : WorkerId) → w.0 ≡ n + suc k → n ≡ w.0 → ⊥
      apart n k w at here = omega arith

found_at : (sizes : Sizes) (header : Header) (past : Past) (ws : Workers) (f : FileId) (o : Option WorkerId) → StandsInOrder sizes header past ws → place past f ≡ o → option_map worker_found (found f ws) ≡ o
found_at sizes header past ws f None h e = found_nowhere sizes header (sight_of past) f 0 ws h.1 e
found_at sizes header past ws f (Some w) h e =
    found_there sizes header (sight_of past) f 0 w.0 ws w h.1 e (omega arith) (subst (λ k. w.0 < k) (sym h.0) (h.2 f w e))

-- a file is found where the past has it
pub found_place : (sizes : Sizes) (header : Header) (past : Past) (ws : Workers) (f : FileId) → StandsInOrder sizes header past ws → option_map worker_found (found f ws) ≡ place past f
found_place sizes header past ws f h = found_at sizes header past ws f (place past f) h refl

some_found : (n : ℕ) (o : Option FileOutcome) (rest : Option (WorkerId × FileOutcome)) (later : Bool) → later ≡ is_some (option_map worker_found rest) →
    (is_some o || later) ≡ is_some (option_map worker_found (option_map_or (λ block. Some (number n, block)) o rest))
some_found n None rest later h = h
some_found n (Some block) rest later h = refl

pub found_some : (n : ℕ) (f : FileId) (ws : Workers) → list_any (has_file f) ws ≡ is_some (option_map worker_found (found_from n f ws))
found_some n f [] = refl
found_some n f (w ∷ ws) = some_found n (block_of f w.store.blocks) (found_from (n + 1) f ws) (list_any (has_file f) ws) (found_some (n + 1) f ws)

-- a file is in memory where the past has it there
pub resident_same : (sizes : Sizes) (header : Header) (past : Past) (ws : Workers) (f : FileId) → StandsInOrder sizes header past ws → is_resident f ws ≡ is_some (place past f)
resident_same sizes header past ws f h = found_some 0 f ws ∙ ap is_some (found_place sizes header past ws f h)
