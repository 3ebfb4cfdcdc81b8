-- The workers stand in order for a past, and for that past with one more event.
use Rattle.std.proofs.Common.{◌≡◌, ◌∙◌, ℕ, zero, suc, ◌+◌, ◌<◌, ◌≤◌, inl, true, false, if◌then◌else◌, [], ◌∷◌, length, map, replicate, Some, is_some, refl, sym, ap, arith, Bool, ◌&&◌, subst, None}
use Rattle.std.specs.Prelude.{⊤}
use Rattle.std.specs.List.{AllByRecursion, list_any}
use Rattle.std.proofs.lemmas.Bool.{or_parts}
use Rattle.std.proofs.lemmas.List.{length-replicate}
use Rattle.tl_types.specs.Block.{FileOutcome}
use Rattle.tl_types.specs.Same.{file_same}
use Rattle.tl_types.specs.declared.actor.Actor.{Actor}
use Rattle.tl_types.specs.declared.digest.Digest.{Digest}
use Rattle.tl_types.specs.declared.file_id.FileId.{FileId}
use Rattle.tl_types.specs.declared.worker_id.WorkerId.{WorkerId}
use Rattle.tl_model.specs.declared.header.Header.{Header}
use Rattle.tl_model.specs.Past.{Past}
use Rattle.tl_model.specs.Residency.{place, recency, uses, is_at}
use Rattle.tl_model.specs.Eviction.{Sizes}
use Rattle.tl_store.specs.Contents.{has, without, touched}
use Rattle.tl_fleet.specs.Workers.{Workers, has_file, is_resident, changed_at, with_blocks, put_front, emptied, installed, all_touched, all_without, lost, dropped, new_worker, new_workers}
use Rattle.tl_fleet.specs.Order.{Sight, IsWithin, sight_of, IsOfFile, StandsAt, EachStands, Stands, StandsInOrder}
use Rattle.tl_fleet.specs.Events.{after_load, after_served, after_free, after_drop, after_loss}
use Rattle.tl_fleet.specs.declared.worker.Worker.{Worker}
use Rattle.tl_fleet.proofs.Steps.{brought, used_at, gone, gone_from, cleared, IsNewest, brought_here, brought_there, touched_here, gone_here, gone_from_here, gone_from_there, cleared_here, cleared_there}

pub length_changed : (n : ℕ) (change : Worker → Worker) (ws : Workers) → length (changed_at n change ws) ≡ length ws
length_changed zero change [] = refl
length_changed (suc n) change [] = refl
length_changed zero change (w ∷ ws) = refl
length_changed (suc n) change (w ∷ ws) = ap suc (length_changed n change ws)

length_all : (change : Worker → Worker) (ws : Workers) → length (map change ws) ≡ length ws
length_all change [] = refl
length_all change (w ∷ ws) = ap suc (length_all change ws)

-- a worker of this number with its capacity and its blocks
abbrev IsWorker : Sizes → Header → Sight → ℕ → Worker → Type 0
IsWorker sizes header s n w = (w.store.capacity ≡ header.capacity) × StandsAt sizes s n w.store.blocks

-- where each worker stands before a change of all, each stands after it
each_all : (old sizes : Sizes) (header : Header) (s t : Sight) (change : Worker → Worker) →
    ((n : ℕ) (w : Worker) → IsWorker old header s n w → IsWorker sizes header t n (change w)) →
    (n : ℕ) (ws : Workers) → EachStands old header s n ws → EachStands sizes header t n (map change ws)
each_all old sizes header s t change so n [] h = tt
each_all old sizes header s t change so n (w ∷ ws) h = (so n w h.0, each_all old sizes header s t change so (n + 1) ws h.1)

-- where one worker changes and the others stay
module _ (sizes : Sizes) (header : Header) (s t : Sight) (change : Worker → Worker) (m : ℕ) (P : Worker → Type 0)
    (here : (n : ℕ) (w : Worker) → P w → n ≡ m → IsWorker sizes header s n w → IsWorker sizes header t n (change w))
    (there : (n : ℕ) (w : Worker) → P w → (n ≡ m → ⊥) → StandsAt sizes s n w.store.blocks → StandsAt sizes t n w.store.blocks) where
  apart_at : (n : ℕ) → m < n → n ≡ m → ⊥
  apart_at n l e = omega arith

  each_later : (n : ℕ) (ws : Workers) → m < n → AllByRecursion P ws → EachStands sizes header s n ws → EachStands sizes header t n ws
  each_later n [] l p h = tt
  each_later n (w ∷ ws) l p h = ((h.0.0, there n w p.0 (apart_at n l) h.0.1), each_later (n + 1) ws (omega arith) p.1 h.1)

  apart_before : (n k : ℕ) → m ≡ n + suc k → n ≡ m → ⊥
  apart_before n k e f = omega arith

  each_one : (n k : ℕ) (ws : Workers) → m ≡ n + k → AllByRecursion P ws → EachStands sizes header s n ws → EachStands sizes header t n (changed_at k change ws)
  each_one n zero [] e p h = tt
  each_one n (suc k) [] e p h = tt
  each_one n zero (w ∷ ws) e p h = (here n w p.0 (omega arith) h.0, each_later (n + 1) ws (omega arith) p.1 h.1)
  each_one n (suc k) (w ∷ ws) e p h = ((h.0.0, there n w p.0 (apart_before n k e) h.0.1), each_one (n + 1) k ws (omega arith) p.1 h.1)

  pub one_stands : (ws : Workers) → AllByRecursion P ws → Stands sizes header s ws → IsWithin header t → Stands sizes header t (changed_at m change ws)
  one_stands ws p h within = (length_changed m change ws ∙ h.0, each_one 0 m ws (omega arith) p h.1, within)

on_none : (f : FileId) (ws : Workers) → is_resident f ws ≡ false → AllByRecursion (λ w. has f w.store.blocks ≡ false) ws
on_none f [] h = tt
on_none f (w ∷ ws) h = let parts = or_parts (has_file f w) (list_any (has_file f) ws) h in (parts.0, on_none f ws parts.1)

any_worker : (ws : Workers) → AllByRecursion (λ w. ⊤) ws
any_worker [] = tt
any_worker (w ∷ ws) = (tt, any_worker ws)

-- a file that goes is on no worker
still_within : (header : Header) (s : Sight) → IsWithin header s → (f : FileId) (v : WorkerId) (b : Bool) → (if b then None else s.place f) ≡ Some v → v.0 < header.workers
still_within header s within f v true e = absurd (cc)
still_within header s within f v false e = within f v e

now_within : (header : Header) (s : Sight) → IsWithin header s → (w : WorkerId) → w.0 < header.workers → (f : FileId) (v : WorkerId) (b : Bool) → (if b then Some w else s.place f) ≡ Some v → v.0 < header.workers
now_within header s within w known f v true e = let same : w ≡ v = cc in subst (λ (x : WorkerId). x.0 < header.workers) same known
now_within header s within w known f v false e = within f v e

module _ (sizes : Sizes) (header : Header) (s : Sight) (ws : Workers) (h : Stands sizes header s ws) where
  pub stands_brought : (w : WorkerId) (block : FileOutcome) (time : ℕ) → w.0 < header.workers → is_resident block.file ws ≡ false → IsOfFile sizes s block → IsNewest s time block.file →
      Stands sizes header (brought w block.file time s) (installed w block ws)
  stands_brought w block time known absent of newest =
      one_stands sizes header s (brought w block.file time s) (with_blocks (put_front block)) w.0 (λ x. has block.file x.store.blocks ≡ false)
      (λ n x off at k. (k.0, brought_here sizes s w block time n x.store.blocks k.1 at off of newest))
      (λ n x off at k. brought_there sizes s w block.file time n x.store.blocks k at off)
      ws (on_none block.file ws absent) h
      (λ f v e. now_within header s h.2 w known f v (file_same f block.file) e)

  pub stands_used : (g : FileId) (time : ℕ) → IsNewest s time g → Stands sizes header (used_at g time s) (all_touched g ws)
  stands_used g time newest = (
    length_all (with_blocks (touched g)) ws ∙ h.0,
    each_all sizes sizes header s (used_at g time s) (with_blocks (touched g)) (λ n x k. (k.0, touched_here sizes s g time n x.store.blocks k.1 newest)) 0 ws h.1,
    h.2,
  )

  pub stands_gone : (g : FileId) → Stands sizes header (gone g s) (all_without g ws)
  stands_gone g = (
    length_all (with_blocks (without g)) ws ∙ h.0,
    each_all sizes sizes header s (gone g s) (with_blocks (without g)) (λ n x k. (k.0, gone_here sizes s g n x.store.blocks k.1)) 0 ws h.1,
    λ f v e. still_within header s h.2 f v (file_same f g) e,
  )

  pub stands_gone_from : (w : WorkerId) (g : FileId) → Stands sizes header (gone_from w g s) (changed_at w.0 (with_blocks (without g)) ws)
  stands_gone_from w g =
      one_stands sizes header s (gone_from w g s) (with_blocks (without g)) w.0 (λ x. ⊤)
      (λ n x off at k. (k.0, gone_from_here sizes s w g n x.store.blocks k.1 at))
      (λ n x off at k. gone_from_there sizes s w g n x.store.blocks k at)
      ws (any_worker ws) h
      (λ f v e. still_within header s h.2 f v (file_same f g && is_at w (s.place f)) e)

  pub stands_cleared : (w : WorkerId) → Stands sizes header (cleared w s) (changed_at w.0 emptied ws)
  stands_cleared w =
      one_stands sizes header s (cleared w s) emptied w.0 (λ x. ⊤)
      (λ n x off at k. (k.0, cleared_here sizes s w n at))
      (λ n x off at k. cleared_there sizes s w n x.store.blocks k at)
      ws (any_worker ws) h
      (λ f v e. still_within header s h.2 f v (is_at w (s.place f)) e)

-- ---- events

pub recency_at_most : (past : Past) (f : FileId) → recency past f ≤ length past
recency_at_most [] f = omega arith
recency_at_most (e ∷ past) f =
    let le : recency past f ≤ length past = recency_at_most past f in
    elim (uses past e.act f) as (λ t. (if t then length past else recency past f) ≤ suc (length past)) [ true ↦ omega arith | false ↦ omega arith ]

-- what is in memory was last used before now
pub used_before : (past : Past) (f : FileId) → is_some (place past f) ≡ true → recency past f < length past
used_before [] f h = absurd (cc)
used_before (e ∷ past) f h =
    let le : recency past f ≤ length past = recency_at_most past f in
    elim (uses past e.act f) as (λ t. (if t then length past else recency past f) < suc (length past)) [ true ↦ omega arith | false ↦ omega arith ]

pub now_newest : (past : Past) (g : FileId) → IsNewest (sight_of past) (length past) g
now_newest past g f off there = inl (used_before past f there)

module _ (sizes : Sizes) (header : Header) (past : Past) (ws : Workers) (h : StandsInOrder sizes header past ws) (actor : Actor) where
  pub load_stands : (w : WorkerId) (block : FileOutcome) → w.0 < length ws → is_resident block.file ws ≡ false → IsOfFile sizes (sight_of past) block →
      StandsInOrder sizes header (after_load actor w block.file past) (installed w block ws)
  load_stands w block known absent of =
      stands_brought sizes header (sight_of past) ws h w block (length past) (subst (λ k. w.0 < k) h.0 known) absent of (now_newest past block.file)

  pub served_stands : (g : FileId) (digest : Digest) → StandsInOrder sizes header (after_served actor g digest past) (all_touched g ws)
  served_stands g digest = stands_used sizes header (sight_of past) ws h g (length past) (now_newest past g)

  pub free_stands : (g : FileId) → StandsInOrder sizes header (after_free actor g past) (all_without g ws)
  free_stands g = stands_gone sizes header (sight_of past) ws h g

  pub drop_stands : (drop : WorkerId × FileId) → StandsInOrder sizes header (after_drop actor drop past) (dropped (Some drop) ws)
  drop_stands drop = stands_gone_from sizes header (sight_of past) ws h drop.0 drop.1

  pub loss_stands : (w : WorkerId) → StandsInOrder sizes header (after_loss actor w past) (lost w ws)
  loss_stands w = stands_cleared sizes header (sight_of past) ws h w

-- ---- a new fleet

each_new : (sizes : Sizes) (header : Header) (capacity : ℕ) → header.capacity ≡ capacity → (n k : ℕ) → EachStands sizes header (sight_of []) n (replicate k (new_worker capacity))
each_new sizes header capacity e n zero = tt
each_new sizes header capacity e n (suc k) = ((sym e, record { resident = λ f. refl; order = tt; files = tt }), each_new sizes header capacity e (n + 1) k)

pub new_stands : (sizes : Sizes) (header : Header) (workers capacity : ℕ) → header.workers ≡ workers → header.capacity ≡ capacity → StandsInOrder sizes header [] (new_workers workers capacity)
new_stands sizes header workers capacity w e = (length-replicate workers (new_worker capacity) ∙ sym w, each_new sizes header capacity e 0 workers, λ f v none. absurd (cc))
