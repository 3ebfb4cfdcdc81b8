-- A fleet that stands in order has each file in memory once at most.
use Rattle.std.proofs.Common.{◌≡◌, ◌∙◌, arith, ℕ, ◌+◌, ◌<◌, ◌≤◌, Bool, true, false, cond, inl, inr, [], ◌∷◌, Option, Some, None, refl, ap}
use Rattle.std.proofs.lemmas.Bool.Decides.{Decides-eqb}
use Rattle.tl_types.specs.declared.file_id.FileId.{FileId}
use Rattle.tl_types.specs.declared.worker_id.WorkerId.{WorkerId}
use Rattle.tl_model.specs.declared.header.Header.{Header}
use Rattle.tl_model.specs.Eviction.{Sizes}
use Rattle.tl_model.specs.Past.{Past}
use Rattle.tl_model.specs.Residency.{is_at}
use Rattle.tl_store.specs.Contents.{Blocks, has, is_of}
use Rattle.tl_fleet.specs.Events.{files_of}
use Rattle.tl_fleet.specs.Order.{EachStands, InOrder, Sight, StandsInOrder, sight_of}
use Rattle.tl_fleet.specs.Workers.{IsOnce, Workers, copies, copies_in}
use Rattle.tl_fleet.proofs.Copies.{copies_none, nothing}
use Rattle.tl_fleet.proofs.Files.{Distinct, either, has_among, same_is}
use Rattle.tl_fleet.proofs.Settles.{files_in_order, order_distinct}
use Rattle.tl_fleet.proofs.Steps.{number, off_worker}

one_step : (x : Bool) (n : ℕ) → (x ≡ true → n ≡ 0) → n ≤ 1 → cond x (1 + n) n ≤ 1
one_step true n none once = let zero : n ≡ 0 = none refl in omega arith
one_step false n none once = once

distinct_once : (f : FileId) (bs : Blocks) → Distinct (files_of bs) → copies_in f bs ≤ 1
distinct_once f [] h = nothing 1
distinct_once f (b ∷ bs) h =
    one_step (is_of f b) (copies_in f bs)
    (λ t. copies_none f bs (ap (λ g. has g bs) (same_is f b.file t) ∙ has_among b.file bs ∙ h.0))
    (distinct_once f bs h.1)

order_once : (recency : FileId → ℕ) (f : FileId) (bs : Blocks) → InOrder recency bs → copies_in f bs ≤ 1
order_once recency f bs h = distinct_once f bs (order_distinct recency (files_of bs) (files_in_order recency bs h))

none_and : (a b : ℕ) → a ≡ 0 → b ≡ 0 → a + b ≡ 0
none_and a b e h = omega arith

one_and : (a b : ℕ) → a ≤ 1 → b ≡ 0 → a + b ≤ 1
one_and a b l e = omega arith

none_or : (a b : ℕ) → a ≡ 0 → b ≤ 1 → a + b ≤ 1
none_or a b e l = omega arith

-- a file that is on a worker is on no later one
only_there : (n m : ℕ) (o : Option WorkerId) → is_at (number n) o ≡ true → n < m → is_at (number m) o ≡ false
only_there n m None h l = absurd (cc)
only_there n m (Some v) h l = let at : n ≡ v.0 = (Decides-eqb n v.0).0 h in off_worker m v.0 (λ same. omega arith)

module _ (sizes : Sizes) (header : Header) (s : Sight) (f : FileId) where
  none_later : (n m : ℕ) (ws : Workers) → EachStands sizes header s m ws → is_at (number n) (s.place f) ≡ true → n < m → copies f ws ≡ 0
  none_later n m [] h on l = refl
  none_later n m (w ∷ ws) h on l =
      none_and (copies_in f w.store.blocks) (copies f ws)
      (copies_none f w.store.blocks (h.0.1.resident f ∙ only_there n m (s.place f) on l))
      (none_later n (m + 1) ws h.1 on (omega arith))

  once_from : (n : ℕ) (ws : Workers) → EachStands sizes header s n ws → copies f ws ≤ 1
  once_from n [] h = nothing 1
  once_from n (w ∷ ws) h = elim (either (is_at (number n) (s.place f))) [
    | inl on ↦ one_and (copies_in f w.store.blocks) (copies f ws) (order_once s.recency f w.store.blocks h.0.1.order) (none_later n (n + 1) ws h.1 on (omega arith))
    | inr off ↦ none_or (copies_in f w.store.blocks) (copies f ws) (copies_none f w.store.blocks (h.0.1.resident f ∙ off)) (once_from (n + 1) ws h.1)
  ]

pub stands_once : (sizes : Sizes) (header : Header) (past : Past) (ws : Workers) → StandsInOrder sizes header past ws → IsOnce ws
stands_once sizes header past ws h f = once_from sizes header (sight_of past) f 0 ws h.1
