-- What keeps each file in memory once at most.
use Rattle.std.proofs.Common.{◌≡◌, ◌∙◌, arith, ℕ, zero, suc, ◌+◌, ◌≤◌, Bool, true, false, cond, inl, inr, [], ◌∷◌, map, replicate, refl, sym, ap, subst}
use Rattle.std.specs.List.{list_any}
use Rattle.std.proofs.lemmas.Bool.{or_parts}
use Rattle.tl_types.specs.Block.{FileOutcome}
use Rattle.tl_types.specs.declared.file_id.FileId.{FileId}
use Rattle.tl_store.specs.Contents.{Blocks, is_of, without, touched}
use Rattle.tl_fleet.specs.Workers.{Workers, has_file, is_resident, copies_in, copies, IsOnce, with_blocks, put_front, changed_at, all_touched, all_without, emptied, new_worker, new_workers}
use Rattle.tl_fleet.specs.declared.worker.Worker.{Worker}
use Rattle.tl_fleet.proofs.Copies.{copies_none, copies_touched, copies_without, nothing}
use Rattle.tl_fleet.proofs.Files.{either, same_is}

-- no worker gains a block of a file
abbrev GainsNone : FileId → (Worker → Worker) → Type 0
GainsNone f change = (worker : Worker) → copies_in f (change worker).store.blocks ≤ copies_in f worker.store.blocks

both_le : (a b m n : ℕ) → a ≤ b → m ≤ n → a + m ≤ b + n
both_le a b m n k l = omega arith

through : (a b c : ℕ) → a ≤ b → b ≤ c → a ≤ c
through a b c l m = omega arith

same : (n : ℕ) → n ≤ n
same n = omega arith

map_le : (f : FileId) (change : Worker → Worker) → GainsNone f change → (workers : Workers) → copies f (map change workers) ≤ copies f workers
map_le f change keeps [] = nothing 0
map_le f change keeps (w ∷ ws) =
    both_le (copies_in f (change w).store.blocks) (copies_in f w.store.blocks) (copies f (map change ws)) (copies f ws) (keeps w) (map_le f change keeps ws)

changed_le : (f : FileId) (change : Worker → Worker) → GainsNone f change → (n : ℕ) (workers : Workers) → copies f (changed_at n change workers) ≤ copies f workers
changed_le f change keeps zero [] = nothing 0
changed_le f change keeps (suc n) [] = nothing 0
changed_le f change keeps zero (w ∷ ws) =
    both_le (copies_in f (change w).store.blocks) (copies_in f w.store.blocks) (copies f ws) (copies f ws) (keeps w) (same (copies f ws))
changed_le f change keeps (suc n) (w ∷ ws) =
    both_le (copies_in f w.store.blocks) (copies_in f w.store.blocks) (copies f (changed_at n change ws)) (copies f ws) (same (copies_in f w.store.blocks)) (changed_le f change keeps n ws)

front_one : (x : Bool) (m n : ℕ) → cond x (1 + m) m + n ≤ 1 + (m + n)
front_one true m n = omega arith
front_one false m n = omega arith

later_one : (a m n : ℕ) → m ≤ 1 + n → a + m ≤ 1 + (a + n)
later_one a m n l = omega arith

front_at : (f : FileId) (block : FileOutcome) (n : ℕ) (workers : Workers) → copies f (changed_at n (with_blocks (put_front block)) workers) ≤ 1 + copies f workers
front_at f block zero [] = nothing 1
front_at f block (suc n) [] = nothing 1
front_at f block zero (w ∷ ws) = front_one (is_of f block) (copies_in f w.store.blocks) (copies f ws)
front_at f block (suc n) (w ∷ ws) = later_one (copies_in f w.store.blocks) (copies f (changed_at n (with_blocks (put_front block)) ws)) (copies f ws) (front_at f block n ws)

none_there : (a b : ℕ) → a ≡ 0 → b ≡ 0 → a + b ≡ 0
none_there a b e h = omega arith

none_holds : (f : FileId) (workers : Workers) → is_resident f workers ≡ false → copies f workers ≡ 0
none_holds f [] h = refl
none_holds f (w ∷ ws) h =
    let parts = or_parts (has_file f w) (list_any (has_file f) ws) h in
    none_there (copies_in f w.store.blocks) (copies f ws) (copies_none f w.store.blocks parts.0) (none_holds f ws parts.1)

pub once_touched : (g : FileId) (workers : Workers) → IsOnce workers → IsOnce (all_touched g workers)
once_touched g workers once f = through (copies f (all_touched g workers)) (copies f workers) 1 (map_le f (with_blocks (touched g)) (λ w. copies_touched f g w.store.blocks) workers) (once f)

pub once_without : (g : FileId) (workers : Workers) → IsOnce workers → IsOnce (all_without g workers)
once_without g workers once f = through (copies f (all_without g workers)) (copies f workers) 1 (map_le f (with_blocks (without g)) (λ w. copies_without f g w.store.blocks) workers) (once f)

pub once_dropped : (n : ℕ) (g : FileId) (workers : Workers) → IsOnce workers → IsOnce (changed_at n (with_blocks (without g)) workers)
once_dropped n g workers once f =
    through (copies f (changed_at n (with_blocks (without g)) workers)) (copies f workers) 1 (changed_le f (with_blocks (without g)) (λ w. copies_without f g w.store.blocks) n workers) (once f)

pub once_lost : (n : ℕ) (workers : Workers) → IsOnce workers → IsOnce (changed_at n emptied workers)
once_lost n workers once f = through (copies f (changed_at n emptied workers)) (copies f workers) 1 (changed_le f emptied (λ w. nothing (copies_in f w.store.blocks)) n workers) (once f)

front_keeps : (f : FileId) (block : FileOutcome) (blocks : Blocks) → is_of f block ≡ false → copies_in f (block ∷ blocks) ≤ copies_in f blocks
front_keeps f block blocks t = subst (λ x. cond x (1 + copies_in f blocks) (copies_in f blocks) ≤ copies_in f blocks) (sym t) (same (copies_in f blocks))

pub once_installed : (n : ℕ) (block : FileOutcome) (workers : Workers) → is_resident block.file workers ≡ false → IsOnce workers → IsOnce (changed_at n (with_blocks (put_front block)) workers)
once_installed n block workers absent once f = elim (either (is_of f block)) [
  | inl t ↦ let at : f ≡ block.file = same_is f block.file t in
      subst (λ m. copies f (changed_at n (with_blocks (put_front block)) workers) ≤ 1 + m) (ap (λ g. copies g workers) at ∙ none_holds block.file workers absent) (front_at f block n workers)
  | inr t ↦ through (copies f (changed_at n (with_blocks (put_front block)) workers)) (copies f workers) 1 (changed_le f (with_blocks (put_front block)) (λ w. front_keeps f block w.store.blocks t) n workers) (once f)
]

new_holds : (f : FileId) (capacity n : ℕ) → copies f (replicate n (new_worker capacity)) ≤ 0
new_holds f capacity zero = nothing 0
new_holds f capacity (suc n) = both_le 0 0 (copies f (replicate n (new_worker capacity))) 0 (nothing 0) (new_holds f capacity n)

pub once_new : (count capacity : ℕ) → IsOnce (new_workers count capacity)
once_new count capacity f = through (copies f (new_workers count capacity)) 0 1 (new_holds f capacity count) (nothing 1)
