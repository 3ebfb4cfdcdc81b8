-- How many blocks are held after a change of workers.
use Rattle.std.proofs.Common.{◌≡◌, ◌∙◌, arith, ℕ, zero, suc, ◌+◌, ◌<◌, ◌≤◌, Bool, true, false, ◌||◌, if◌then◌else◌, inl, inr, List, [], ◌∷◌, length, slice_index_or, take, Option, Some, None, is_some, refl, sym, ap, subst}
use Rattle.std.specs.Option.{option_map_or}
use Rattle.std.proofs.lemmas.Option.{none-some, same_Some, some_pair_parts}
use Rattle.tl_types.specs.Block.{FileOutcome}
use Rattle.tl_types.specs.Same.{file_same}
use Rattle.tl_types.specs.declared.file_id.FileId.{FileId}
use Rattle.tl_types.specs.declared.worker_id.WorkerId.{WorkerId}
use Rattle.tl_store.specs.Contents.{Blocks, block_of, has, touched, victim, without}
use Rattle.tl_fleet.specs.Events.{among, files_of, installed_each, touched_each}
use Rattle.tl_fleet.specs.Workers.{IsOnce, Workers, all_touched, all_without, changed_at, copies, copies_in, dropped, emptied, first_to_drop, first_to_drop_from, found, found_from, has_file, held_count, installed, is_over, lost, new_workers, put_front, to_drop, with_blocks}
use Rattle.tl_fleet.specs.declared.worker.Worker.{Worker}
use Rattle.tl_fleet.proofs.Copies.{copies_left, copies_some, touched_length}
use Rattle.tl_fleet.proofs.Events.{length_changed}
use Rattle.tl_fleet.proofs.Files.{either, has_among, same_self}
use Rattle.tl_fleet.proofs.Least.{last_of, or_else, unless, victim_last}
use Rattle.tl_fleet.proofs.Once.{once_touched}
use Rattle.tl_fleet.proofs.Steps.{number}

pub new_held : (count capacity : ℕ) → held_count (new_workers count capacity) ≡ 0
new_held zero capacity = refl
new_held (suc n) capacity = let later : held_count (new_workers n capacity) ≡ 0 = new_held n capacity in omega arith

more_at : (ws : Workers) (i : ℕ) (d : Worker) → i < length ws → held_count (take i ws) + length (slice_index_or ws i d).store.blocks ≡ held_count (take (suc i) ws)
more_at [] i d l = absurd (omega arith)
more_at (w ∷ ws) zero d l = omega arith
more_at (w ∷ ws) (suc i) d l =
    let later : held_count (take i ws) + length (slice_index_or ws i d).store.blocks ≡ held_count (take (suc i) ws) = more_at ws i d (omega arith) in
    omega arith

next : (n : ℕ) → suc n ≡ n + 1
next n = omega arith

-- one more worker counts
pub one_more : (ws : Workers) (i : ℕ) (d : Worker) → i < length ws → held_count (take i ws) + length (slice_index_or ws i d).store.blocks ≡ held_count (take (i + 1) ws)
one_more ws i d l = more_at ws i d l ∙ ap (λ k. held_count (take k ws)) (next i)

-- ---- blocks come

one_at : (block : FileOutcome) (k : ℕ) (ws : Workers) → k < length ws → held_count (changed_at k (with_blocks (put_front block)) ws) ≡ held_count ws + 1
one_at block k [] l = absurd (omega arith)
one_at block zero (w ∷ ws) l = omega arith
one_at block (suc k) (w ∷ ws) l =
    let later : held_count (changed_at k (with_blocks (put_front block)) ws) ≡ held_count ws + 1 = one_at block k ws (omega arith) in
    omega arith

pub installed_held : (w : WorkerId) (block : FileOutcome) (ws : Workers) → w.0 < length ws → held_count (installed w block ws) ≡ held_count ws + 1
installed_held w block ws l = one_at block w.0 ws l

pub each_installed_held : (w : WorkerId) (bs : Blocks) (ws : Workers) → w.0 < length ws → held_count (installed_each w bs ws) ≡ held_count ws + length bs
each_installed_held w [] ws l = omega arith
each_installed_held w (b ∷ bs) ws l =
    let here : held_count (installed w b ws) ≡ held_count ws + 1 = installed_held w b ws l in
    let known : w.0 < length (installed w b ws) = subst (λ k. w.0 < k) (sym (length_changed w.0 (with_blocks (put_front b)) ws)) l in
    let later : held_count (installed_each w bs (installed w b ws)) ≡ held_count (installed w b ws) + length bs = each_installed_held w bs (installed w b ws) known in
    omega arith

-- ---- files are used

touched_at : (f : FileId) (ws : Workers) → copies f ws ≤ 1 → held_count (all_touched f ws) ≡ held_count ws
touched_at f [] once = refl
touched_at f (w ∷ ws) once =
    let one : copies_in f w.store.blocks + copies f ws ≤ 1 = once in
    let here : length (touched f w.store.blocks) ≡ length w.store.blocks = touched_length f w.store.blocks (omega arith) in
    let later : held_count (all_touched f ws) ≡ held_count ws = touched_at f ws (omega arith) in
    ap (λ n. n + held_count (all_touched f ws)) here ∙ ap (λ n. length w.store.blocks + n) later

pub touched_held : (f : FileId) (ws : Workers) → IsOnce ws → held_count (all_touched f ws) ≡ held_count ws
touched_held f ws once = touched_at f ws (once f)

pub each_touched_held : (fs : List FileId) (ws : Workers) → IsOnce ws → held_count (touched_each fs ws) ≡ held_count ws
each_touched_held [] ws once = refl
each_touched_held (f ∷ fs) ws once = each_touched_held fs (all_touched f ws) (once_touched f ws once) ∙ touched_held f ws once

-- ---- blocks go

pub freed_held : (f : FileId) (ws : Workers) → held_count (all_without f ws) + copies f ws ≡ held_count ws
freed_held f [] = refl
freed_held f (w ∷ ws) =
    let here : length (without f w.store.blocks) + copies_in f w.store.blocks ≡ length w.store.blocks = copies_left f w.store.blocks in
    let later : held_count (all_without f ws) + copies f ws ≡ held_count ws = freed_held f ws in
    omega arith

pub freed_fewer : (f : FileId) (ws : Workers) → held_count (all_without f ws) ≤ held_count ws
freed_fewer f ws = let all : held_count (all_without f ws) + copies f ws ≡ held_count ws = freed_held f ws in omega arith

lost_at : (k : ℕ) (ws : Workers) → held_count (changed_at k emptied ws) ≤ held_count ws
lost_at zero [] = omega arith
lost_at (suc k) [] = omega arith
lost_at zero (w ∷ ws) = omega arith
lost_at (suc k) (w ∷ ws) = let later : held_count (changed_at k emptied ws) ≤ held_count ws = lost_at k ws in omega arith

pub lost_fewer : (w : WorkerId) (ws : Workers) → held_count (lost w ws) ≤ held_count ws
lost_fewer w ws = lost_at w.0 ws

-- the worker at a place has a file
abbrev HasAt : FileId → ℕ → Workers → Type 0
HasAt f k [] = ⊥
HasAt f zero (w ∷ ws) = has_file f w ≡ true
HasAt f (suc k) (w ∷ ws) = HasAt f k ws

-- of the workers from number n on, that of number v has a file
record IsAt (f : FileId) (n v : ℕ) (ws : Workers) : Type 0 where
  place : ℕ
  from : v ≡ n + place
  there : HasAt f place ws

later_at : (f : FileId) (n v : ℕ) (w : Worker) (ws : Workers) → IsAt f (n + 1) v ws → IsAt f n v (w ∷ ws)
later_at f n v w ws h = let at : v ≡ n + 1 + h.place = h.from in record { place = suc h.place; from = omega arith; there = h.there }

first_at : (f : FileId) (n v : ℕ) (w : Worker) (ws : Workers) → n ≡ v → has_file f w ≡ true → IsAt f n v (w ∷ ws)
first_at f n v w ws at h = record { place = 0; from = omega arith; there = h }

some_at : (f : FileId) (k : ℕ) (ws : Workers) → HasAt f k ws → 1 ≤ copies f ws
some_at f k [] h = absurd h
some_at f zero (w ∷ ws) h = let here : 1 ≤ copies_in f w.store.blocks = copies_some f w.store.blocks h in omega arith
some_at f (suc k) (w ∷ ws) h = let later : 1 ≤ copies f ws = some_at f k ws h in omega arith

-- a file that is there goes from there
one_gone : (f : FileId) (k : ℕ) (ws : Workers) → HasAt f k ws → copies f ws ≤ 1 → held_count (changed_at k (with_blocks (without f)) ws) + 1 ≡ held_count ws
one_gone f k [] h once = absurd h
one_gone f zero (w ∷ ws) h once =
    let one : copies_in f w.store.blocks + copies f ws ≤ 1 = once in
    let here : 1 ≤ copies_in f w.store.blocks = copies_some f w.store.blocks h in
    let left : length (without f w.store.blocks) + copies_in f w.store.blocks ≡ length w.store.blocks = copies_left f w.store.blocks in
    omega arith
one_gone f (suc k) (w ∷ ws) h once =
    let one : copies_in f w.store.blocks + copies f ws ≤ 1 = once in
    let later : held_count (changed_at k (with_blocks (without f)) ws) + 1 ≡ held_count ws = one_gone f k ws h (omega arith) in
    omega arith

-- ---- where a file is that was found, and that must be dropped

found_step : (f : FileId) (n : ℕ) (v : WorkerId) (b : FileOutcome) (w : Worker) (ws : Workers) (o : Option FileOutcome) (later : Option (WorkerId × FileOutcome)) → block_of f w.store.blocks ≡ o →
    option_map_or (λ block. Some (number n, block)) o later ≡ Some (v, b) → (later ≡ Some (v, b) → IsAt f (n + 1) v.0 ws) → IsAt f n v.0 (w ∷ ws)
found_step f n v b w ws None later is e rest = later_at f n v.0 w ws (rest e)
found_step f n v b w ws (Some c) later is e rest =
    first_at f n v.0 w ws (ap (λ (x : WorkerId). x.0) (some_pair_parts (number n) v c b e).0) (ap is_some is)

found_at : (f : FileId) (n : ℕ) (v : WorkerId) (b : FileOutcome) (ws : Workers) → found_from n f ws ≡ Some (v, b) → IsAt f n v.0 ws
found_at f n v b [] e = absurd (none-some (v, b) e)
found_at f n v b (w ∷ ws) e = found_step f n v b w ws (block_of f w.store.blocks) (found_from (n + 1) f ws) refl e (found_at f (n + 1) v b ws)

or_right : (a b : Bool) → b ≡ true → (a || b) ≡ true
or_right true b h = refl
or_right false b h = h

last_step : (f g : FileId) (o : Option FileId) (b m : Bool) → (o ≡ Some f → m ≡ true) → or_else o (unless b g) ≡ Some f → (file_same f g || m) ≡ true
last_step f g None true m h e = absurd (none-some f e)
last_step f g None false m h e = ap (λ t. t || m) (ap (file_same f) (same_Some g f e) ∙ same_self f)
last_step f g (Some k) b m h e = or_right (file_same f g) m (h e)

last_among : (excepted : FileId → Bool) (f : FileId) (fs : List FileId) → last_of excepted fs ≡ Some f → among f fs ≡ true
last_among excepted f [] e = absurd (none-some f e)
last_among excepted f (g ∷ fs) e = last_step f g (last_of excepted fs) (excepted g) (among f fs) (last_among excepted f fs) e

victim_there : (excepted : FileId → Bool) (f : FileId) (bs : Blocks) → victim excepted bs ≡ Some f → has f bs ≡ true
victim_there excepted f bs e = has_among f bs ∙ last_among excepted f (files_of bs) (sym (victim_last excepted bs) ∙ e)

drop_there : (excepted : FileId → Bool) (f : FileId) (bs : Blocks) (over : Bool) → (if over then victim excepted bs else None) ≡ Some f → has f bs ≡ true
drop_there excepted f bs true e = victim_there excepted f bs e
drop_there excepted f bs false e = absurd (none-some f e)

drop_step : (n : ℕ) (drop : WorkerId × FileId) (w : Worker) (ws : Workers) (o : Option FileId) (later : Option (WorkerId × FileId)) → (o ≡ Some drop.1 → has_file drop.1 w ≡ true) →
    option_map_or (λ f. Some (number n, f)) o later ≡ Some drop → (later ≡ Some drop → IsAt drop.1 (n + 1) drop.0.0 ws) → IsAt drop.1 n drop.0.0 (w ∷ ws)
drop_step n drop w ws None later has e rest = later_at drop.1 n drop.0.0 w ws (rest e)
drop_step n drop w ws (Some g) later has e rest =
    let parts = some_pair_parts (number n) drop.0 g drop.1 e in
    first_at drop.1 n drop.0.0 w ws (ap (λ (x : WorkerId). x.0) parts.0) (has (ap Some parts.1))

drop_at : (excepted : FileId → Bool) (n : ℕ) (drop : WorkerId × FileId) (ws : Workers) → first_to_drop_from n excepted ws ≡ Some drop → IsAt drop.1 n drop.0.0 ws
drop_at excepted n drop [] e = absurd (none-some drop e)
drop_at excepted n drop (w ∷ ws) e =
    drop_step n drop w ws (to_drop excepted w) (first_to_drop_from (n + 1) excepted ws) (drop_there excepted drop.1 w.store.blocks (is_over w)) e
    (drop_at excepted (n + 1) drop ws)

gone_from : (f : FileId) (v : ℕ) (ws : Workers) → IsAt f 0 v ws → IsOnce ws → held_count (changed_at v (with_blocks (without f)) ws) + 1 ≡ held_count ws
gone_from f v ws h once =
    let at : v ≡ 0 + h.place = h.from in
    let same : h.place ≡ v = omega arith in
    one_gone f v ws (subst (λ k. HasAt f k ws) same h.there) (once f)

-- a file that is found on a worker goes from it
pub dropped_held : (f : FileId) (w : WorkerId) (block : FileOutcome) (ws : Workers) → found f ws ≡ Some (w, block) → IsOnce ws →
    held_count (changed_at w.0 (with_blocks (without f)) ws) + 1 ≡ held_count ws
dropped_held f w block ws e once = gone_from f w.0 ws (found_at f 0 w block ws e) once

-- the file that must be dropped goes
pub settled_held : (excepted : FileId → Bool) (drop : WorkerId × FileId) (ws : Workers) → first_to_drop excepted ws ≡ Some drop → IsOnce ws →
    held_count (dropped (Some drop) ws) + 1 ≡ held_count ws
settled_held excepted drop ws e once = gone_from drop.1 drop.0.0 ws (drop_at excepted 0 drop ws e) once

-- ---- what must be dropped is found there

abbrev Found : FileId → ℕ → WorkerId → Workers → Type 0
Found f n v ws = (b : FileOutcome) × (found_from n f ws ≡ Some (v, b))

here_found : (f : FileId) (n : ℕ) (v : WorkerId) (o : Option FileOutcome) (later : Option (WorkerId × FileOutcome)) → is_some o ≡ true → n ≡ v.0 →
    (b : FileOutcome) × (option_map_or (λ block. Some (number n, block)) o later ≡ Some (v, b))
here_found f n v None later h at = absurd (cc)
here_found f n v (Some b) later h at = (b, λ i. Some (record { 0 = at i }, b))

there_found : (f : FileId) (n : ℕ) (v : WorkerId) (o : Option FileOutcome) (later : Option (WorkerId × FileOutcome)) → is_some o ≡ false → (b : FileOutcome) × (later ≡ Some (v, b)) →
    (b : FileOutcome) × (option_map_or (λ block. Some (number n, block)) o later ≡ Some (v, b))
there_found f n v None later h found = found
there_found f n v (Some b) later h found = absurd (cc)

only_one : (a b : ℕ) → a + b ≤ 1 → 1 ≤ b → 1 ≤ a → ⊥
only_one a b once l m = omega arith

found_there : (f : FileId) (n k : ℕ) (v : WorkerId) (ws : Workers) → HasAt f k ws → v.0 ≡ n + k → copies f ws ≤ 1 → Found f n v ws
found_there f n k v [] h at once = absurd h
found_there f n zero v (w ∷ ws) h at once = let here : n ≡ v.0 = omega arith in here_found f n v (block_of f w.store.blocks) (found_from (n + 1) f ws) h here
found_there f n (suc k) v (w ∷ ws) h at once =
    let one : copies_in f w.store.blocks + copies f ws ≤ 1 = once in
    elim (either (has_file f w)) [
      | inl t ↦ absurd (only_one (copies_in f w.store.blocks) (copies f ws) once (some_at f k ws h) (copies_some f w.store.blocks t))
      | inr t ↦ there_found f n v (block_of f w.store.blocks) (found_from (n + 1) f ws) t (found_there f (n + 1) k v ws h (omega arith) (omega arith))
    ]

pub settled_found : (excepted : FileId → Bool) (drop : WorkerId × FileId) (ws : Workers) → first_to_drop excepted ws ≡ Some drop → IsOnce ws →
    (block : FileOutcome) × (found drop.1 ws ≡ Some (drop.0, block))
settled_found excepted drop ws e once =
    let h = drop_at excepted 0 drop ws e in
    found_there drop.1 0 h.place drop.0 ws h.there h.from (once drop.1)
