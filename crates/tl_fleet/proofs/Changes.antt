-- A list of workers of which one changes, or one after another.
use Rattle.std.proofs.Common.{◌≡◌, ◌∙◌, arith, ℕ, zero, suc, ◌+◌, ◌<◌, ◌≤◌, [], ◌∷◌, ◌++◌, take, drop, length, map, slice_set, slice_index_or, Ok, Err, OnOk, OnErr, refl, sym, ap}
use Rattle.std.proofs.lemmas.List.{take_at, drop_all}
use Rattle.std.specs.declared.result.Result.{Result}
use Rattle.tl_fleet.specs.Workers.{Workers, changed_at}
use Rattle.tl_fleet.specs.declared.worker.Worker.{Worker}

pub on_ok : {T E : Type 0} (r : Result T E) {P Q : Type 0} → OnOk r P → (P → Q) → OnOk r Q
on_ok (Ok x) p f = f p
on_ok (Err e) p f = p

pub on_either : {T E : Type 0} (r : Result T E) {P Q R : Type 0} → OnOk r P → OnErr r Q → (P → R) → (Q → R) → R
on_either (Ok x) p q f g = f p
on_either (Err e) p q f g = g q

pub set_changed : (workers : Workers) (n : ℕ) (d : Worker) (change : Worker → Worker) → slice_set workers n (change (slice_index_or workers n d)) ≡ changed_at n change workers
set_changed [] zero d change = refl
set_changed [] (suc n) d change = refl
set_changed (w ∷ ws) zero d change = refl
set_changed (w ∷ ws) (suc n) d change = ap (λ vs. w ∷ vs) (set_changed ws n d change)

-- the first n have changed
abbrev pub changed_first : ℕ → (Worker → Worker) → Workers → Workers
changed_first zero change workers = workers
changed_first (suc n) change [] = []
changed_first (suc n) change (w ∷ ws) = change w ∷ changed_first n change ws

below_none : (n : ℕ) → n < 0 → suc n < 0
below_none n l = omega arith

below_tail : (n m : ℕ) → suc n < suc m → n < m
below_tail n m l = omega arith

next : (n : ℕ) → suc n ≡ n + 1
next n = omega arith

one_more : (workers : Workers) (n : ℕ) (d : Worker) (change : Worker → Worker) → n < length workers
    → slice_set (changed_first n change workers) n (change (slice_index_or (changed_first n change workers) n d)) ≡ changed_first (suc n) change workers
one_more [] zero d change l = refl
one_more [] (suc n) d change l = refl
one_more (w ∷ ws) zero d change l = refl
one_more (w ∷ ws) (suc n) d change l = ap (λ vs. change w ∷ vs) (one_more ws n d change (below_tail n (length ws) l))

-- the next one changes
pub changed_next : (all workers : Workers) (n : ℕ) (d : Worker) (change : Worker → Worker) → workers ≡ changed_first n change all → n < length all
    → slice_set workers n (change (slice_index_or workers n d)) ≡ changed_first (n + 1) change all
changed_next all workers n d change same l =
    ap (λ ws. slice_set ws n (change (slice_index_or ws n d))) same ∙ one_more all n d change l ∙ ap (λ k. changed_first k change all) (next n)

pub changed_all : (workers : Workers) (change : Worker → Worker) → changed_first (length workers) change workers ≡ map change workers
changed_all [] change = refl
changed_all (w ∷ ws) change = ap (λ vs. change w ∷ vs) (changed_all ws change)

at_most : (n : ℕ) → n ≤ n
at_most n = omega arith

-- what a vector holds, once its slice has been written
pub whole : (len : ℕ) (new items : Workers) → len ≡ length items → length new ≡ length items → take len (new ++ drop (length new) items) ≡ new
whole len new items all same =
    ap (λ rest. take len (new ++ rest)) (ap (λ k. drop k items) same ∙ drop_all (length items) items (at_most (length items)))
    ∙ take_at new [] len (sym (all ∙ sym same))
