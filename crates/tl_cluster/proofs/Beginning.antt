-- A cluster of no events.
use Rattle.std.proofs.Common.{◌≡◌, ℕ, zero, suc, ◌+◌, Bool, true, false, cond, ◌&&◌, List, [], ◌∷◌, filter, slice_get, replicate, Some, None, option_map, refl, ap, ◌∙◌, arith}
use Rattle.tl_types.specs.declared.file_id.FileId.{FileId}
use Rattle.tl_types.specs.declared.worker_id.WorkerId.{WorkerId}
use Rattle.tl_model.specs.declared.header.Header.{Header}
use Rattle.tl_model.specs.Eviction.{first_of, is_over, must_drop, workers}
use Rattle.tl_model.specs.Rules.{size_of}
use Rattle.tl_fleet.specs.Workers.{found, found_from, held_count, incarnation_of, new_worker, new_workers}
use Rattle.tl_fleet.proofs.Events.{new_stands}
use Rattle.tl_fleet.proofs.Held.{new_held}
use Rattle.tl_cluster.specs.Stands.{Stands}

none-found : (f : FileId) (n count capacity : ℕ) → found_from n f (replicate count (new_worker capacity)) ≡ None
none-found f n zero capacity = refl
none-found f n (suc count) capacity = none-found f (n + 1) count capacity

new-incarnation : (i count capacity n : ℕ) → option_map incarnation_of (slice_get (replicate count (new_worker capacity)) i) ≡ Some n → n ≡ 0
new-incarnation i zero capacity n is = absurd (cc)
new-incarnation zero (suc count) capacity n is = cc
new-incarnation (suc i) (suc count) capacity n is = new-incarnation i count capacity n is

and-false : (b : Bool) → (b && false) ≡ false
and-false true = refl
and-false false = refl

-- no worker is over its capacity where there are no files
none-over : (header : Header) (xs : List WorkerId) → first_of (filter (must_drop (size_of []) header []) xs) ≡ None
none-over header [] = refl
none-over header (w ∷ ws) =
    ap (λ b. first_of (cond b (w ∷ filter (must_drop (size_of []) header []) ws) (filter (must_drop (size_of []) header []) ws)))
    (and-false (is_over (size_of []) header [] w))
    ∙ none-over header ws

pub begins : {T : Type 0} (tells : Bool) (content : T → List ℕ) (header : Header) (spare : ℕ) →
    Stands {T = T} tells content (record { header = header; events = []; spare = spare; workers = new_workers header.workers header.capacity; vault = [] })
begins tells content header spare = record {
  agrees = record {
    lawful = refl;
    permitted = λ tell. refl;
    sized = ((λ f. 0), new_stands (λ f. 0) header header.workers header.capacity refl refl);
    told_sized = λ tell. new_stands (size_of []) header header.workers header.capacity refl refl;
    blocks = λ f worker block is.
        let none : found f (new_workers header.workers header.capacity) ≡ None = none-found f 0 header.workers header.capacity in
        absurd (cc);
    losses = λ worker n is. new-incarnation worker.0 header.workers header.capacity n is;
    sound = tt;
    kept = λ f. tt;
    saved = λ f known is. absurd (cc);
    puts = λ f put is. absurd (cc);
    jobs = λ actor claim is. absurd (cc);
    places = λ actor f is. absurd (cc);
    room =
        let none : held_count (new_workers header.workers header.capacity) ≡ 0 = new_held header.workers header.capacity in
        omega arith;
  };
  settled = λ tell. none-over header (workers header);
}
