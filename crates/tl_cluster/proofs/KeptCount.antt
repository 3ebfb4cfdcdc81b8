-- How many records are kept falls with each that is let go.
use Rattle.std.proofs.Common.{◌≡◌, ℕ, ◌<◌, ◌≤◌, Bool, true, false, ◌&&◌, ◌||◌, not, cond, List, [], ◌∷◌, length, filter, Option, Some, None, option_map, refl, sym, ap, ◌∙◌, subst, arith}
use Rattle.std.proofs.lemmas.Bool.{and_parts}
use Rattle.std.proofs.lemmas.List.Sums.{count_by-le-length, length-filter}
use Rattle.tl_types.specs.Same.{record_same, record_same-Decides}
use Rattle.tl_types.specs.declared.actor.Actor.{Actor}
use Rattle.tl_types.specs.declared.file_id.FileId.{FileId}
use Rattle.tl_types.specs.declared.record_id.RecordId.{RecordId}
use Rattle.tl_types.specs.declared.worker_id.WorkerId.{WorkerId}
use Rattle.tl_model.specs.declared.event.Act.TheVariants.{Collect}
use Rattle.tl_model.specs.declared.event.Event.{Event}
use Rattle.tl_model.specs.declared.record.Record.{Record}
use Rattle.tl_model.specs.Eviction.{first_of}
use Rattle.tl_model.specs.History.{id_of, records}
use Rattle.tl_model.specs.Needs.{garbage, is_garbage, is_needed}
use Rattle.tl_model.specs.Past.{Past, without_tickets}
use Rattle.tl_model.specs.Residency.{is_collected, is_kept}
use Rattle.tl_laws_drops.specs.Drops.{with_drops}
use Rattle.tl_cluster.specs.Collected.{kept_count}

-- ---- the first that passes a test

passes-at : {A : Type 0} (p : A → Bool) (x y : A) (rest : List A) (b : Bool) → p y ≡ b → (first_of rest ≡ Some x → p x ≡ true) →
    first_of (cond b (y ∷ rest) rest) ≡ Some x → p x ≡ true
passes-at p x y rest true e later is = let same : x ≡ y = cc in ap p same ∙ e
passes-at p x y rest false e later is = later is

pub first-passes : {A : Type 0} (p : A → Bool) (x : A) (xs : List A) → first_of (filter p xs) ≡ Some x → p x ≡ true
first-passes p x [] first = absurd (cc)
first-passes p x (y ∷ ys) first = passes-at p x y (filter p ys) (p y) refl (first-passes p x ys) first

-- at most as many pass a test that asks more
fewer-at : {A : Type 0} (x : A) (some all : List A) (b c : Bool) → (b ≡ true → c ≡ true) → length some ≤ length all →
    length (cond b (x ∷ some) some) ≤ length (cond c (x ∷ all) all)
fewer-at x some all true true asks less = omega arith
fewer-at x some all true false asks less = absurd (let no : false ≡ true = asks refl in cc)
fewer-at x some all false true asks less = omega arith
fewer-at x some all false false asks less = less

pub fewer-pass : {A : Type 0} (p q : A → Bool) → ((x : A) → p x ≡ true → q x ≡ true) → (xs : List A) → length (filter p xs) ≤ length (filter q xs)
fewer-pass p q asks [] = omega arith
fewer-pass p q asks (x ∷ xs) = fewer-at x (filter p xs) (filter q xs) (p x) (q x) (asks x) (fewer-pass p q asks xs)

less-there : {A : Type 0} (x : A) (some all : List A) (b c : Bool) → b ≡ false → c ≡ true → length some ≤ length all →
    length (cond b (x ∷ some) some) < length (cond c (x ∷ all) all)
less-there x some all true c gone there less = absurd (cc)
less-there x some all false false gone there less = absurd (cc)
less-there x some all false true gone there less = omega arith

less-later : {A : Type 0} (x : A) (some all : List A) (b c : Bool) → (b ≡ true → c ≡ true) → length some < length all →
    length (cond b (x ∷ some) some) < length (cond c (x ∷ all) all)
less-later x some all true true asks less = omega arith
less-later x some all true false asks less = absurd (let no : false ≡ true = asks refl in cc)
less-later x some all false true asks less = omega arith
less-later x some all false false asks less = less

less-at : {A : Type 0} (p q : A → Bool) (x y : A) (rest some all : List A) (b : Bool) → ((z : A) → p z ≡ true → q z ≡ true) → p x ≡ false → q x ≡ true →
    length some ≤ length all → (first_of rest ≡ Some x → length some < length all) → first_of (cond b (y ∷ rest) rest) ≡ Some x →
    length (cond (p y) (y ∷ some) some) < length (cond (q y) (y ∷ all) all)
less-at p q x y rest some all true asks fails passes few later is =
    let same : y ≡ x = cc in
    less-there y some all (p y) (q y) (ap p same ∙ fails) (ap q same ∙ passes) few
less-at p q x y rest some all false asks fails passes few later is = less-later y some all (p y) (q y) (asks y) (later is)

-- fewer pass a test that asks more, and that turns down the first of those that pass a third one
pub less-pass : {A : Type 0} (test p q : A → Bool) (x : A) → ((y : A) → p y ≡ true → q y ≡ true) → p x ≡ false → q x ≡ true → (xs : List A) →
    first_of (filter test xs) ≡ Some x → length (filter p xs) < length (filter q xs)
less-pass test p q x asks fails passes [] first = absurd (cc)
less-pass test p q x asks fails passes (y ∷ ys) first =
    less-at p q x y (filter test ys) (filter p ys) (filter q ys) (test y) asks fails passes (fewer-pass p q asks ys)
    (less-pass test p q x asks fails passes ys) first

-- ---- records

-- the record that is to be let go
pub record IsLeast (past : Past) (made : RecordId) : Type 0 where
  pub it : Record
  pub numbered : id_of it ≡ made
  pub first : first_of (filter (is_garbage past) (records past)) ≡ Some it

pub least-record : (past : Past) (made : RecordId) (o : Option Record) → first_of (filter (is_garbage past) (records past)) ≡ o → option_map id_of o ≡ Some made →
    IsLeast past made
least-record past made None first is = absurd (cc)
least-record past made (Some r) first is = record { it = r; numbered = (let same : id_of r ≡ made = cc in same); first = first }

pub may-let-go : (past : Past) (made : RecordId) → garbage past ≡ Some made → (is_kept past made && not (is_needed past made)) ≡ true
may-let-go past made is =
    let least : IsLeast past made = least-record past made (first_of (filter (is_garbage past) (records past))) refl is in
    ap (λ (id : RecordId). is_kept past id && not (is_needed past id)) (sym least.numbered)
    ∙ first-passes (is_garbage past) least.it (records past) least.first

and-less : (a b c : Bool) → (a && not (b || c)) ≡ true → (a && not c) ≡ true
and-less true false false h = refl
and-less true false true h = h
and-less true true c h = absurd (cc)
and-less false b c h = h

and-gone : (a b c : Bool) → b ≡ true → (a && not (b || c)) ≡ false
and-gone true true c h = refl
and-gone false b c h = refl
and-gone true false c h = absurd (cc)

pub one-less : (past : Past) (actor : Actor) (made : RecordId) → garbage past ≡ Some made →
    kept_count (record { actor = actor; act = Collect made } ∷ past) < kept_count past
one-less past actor made is =
    let least : IsLeast past made = least-record past made (first_of (filter (is_garbage past) (records past))) refl is in
    let free = first-passes (is_garbage past) least.it (records past) least.first in
    less-pass (is_garbage past) (λ r. is_kept (record { actor = actor; act = Collect made } ∷ past) (id_of r)) (λ r. is_kept past (id_of r)) least.it
    (λ r. and-less _ (record_same (id_of r) made) (is_collected past (id_of r)))
    (and-gone _ (record_same (id_of least.it) made) (is_collected past (id_of least.it)) ((record_same-Decides (id_of least.it) made).1 least.numbered))
    (and_parts (is_kept past (id_of least.it)) (not (is_needed past (id_of least.it))) free).0
    (records past) least.first

-- drops leave as many kept
pub kept-dropped : {T : Type 0} (actor : Actor) (drops : List (WorkerId × FileId)) (events : List (Event T)) →
    kept_count (without_tickets (with_drops actor drops events)) ≡ kept_count (without_tickets events)
kept-dropped actor [] events = refl
kept-dropped actor (d ∷ ds) events = kept-dropped actor ds events

-- at most as many are kept as were accepted
pub kept-few : (past : Past) → kept_count past ≤ length (records past)
kept-few past = subst (λ (n : ℕ). n ≤ length (records past)) (sym (length-filter (λ r. is_kept past (id_of r)) (records past)))
    (count_by-le-length (λ r. is_kept past (id_of r)) (records past))
