-- The record that is next: an accepted job that is a task and can be run.
use Rattle.std.proofs.Common.{◌≡◌, ℕ, zero, suc, ◌+◌, ◌*◌, ◌<◌, ◌==◌, nat_lt, not, map, subst, arith, Bool, true, false, cond, ◌&&◌, if◌then◌else◌, List, [], ◌∷◌, filter, slice_get, Option, Some, None, option_map, refl, sym, ap, ◌∙◌}
use Rattle.std.proofs.lemmas.Bool.{and_parts, or_from, eq-eqb, eqb-true, ltb-true, false_from_ne_true}
use Rattle.tl_types.specs.Same.{record_same-Decides}
use Rattle.tl_types.specs.declared.record_id.RecordId.{RecordId}
use Rattle.tl_model.specs.declared.record.Record.{Record}
use Rattle.tl_model.specs.Past.{Past}
use Rattle.tl_model.specs.Tables.{Table, downward, answer_at, first_by, better}
use Rattle.tl_model.specs.declared.header.OrderRule.{OrderRule}
use Rattle.tl_model.specs.declared.header.OrderRule.TheVariants.{Strict, Shares}
use Rattle.tl_model.specs.History.{records, record_at, id_of, is_job, inputs_of}
use Rattle.tl_model.specs.Residency.{all_available}
use Rattle.tl_model.specs.Plan.{has_id, task_among, is_task, can_run, ready, got_less, has_turn_before, claims, prio_of, level, has_prio, first_at, next}
use Rattle.std.specs.List.{find}
use Rattle.tl_laws.specs.Numbers.{Numbered}
use Rattle.tl_laws.specs.Next.{IsAmong, IsNext}

and-false : (a b : Bool) → b ≡ false → (a && b) ≡ false
and-false true b h = h
and-false false b h = refl

find-step : (p : Record → Bool) (x : Record) (rs : List Record) (b : Bool) (r : Record) → ((s : Record) → find p rs ≡ Some s → IsAmong rs s) →
    (if b then Some x else find p rs) ≡ Some r → IsAmong (x ∷ rs) r
find-step p x rs true r h is = (0, is)
find-step p x rs false r h is = let k = h r is in (suc k.0, k.1)

find-among : (p : Record → Bool) (rs : List Record) (r : Record) → find p rs ≡ Some r → IsAmong rs r
find-among p [] r is = absurd (cc)
find-among p (x ∷ rs) r is = find-step p x rs (p x) r (find-among p rs) is

filter-step : (p : Record → Bool) (x : Record) (xs : List Record) (b : Bool) (i : ℕ) (r : Record) → p x ≡ b →
    ((i : ℕ) → slice_get (filter p xs) i ≡ Some r → (p r ≡ true) × IsAmong xs r) →
    slice_get (cond b (x ∷ filter p xs) (filter p xs)) i ≡ Some r → (p r ≡ true) × IsAmong (x ∷ xs) r
filter-step p x xs true zero r e h is = let same : x ≡ r = cc in (ap p (sym same) ∙ e, (0, is))
filter-step p x xs true (suc i) r e h is = let k = h i is in (k.0, (suc k.1.0, k.1.1))
filter-step p x xs false i r e h is = let k = h i is in (k.0, (suc k.1.0, k.1.1))

filter-among : (p : Record → Bool) (xs : List Record) (i : ℕ) (r : Record) → slice_get (filter p xs) i ≡ Some r → (p r ≡ true) × IsAmong xs r
filter-among p [] i r is = absurd (cc)
filter-among p (x ∷ xs) i r is = filter-step p x xs (p x) i r refl (λ j k. filter-among p xs j r k) is

-- a record of the table that passes the test, and whose answer is yes
abbrev pub Answers : (Table Record Bool → Record → Bool) → (Record → Bool) → List Record → Type 0
Answers answer test rs = (r : Record) × IsAmong rs r × (test r ≡ true) × ((later : Table Record Bool) × (answer later r ≡ true))

answer-step : (answer : Table Record Bool → Record → Bool) (test : Record → Bool) (x : Record) (rs : List Record) (b : Bool) → test x ≡ b →
    (answer_at test false (downward answer rs) ≡ true → Answers answer test rs) →
    (if b then answer (downward answer rs) x else answer_at test false (downward answer rs)) ≡ true → Answers answer test (x ∷ rs)
answer-step answer test x rs true e h is = (x, (0, refl), e, (downward answer rs, is))
answer-step answer test x rs false e h is = let k = h is in (k.0, (suc k.1.0, k.1.1), k.2, k.3)

answer-among : (answer : Table Record Bool → Record → Bool) (test : Record → Bool) (rs : List Record) → answer_at test false (downward answer rs) ≡ true → Answers answer test rs
answer-among answer test [] is = absurd (cc)
answer-among answer test (x ∷ rs) is = answer-step answer test x rs (test x) refl (answer-among answer test rs) is

-- the record of a number stands at its place
at-place : (past : Past) (r : Record) → Numbered (records past) → IsAmong (records past) r → record_at past (id_of r) ≡ Some r
at-place past r n among = ap (λ (id : RecordId). slice_get (records past) id.0) (n among.0 r among.1) ∙ among.1

pub task-is-job : (past : Past) (r : Record) → Numbered (records past) → IsAmong (records past) r → is_task past (id_of r) ≡ true → is_job r ≡ true
task-is-job past r n among task =
    let found = answer-among (task_among past) (has_id (id_of r)) (records past) task in
    let same_id : id_of r ≡ id_of found.0 = (record_same-Decides (id_of r) (id_of found.0)).0 found.2 in
    let both : Some r ≡ Some found.0 = sym (at-place past r n among) ∙ ap (record_at past) same_id ∙ at-place past found.0 n found.1 in
    let same : r ≡ found.0 = cc in
    ap is_job same ∙ (and_parts (is_job found.0) _ found.3.1).0

next-of : (past : Past) (made : RecordId) (p : Record → Bool) (o : Option Record) → find p (ready past) ≡ o → option_map id_of o ≡ Some made →
    Numbered (records past) → IsNext past made
next-of past made p None e is n = absurd (cc)
next-of past made p (Some r) e is n =
    let id : id_of r ≡ made = cc in
    let ready_at = find-among p (ready past) r e in
    let kept = filter-among (can_run past) (records past) ready_at.0 r ready_at.1 in
    let run = and_parts (is_task past (id_of r) && _) (all_available past (inputs_of r)) kept.0 in
    let task = (and_parts (is_task past (id_of r)) _ run.0).0 in
    record {
      it = r;
      place = kept.1;
      at = ap (record_at past) (sym id) ∙ at-place past r n kept.1;
      id = id;
      job = task-is-job past r n kept.1 task;
      task = task;
      fed = run.1;
    }

at-level : (past : Past) (made : RecordId) (o : Option ℕ) → first_at past o ≡ Some made → Numbered (records past) → IsNext past made
at-level past made None is n = absurd (cc)
at-level past made (Some p) is n = next-of past made (has_prio past p) (find (has_prio past p) (ready past)) refl is n

pub next-is : (order : OrderRule) (past : Past) (made : RecordId) → next order past ≡ Some made → Numbered (records past) → IsNext past made
next-is order past made is n = at-level past made (level order past) is n

-- ---- the level, and the record that goes before all others

-- one record goes before another where its priority has its turn before the other's
abbrev pub goes_before : OrderRule → Past → Record → Record → Bool
goes_before order past s r = has_turn_before order past (prio_of past s) (prio_of past r)

better-mapped : {A : Type 0} (g : A → ℕ) (before : ℕ → ℕ → Bool) (x s : A) (b : Bool) → before (g s) (g x) ≡ b →
    (if before (g s) (g x) then g s else g x) ≡ g (if before (g s) (g x) then s else x)
better-mapped g before x s true e = ap (λ b. if b then g s else g x) e ∙ sym (ap (λ b. g (if b then s else x)) e)
better-mapped g before x s false e = ap (λ b. if b then g s else g x) e ∙ sym (ap (λ b. g (if b then s else x)) e)

first-mapped-step : {A : Type 0} (g : A → ℕ) (before : ℕ → ℕ → Bool) (x : A) (o : Option A) →
    better before (g x) (option_map g o) ≡ g (better (λ s r. before (g s) (g r)) x o)
first-mapped-step g before x None = refl
first-mapped-step g before x (Some s) = better-mapped g before x s (before (g s) (g x)) refl

-- the first of what stands for some things stands for the first of them
pub first-mapped : {A : Type 0} (g : A → ℕ) (before : ℕ → ℕ → Bool) (xs : List A) →
    first_by before (map g xs) ≡ option_map g (first_by (λ s r. before (g s) (g r)) xs)
first-mapped g before [] = refl
first-mapped g before (x ∷ xs) =
    ap (λ o. Some (better before (g x) o)) (first-mapped g before xs)
    ∙ ap Some (first-mapped-step g before x (first_by (λ s r. before (g s) (g r)) xs))

-- the first of some things that has the same as this one
abbrev pub first_like : {A : Type 0} → (A → ℕ) → List A → Option A → Option A
first_like g xs None = None
first_like g xs (Some s) = find (λ x. g x == g s) xs

like-here : {A : Type 0} (g : A → ℕ) (x : A) (xs : List A) → first_like g (x ∷ xs) (Some x) ≡ Some x
like-here g x xs = ap (λ b. cond b (Some x) (find (λ y. g y == g x) xs)) (eq-eqb (g x) (g x) refl)

apart : (before : ℕ → ℕ → Bool) → ((p : ℕ) → before p p ≡ false) → (p q : ℕ) → before q p ≡ true → (p == q) ≡ false
apart before never p q h =
    false_from_ne_true (p == q) (λ same. let is : p ≡ q = eqb-true p q same in absurd (let no : true ≡ false = sym h ∙ ap (before q) is ∙ never q in cc))

like-step : {A : Type 0} (g : A → ℕ) (before : ℕ → ℕ → Bool) → ((p : ℕ) → before p p ≡ false) → (x s : A) (xs : List A) (b : Bool) → before (g s) (g x) ≡ b →
    first_like g xs (Some s) ≡ Some s → first_like g (x ∷ xs) (Some (if b then s else x)) ≡ Some (if b then s else x)
like-step g before never x s xs true e h =
    ap (λ b. cond b (Some x) (find (λ y. g y == g s) xs)) (apart before never (g x) (g s) e) ∙ h
like-step g before never x s xs false e h = like-here g x xs

like-found : {A : Type 0} (g : A → ℕ) (before : ℕ → ℕ → Bool) → ((p : ℕ) → before p p ≡ false) → (x : A) (xs : List A) (o : Option A) →
    first_like g xs o ≡ o → first_like g (x ∷ xs) (Some (better (λ s r. before (g s) (g r)) x o)) ≡ Some (better (λ s r. before (g s) (g r)) x o)
like-found g before never x xs None h = like-here g x xs
like-found g before never x xs (Some s) h =
    subst (λ b. first_like g (x ∷ xs) (Some (if b then s else x)) ≡ Some (if b then s else x)) refl (like-step g before never x s xs (before (g s) (g x)) refl h)

-- the first of all by an order of numbers is the first that has its number, where no number is before itself
pub first-like : {A : Type 0} (g : A → ℕ) (before : ℕ → ℕ → Bool) → ((p : ℕ) → before p p ≡ false) → (xs : List A) →
    first_like g xs (first_by (λ s r. before (g s) (g r)) xs) ≡ first_by (λ s r. before (g s) (g r)) xs
first-like g before never [] = refl
first-like g before never (x ∷ xs) = like-found g before never x xs (first_by (λ s r. before (g s) (g r)) xs) (first-like g before never xs)

not-below-self : (p : ℕ) → nat_lt p p ≡ false
not-below-self p = false_from_ne_true (nat_lt p p) (λ h. let less : p < p = ltb-true p p h in absurd (omega arith))

-- no priority has its turn before itself
pub no-turn-before-itself : (order : OrderRule) (past : Past) (p : ℕ) → has_turn_before order past p p ≡ false
no-turn-before-itself Strict past p = not-below-self p
no-turn-before-itself Shares past p =
    or_from (got_less past p p) (not (got_less past p p) && nat_lt p p) (not-below-self ((claims past p + 1) * (p + 1)))
    (and-false (not (got_less past p p)) (nat_lt p p) (not-below-self p))

first-of : (past : Past) (o : Option Record) → first_at past (option_map (prio_of past) o) ≡ option_map id_of (first_like (prio_of past) (ready past) o)
first-of past None = refl
first-of past (Some s) = refl

-- the record that is next is the ready one that goes before all others, and among equals the first
pub next-first : (order : OrderRule) (past : Past) → next order past ≡ option_map id_of (first_by (goes_before order past) (ready past))
next-first order past =
    ap (first_at past) (first-mapped (prio_of past) (has_turn_before order past) (ready past))
    ∙ first-of past (first_by (goes_before order past) (ready past))
    ∙ ap (option_map id_of) (first-like (prio_of past) (has_turn_before order past) (no-turn-before-itself order past) (ready past))
