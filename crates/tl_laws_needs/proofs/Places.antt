-- What tables choose, by the places of their records.
use Rattle.std.proofs.Common.{◌≡◌, ℕ, zero, suc, ◌+◌, ◌<◌, ◌≤◌, inl, inr, Bool, true, false, ◌||◌, if◌then◌else◌, List, [], ◌∷◌, map, max, slice_get, Some, refl, ap, ◌∙◌, arith}
use Rattle.std.specs.List.{list_any}
use Rattle.std.proofs.lemmas.Bool.{or_cases}
use Rattle.tl_types.specs.declared.file_id.FileId.{FileId}
use Rattle.tl_types.specs.declared.record_id.RecordId.{RecordId}
use Rattle.tl_model.specs.declared.record.Record.{Record}
use Rattle.tl_model.specs.Tables.{Table, downward, chosen}
use Rattle.tl_model.specs.History.{files_from}
use Rattle.tl_model.specs.Plan.{greatest}
use Rattle.tl_laws.proofs.Ready.{after}

-- a record that passes a test stands at a place, and the table chooses it
pub record IsChosen (answer : Table Record Bool → Record → Bool) (rs : List Record) (test : Record → Bool) : Type 0 where
  pub place : ℕ
  pub who : Record
  pub at : slice_get rs place ≡ Some who
  pub chose : answer (downward answer (after rs place)) who ≡ true
  pub passes : test who ≡ true

one-further : (answer : Table Record Bool → Record → Bool) (x : Record) (xs : List Record) (test : Record → Bool) → IsChosen answer xs test → IsChosen answer (x ∷ xs) test
one-further answer x xs test c = record { place = suc c.place; who = c.who; at = c.at; chose = c.chose; passes = c.passes }

chosen-in : (answer : Table Record Bool → Record → Bool) (x : Record) (xs : List Record) (test : Record → Bool) (b : Bool) → answer (downward answer xs) x ≡ b →
    (list_any test (chosen (downward answer xs)) ≡ true → IsChosen answer xs test) →
    list_any test (if b then x ∷ chosen (downward answer xs) else chosen (downward answer xs)) ≡ true → IsChosen answer (x ∷ xs) test
chosen-in answer x xs test true e later is = elim (or_cases (test x) (list_any test (chosen (downward answer xs))) is) [
  | inl t ↦ record { place = 0; who = x; at = refl; chose = e; passes = t }
  | inr h ↦ one-further answer x xs test (later h)
]
chosen-in answer x xs test false e later is = one-further answer x xs test (later is)

-- a test that some chosen record passes leads to the record's place
pub who-chosen : (answer : Table Record Bool → Record → Bool) (rs : List Record) (test : Record → Bool) → list_any test (chosen (downward answer rs)) ≡ true → IsChosen answer rs test
who-chosen answer [] test is = absurd (cc)
who-chosen answer (x ∷ xs) test is = chosen-in answer x xs test (answer (downward answer xs) x) refl (who-chosen answer xs test) is

-- ---- outputs

output-in : (p : FileId → Bool) (id : RecordId) (k n : ℕ) (b : Bool) → p (record { rec = id; out = k }) ≡ b →
    (list_any p (files_from id (k + 1) n) ≡ true → (o : ℕ) × (p (record { rec = id; out = o }) ≡ true) × (o < k + 1 + n)) →
    (b || list_any p (files_from id (k + 1) n)) ≡ true → (o : ℕ) × (p (record { rec = id; out = o }) ≡ true) × (o < k + suc n)
output-in p id k n true e later is = (k, e, (let h : k < k + suc n = omega arith in h))
output-in p id k n false e later is =
    let it : (o : ℕ) × (p (record { rec = id; out = o }) ≡ true) × (o < k + 1 + n) = later is in
    (it.0, it.1, (let less : it.0 < k + 1 + n = it.2 in let h : it.0 < k + suc n = omega arith in h))

-- a test that some output passes leads to the output's number
pub which-output : (p : FileId → Bool) (id : RecordId) (k n : ℕ) → list_any p (files_from id k n) ≡ true → (o : ℕ) × (p (record { rec = id; out = o }) ≡ true) × (o < k + n)
which-output p id k zero is = absurd (cc)
which-output p id k (suc n) is = output-in p id k n (p (record { rec = id; out = k })) refl (which-output p id (k + 1) n) is

-- ---- priorities

first-at-most : (b : Bool) (x n m : ℕ) → b ≡ true → x ≡ n → n ≤ max (if b then x else 0) m
first-at-most true x n m h e = omega arith
first-at-most false x n m h e = absurd (cc)

-- the answer of a record that passes the test is at most the greatest of those
pub at-most-greatest : (answer : Table Record ℕ → Record → ℕ) (test : Record → Bool) (rs : List Record) (i : ℕ) (r : Record) → slice_get rs i ≡ Some r → test r ≡ true →
    answer (downward answer (after rs i)) r ≤ greatest (map (λ entry. if test entry.0 then entry.1 else 0) (downward answer rs))
at-most-greatest answer test [] i r at t = absurd (cc)
at-most-greatest answer test (x ∷ xs) zero r at t =
    let same : x ≡ r = cc in
    first-at-most (test x) (answer (downward answer xs) x) (answer (downward answer xs) r) (greatest (map (λ entry. if test entry.0 then entry.1 else 0) (downward answer xs)))
    (ap test same ∙ t) (ap (answer (downward answer xs)) same)
at-most-greatest answer test (x ∷ xs) (suc i) r at t =
    let rest : answer (downward answer (after xs i)) r ≤ greatest (map (λ entry. if test entry.0 then entry.1 else 0) (downward answer xs)) =
    at-most-greatest answer test xs i r at t in
    omega arith
