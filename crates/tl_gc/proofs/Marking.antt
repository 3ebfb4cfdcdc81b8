-- What is marked from the last record to the first is what is needed.
use Rattle.std.proofs.Common.{◌≡◌, ◌∙◌, inl, inr, arith, ℕ, zero, suc, ◌+◌, ◌<◌, ◌≤◌, nat_lt, Bool, true, false, ◌&&◌, ◌||◌, not, if◌then◌else◌, List, [], ◌∷◌, drop, length, map, slice_get, slice_set, Some, refl, sym, ap, subst}
use Rattle.std.specs.List.{list_any}
use Rattle.std.proofs.lemmas.Bool.{lt-ltb, ltb-true}
use Rattle.tl_types.specs.Same.{file_same, file_same-Decides, record_same, record_same-Decides}
use Rattle.tl_types.specs.declared.file_id.FileId.{FileId}
use Rattle.tl_types.specs.declared.record_id.RecordId.{RecordId}
use Rattle.tl_model.specs.declared.record.Record.{Record}
use Rattle.tl_model.specs.Past.{Past}
use Rattle.tl_model.specs.Tables.{Table, answer_at, chosen, downward}
use Rattle.tl_model.specs.History.{files_from, has_input, id_of, inputs_of, is_named, output_count, outputs_of, records}
use Rattle.tl_model.specs.Actors.{is_read, is_running}
use Rattle.tl_model.specs.Residency.{is_saved}
use Rattle.tl_model.specs.Plan.{has_id, is_task}
use Rattle.tl_model.specs.Needs.{is_needed, needed_among}
use Rattle.tl_laws.specs.Numbers.{Numbered}
use Rattle.tl_laws.proofs.Numbering.{get-within}
use Rattle.tl_steps.proofs.Files.{not-true}
use Rattle.tl_steps.proofs.Lists.{any_map, get_map}
use Rattle.tl_steps.proofs.Seats.{read-same, running-same, seats_of}
use Rattle.tl_gc.specs.declared.kept.Kept.{Kept}
use Rattle.tl_gc.specs.Data.{all_marked, decided, is_held, is_marked, is_needed_now, is_unsaved, step_on, table_step, unsaved_at, walked, with_mark}
use Rattle.tl_gc.specs.Standing.{kept_in, output_of}
use Rattle.tl_gc.proofs.Lists.{any-none, any-or, any-swap, drop-all, drop-at, get-set, get-set-other, get-some, length-map, length-set, map-at-each, same_or_not}

abbrev pub all_kept : Past → List Kept
all_kept past = map (kept_in past) (records past)

-- which of the records from number n on are needed
abbrev table_from : Past → ℕ → Table Record Bool
table_from past n = downward (needed_among past) (drop n (records past))

-- a needed record of the table has an unsaved output as input
abbrev wanted : Past → Table Record Bool → Record → Bool
wanted past table r = list_any (λ g. not (is_saved past g) && list_any (has_input g) (chosen table)) (outputs_of r)

abbrev pending : Past → Table Record Bool → Record → Bool
pending past table r = is_task past (id_of r) || wanted past table r

-- the records from number n on are decided, and the earlier ones are marked where they are tasks or a decided one needs them
record IsMarked (past : Past) (n : ℕ) (needed : List Bool) : Type 0 where
  long : length needed ≡ length (records past)
  earlier : (i : ℕ) (r : Record) → i < n → slice_get (records past) i ≡ Some r → slice_get needed i ≡ Some (pending past (table_from past n) r)
  later : (i : ℕ) (r : Record) → n ≤ i → slice_get (records past) i ≡ Some r → slice_get needed i ≡ Some (needed_among past (table_from past (suc i)) r)

-- ---- whether one record is needed

or-join : (t w x h : Bool) → ((t || w) || x || h) ≡ (t || x || (h || w))
or-join true w x h = refl
or-join false true true h = refl
or-join false true false true = refl
or-join false true false false = refl
or-join false false true h = refl
or-join false false false true = refl
or-join false false false false = refl

and-join : (u n d c : Bool) → ((u && (n || d)) || (u && c)) ≡ (u && (n || d || c))
and-join true true d c = refl
and-join true false true c = refl
and-join true false false c = refl
and-join false n d c = refl

held-same : (past : Past) (r : Record) →
    list_any (is_held (seats_of past)) (map (output_of past) (outputs_of r)) ≡ list_any (λ f. not (is_saved past f) && (is_named past f || is_read past f)) (outputs_of r)
held-same past r =
    any_map (is_held (seats_of past)) (output_of past) (outputs_of r)
    ∙ (λ i. list_any (λ f. not (is_saved past f) && (is_named past f || read-same past f i)) (outputs_of r))

now-same : (past : Past) (table : Table Record Bool) (r : Record) → is_needed_now (seats_of past) (kept_in past r) (pending past table r) ≡ needed_among past table r
now-same past table r =
    (λ i. pending past table r || running-same past (id_of r) i || held-same past r i)
    ∙ or-join (is_task past (id_of r)) (wanted past table r) (is_running past (id_of r)) (list_any (λ f. not (is_saved past f) && (is_named past f || is_read past f)) (outputs_of r))
    ∙ ap (λ b. is_task past (id_of r) || is_running past (id_of r) || b)
    (any-or (λ f. not (is_saved past f) && (is_named past f || is_read past f)) (λ f. not (is_saved past f) && list_any (has_input f) (chosen table)) (outputs_of r)
    ∙ (λ i. list_any (λ f. and-join (not (is_saved past f)) (is_named past f) (is_read past f) (list_any (has_input f) (chosen table)) i) (outputs_of r)))

-- ---- one mark

set-if : (c b : Bool) (needed : List Bool) (k i : ℕ) → k ≡ i → k < length needed → slice_get needed i ≡ Some b → slice_get (if c then slice_set needed k true else needed) i ≡ Some (c || b)
set-if true b needed k i same less at = ap (slice_get (slice_set needed k true)) (sym same) ∙ get-set needed k true less
set-if false b needed k i same less at = at

set-if-other : (c b : Bool) (needed : List Bool) (k i : ℕ) → (k ≡ i → ⊥) → slice_get needed i ≡ Some b → slice_get (if c then slice_set needed k true else needed) i ≡ Some b
set-if-other true b needed k i other at = get-set-other needed k i true other ∙ at
set-if-other false b needed k i other at = at

length-if : (c : Bool) (needed : List Bool) (k : ℕ) → length (if c then slice_set needed k true else needed) ≡ length needed
length-if true needed k = length-set needed k true
length-if false needed k = refl

-- the record makes the file, and it is unsaved
abbrev makes_unsaved : Past → Record → FileId → Bool
makes_unsaved past r f = list_any (λ g. file_same g f && not (is_saved past g)) (outputs_of r)

none-same : (past : Past) (id : RecordId) (f : FileId) (k n : ℕ) → (f.rec.0 ≡ id.0 → ⊥) → list_any (λ g. file_same g f && not (is_saved past g)) (files_from id k n) ≡ false
none-same past id f k zero other = refl
none-same past id f k (suc n) other =
    let differs : file_same (record { rec = id; out = k }) f ≡ false =
    not-true (file_same (record { rec = id; out = k }) f) (λ t. other (sym (ap (λ (g : FileId). g.rec.0) ((file_same-Decides (record { rec = id; out = k }) f).0 t)))) in
    ap (λ b. (b && not (is_saved past (record { rec = id; out = k }))) || list_any (λ g. file_same g f && not (is_saved past g)) (files_from id (k + 1) n)) differs
    ∙ none-same past id f (k + 1) n other

or-none : (c b : Bool) → c ≡ false → b ≡ (c || b)
or-none true b e = absurd (cc)
or-none false b e = refl

mark-below : (past : Past) (n : ℕ) (f : FileId) (needed : List Bool) (i : ℕ) (r : Record) (b : Bool) → Numbered (records past) → i < n → i < length needed →
    slice_get (records past) i ≡ Some r → slice_get needed i ≡ Some b → slice_get (with_mark (all_kept past) n f needed) i ≡ Some (makes_unsaved past r f || b)
mark-below past n f needed i r b numbered less within got at = elim (same_or_not f.rec.0 i) [
  | inl same ↦
      let here : slice_get (all_kept past) f.rec.0 ≡ Some (kept_in past r) = ap (slice_get (all_kept past)) same ∙ get_map (kept_in past) (records past) i r got in
      let below : f.rec.0 < n = omega arith in
      let test : (nat_lt f.rec.0 n && unsaved_at f (slice_get (all_kept past) f.rec.0)) ≡ makes_unsaved past r f =
      (λ j. lt-ltb f.rec.0 n below j && unsaved_at f (here j)) ∙ any_map (is_unsaved f) (output_of past) (outputs_of r) in
      set-if (nat_lt f.rec.0 n && unsaved_at f (slice_get (all_kept past) f.rec.0)) b needed f.rec.0 i same (omega arith) at
      ∙ ap (λ c. Some (c || b)) test
  | inr other ↦
      let id : (id_of r).0 ≡ i = ap (λ (m : RecordId). m.0) (numbered i r got) in
      set-if-other (nat_lt f.rec.0 n && unsaved_at f (slice_get (all_kept past) f.rec.0)) b needed f.rec.0 i other at
      ∙ ap (λ c. Some c) (or-none (makes_unsaved past r f) b (none-same past (id_of r) f 0 (output_count r) (λ e. other (e ∙ id))))
]

above-if : (lt u b : Bool) (needed : List Bool) (k i : ℕ) → (lt ≡ true → k ≡ i → ⊥) → slice_get needed i ≡ Some b → slice_get (if lt && u then slice_set needed k true else needed) i ≡ Some b
above-if true u b needed k i other at = set-if-other u b needed k i (other refl) at
above-if false u b needed k i other at = at

mark-above : (kept : List Kept) (n : ℕ) (f : FileId) (needed : List Bool) (i : ℕ) (b : Bool) → n ≤ i → slice_get needed i ≡ Some b → slice_get (with_mark kept n f needed) i ≡ Some b
mark-above kept n f needed i b above at =
    above-if (nat_lt f.rec.0 n) (unsaved_at f (slice_get kept f.rec.0)) b needed f.rec.0 i (λ t e. let less : f.rec.0 < n = ltb-true f.rec.0 n t in absurd (omega arith)) at

mark-length : (kept : List Kept) (n : ℕ) (f : FileId) (needed : List Bool) → length (with_mark kept n f needed) ≡ length needed
mark-length kept n f needed = length-if (nat_lt f.rec.0 n && unsaved_at f (slice_get kept f.rec.0)) needed f.rec.0

-- ---- the marks of all inputs

or-swap : (a b c : Bool) → (a || (b || c)) ≡ ((b || a) || c)
or-swap true true c = refl
or-swap true false c = refl
or-swap false true c = refl
or-swap false false c = refl

all-below : (past : Past) (n : ℕ) (fs : List FileId) (needed : List Bool) (i : ℕ) (r : Record) (b : Bool) → Numbered (records past) → i < n → i < length needed →
    slice_get (records past) i ≡ Some r → slice_get needed i ≡ Some b → slice_get (all_marked (all_kept past) n fs needed) i ≡ Some (list_any (makes_unsaved past r) fs || b)
all-below past n [] needed i r b numbered less within got at = at
all-below past n (f ∷ fs) needed i r b numbered less within got at =
    let long : length (with_mark (all_kept past) n f needed) ≡ length needed = mark-length (all_kept past) n f needed in
    all-below past n fs (with_mark (all_kept past) n f needed) i r (makes_unsaved past r f || b) numbered less (omega arith) got
    (mark-below past n f needed i r b numbered less within got at)
    ∙ ap (λ c. Some c) (or-swap (list_any (makes_unsaved past r) fs) (makes_unsaved past r f) b)

all-above : (kept : List Kept) (n : ℕ) (fs : List FileId) (needed : List Bool) (i : ℕ) (b : Bool) → n ≤ i → slice_get needed i ≡ Some b → slice_get (all_marked kept n fs needed) i ≡ Some b
all-above kept n [] needed i b above at = at
all-above kept n (f ∷ fs) needed i b above at = all-above kept n fs (with_mark kept n f needed) i b above (mark-above kept n f needed i b above at)

all-length : (kept : List Kept) (n : ℕ) (fs : List FileId) (needed : List Bool) → length (all_marked kept n fs needed) ≡ length needed
all-length kept n [] needed = refl
all-length kept n (f ∷ fs) needed = all-length kept n fs (with_mark kept n f needed) ∙ mark-length kept n f needed

-- ---- one record

or-shift : (a t w : Bool) → (a || (t || w)) ≡ (t || (a || w))
or-shift true true w = refl
or-shift true false w = refl
or-shift false t w = refl

and-or : (u h c : Bool) → ((u && h) || (u && c)) ≡ (u && (h || c))
and-or true h c = refl
and-or false h c = refl

one-needs : (past : Past) (table : Table Record Bool) (r x : Record) → (list_any (makes_unsaved past x) (inputs_of r) || pending past table x) ≡ pending past ((r, true) ∷ table) x
one-needs past table r x =
    ap (λ a. a || pending past table x) (any-swap file_same (λ g. not (is_saved past g)) (outputs_of x) (inputs_of r))
    ∙ or-shift (list_any (λ g. not (is_saved past g) && has_input g r) (outputs_of x)) (is_task past (id_of x)) (wanted past table x)
    ∙ ap (λ b. is_task past (id_of x) || b)
    (any-or (λ g. not (is_saved past g) && has_input g r) (λ g. not (is_saved past g) && list_any (has_input g) (chosen table)) (outputs_of x)
    ∙ (λ i. list_any (λ g. and-or (not (is_saved past g)) (has_input g r) (list_any (has_input g) (chosen table)) i) (outputs_of x)))

next-table : (past : Past) (n : ℕ) (r : Record) (b : Bool) → slice_get (records past) n ≡ Some r → needed_among past (table_from past (suc n)) r ≡ b →
    (r, b) ∷ table_from past (suc n) ≡ table_from past n
next-table past n r b got is =
    ap (λ c. (r, c) ∷ table_from past (suc n)) (sym is) ∙ ap (downward (needed_among past)) (sym (drop-at (records past) n r got))

-- what is written at the record's own place
own-place : (past : Past) (n i : ℕ) (r x : Record) (b : Bool) (needed : List Bool) → n < length needed → slice_get (records past) n ≡ Some r → needed_among past (table_from past (suc n)) r ≡ b →
    IsMarked past (suc n) needed → n ≤ i → slice_get (records past) i ≡ Some x → slice_get (slice_set needed n b) i ≡ Some (needed_among past (table_from past (suc i)) x)
own-place past n i r x b needed within got is marked above at = elim (same_or_not n i) [
  | inl same ↦
      let both : Some r ≡ Some x = sym got ∙ ap (slice_get (records past)) same ∙ at in
      let it : r ≡ x = cc in
      ap (slice_get (slice_set needed n b)) (sym same) ∙ get-set needed n b within
      ∙ ap (λ c. Some c) (sym is ∙ (λ j. needed_among past (table_from past (suc (same j))) (it j)))
  | inr other ↦ get-set-other needed n i b other ∙ marked.later i x (omega arith) at
]

is-decided : (past : Past) (n : ℕ) (r : Record) (b : Bool) (needed : List Bool) → Numbered (records past) → n < length (records past) → slice_get (records past) n ≡ Some r →
    needed_among past (table_from past (suc n)) r ≡ b → IsMarked past (suc n) needed → IsMarked past n (decided (all_kept past) n (kept_in past r) needed b)
is-decided past n r false needed numbered less got is marked =
    let size : length needed ≡ length (records past) = marked.long in
    let within : n < length needed = omega arith in
    record {
      long = length-set needed n false ∙ marked.long;
      earlier = λ i x below at.
          get-set-other needed n i false (λ e. omega arith) ∙ marked.earlier i x (omega arith) at
          ∙ ap (λ t. Some (pending past t x)) (next-table past n r false got is);
      later = λ i x above at. own-place past n i r x false needed within got is marked above at;
    }
is-decided past n r true needed numbered less got is marked =
    let size : length needed ≡ length (records past) = marked.long in
    let within : n < length needed = omega arith in
    let set : List Bool = slice_set needed n true in
    let long : length set ≡ length needed = length-set needed n true in
    record {
      long = all-length (all_kept past) n (inputs_of r) set ∙ long ∙ marked.long;
      earlier = λ i x below at.
          all-below past n (inputs_of r) set i x (pending past (table_from past (suc n)) x) numbered below (omega arith) at
          (get-set-other needed n i true (λ e. omega arith) ∙ marked.earlier i x (omega arith) at)
          ∙ ap (λ c. Some c) (one-needs past (table_from past (suc n)) r x)
          ∙ ap (λ t. Some (pending past t x)) (next-table past n r true got is);
      later = λ i x above at.
          all-above (all_kept past) n (inputs_of r) set i (needed_among past (table_from past (suc i)) x) above
          (own-place past n i r x true needed within got is marked above at);
    }

stepped : (past : Past) (n : ℕ) (r : Record) (needed : List Bool) → slice_get (records past) n ≡ Some r → IsMarked past (suc n) needed →
    table_step (seats_of past) (all_kept past) n needed ≡ decided (all_kept past) n (kept_in past r) needed (needed_among past (table_from past (suc n)) r)
stepped past n r needed got marked =
    ap (λ o. step_on (seats_of past) (all_kept past) n o needed) (get_map (kept_in past) (records past) n r got)
    ∙ ap (λ o. decided (all_kept past) n (kept_in past r) needed (is_needed_now (seats_of past) (kept_in past r) (is_marked o))) (marked.earlier n r (omega arith) got)
    ∙ ap (decided (all_kept past) n (kept_in past r) needed) (now-same past (table_from past (suc n)) r)

is-stepped : (past : Past) (n : ℕ) (needed : List Bool) → Numbered (records past) → n < length (records past) → IsMarked past (suc n) needed →
    IsMarked past n (table_step (seats_of past) (all_kept past) n needed)
is-stepped past n needed numbered less marked =
    let found = get-some (records past) n less in
    subst (IsMarked past n) (sym (stepped past n found.0 needed found.1 marked))
    (is-decided past n found.0 (needed_among past (table_from past (suc n)) found.0) needed numbered less found.1 refl marked)

-- ---- all records

is-walked : (past : Past) (n : ℕ) (needed : List Bool) → Numbered (records past) → n ≤ length (records past) → IsMarked past n needed →
    IsMarked past 0 (walked (seats_of past) (all_kept past) n needed)
is-walked past zero needed numbered few marked = marked
is-walked past (suc n) needed numbered few marked =
    is-walked past n (table_step (seats_of past) (all_kept past) n needed) numbered (omega arith) (is-stepped past n needed numbered (omega arith) marked)

or-false : (t w : Bool) → w ≡ false → t ≡ (t || w)
or-false true w e = refl
or-false false w e = sym e

abbrev pub tasks_of : Past → List Kept → List Bool
tasks_of past kept = map (λ (k : Kept). is_task past k.made) kept

is-begun : (past : Past) (n : ℕ) → n ≡ length (records past) → IsMarked past n (tasks_of past (all_kept past))
is-begun past n all = record {
  long = length-map (λ (k : Kept). is_task past k.made) (all_kept past) ∙ length-map (kept_in past) (records past);
  earlier = λ i r below at.
      get_map (λ (k : Kept). is_task past k.made) (all_kept past) i (kept_in past r) (get_map (kept_in past) (records past) i r at)
      ∙ ap (λ c. Some c) (or-false (is_task past (id_of r)) (wanted past (table_from past n) r)
      (ap (λ rs. wanted past (downward (needed_among past) rs) r) (drop-all (records past) n all) ∙ any-none (λ g. not (is_saved past g)) (outputs_of r)));
  later = λ i r above at. let within : i < length (records past) = get-within (records past) i r at in absurd (omega arith);
}

-- the table's answer of a record
answer-place : (answer : Table Record Bool → Record → Bool) (rs : List Record) (k i : ℕ) (r : Record) → ((j : ℕ) (x : Record) → slice_get rs j ≡ Some x → (id_of x).0 ≡ k + j) →
    slice_get rs i ≡ Some r → answer (downward answer (drop (suc i) rs)) r ≡ answer_at (has_id (id_of r)) false (downward answer rs)
answer-place answer [] k i r numbers at = absurd (cc)
answer-place answer (x ∷ rs) k zero r numbers at =
    let same : r ≡ x = cc in
    let own : record_same (id_of r) (id_of x) ≡ true = (record_same-Decides (id_of r) (id_of x)).1 (ap id_of same) in
    ap (answer (downward answer rs)) same
    ∙ ap (λ b. if b then answer (downward answer rs) x else answer_at (has_id (id_of r)) false (downward answer rs)) (sym own)
answer-place answer (x ∷ rs) k (suc i) r numbers at =
    let here : (id_of x).0 ≡ k + 0 = numbers 0 x refl in
    let there : (id_of r).0 ≡ k + suc i = numbers (suc i) r at in
    let other : record_same (id_of r) (id_of x) ≡ false =
    not-true (record_same (id_of r) (id_of x)) (λ t. let e : (id_of r).0 ≡ (id_of x).0 = ap (λ (m : RecordId). m.0) ((record_same-Decides (id_of r) (id_of x)).0 t) in absurd (omega arith)) in
    answer-place answer rs (suc k) i r (λ j y got. let e : (id_of y).0 ≡ k + suc j = numbers (suc j) y got in omega arith) at
    ∙ ap (λ b. if b then answer (downward answer rs) x else answer_at (has_id (id_of r)) false (downward answer rs)) (sym other)

-- what is marked at the end is what is needed
pub walked-needs : (past : Past) (n : ℕ) → Numbered (records past) → n ≡ length (records past) →
    walked (seats_of past) (all_kept past) n (tasks_of past (all_kept past)) ≡ map (λ r. is_needed past (id_of r)) (records past)
walked-needs past n numbered all =
    let marked = is-walked past n (tasks_of past (all_kept past)) numbered (omega arith) (is-begun past n all) in
    map-at-each (λ r. is_needed past (id_of r)) (walked (seats_of past) (all_kept past) n (tasks_of past (all_kept past))) (records past) marked.long
    (λ i r at. marked.later i r (omega arith) at
    ∙ ap (λ c. Some c) (answer-place (needed_among past) (records past) 0 i r (λ j x got. let e : (id_of x).0 ≡ j = ap (λ (m : RecordId). m.0) (numbered j x got) in omega arith) at))
