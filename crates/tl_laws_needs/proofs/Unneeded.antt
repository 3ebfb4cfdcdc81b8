-- A record that isn't needed is not needed after one more event.
use Rattle.std.proofs.Common.{◌≡◌, ℕ, zero, suc, ◌+◌, ◌<◌, ◌≤◌, inl, inr, Bool, true, false, not, ◌&&◌, ◌||◌, List, [], ◌∷◌, ◌++◌, length, slice_get, Some, refl, sym, ap, ◌∙◌, arith}
use Rattle.std.specs.List.{AllByRecursion, list_any}
use Rattle.std.proofs.lemmas.Bool.{and_parts, and_from, or_left, or_right, or_cases, not-true, false_from_ne_true, both_ways}
use Rattle.tl_types.specs.declared.file_id.FileId.{FileId}
use Rattle.tl_types.specs.declared.record_id.RecordId.{RecordId}
use Rattle.tl_model.specs.declared.record.Record.{Record}
use Rattle.tl_model.specs.Past.{Past}
use Rattle.tl_model.specs.Tables.{Table, downward, chosen}
use Rattle.tl_model.specs.History.{records, id_of, is_job, inputs_of, output_count, outputs_of, has_input, is_named}
use Rattle.tl_model.specs.Actors.{is_read, is_running}
use Rattle.tl_model.specs.Residency.{is_saved, is_resident, is_available, was_done}
use Rattle.tl_model.specs.Plan.{is_awaited, is_wanted_by, lacks, task_among, is_task}
use Rattle.tl_model.specs.Needs.{is_needed_file, needed_among, is_needed, is_live}
use Rattle.tl_laws.specs.Numbers.{Numbered}
use Rattle.tl_laws.proofs.Numbering.{below_or_not, get-left, get-within}
use Rattle.tl_laws.proofs.Order.{among-holds, all-get}
use Rattle.tl_laws.proofs.Ready.{after, get-after, after-after, difference, answer-at-place, task-at, chosen-has, any-output}
use Rattle.tl_laws_needs.proofs.Places.{IsChosen, who-chosen, which-output}
use Rattle.tl_laws_needs.proofs.Next.{IsNext}

needed-at : (past : Past) (i : ℕ) (r : Record) → Numbered (records past) → slice_get (records past) i ≡ Some r →
    is_needed past (id_of r) ≡ needed_among past (downward (needed_among past) (after (records past) i)) r
needed-at past i r n at = answer-at-place false (needed_among past) (records past) i r n at

-- ---- who is needed

-- a task, and who is running
pub live-is-needed : (past : Past) (i : ℕ) (r : Record) → Numbered (records past) → slice_get (records past) i ≡ Some r → is_live past r ≡ true → is_needed past (id_of r) ≡ true
live-is-needed past i r n at live =
    needed-at past i r n at ∙ or_left (is_live past r) (list_any (is_needed_file past (downward (needed_among past) (after (records past) i))) (outputs_of r)) live

-- who has an output that is needed
file-is-needed : (past : Past) (i : ℕ) (r : Record) (o : ℕ) → Numbered (records past) → slice_get (records past) i ≡ Some r → o < output_count r →
    is_needed_file past (downward (needed_among past) (after (records past) i)) (record { rec = id_of r; out = o }) ≡ true → is_needed past (id_of r) ≡ true
file-is-needed past i r o n at small h =
    let table = downward (needed_among past) (after (records past) i) in
    needed-at past i r n at
    ∙ or_right (is_task past (id_of r) || is_running past (id_of r)) (list_any (is_needed_file past table) (outputs_of r))
    (any-output (is_needed_file past table) (id_of r) 0 (output_count r) o h (omega arith) (omega arith))

-- who has an unsaved output that is named or read
pub named-is-needed : (past : Past) (i : ℕ) (r : Record) (o : ℕ) → Numbered (records past) → slice_get (records past) i ≡ Some r → o < output_count r →
    is_saved past (record { rec = id_of r; out = o }) ≡ false → (is_named past (record { rec = id_of r; out = o }) || is_read past (record { rec = id_of r; out = o })) ≡ true →
    is_needed past (id_of r) ≡ true
named-is-needed past i r o n at small unsaved used =
    let f : FileId = record { rec = id_of r; out = o } in
    let table = downward (needed_among past) (after (records past) i) in
    file-is-needed past i r o n at small
    (and_from (not (is_saved past f)) _ (ap not unsaved) (or_left (is_named past f || is_read past f) (list_any (has_input f) (chosen table)) used))

-- who has an unsaved output that a needed record has as input
pub input-is-needed : (past : Past) (i k : ℕ) (r s : Record) (o : ℕ) → Numbered (records past) → slice_get (records past) i ≡ Some r → slice_get (records past) k ≡ Some s →
    i < k → is_needed past (id_of s) ≡ true → o < output_count r → has_input (record { rec = id_of r; out = o }) s ≡ true →
    is_saved past (record { rec = id_of r; out = o }) ≡ false → is_needed past (id_of r) ≡ true
input-is-needed past i k r s o n at_r at_s less needed small reads unsaved =
    let rs = records past in
    let answer = needed_among past in
    let f : FileId = record { rec = id_of r; out = o } in
    let gap : (d : ℕ) × (k ≡ suc (i + d)) = difference i k less in
    let in_rest : slice_get (after rs i) gap.0 ≡ Some s = get-after rs i gap.0 (i + gap.0) refl ∙ ap (slice_get rs) (sym gap.1) ∙ at_s in
    let rest : after (after rs i) gap.0 ≡ after rs k = after-after rs i gap.0 (i + gap.0) refl ∙ ap (after rs) (sym gap.1) in
    let chose : answer (downward answer (after (after rs i) gap.0)) s ≡ true =
    ap (λ (xs : List Record). answer (downward answer xs) s) rest ∙ sym (needed-at past k s n at_s) ∙ needed in
    let some : list_any (has_input f) (chosen (downward answer (after rs i))) ≡ true = chosen-has answer (has_input f) (after rs i) gap.0 s in_rest chose reads in
    file-is-needed past i r o n at_r small
    (and_from (not (is_saved past f)) _ (ap not unsaved) (or_right (is_named past f || is_read past f) (list_any (has_input f) (chosen (downward answer (after rs i)))) some))

-- ---- from the past ahead to the past

-- a record that was there, with the same facts before and after one event
record IsOld (past ahead : Past) (i : ℕ) (r : Record) : Type 0 where
  next : IsNext past ahead
  numbers : Numbered (records past)
  ahead_numbers : Numbered (records ahead)
  at : slice_get (records past) i ≡ Some r
  -- the later ones that are needed were
  later : (k : ℕ) (s : Record) → i < k → slice_get (records past) k ≡ Some s → is_needed ahead (id_of s) ≡ true → is_needed past (id_of s) ≡ true

unsaved-before : (past ahead : Past) → IsNext past ahead → (f : FileId) → is_saved ahead f ≡ false → is_saved past f ≡ false
unsaved-before past ahead next f unsaved = false_from_ne_true (is_saved past f) (λ h. both_ways (is_saved ahead f) unsaved (next.saved f h))

pub at-ahead : (past ahead : Past) (next : IsNext past ahead) (i : ℕ) (r : Record) → slice_get (records past) i ≡ Some r → slice_get (records ahead) i ≡ Some r
at-ahead past ahead next i r at =
    ap (λ (rs : List Record). slice_get rs i) next.added ∙ get-left (records past) next.more i (get-within (records past) i r at) ∙ at

get-right : (xs ys : List Record) (k : ℕ) (s : Record) → length xs ≤ k → slice_get (xs ++ ys) k ≡ Some s → (j : ℕ) × (slice_get ys j ≡ Some s)
get-right [] ys k s le at = (k, at)
get-right (x ∷ xs) ys zero s le at = absurd (omega arith)
get-right (x ∷ xs) ys (suc k) s le at = get-right xs ys k s (omega arith) at

-- a later record that is needed ahead and has an unsaved output as input
reader-ahead : (past ahead : Past) (i : ℕ) (r : Record) → IsOld past ahead i r → (k : ℕ) (s : Record) (o : ℕ) → i < k → slice_get (records ahead) k ≡ Some s →
    is_needed ahead (id_of s) ≡ true → o < output_count r → has_input (record { rec = id_of r; out = o }) s ≡ true →
    is_saved past (record { rec = id_of r; out = o }) ≡ false → is_needed past (id_of r) ≡ true
reader-ahead past ahead i r old k s o less at_s needed small reads unsaved =
    let f : FileId = record { rec = id_of r; out = o } in
    let there : slice_get (records past ++ old.next.more) k ≡ Some s = ap (λ (rs : List Record). slice_get rs k) (sym old.next.added) ∙ at_s in
    elim (below_or_not k (length (records past))) [
      | inl h ↦
          let here : slice_get (records past) k ≡ Some s = sym (get-left (records past) old.next.more k h) ∙ there in
          input-is-needed past i k r s o old.numbers old.at here less (old.later k s less here needed) small reads unsaved
      | inr h ↦
          let new = get-right (records past) old.next.more k s h there in
          let inputs = all-get (λ x. AllByRecursion (λ g. is_named past g ≡ true) (inputs_of x)) old.next.more new.0 s old.next.inputs new.1 in
          let named : is_named past f ≡ true = among-holds (λ g. is_named past g ≡ true) f (inputs_of s) inputs reads in
          named-is-needed past i r o old.numbers old.at small unsaved (or_left (is_named past f) (is_read past f) named)
    ]

-- one that a table ahead chooses
chosen-ahead : (past ahead : Past) (i : ℕ) (r : Record) → IsOld past ahead i r → (answer : Table Record Bool → Record → Bool) (test : Record → Bool) (o : ℕ) →
    IsChosen answer (after (records ahead) i) test →
    ((k : ℕ) (s : Record) → slice_get (records ahead) k ≡ Some s → answer (downward answer (after (records ahead) k)) s ≡ true → is_needed ahead (id_of s) ≡ true) →
    ((s : Record) → test s ≡ true → has_input (record { rec = id_of r; out = o }) s ≡ true) → o < output_count r →
    is_saved past (record { rec = id_of r; out = o }) ≡ false → is_needed past (id_of r) ≡ true
chosen-ahead past ahead i r old answer test o c needs reads small unsaved =
    let rs = records ahead in
    let k : ℕ = suc (i + c.place) in
    let at : slice_get rs k ≡ Some c.who = sym (get-after rs i c.place (i + c.place) refl) ∙ c.at in
    let chose : answer (downward answer (after rs k)) c.who ≡ true =
    ap (λ (xs : List Record). answer (downward answer xs) c.who) (sym (after-after rs i c.place (i + c.place) refl)) ∙ c.chose in
    reader-ahead past ahead i r old k c.who o (omega arith) at (needs k c.who at chose) small (reads c.who c.passes) unsaved

task-ahead-is-needed : (ahead : Past) (k : ℕ) (s : Record) → Numbered (records ahead) → slice_get (records ahead) k ≡ Some s →
    task_among ahead (downward (task_among ahead) (after (records ahead) k)) s ≡ true → is_needed ahead (id_of s) ≡ true
task-ahead-is-needed ahead k s n at chose =
    live-is-needed ahead k s n at (or_left (is_task ahead (id_of s)) (is_running ahead (id_of s)) (task-at ahead k s n at ∙ chose))

-- an output that lacks ahead
lacking-ahead : (past ahead : Past) (i : ℕ) (r : Record) → IsOld past ahead i r → (o : ℕ) → o < output_count r →
    lacks ahead (downward (task_among ahead) (after (records ahead) i)) (record { rec = id_of r; out = o }) ≡ true → is_needed past (id_of r) ≡ true
lacking-ahead past ahead i r old o small lack =
    let f : FileId = record { rec = id_of r; out = o } in
    let table = downward (task_among ahead) (after (records ahead) i) in
    let test : Record → Bool = λ s. has_input f s && not (is_running ahead (id_of s)) in
    let parts = and_parts (is_wanted_by ahead table f) (not (is_available ahead f)) lack in
    let missing : is_saved ahead f ≡ false =
    false_from_ne_true (is_saved ahead f) (λ h. both_ways (is_available ahead f) (not-true (is_available ahead f) parts.1) (or_right (is_resident ahead f) (is_saved ahead f) h)) in
    let unsaved : is_saved past f ≡ false = unsaved-before past ahead old.next f missing in
    elim (or_cases (is_read ahead f) (is_awaited ahead table f) parts.0) [
      | inl h ↦ named-is-needed past i r o old.numbers old.at small unsaved (old.next.read f h)
      | inr h ↦
          chosen-ahead past ahead i r old (task_among ahead) test o (who-chosen (task_among ahead) (after (records ahead) i) test h)
          (λ k s at chose. task-ahead-is-needed ahead k s old.ahead_numbers at chose)
          (λ s t. (and_parts (has_input f s) (not (is_running ahead (id_of s))) t).0) small unsaved
    ]

-- a task ahead
task-ahead : (past ahead : Past) (i : ℕ) (r : Record) → IsOld past ahead i r → is_task ahead (id_of r) ≡ true → is_needed past (id_of r) ≡ true
task-ahead past ahead i r old task =
    let table = downward (task_among ahead) (after (records ahead) i) in
    let parts = and_parts (is_job r) (not (was_done ahead (id_of r)) || list_any (lacks ahead table) (outputs_of r))
    (sym (task-at ahead i r old.ahead_numbers (at-ahead past ahead old.next i r old.at)) ∙ task) in
    elim (or_cases (not (was_done ahead (id_of r))) (list_any (lacks ahead table) (outputs_of r)) parts.1) [
      | inl h ↦
          let undone : was_done past (id_of r) ≡ false =
          false_from_ne_true (was_done past (id_of r)) (λ k. both_ways (was_done ahead (id_of r)) (not-true (was_done ahead (id_of r)) h) (old.next.done (id_of r) k)) in
          let was : is_task past (id_of r) ≡ true =
          task-at past i r old.numbers old.at ∙ and_from (is_job r) _ parts.0 (or_left (not (was_done past (id_of r))) _ (ap not undone)) in
          live-is-needed past i r old.numbers old.at (or_left (is_task past (id_of r)) (is_running past (id_of r)) was)
      | inr h ↦
          let it = which-output (lacks ahead table) (id_of r) 0 (output_count r) h in
          let below : it.0 < 0 + output_count r = it.2 in
          lacking-ahead past ahead i r old it.0 (omega arith) it.1
    ]

-- a file that is needed ahead
file-ahead : (past ahead : Past) (i : ℕ) (r : Record) → IsOld past ahead i r → (o : ℕ) → o < output_count r →
    is_needed_file ahead (downward (needed_among ahead) (after (records ahead) i)) (record { rec = id_of r; out = o }) ≡ true → is_needed past (id_of r) ≡ true
file-ahead past ahead i r old o small h =
    let f : FileId = record { rec = id_of r; out = o } in
    let table = downward (needed_among ahead) (after (records ahead) i) in
    let parts = and_parts (not (is_saved ahead f)) (is_named ahead f || is_read ahead f || list_any (has_input f) (chosen table)) h in
    let unsaved : is_saved past f ≡ false = unsaved-before past ahead old.next f (not-true (is_saved ahead f) parts.0) in
    let number : (id_of r).0 ≡ i = ap (λ (id : RecordId). id.0) (old.numbers i r old.at) in
    let within : i < length (records past) = get-within (records past) i r old.at in
    let less : (id_of r).0 < length (records past) = omega arith in
    elim (or_cases (is_named ahead f || is_read ahead f) (list_any (has_input f) (chosen table)) parts.1) [
      | inl used ↦ elim (or_cases (is_named ahead f) (is_read ahead f) used) [
        | inl named ↦ named-is-needed past i r o old.numbers old.at small unsaved (or_left (is_named past f) (is_read past f) (old.next.named f less named))
        | inr read ↦ named-is-needed past i r o old.numbers old.at small unsaved (old.next.read f read)
      ]
      | inr input ↦
          chosen-ahead past ahead i r old (needed_among ahead) (has_input f) o (who-chosen (needed_among ahead) (after (records ahead) i) (has_input f) input)
          (λ k s at chose. needed-at ahead k s old.ahead_numbers at ∙ chose) (λ s t. t) small unsaved
    ]

needed-ahead : (past ahead : Past) (i : ℕ) (r : Record) → IsOld past ahead i r → is_needed ahead (id_of r) ≡ true → is_needed past (id_of r) ≡ true
needed-ahead past ahead i r old needed =
    let table = downward (needed_among ahead) (after (records ahead) i) in
    let among : needed_among ahead table r ≡ true = sym (needed-at ahead i r old.ahead_numbers (at-ahead past ahead old.next i r old.at)) ∙ needed in
    elim (or_cases (is_task ahead (id_of r) || is_running ahead (id_of r)) (list_any (is_needed_file ahead table) (outputs_of r)) among) [
      | inl live ↦ elim (or_cases (is_task ahead (id_of r)) (is_running ahead (id_of r)) live) [
        | inl task ↦ task-ahead past ahead i r old task
        | inr running ↦ live-is-needed past i r old.numbers old.at (old.next.running (id_of r) running)
      ]
      | inr h ↦
          let it = which-output (is_needed_file ahead table) (id_of r) 0 (output_count r) h in
          let below : it.0 < 0 + output_count r = it.2 in
          file-ahead past ahead i r old it.0 (omega arith) it.1
    ]

needed-within : (past ahead : Past) → IsNext past ahead → Numbered (records past) → Numbered (records ahead) → (d i : ℕ) (r : Record) →
    length (records past) ≤ i + d → slice_get (records past) i ≡ Some r → is_needed ahead (id_of r) ≡ true → is_needed past (id_of r) ≡ true
needed-within past ahead next n m zero i r few at needed = let within : i < length (records past) = get-within (records past) i r at in absurd (omega arith)
needed-within past ahead next n m (suc d) i r few at needed =
    needed-ahead past ahead i r
    (record {
      next = next;
      numbers = n;
      ahead_numbers = m;
      at = at;
      later = λ k s less at_s h. needed-within past ahead next n m d k s (omega arith) at_s h;
    }) needed

-- a record that is needed after one event was needed before it, where it was there
pub needed-was : (past ahead : Past) → IsNext past ahead → Numbered (records past) → Numbered (records ahead) → (i : ℕ) (r : Record) →
    slice_get (records past) i ≡ Some r → is_needed ahead (id_of r) ≡ true → is_needed past (id_of r) ≡ true
needed-was past ahead next n m i r at needed = needed-within past ahead next n m (length (records past)) i r (omega arith) at needed
