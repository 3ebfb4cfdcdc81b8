-- What a record waits for is a task of no lesser priority.
use Rattle.std.proofs.Common.{◌≡◌, ℕ, ◌+◌, ◌<◌, ◌≤◌, true, false, not, suc, List, max, slice_get, Some, refl, sym, ap, ◌∙◌, arith}
use Rattle.std.specs.List.{list_any}
use Rattle.std.proofs.lemmas.Bool.{and_parts, both_ways, not-true, or_right}
use Rattle.tl_types.specs.declared.file_id.FileId.{FileId}
use Rattle.tl_types.specs.declared.record_id.RecordId.{RecordId}
use Rattle.tl_model.specs.declared.record.Record.{Record}
use Rattle.tl_model.specs.declared.record.Record.TheVariants as kind
use Rattle.tl_model.specs.Past.{Past}
use Rattle.tl_model.specs.Tables.{downward}
use Rattle.tl_model.specs.History.{records, id_of, output_count, outputs_of, has_input}
use Rattle.tl_model.specs.Actors.{is_running}
use Rattle.tl_model.specs.Residency.{is_saved, is_resident, is_available}
use Rattle.tl_model.specs.Plan.{is_task, is_missing_input, waits_for, waits, prio_of_own, prio_of_reads, prio_of_waiting, prio_among, prio}
use Rattle.tl_laws.specs.Numbers.{Numbered}
use Rattle.tl_laws.specs.Order.{HasOlderInputs}
use Rattle.tl_laws.proofs.Order.{waits-older, all-get}
use Rattle.tl_laws.proofs.Ready.{after, get-after, after-after, difference, answer-at-place, maker-is-task}
use Rattle.tl_laws_needs.proofs.Places.{which-output, at-most-greatest}
use Rattle.tl_laws_needs.proofs.Sound.{IsSound}

-- the maker of a missing input of a task that isn't running is a job, and a task
maker-waited : (past : Past) → IsSound past → (i j : ℕ) (r q : Record) (o : ℕ) → slice_get (records past) i ≡ Some r → slice_get (records past) j ≡ Some q → j < i →
    is_task past (id_of r) ≡ true → is_running past (id_of r) ≡ false → has_input (record { rec = id_of q; out = o }) r ≡ true → o < output_count q →
    is_available past (record { rec = id_of q; out = o }) ≡ false → is_task past (id_of q) ≡ true
maker-waited past sound i j r (kind.Put id) o at_r at_q less task idle reads small missing =
    let f : FileId = record { rec = id; out = o } in
    let first : o ≡ 0 = omega arith in
    let number : id ≡ record { 0 = j } = sound.numbers j (kind.Put id) at_q in
    let there : slice_get (records past) id.0 ≡ Some (kind.Put id) = ap (λ (x : RecordId). slice_get (records past) x.0) number ∙ at_q in
    let saved : is_saved past f ≡ true = sound.saves f id there first in
    absurd (both_ways (is_available past f) missing (or_right (is_resident past f) (is_saved past f) saved))
maker-waited past sound i j r (kind.Job id core prio inputs outputs) o at_r at_q less task idle reads small missing =
    maker-is-task past j i (kind.Job id core prio inputs outputs) r (record { rec = id; out = o }) sound.numbers at_q at_r less task idle reads refl small missing refl

-- who is waited for is older
waited-less : (past : Past) → IsSound past → (i j : ℕ) (r q : Record) → slice_get (records past) i ≡ Some r → slice_get (records past) j ≡ Some q →
    waits_for past r q ≡ true → j < i
waited-less past sound i j r q at_r at_q waiting =
    let less : (id_of q).0 < (id_of r).0 = waits-older past r q (all-get HasOlderInputs (records past) i r sound.older at_r) waiting in
    let of_r : (id_of r).0 ≡ i = ap (λ (id : RecordId). id.0) (sound.numbers i r at_r) in
    let of_q : (id_of q).0 ≡ j = ap (λ (id : RecordId). id.0) (sound.numbers j q at_q) in
    omega arith

pub waited-is-task : (past : Past) → IsSound past → (i j : ℕ) (r q : Record) → slice_get (records past) i ≡ Some r → slice_get (records past) j ≡ Some q →
    waits past r q ≡ true → is_task past (id_of q) ≡ true
waited-is-task past sound i j r q at_r at_q waiting =
    let parts = and_parts (is_task past (id_of r)) (waits_for past r q) waiting in
    let rest = and_parts (not (is_running past (id_of r))) (list_any (is_missing_input past r) (outputs_of q)) parts.1 in
    let it = which-output (is_missing_input past r) (id_of q) 0 (output_count q) rest.1 in
    let f : FileId = record { rec = id_of q; out = it.0 } in
    let missing = and_parts (has_input f r) (not (is_available past f)) it.1 in
    let below : it.0 < 0 + output_count q = it.2 in
    maker-waited past sound i j r q it.0 at_r at_q (waited-less past sound i j r q at_r at_q parts.1) parts.0 (not-true (is_running past (id_of r)) rest.0)
    missing.0 (omega arith) (not-true (is_available past f) missing.1)

-- ---- priorities

prio-at : (past : Past) (i : ℕ) (r : Record) → Numbered (records past) → slice_get (records past) i ≡ Some r →
    prio past (id_of r) ≡ prio_among past (downward (prio_among past) (after (records past) i)) r
prio-at past i r n at = answer-at-place 0 (prio_among past) (records past) i r n at

third-of : (a b c n m k : ℕ) → n ≡ k → k ≤ c → m ≡ max a (max b c) → n ≤ m
third-of a b c n m k e le is = omega arith

-- who waits has no greater priority
pub waited-has-prio : (past : Past) → IsSound past → (i j : ℕ) (r q : Record) → slice_get (records past) i ≡ Some r → slice_get (records past) j ≡ Some q →
    waits past r q ≡ true → prio past (id_of r) ≤ prio past (id_of q)
waited-has-prio past sound i j r q at_r at_q waiting =
    let rs = records past in
    let answer = prio_among past in
    let parts = and_parts (is_task past (id_of r)) (waits_for past r q) waiting in
    let gap : (d : ℕ) × (i ≡ suc (j + d)) = difference j i (waited-less past sound i j r q at_r at_q parts.1) in
    let in_rest : slice_get (after rs j) gap.0 ≡ Some r = get-after rs j gap.0 (j + gap.0) refl ∙ ap (slice_get rs) (sym gap.1) ∙ at_r in
    let rest : after (after rs j) gap.0 ≡ after rs i = after-after rs j gap.0 (j + gap.0) refl ∙ ap (after rs) (sym gap.1) in
    let mine : prio past (id_of r) ≡ answer (downward answer (after (after rs j) gap.0)) r =
    prio-at past i r sound.numbers at_r ∙ ap (λ (xs : List Record). answer (downward answer xs) r) (sym rest) in
    third-of (prio_of_own past q) (prio_of_reads past q) (prio_of_waiting past (downward answer (after rs j)) q) (prio past (id_of r)) (prio past (id_of q))
    (answer (downward answer (after (after rs j) gap.0)) r) mine
    (at-most-greatest answer (λ s. waits past s q) (after rs j) gap.0 r in_rest waiting) (prio-at past j q sound.numbers at_q)
