-- What one event changes in what is kept, before the tables are made again.
use Rattle.std.proofs.Common.{◌≡◌, ◌∙◌, arith, ◌<◌, Bool, false, List, [], ◌∷◌, ◌++◌, length, map, refl, sym, ap}
use Rattle.tl_types.specs.declared.actor.Actor.{Actor}
use Rattle.tl_types.specs.declared.file_id.FileId.{FileId}
use Rattle.tl_model.specs.declared.event.Act.{Act}
use Rattle.tl_model.specs.declared.event.Act.TheVariants.{Call}
use Rattle.tl_model.specs.declared.command.Command.{Command}
use Rattle.tl_model.specs.declared.reply.Reply.{Reply}
use Rattle.tl_model.specs.declared.record.Record.{Record}
use Rattle.tl_model.specs.Past.{Past}
use Rattle.tl_model.specs.Tables.{Table, downward}
use Rattle.tl_model.specs.History.{id_of, inputs_of, is_job, output_count, outputs_of, records}
use Rattle.tl_model.specs.Residency.{is_saved, place, saved_as, was_done}
use Rattle.tl_model.specs.Plan.{task_among, tasks}
use Rattle.tl_laws.specs.Numbers.{Numbered}
use Rattle.tl_laws.specs.Made.{IsOutputOf}
use Rattle.tl_steps.specs.Within.{IsWithin}
use Rattle.tl_steps.proofs.Lists.{map_same, map_after}
use Rattle.tl_steps.proofs.Files.{after, place-same, saved-same, each-file, is-output, not-true, nowhere, not-yet, new-number}
use Rattle.tl_plan.specs.Data.{job_after, new_output, output_after, outputs_after}
use Rattle.tl_plan.specs.Standing.{files_with, job_in, kept_of, output_with, outputs_with}
use Rattle.tl_plan.proofs.Tabling.{fresh, no_file}

-- ---- records

things : (answer : Table Record Bool → Record → Bool) (rs : List Record) → map (λ (entry : Record × Bool). entry.0) (downward answer rs) ≡ rs
things answer [] = refl
things answer (r ∷ rs) = ap (λ xs. r ∷ xs) (things answer rs)

pub jobs-after : (actor : Actor) (act : Act (Unit {0})) (past : Past) →
    map (job_after act) (map (job_in past) (tasks past)) ≡ map (fresh (after actor act past)) (records past)
jobs-after actor act past =
    map_after (job_in past) (job_after act) (tasks past)
    ∙ sym (map_after (λ (entry : Record × Bool). entry.0) (fresh (after actor act past)) (tasks past))
    ∙ ap (map (fresh (after actor act past))) (things (task_among past) (records past))

-- ---- files

output-same : (actor : Actor) (act : Act (Unit {0})) (past : Past) (awaits : FileId → Bool) (f : FileId) → IsOutputOf (records past) f →
    output_after act (output_with past awaits f) ≡ output_with (after actor act past) no_file f
output-same actor act past awaits f is =
    λ i. record { file = f; place = place-same past act f (place past f) is i; is_saved = saved-same act f (saved_as past f) i; is_awaited = false }

pub files-after : (actor : Actor) (act : Act (Unit {0})) (past : Past) (awaits : FileId → Bool) → Numbered (records past) →
    map (outputs_after act) (files_with past awaits (records past)) ≡ files_with (after actor act past) no_file (records past)
files-after actor act past awaits numbered =
    map_after (outputs_with past awaits) (outputs_after act) (records past)
    ∙ map_same (λ r. outputs_after act (outputs_with past awaits r)) (outputs_with (after actor act past) no_file) (records past)
    (λ at r got.
    map_after (output_with past awaits) (output_after act) (outputs_of r)
    ∙ each-file (λ f. output_after act (output_with past awaits f)) (output_with (after actor act past) no_file) (id_of r) 0 (output_count r) (output_count r) (omega arith)
    (λ j less. output-same actor act past awaits (record { rec = id_of r; out = j }) (is-output (records past) r at j numbered got less)))

-- ---- a record that a call adds

pub job-new : (actor : Actor) (command : Command (Unit {0})) (reply : Reply) (past : Past) (r : Record) → IsWithin past →
    records (after actor (Call command reply) past) ≡ records past ++ r ∷ [] → Numbered (records (after actor (Call command reply) past)) →
    (kept_of r).job ≡ fresh (after actor (Call command reply) past) r
job-new actor command reply past r within is numbered =
    let number : (id_of r).0 ≡ length (records past) = new-number past (after actor (Call command reply) past) r is numbered in
    let undone : was_done past (id_of r) ≡ false = not-true (was_done past (id_of r)) (λ e. let less : (id_of r).0 < length (records past) = within.done (id_of r) e in omega arith) in
    λ i. record { made = id_of r; is_job = is_job r; inputs = inputs_of r; was_done = sym undone i; is_task = false }

pub outputs-new : (actor : Actor) (command : Command (Unit {0})) (reply : Reply) (past : Past) (r : Record) → IsWithin past →
    records (after actor (Call command reply) past) ≡ records past ++ r ∷ [] → Numbered (records (after actor (Call command reply) past)) →
    (kept_of r).outputs ≡ outputs_with (after actor (Call command reply) past) no_file r
outputs-new actor command reply past r within is numbered =
    let number : (id_of r).0 ≡ length (records past) = new-number past (after actor (Call command reply) past) r is numbered in
    each-file new_output (output_with (after actor (Call command reply) past) no_file) (id_of r) 0 (output_count r) (output_count r) (omega arith)
    (λ j less i. record {
      file = record { rec = id_of r; out = j };
      place = sym (nowhere (place past (record { rec = id_of r; out = j })) (λ e. not-yet past (id_of r) j number (within.placed (record { rec = id_of r; out = j }) e))) i;
      is_saved = sym (not-true (is_saved past (record { rec = id_of r; out = j })) (λ e. not-yet past (id_of r) j number (within.saved (record { rec = id_of r; out = j }) e))) i;
      is_awaited = false;
    })
