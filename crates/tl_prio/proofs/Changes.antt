-- What one event changes in what is kept.
use Rattle.std.proofs.Common.{◌≡◌, ◌∙◌, arith, ℕ, ◌<◌, false, [], ◌∷◌, ◌++◌, length, map, slice_get, Some, sym}
use Rattle.tl_types.specs.declared.actor.Actor.{Actor}
use Rattle.tl_types.specs.declared.file_id.FileId.{FileId}
use Rattle.tl_model.specs.declared.event.Act.{Act}
use Rattle.tl_model.specs.declared.event.Act.TheVariants.{Call}
use Rattle.tl_model.specs.declared.command.Command.{Command}
use Rattle.tl_model.specs.declared.reply.Reply.{Reply}
use Rattle.tl_model.specs.declared.record.Record.{Record}
use Rattle.tl_model.specs.Past.{Past}
use Rattle.tl_model.specs.History.{id_of, inputs_of, output_count, outputs_of, own_prio, records}
use Rattle.tl_model.specs.Residency.{is_saved, place, saved_as, was_done}
use Rattle.tl_laws.specs.Numbers.{Numbered}
use Rattle.tl_laws.specs.Made.{IsOutputOf}
use Rattle.tl_steps.specs.Within.{IsWithin}
use Rattle.tl_steps.proofs.Lists.{map_same, map_after}
use Rattle.tl_steps.proofs.Files.{after, place-same, saved-same, each-file, is-output, not-true, nowhere, not-yet, new-number}
use Rattle.tl_prio.specs.Data.{kept_after, new_output, output_after, outputs_after}
use Rattle.tl_prio.specs.Standing.{kept_in, kept_of, output_in}

-- ---- records

output-same : (actor : Actor) (act : Act (Unit {0})) (past : Past) (f : FileId) → IsOutputOf (records past) f →
    output_after act (output_in past f) ≡ output_in (after actor act past) f
output-same actor act past f is =
    λ i. record { file = f; place = place-same past act f (place past f) is i; is_saved = saved-same act f (saved_as past f) i }

outputs-same : (actor : Actor) (act : Act (Unit {0})) (past : Past) (at : ℕ) (r : Record) → Numbered (records past) → slice_get (records past) at ≡ Some r →
    outputs_after act (map (output_in past) (outputs_of r)) ≡ map (output_in (after actor act past)) (outputs_of r)
outputs-same actor act past at r numbered got =
    map_after (output_in past) (output_after act) (outputs_of r)
    ∙ each-file (λ f. output_after act (output_in past f)) (output_in (after actor act past)) (id_of r) 0 (output_count r) (output_count r) (omega arith)
    (λ j less. output-same actor act past (record { rec = id_of r; out = j }) (is-output (records past) r at j numbered got less))

kept-same : (actor : Actor) (act : Act (Unit {0})) (past : Past) (at : ℕ) (r : Record) → Numbered (records past) → slice_get (records past) at ≡ Some r →
    kept_after act (kept_in past r) ≡ kept_in (after actor act past) r
kept-same actor act past at r numbered got =
    λ i. record {
      made = id_of r;
      inputs = inputs_of r;
      prio = own_prio r;
      was_done = was_done (after actor act past) (id_of r);
      outputs = outputs-same actor act past at r numbered got i;
    }

pub records-after : (actor : Actor) (act : Act (Unit {0})) (past : Past) → Numbered (records past) →
    map (kept_after act) (map (kept_in past) (records past)) ≡ map (kept_in (after actor act past)) (records past)
records-after actor act past numbered =
    map_after (kept_in past) (kept_after act) (records past)
    ∙ map_same (λ r. kept_after act (kept_in past r)) (kept_in (after actor act past)) (records past)
    (λ at r got. kept-same actor act past at r numbered got)

-- ---- a record that a call adds

pub kept-new : (actor : Actor) (command : Command (Unit {0})) (reply : Reply) (past : Past) (r : Record) → IsWithin past →
    records (after actor (Call command reply) past) ≡ records past ++ r ∷ [] → Numbered (records (after actor (Call command reply) past)) →
    kept_of r ≡ kept_in (after actor (Call command reply) past) r
kept-new actor command reply past r within is numbered =
    let number : (id_of r).0 ≡ length (records past) = new-number past (after actor (Call command reply) past) r is numbered in
    let undone : was_done past (id_of r) ≡ false = not-true (was_done past (id_of r)) (λ e. let less : (id_of r).0 < length (records past) = within.done (id_of r) e in omega arith) in
    let outputs : map new_output (outputs_of r) ≡ map (output_in (after actor (Call command reply) past)) (outputs_of r) =
    each-file new_output (output_in (after actor (Call command reply) past)) (id_of r) 0 (output_count r) (output_count r) (omega arith)
    (λ j less i. record {
      file = record { rec = id_of r; out = j };
      place = sym (nowhere (place past (record { rec = id_of r; out = j })) (λ e. not-yet past (id_of r) j number (within.placed (record { rec = id_of r; out = j }) e))) i;
      is_saved = sym (not-true (is_saved past (record { rec = id_of r; out = j })) (λ e. not-yet past (id_of r) j number (within.saved (record { rec = id_of r; out = j }) e))) i;
    }) in
    λ i. record { made = id_of r; inputs = inputs_of r; prio = own_prio r; was_done = sym undone i; outputs = outputs i }
