-- What is kept stands for the past with one event more.
use Rattle.std.proofs.Common.{◌≡◌, ◌∙◌, List, [], ◌∷◌, ◌++◌, length, map, Option, Some, None, refl, sym, ap, append-nil}
use Rattle.tl_types.specs.declared.actor.Actor.{Actor}
use Rattle.tl_model.specs.declared.command.Command.{Command}
use Rattle.tl_model.specs.declared.command.Command.TheVariants as command
use Rattle.tl_model.specs.declared.reply.Reply.{Reply}
use Rattle.tl_model.specs.declared.reply.Reply.TheVariants.{Made}
use Rattle.tl_model.specs.declared.event.Act.{Act}
use Rattle.tl_model.specs.declared.event.Act.TheVariants.{Call}
use Rattle.tl_model.specs.declared.record.Record.{Record}
use Rattle.tl_model.specs.declared.record.Record.TheVariants as kind
use Rattle.tl_model.specs.Past.{Past}
use Rattle.tl_model.specs.History.{files_at, names, record_made, records}
use Rattle.tl_model.specs.Actors.{actors}
use Rattle.tl_model.specs.Plan.{is_awaited, tasks}
use Rattle.tl_laws.specs.Numbers.{Numbered}
use Rattle.tl_steps.specs.Steps.{new_seat, seat_after, next_of, added}
use Rattle.tl_steps.specs.Within.{IsWithin}
use Rattle.tl_steps.proofs.Lists.{map_append}
use Rattle.tl_steps.proofs.Files.{after}
use Rattle.tl_steps.proofs.Seats.{seats_of, seats-after}
use Rattle.tl_steps.proofs.Within.{within-empty}
use Rattle.tl_plan.specs.declared.job.Job.{Job}
use Rattle.tl_plan.specs.declared.kept.Kept.{Kept}
use Rattle.tl_plan.specs.declared.output.Output.{Output}
use Rattle.tl_plan.specs.Data.{PlanData, job_after, outputs_after, plan_after, tables_from, with_files, with_job}
use Rattle.tl_plan.specs.Standing.{HasRoomForAll, StandsFor, files_with, kept_of, outputs_with}
use Rattle.tl_plan.proofs.Marks.{starts}
use Rattle.tl_plan.proofs.Tabling.{fresh, no_file, tables-same}
use Rattle.tl_plan.proofs.Changes.{files-after, job-new, jobs-after, outputs-new}

-- what stands before the tables are made
abbrev Ready : Past → Option Kept → List Job → List (List Output) → Type 0
Ready now next jobs files = (with_job next jobs ≡ map (fresh now) (records now)) × (with_files next files ≡ files_with now no_file (records now))

none-added : (now : Past) (rs : List Record) (jobs : List Job) (files : List (List Output)) → records now ≡ rs → jobs ≡ map (fresh now) rs → files ≡ files_with now no_file rs →
    Ready now None jobs files
none-added now rs jobs files is same_jobs same_files =
    (same_jobs ∙ ap (map (fresh now)) (sym is), same_files ∙ ap (files_with now no_file) (sym is))

one-added : (now : Past) (rs : List Record) (r : Record) (next : Option Kept) (jobs : List Job) (files : List (List Output)) → records now ≡ rs ++ r ∷ [] →
    jobs ≡ map (fresh now) rs → files ≡ files_with now no_file rs → next ≡ Some (kept_of r) → (kept_of r).job ≡ fresh now r →
    (kept_of r).outputs ≡ outputs_with now no_file r → Ready now next jobs files
one-added now rs r next jobs files is same_jobs same_files room job outputs = (
  ap (λ o. with_job o jobs) room
      ∙ (λ i. same_jobs i ++ job i ∷ [])
      ∙ sym (map_append (fresh now) rs (r ∷ []))
      ∙ ap (map (fresh now)) (sym is),
  ap (λ o. with_files o files) room
      ∙ (λ i. same_files i ++ outputs i ∷ [])
      ∙ sym (map_append (outputs_with now no_file) rs (r ∷ []))
      ∙ ap (files_with now no_file) (sym is),
)

call-ready : (actor : Actor) (reply : Reply) (c : Command (Unit {0})) (past : Past) (plan : PlanData) (jobs : List Job) (files : List (List Output)) → IsWithin past →
    Numbered (records (after actor (Call c reply) past)) → HasRoomForAll plan (record_made reply c (names past)) →
    jobs ≡ map (fresh (after actor (Call c reply) past)) (records past) → files ≡ files_with (after actor (Call c reply) past) no_file (records past) →
    Ready (after actor (Call c reply) past) (next_of (Call c reply) plan.next) jobs files
call-ready actor (Made made) (command.Put path len digest ticket) past plan jobs files within numbered room same_jobs same_files =
    let c = command.Put path len digest ticket in
    let r = kind.Put made in
    one-added (after actor (Call c (Made made)) past) (records past) r plan.next jobs files refl same_jobs same_files room
    (job-new actor c (Made made) past r within refl numbered) (outputs-new actor c (Made made) past r within refl numbered)
call-ready actor (Made made) (command.Job core prio inputs outputs) past plan jobs files within numbered room same_jobs same_files =
    let c = command.Job core prio inputs outputs in
    let r = kind.Job made core prio (files_at (names past) inputs) (length outputs) in
    one-added (after actor (Call c (Made made)) past) (records past) r plan.next jobs files refl same_jobs same_files room
    (job-new actor c (Made made) past r within refl numbered) (outputs-new actor c (Made made) past r within refl numbered)
call-ready actor reply c past plan jobs files within numbered room same_jobs same_files =
    none-added (after actor (Call c reply) past) (records past) jobs files (append-nil (records past)) same_jobs same_files

ready : (actor : Actor) (act : Act (Unit {0})) (past : Past) (plan : PlanData) (jobs : List Job) (files : List (List Output)) → IsWithin past → Numbered (records (after actor act past)) →
    HasRoomForAll plan (added past act) → jobs ≡ map (fresh (after actor act past)) (records past) → files ≡ files_with (after actor act past) no_file (records past) →
    Ready (after actor act past) (next_of act plan.next) jobs files
ready actor (Call c reply) past plan jobs files within numbered room same_jobs same_files = call-ready actor reply c past plan jobs files within numbered room same_jobs same_files
ready actor act past plan jobs files within numbered room same_jobs same_files = none-added (after actor act past) (records past) jobs files refl same_jobs same_files

-- what stood for a past stands, after an event, for the past with the event
pub stands-after : (actor : Actor) (act : Act (Unit {0})) (past : Past) (plan : PlanData) → StandsFor plan past → HasRoomForAll plan (added past act) →
    IsWithin (after actor act past) → StandsFor (plan_after (record { actor = actor; act = act }) plan) (after actor act past)
stands-after actor act past plan stands room within =
    let now = after actor act past in
    let same_seats : map (seat_after (record { actor = actor; act = act })) plan.seats ≡ seats_of now =
    ap (map (seat_after (record { actor = actor; act = act }))) stands.seats ∙ seats-after (record { actor = actor; act = act }) past in
    let before = ready actor act past plan (map (job_after act) plan.jobs) (map (outputs_after act) plan.files) stands.within within.numbered room
    (ap (map (job_after act)) stands.jobs ∙ jobs-after actor act past)
    (ap (map (outputs_after act)) stands.files ∙ files-after actor act past (is_awaited past (tasks past)) stands.within.numbered) in
    let made = (λ i. tables_from (same_seats i) 0 (before.0 i) (before.1 i)) ∙ tables-same now (starts (records now) within.numbered) in
    record {
      jobs = ap (λ (t : List Job × List (List Output)). t.0) made;
      files = ap (λ (t : List Job × List (List Output)). t.1) made;
      seats = same_seats;
      within = within;
    }

-- nothing is kept of the empty past
pub stands-empty : StandsFor (record { jobs = []; files = []; seats = map new_seat actors; next = None }) []
stands-empty = record { jobs = refl; files = refl; seats = refl; within = within-empty }

-- whether there is a place for a record does not matter
pub stands-same : (old new : PlanData) (past : Past) → new.jobs ≡ old.jobs → new.files ≡ old.files → new.seats ≡ old.seats → StandsFor old past → StandsFor new past
stands-same old new past jobs files seats stands = record {
  jobs = jobs ∙ stands.jobs;
  files = files ∙ stands.files;
  seats = seats ∙ stands.seats;
  within = stands.within;
}
