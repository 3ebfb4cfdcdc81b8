-- A record that is claimed and done in a lawful journal, where files are dropped after each.
use Rattle.std.proofs.Common.{◌≡◌, ◌<◌, Bool, true, false, ◌&&◌, if◌then◌else◌, List, [], ◌∷◌, length, Option, Some, None, is_none, refl, sym, ap, ◌∙◌, subst}
use Rattle.std.proofs.lemmas.Bool.{and_parts}
use Rattle.tl_types.specs.Same.{actor_same, record_same-Decides}
use Rattle.tl_types.specs.declared.actor.Actor.{Actor}
use Rattle.tl_types.specs.declared.file_id.FileId.{FileId}
use Rattle.tl_types.specs.declared.record_id.RecordId.{RecordId}
use Rattle.tl_types.specs.declared.worker_id.WorkerId.{WorkerId}
use Rattle.tl_model.specs.declared.event.Act.TheVariants.{Claim, Done, Drop}
use Rattle.tl_model.specs.declared.event.Event.{Event}
use Rattle.tl_model.specs.declared.header.Header.{Header}
use Rattle.tl_model.specs.Past.{Past, without_tickets}
use Rattle.tl_model.specs.Tables.{chosen}
use Rattle.tl_model.specs.History.{records}
use Rattle.tl_model.specs.Actors.{OpenClaim, open_claim, open_save}
use Rattle.tl_model.specs.Plan.{next, tasks}
use Rattle.tl_model.specs.Rules.{all_permitted, broken, can_drop, is_known_worker, is_record, last_actor_is, lawful_judge, may_claim}
use Rattle.tl_laws.specs.Numbers.{Numbered}
use Rattle.tl_laws.proofs.Numbering.{all-numbered}
use Rattle.tl_laws.proofs.Tickets.{records-with}
use Rattle.tl_laws.proofs.Permits.{permitted_of}
use Rattle.tl_laws.proofs.Next.{next-is}
use Rattle.tl_laws_drops.specs.Drops.{MayDrop, drops_by, with_drops}
use Rattle.tl_laws_drops.proofs.ManyDrops.{claim-kept}
use Rattle.tl_laws_drops.proofs.Tickets.{drops-without-tickets}
use Rattle.tl_laws_progress.specs.Runs.{IsRun, after_claim, with_claim, with_done}
use Rattle.tl_laws_progress.proofs.Fewer.{ClaimEndsNone, free-ends-none, run-leaves-fewer}

-- ---- what is permitted

-- what came before a permitted event was permitted
before-it : {T : Type 0} (header : Header) (e : Event T) (events : List (Event T)) → all_permitted lawful_judge header (e ∷ events) ≡ true → all_permitted lawful_judge header events ≡ true
before-it header e events ok = (and_parts (is_none (broken lawful_judge header events e)) (all_permitted lawful_judge header events) ok).1

before-drops : {T : Type 0} (header : Header) (actor : Actor) (ds : List (WorkerId × FileId)) (events : List (Event T)) →
    all_permitted lawful_judge header (with_drops actor ds events) ≡ true → all_permitted lawful_judge header events ≡ true
before-drops header actor [] events ok = ok
before-drops header actor (d ∷ ds) events ok =
    before-drops header actor ds events (before-it header (record { actor = actor; act = Drop d.0 d.1 }) (with_drops actor ds events) ok)

-- drops that are permitted are of files that may go
pub drops-may-go : {T : Type 0} (header : Header) (actor : Actor) (ds : List (WorkerId × FileId)) (events : List (Event T)) →
    all_permitted lawful_judge header (with_drops actor ds events) ≡ true → MayDrop actor ds (without_tickets events)
drops-may-go header actor [] events ok = tt
drops-may-go header actor (d ∷ ds) events ok =
    let earlier = with_drops actor ds events in
    let parts = and_parts (is_none (broken lawful_judge header earlier (record { actor = actor; act = Drop d.0 d.1 }))) (all_permitted lawful_judge header earlier) ok in
    let rule = (permitted_of lawful_judge header earlier (record { actor = actor; act = Drop d.0 d.1 }) parts.0).1 in
    let can = (and_parts (can_drop (without_tickets earlier) d.0 d.1) (last_actor_is (without_tickets earlier) actor) rule).0 in
    (subst (λ past. can_drop past d.0 d.1 ≡ true) (drops-without-tickets actor ds events) can, drops-may-go header actor ds events parts.1)

record-is : (o : Option RecordId) (made : RecordId) → is_record o made ≡ true → o ≡ Some made
record-is None made is = absurd (cc)
record-is (Some other) made is = ap Some ((record_same-Decides other made).0 is)

closed-is : (o : Option OpenClaim) → is_none o ≡ true → o ≡ None
closed-is None h = refl
closed-is (Some claim) h = absurd (cc)

-- what is claimed is next, and its actor had no claim open
claimed-is-next : {T : Type 0} (header : Header) (actor : Actor) (worker : WorkerId) (made : RecordId) (events : List (Event T)) →
    all_permitted lawful_judge header (with_claim actor worker made events) ≡ true →
    (next header.order (without_tickets events) ≡ Some made) × (open_claim (without_tickets events) actor ≡ None)
claimed-is-next {T} header actor worker made events ok =
    let past : Past = without_tickets events in
    let e : Event T = record { actor = actor; act = Claim worker made } in
    let rule = (permitted_of lawful_judge header events e (and_parts (is_none (broken lawful_judge header events e)) (all_permitted lawful_judge header events) ok).0).1 in
    let parts = and_parts (is_known_worker header worker && may_claim past actor) (is_record (next header.order past) made) rule in
    let free = (and_parts (is_known_worker header worker) (may_claim past actor) parts.0).1 in (
      record-is (next header.order past) made parts.1,
      closed-is (open_claim past actor) (and_parts (is_none (open_claim past actor)) (is_none (open_save past actor)) free).0,
    )

-- ---- fewer tasks

numbers-of : {T : Type 0} (header : Header) (events : List (Event T)) → all_permitted lawful_judge header events ≡ true → Numbered (records (without_tickets events))
numbers-of header events ok = subst Numbered (sym (records-with (λ _. tt) events)) (all-numbered lawful_judge header events ok)

-- the record that is next leaves fewer tasks once it is claimed and done, whatever is dropped after each that may go
pub next-and-drops-leave-fewer : {T : Type 0} (header : Header) (events : List (Event T)) → all_permitted lawful_judge header events ≡ true →
    (actor : Actor) (worker : WorkerId) (made : RecordId) → ClaimEndsNone (without_tickets events) actor worker made →
    next header.order (without_tickets events) ≡ Some made → (claimed finished : List (WorkerId × FileId)) →
    MayDrop actor claimed (with_claim actor worker made (without_tickets events)) →
    MayDrop actor finished (with_done actor worker made (after_claim actor worker made claimed (without_tickets events))) →
    length (chosen (tasks (drops_by actor finished (with_done actor worker made (after_claim actor worker made claimed (without_tickets events))))))
    < length (chosen (tasks (without_tickets events)))
next-and-drops-leave-fewer header events ok actor worker made still is claimed finished =
    let past : Past = without_tickets events in
    let numbers = numbers-of header events ok in
    let n = next-is header.order past made is numbers in
    subst (λ (id : RecordId). ClaimEndsNone past actor worker id → MayDrop actor claimed (with_claim actor worker id past) →
    MayDrop actor finished (with_done actor worker id (after_claim actor worker id claimed past)) →
    length (chosen (tasks (drops_by actor finished (with_done actor worker id (after_claim actor worker id claimed past))))) < length (chosen (tasks past))) n.id
    (λ ends. run-leaves-fewer past actor worker n.place.0 n.it numbers ends n.place.1 n.task claimed finished) still

-- the events of a run without their tickets
run-without-tickets : {T : Type 0} (actor : Actor) (worker : WorkerId) (made : RecordId) (claimed finished : List (WorkerId × FileId)) (events : List (Event T)) →
    without_tickets (with_drops actor finished (with_done actor worker made (with_drops actor claimed (with_claim actor worker made events))))
    ≡ drops_by actor finished (with_done actor worker made (after_claim actor worker made claimed (without_tickets events)))
run-without-tickets actor worker made claimed finished events =
    drops-without-tickets actor finished (with_done actor worker made (with_drops actor claimed (with_claim actor worker made events)))
    ∙ ap (λ past. drops_by actor finished (with_done actor worker made past)) (drops-without-tickets actor claimed (with_claim actor worker made events))

drops-leave-fewer : {T : Type 0} (header : Header) (actor : Actor) (worker : WorkerId) (made : RecordId) (claimed finished : List (WorkerId × FileId)) (events : List (Event T)) →
    all_permitted lawful_judge header (with_drops actor finished (with_done actor worker made (with_drops actor claimed (with_claim actor worker made events)))) ≡ true →
    length (chosen (tasks (without_tickets (with_drops actor finished (with_done actor worker made (with_drops actor claimed (with_claim actor worker made events)))))))
    < length (chosen (tasks (without_tickets events)))
drops-leave-fewer header actor worker made claimed finished events ok =
    let past : Past = without_tickets events in
    let first = with_claim actor worker made events in
    let middle = with_drops actor claimed first in
    let last = with_done actor worker made middle in
    let last_ok = before-drops header actor finished last ok in
    let middle_ok = before-it header (record { actor = actor; act = Done worker made }) middle last_ok in
    let first_ok = before-drops header actor claimed first middle_ok in
    let taken = claimed-is-next header actor worker made events first_ok in
    let past_ok = before-it header (record { actor = actor; act = Claim worker made }) events first_ok in
    let may_last : MayDrop actor finished (with_done actor worker made (after_claim actor worker made claimed past)) =
    subst (λ (p : Past). MayDrop actor finished (with_done actor worker made p)) (drops-without-tickets actor claimed first) (drops-may-go header actor finished last ok) in
    subst (λ (p : Past). length (chosen (tasks p)) < length (chosen (tasks past))) (sym (run-without-tickets actor worker made claimed finished events))
    (next-and-drops-leave-fewer header events past_ok actor worker made (free-ends-none past actor worker made taken.1) taken.0 claimed finished
    (drops-may-go header actor claimed first middle_ok) may_last)

-- what came after a run, with its drops
run-is : {T : Type 0} (actor : Actor) (worker : WorkerId) (made : RecordId) (events later : List (Event T)) → (run : IsRun actor worker made events later) →
    later ≡ with_drops actor run.done.0 (with_done actor worker made (with_drops actor run.claim.0 (with_claim actor worker made events)))
run-is actor worker made events later run =
    run.done.1 ∙ ap (λ middle. with_drops actor run.done.0 (with_done actor worker made middle)) run.claim.1

-- in a journal whose events are permitted each run leaves fewer tasks
pub permitted-run-leaves-fewer : {T : Type 0} (header : Header) (events later : List (Event T)) (actor : Actor) (worker : WorkerId) (made : RecordId) →
    all_permitted lawful_judge header later ≡ true → IsRun actor worker made events later →
    length (chosen (tasks (without_tickets later))) < length (chosen (tasks (without_tickets events)))
permitted-run-leaves-fewer header events later actor worker made ok run =
    let is = run-is actor worker made events later run in
    subst (λ es. length (chosen (tasks (without_tickets es))) < length (chosen (tasks (without_tickets events)))) (sym is)
    (drops-leave-fewer header actor worker made run.claim.0 run.done.0 events (subst (λ es. all_permitted lawful_judge header es ≡ true) is ok))

-- ---- nothing runs after it

closed-after : (b : Bool) (new old : Option OpenClaim) → old ≡ None → (if b then None else (if b then new else old)) ≡ None
closed-after true new old h = refl
closed-after false new old h = h

closes-its-claim : (actor : Actor) (worker : WorkerId) (made : RecordId) (claimed finished : List (WorkerId × FileId)) (past : Past) (a : Actor) → open_claim past a ≡ None →
    open_claim (drops_by actor finished (with_done actor worker made (after_claim actor worker made claimed past))) a ≡ None
closes-its-claim actor worker made claimed finished past a none =
    claim-kept actor finished (with_done actor worker made (after_claim actor worker made claimed past)) a
    ∙ ap (λ (o : Option OpenClaim). if actor_same a actor then None else o) (claim-kept actor claimed (with_claim actor worker made past) a)
    ∙ closed-after (actor_same a actor) (Some (record { worker = worker; made = made })) (open_claim past a) none

pub run-closes : {T : Type 0} (events later : List (Event T)) (actor : Actor) (worker : WorkerId) (made : RecordId) → IsRun actor worker made events later →
    ((a : Actor) → open_claim (without_tickets events) a ≡ None) → (a : Actor) → open_claim (without_tickets later) a ≡ None
run-closes events later actor worker made run none a =
    ap (λ es. open_claim (without_tickets es) a) (run-is actor worker made events later run)
    ∙ ap (λ past. open_claim past a) (run-without-tickets actor worker made run.claim.0 run.done.0 events)
    ∙ closes-its-claim actor worker made run.claim.0 run.done.0 (without_tickets events) a (none a)
