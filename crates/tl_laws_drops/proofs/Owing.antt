-- The drop that is owed may be made, and where none is owed nothing is.
use Rattle.std.proofs.Common.{◌≡◌, ℕ, subst, Bool, true, false, if◌then◌else◌, List, [], ◌∷◌, filter, Option, Some, None, is_none, is_some, Result, Ok, Err, refl, ap, ◌∙◌}
use Rattle.std.specs.List.{AllByRecursion}
use Rattle.std.proofs.lemmas.Bool.{and_parts, and_from}
use Rattle.tl_types.specs.Same.{actor_same-Decides, file_same-Decides, worker_same-Decides}
use Rattle.tl_types.specs.declared.actor.Actor.{Actor}
use Rattle.tl_types.specs.declared.file_id.FileId.{FileId}
use Rattle.tl_types.specs.declared.worker_id.WorkerId.{WorkerId}
use Rattle.tl_model.specs.declared.command.Command.{Command}
use Rattle.tl_model.specs.declared.command.Command.TheVariants.{Put, Free as free}
use Rattle.tl_model.specs.declared.reply.Reply.{Reply}
use Rattle.tl_model.specs.declared.reply.Reply.TheVariants.{Made, Fine}
use Rattle.tl_model.specs.declared.header.Header.{Header}
use Rattle.tl_model.specs.declared.event.Act.{Act}
use Rattle.tl_model.specs.declared.event.Act.TheVariants.{Call, Drop, Load}
use Rattle.tl_model.specs.declared.event.Event.{Event}
use Rattle.tl_model.specs.Past.{Past, Told, without_tickets}
use Rattle.tl_model.specs.Replies.{walk_to_file}
use Rattle.tl_model.specs.History.{files, names}
use Rattle.tl_model.specs.Residency.{is_resident, is_resident_on}
use Rattle.tl_model.specs.Eviction.{Sizes, files_on, first_of, first_to_drop, goes_sooner, is_over, may_go, must_drop, victim, workers}
use Rattle.tl_model.specs.Rules.{Judge, Owed, Nothing, ToDrop, all_permitted, broken, can_drop, is_actor, is_due, is_file, is_lawful, is_legal, is_quiet, is_worker, last_actor_is, lawful_judge, legal_judge, owed, owed_after, owed_after_call, owed_free, owes_nothing, pays, size_of}
use Rattle.tl_laws.proofs.Order.{all-both, all-filter, all-map, all-passes, first-holds}
use Rattle.tl_laws.proofs.Permits.{known_of, permits}
use Rattle.tl_laws_drops.specs.Drops.{AreDue, with_drops}

-- ---- the victim

-- what a worker's victim is may be dropped from it
pub victim-goes : (past : Past) (worker : WorkerId) (f : FileId) → victim past worker ≡ Some f → can_drop past worker f ≡ true
victim-goes past worker f is =
    let here : FileId → Bool = λ g. is_resident_on past g worker in
    let both = all-both (λ g. here g ≡ true) (λ g. may_go past g ≡ true) (filter (may_go past) (files_on past worker))
    (all-filter (λ g. here g ≡ true) (may_go past) (files_on past worker) (all-passes here (files past)))
    (all-passes (may_go past) (files_on past worker)) in
    first-holds (λ g. can_drop past worker g ≡ true) (goes_sooner past) (filter (may_go past) (files_on past worker)) f
    (all-map (λ g. (here g ≡ true) × (may_go past g ≡ true)) (λ g. can_drop past worker g ≡ true) (λ g known. and_from (here g) (may_go past g) known.0 known.1)
    (filter (may_go past) (files_on past worker)) both)
    is

first-is : {A : Type 0} (P : A → Type 0) (xs : List A) (x : A) → AllByRecursion P xs → first_of xs ≡ Some x → P x
first-is P [] x all is = absurd (cc)
first-is P (y ∷ ys) x all is = let same : y ≡ x = cc in subst P same all.0

-- who must drop has a victim
pub victim-found : (sizes : Sizes) (header : Header) (past : Past) (worker : WorkerId) → first_to_drop sizes header past ≡ Some worker → is_some (victim past worker) ≡ true
victim-found sizes header past worker is =
    (and_parts (is_over sizes header past worker) (is_some (victim past worker))
    (first-is (λ w. must_drop sizes header past w ≡ true) (filter (must_drop sizes header past) (workers header)) worker
    (all-passes (must_drop sizes header past) (workers header)) is)).1

-- and it is due
pub victim-due : (header : Header) (past : Told) (worker : WorkerId) (f : FileId) → first_to_drop (size_of past) header (without_tickets past) ≡ Some worker →
    victim (without_tickets past) worker ≡ Some f → is_due header past worker f ≡ true
victim-due header past worker f first found =
    and_from (is_worker (first_to_drop (size_of past) header (without_tickets past)) worker) (is_file (victim (without_tickets past) worker) f)
    (ap (λ o. is_worker o worker) first ∙ (worker_same-Decides worker worker).1 refl)
    (ap (λ o. is_file o f) found ∙ (file_same-Decides f f).1 refl)

-- ---- what is owed

if-owed : (b : Bool) (other later : Owed) → (other ≡ Nothing → ⊥) → (if b then other else Nothing) ≡ Nothing → (if b then other else later) ≡ later
if-owed true other later never is = absurd (never is)
if-owed false other later never is = refl

free-owed : (past : Past) (actor : Actor) (x : Result FileId Reply) (later : Owed) → owed_free past actor x Nothing ≡ Nothing → owed_free past actor x later ≡ later
free-owed past actor (Ok f) later is = if-owed (is_resident past f) _ later (λ h. cc) is
free-owed past actor (Err refusal) later is = refl

call-owed : {T : Type 0} (past : Past) (actor : Actor) (reply : Reply) (command : Command T) (later : Owed) →
    owed_after_call past actor reply command Nothing ≡ Nothing → owed_after_call past actor reply command later ≡ later
call-owed past actor (Made made) (Put path len digest ticket) later is = absurd (cc)
call-owed past actor Fine (free path) later is = free-owed past actor (walk_to_file (names past) path) later is
call-owed past actor reply command later is = refl

-- where an act by itself owes nothing, what is owed is what is owed later
later-owed : {T : Type 0} (past : Past) (actor : Actor) (act : Act T) (later : Owed) → owed_after past actor act Nothing ≡ Nothing → owed_after past actor act later ≡ later
later-owed past actor (Call command reply) later is = call-owed past actor reply command later is
later-owed past actor (Load worker f) later is = absurd (cc)
later-owed past actor act later is = refl

pub drop-owed : (header : Header) (event : Event (List ℕ)) (past : Told) (worker : WorkerId) → owed lawful_judge (event ∷ past) ≡ Nothing →
    first_to_drop (size_of (event ∷ past)) header (without_tickets (event ∷ past)) ≡ Some worker → owed (legal_judge header) (event ∷ past) ≡ ToDrop
drop-owed header event past worker quiet is =
    ap (λ o. owed_after (without_tickets past) event.actor event.act (if is_some o then ToDrop else Nothing)) is
    ∙ later-owed (without_tickets past) event.actor event.act ToDrop quiet

pub none-owed : (header : Header) (event : Event (List ℕ)) (past : Told) → owed lawful_judge (event ∷ past) ≡ Nothing →
    first_to_drop (size_of (event ∷ past)) header (without_tickets (event ∷ past)) ≡ None → owed (legal_judge header) (event ∷ past) ≡ Nothing
none-owed header event past quiet is =
    ap (λ o. owed_after (without_tickets past) event.actor event.act (if is_some o then ToDrop else Nothing)) is ∙ quiet

-- ---- drops that are due

worker-is : (o : Option WorkerId) (worker : WorkerId) → is_worker o worker ≡ true → o ≡ Some worker
worker-is None worker is = absurd (cc)
worker-is (Some other) worker is = ap Some ((worker_same-Decides other worker).0 is)

file-is : (o : Option FileId) (f : FileId) → is_file o f ≡ true → o ≡ Some f
file-is None f is = absurd (cc)
file-is (Some other) f is = ap Some ((file_same-Decides other f).0 is)

-- what is due is the first drop that is owed, and may go
due-first : (header : Header) (events : Told) (worker : WorkerId) (f : FileId) → is_due header events worker f ≡ true →
    first_to_drop (size_of events) header (without_tickets events) ≡ Some worker
due-first header events worker f due =
    worker-is (first_to_drop (size_of events) header (without_tickets events)) worker
    (and_parts (is_worker (first_to_drop (size_of events) header (without_tickets events)) worker) (is_file (victim (without_tickets events) worker) f) due).0

due-goes : (header : Header) (events : Told) (worker : WorkerId) (f : FileId) → is_due header events worker f ≡ true → can_drop (without_tickets events) worker f ≡ true
due-goes header events worker f due =
    victim-goes (without_tickets events) worker f
    (file-is (victim (without_tickets events) worker) f
    (and_parts (is_worker (first_to_drop (size_of events) header (without_tickets events)) worker) (is_file (victim (without_tickets events) worker) f) due).1)

-- events of which the last is the actor's and by itself owes nothing
pub record IsQuietOf (actor : Actor) (events : Told) : Type 0 where
  pub last : last_actor_is (without_tickets events) actor ≡ true
  pub quiet : owed lawful_judge events ≡ Nothing
  pub drop : (header : Header) (worker : WorkerId) → first_to_drop (size_of events) header (without_tickets events) ≡ Some worker → owed (legal_judge header) events ≡ ToDrop
  pub settled : (header : Header) → first_to_drop (size_of events) header (without_tickets events) ≡ None → owed (legal_judge header) events ≡ Nothing

quiet-event : (event : Event (List ℕ)) (past : Told) → owed lawful_judge (event ∷ past) ≡ Nothing → IsQuietOf event.actor (event ∷ past)
quiet-event event past quiet = record {
  last = (actor_same-Decides event.actor event.actor).1 refl;
  quiet = quiet;
  drop = λ header worker is. drop-owed header event past worker quiet is;
  settled = λ header is. none-owed header event past quiet is;
}

-- they stay such with drops more
quiet-drops : (actor : Actor) (ds : List (WorkerId × FileId)) (events : Told) → IsQuietOf actor events → IsQuietOf actor (with_drops actor ds events)
quiet-drops actor [] events quiet = quiet
quiet-drops actor (d ∷ ds) events quiet = quiet-event (record { actor = actor; act = Drop d.0 d.1 }) (with_drops actor ds events) refl

drops-permitted : (header : Header) (actor : Actor) (ds : List (WorkerId × FileId)) (events : Told) → is_actor actor ≡ true → IsQuietOf actor events →
    all_permitted (legal_judge header) header events ≡ true → AreDue header actor ds events →
    all_permitted (legal_judge header) header (with_drops actor ds events) ≡ true
drops-permitted header actor [] events known quiet ok due = ok
drops-permitted header actor (d ∷ ds) events known quiet ok due =
    let before : Told = with_drops actor ds events in
    let now = quiet-drops actor ds events quiet in
    permits (legal_judge header) header before (record { actor = actor; act = Drop d.0 d.1 }) (drops-permitted header actor ds events known quiet ok due.1)
    (ap (λ o. pays {T = List ℕ} o actor (Drop d.0 d.1)) (now.drop header d.0 (due-first header before d.0 d.1 due.0))) known
    (and_from (is_due header before d.0 d.1) (last_actor_is (without_tickets before) actor) due.0 now.last)

drops-lawful : (header : Header) (actor : Actor) (ds : List (WorkerId × FileId)) (events : Told) → is_actor actor ≡ true → IsQuietOf actor events →
    all_permitted lawful_judge header events ≡ true → AreDue header actor ds events →
    all_permitted lawful_judge header (with_drops actor ds events) ≡ true
drops-lawful header actor [] events known quiet ok due = ok
drops-lawful header actor (d ∷ ds) events known quiet ok due =
    let before : Told = with_drops actor ds events in
    let now = quiet-drops actor ds events quiet in
    permits lawful_judge header before (record { actor = actor; act = Drop d.0 d.1 }) (drops-lawful header actor ds events known quiet ok due.1)
    (ap (λ o. pays {T = List ℕ} o actor (Drop d.0 d.1)) now.quiet) known
    (and_from (can_drop (without_tickets before) d.0 d.1) (last_actor_is (without_tickets before) actor) (due-goes header before d.0 d.1 due.0) now.last)

actor-known : {T : Type 0} (judge : Judge T) (header : Header) (event : Event T) (past : List (Event T)) → all_permitted judge header (event ∷ past) ≡ true →
    is_actor event.actor ≡ true
actor-known judge header event past ok =
    known_of judge header past event (and_parts (is_none (broken judge header past event)) (all_permitted judge header past) ok).0

nothing-owed : (o : Owed) → owes_nothing o ≡ true → o ≡ Nothing
nothing-owed Nothing h = refl
nothing-owed _ h = absurd (cc)

pub due-permitted : (header : Header) (event : Event (List ℕ)) (past : Told) (ds : List (WorkerId × FileId)) → all_permitted (legal_judge header) header (event ∷ past) ≡ true →
    owed lawful_judge (event ∷ past) ≡ Nothing → AreDue header event.actor ds (event ∷ past) →
    all_permitted (legal_judge header) header (with_drops event.actor ds (event ∷ past)) ≡ true
due-permitted header event past ds ok quiet due =
    drops-permitted header event.actor ds (event ∷ past) (actor-known (legal_judge header) header event past ok) (quiet-event event past quiet) ok due

pub due-legal : (header : Header) (event : Event (List ℕ)) (past : Told) (ds : List (WorkerId × FileId)) → all_permitted (legal_judge header) header (event ∷ past) ≡ true →
    owed lawful_judge (event ∷ past) ≡ Nothing → AreDue header event.actor ds (event ∷ past) →
    first_to_drop (size_of (with_drops event.actor ds (event ∷ past))) header (without_tickets (with_drops event.actor ds (event ∷ past))) ≡ None →
    is_legal header (with_drops event.actor ds (event ∷ past)) ≡ true
due-legal header event past ds ok quiet due none =
    let after : Told = with_drops event.actor ds (event ∷ past) in
    and_from (all_permitted (legal_judge header) header after) (is_quiet (legal_judge header) after) (due-permitted header event past ds ok quiet due)
    (ap owes_nothing ((quiet-drops event.actor ds (event ∷ past) (quiet-event event past quiet)).settled header none))

pub due-lawful : (header : Header) (event : Event (List ℕ)) (past : Told) (ds : List (WorkerId × FileId)) → is_lawful header (event ∷ past) ≡ true →
    AreDue header event.actor ds (event ∷ past) → is_lawful header (with_drops event.actor ds (event ∷ past)) ≡ true
due-lawful header event past ds lawful due =
    let after : Told = with_drops event.actor ds (event ∷ past) in
    let parts = and_parts (all_permitted lawful_judge header (event ∷ past)) (is_quiet lawful_judge (event ∷ past)) lawful in
    let quiet = quiet-event event past (nothing-owed (owed lawful_judge (event ∷ past)) parts.1) in
    and_from (all_permitted lawful_judge header after) (is_quiet lawful_judge after)
    (drops-lawful header event.actor ds (event ∷ past) (actor-known lawful_judge header event past parts.0) quiet parts.0 due)
    (ap owes_nothing (quiet-drops event.actor ds (event ∷ past) quiet).quiet)
