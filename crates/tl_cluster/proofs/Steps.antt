-- How a cluster's journal goes on.
use Rattle.std.proofs.Common.{◌≡◌, ℕ, ◌<◌, Bool, true, List, [], ◌∷◌, Option, Some, None, is_some, option_map, refl, sym, ap, ◌∙◌, subst}
use Rattle.std.proofs.lemmas.Bool.{and_parts, and_from}
use Rattle.tl_types.specs.Block.{FileOutcome}
use Rattle.tl_types.specs.declared.actor.Actor.{Actor}
use Rattle.tl_types.specs.declared.file_id.FileId.{FileId}
use Rattle.tl_types.specs.declared.worker_id.WorkerId.{WorkerId}
use Rattle.tl_model.specs.declared.event.Act.{Act}
use Rattle.tl_model.specs.declared.event.Event.{Event}
use Rattle.tl_model.specs.declared.header.Header.{Header}
use Rattle.tl_model.specs.History.{records}
use Rattle.tl_laws.specs.Numbers.{Numbered}
use Rattle.tl_steps.proofs.Within.{all-within}
use Rattle.tl_model.specs.Past.{Past, act_with, event_with, events_with, without_tickets}
use Rattle.tl_model.specs.Eviction.{first_to_drop}
use Rattle.tl_model.specs.Residency.{is_resident, place}
use Rattle.tl_model.specs.Rules.{Nothing, all_permitted, is_lawful, is_legal, is_permitted, is_quiet, lawful_judge, legal_judge, owed, owes_nothing, size_of}
use Rattle.tl_laws.proofs.Permits.{actor-known, holds-one, permits, quiet-pays}
use Rattle.tl_laws_drops.proofs.Owing.{none-owed}
use Rattle.tl_fleet.specs.Workers.{found, worker_found}
use Rattle.tl_fleet.proofs.Places.{found_place}
use Rattle.tl_cluster.specs.Stands.{Agrees, PartsState, Stands}
use Rattle.tl_cluster.specs.State.{block_found, held}
use Rattle.tl_cluster.proofs.Told.{plain-told}
use Rattle.tl_cluster.proofs.Owing.{nothing-owed, owed-told}

-- a lawful journal by itself owes nothing
pub lawful-quiet : {T : Type 0} (header : Header) (events : List (Event T)) → is_lawful header events ≡ true → owed lawful_judge events ≡ Nothing
lawful-quiet header events lawful =
    nothing-owed (owed lawful_judge events) (and_parts (all_permitted lawful_judge header events) (is_quiet lawful_judge events) lawful).1

pub lawful-permitted : {T : Type 0} (header : Header) (events : List (Event T)) → is_lawful header events ≡ true → all_permitted lawful_judge header events ≡ true
lawful-permitted header events lawful = (and_parts (all_permitted lawful_judge header events) (is_quiet lawful_judge events) lawful).0

settled-owes : {T : Type 0} (content : T → List ℕ) (header : Header) (events : List (Event T)) → is_lawful header events ≡ true →
    first_to_drop (size_of (events_with content events)) header (without_tickets (events_with content events)) ≡ None →
    owed (legal_judge header) (events_with content events) ≡ Nothing
settled-owes content header [] lawful none = refl
settled-owes content header (e ∷ events) lawful none =
    none-owed header (event_with content e) (events_with content events)
    (owed-told content (e ∷ events) ∙ lawful-quiet header (e ∷ events) lawful) none

-- where the bytes are told a cluster's journal is legal
pub stands-legal : {T : Type 0} (tells : Bool) (content : T → List ℕ) (parts : PartsState T) → Stands tells content parts → tells ≡ true →
    is_legal parts.header (events_with content parts.events) ≡ true
stands-legal tells content parts s tell =
    let told = events_with content parts.events in
    and_from (all_permitted (legal_judge parts.header) parts.header told) (is_quiet (legal_judge parts.header) told) (s.agrees.permitted tell)
    (ap owes_nothing (settled-owes content parts.header parts.events s.agrees.lawful
    (ap (first_to_drop (size_of told) parts.header) (plain-told content parts.events) ∙ s.settled tell)))

-- an event that its rule permits, and that leaves nothing owed
pub goes-on : {T : Type 0} (tells : Bool) (content : T → List ℕ) (parts : PartsState T) (actor : Actor) (act : Act T) → Stands tells content parts → actor.0 < 16 →
    is_permitted lawful_judge parts.header parts.events (without_tickets parts.events) actor act ≡ true →
    owed lawful_judge (record { actor = actor; act = act } ∷ parts.events) ≡ Nothing →
    is_lawful parts.header (record { actor = actor; act = act } ∷ parts.events) ≡ true
goes-on tells content parts actor act s known fits quiet =
    holds-one lawful_judge parts.header parts.events (record { actor = actor; act = act }) s.agrees.lawful (actor-known actor known) fits quiet

-- and where the bytes are told
pub told-goes-on : {T : Type 0} (tells : Bool) (content : T → List ℕ) (parts : PartsState T) (actor : Actor) (act : Act T) → Stands tells content parts → actor.0 < 16 → tells ≡ true →
    is_permitted (legal_judge parts.header) parts.header (events_with content parts.events) (without_tickets parts.events) actor (act_with content act) ≡ true →
    all_permitted (legal_judge parts.header) parts.header (events_with content (record { actor = actor; act = act } ∷ parts.events)) ≡ true
told-goes-on tells content parts actor act s known tell fits =
    let told = events_with content parts.events in
    permits (legal_judge parts.header) parts.header told (record { actor = actor; act = act_with content act }) (s.agrees.permitted tell)
    (quiet-pays (legal_judge parts.header) parts.header told actor (act_with content act) (stands-legal tells content parts s tell))
    (actor-known actor known)
    (subst (λ (p : Past). is_permitted (legal_judge parts.header) parts.header told p actor (act_with content act) ≡ true) (sym (plain-told content parts.events)) fits)

-- ---- what is found is resident

pub placed : {T : Type 0} (tells : Bool) (content : T → List ℕ) (parts : PartsState T) → Agrees tells content parts → (f : FileId) →
    option_map worker_found (found f parts.workers) ≡ place (without_tickets parts.events) f
placed tells content parts a f = found_place a.sized.0 parts.header (without_tickets parts.events) parts.workers f a.sized.1

some-found : (o : Option (WorkerId × FileOutcome)) → is_some (option_map worker_found o) ≡ is_some o
some-found None = refl
some-found (Some x) = refl

some-held : (o : Option (WorkerId × FileOutcome)) → is_some (option_map block_found o) ≡ is_some o
some-held None = refl
some-held (Some x) = refl

pub found-resident : {T : Type 0} (tells : Bool) (content : T → List ℕ) (parts : PartsState T) → Agrees tells content parts → (f : FileId) →
    is_some (found f parts.workers) ≡ is_resident (without_tickets parts.events) f
found-resident tells content parts a f = sym (some-found (found f parts.workers)) ∙ ap is_some (placed tells content parts a f)

pub held-resident : {T : Type 0} (tells : Bool) (content : T → List ℕ) (parts : PartsState T) → Agrees tells content parts → (f : FileId) →
    is_some (held f parts.workers) ≡ is_resident (without_tickets parts.events) f
held-resident tells content parts a f = some-held (found f parts.workers) ∙ found-resident tells content parts a f

-- the records of a journal whose events are permitted are numbered
pub permitted-numbered : {T : Type 0} (header : Header) (events : List (Event T)) → all_permitted lawful_judge header events ≡ true → Numbered (records (without_tickets events))
permitted-numbered header events ok = (all-within lawful_judge header events ok).numbered
