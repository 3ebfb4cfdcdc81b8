-- A job is given back or taken up.
use Rattle.std.proofs.Common.{◌≡◌, ℕ, ◌+◌, ◌<◌, ◌≤◌, Bool, true, false, ◌&&◌, if◌then◌else◌, List, [], ◌∷◌, slice_get, Option, Some, None, option_map, refl, sym, ap, ◌∙◌, subst, arith}
use Rattle.std.proofs.lemmas.Bool.{and_from, lt-ltb}
use Rattle.tl_types.specs.Same.{actor_same, actor_same-Decides, record_same-Decides}
use Rattle.tl_types.specs.declared.actor.Actor.{Actor}
use Rattle.tl_types.specs.declared.file_id.FileId.{FileId}
use Rattle.tl_types.specs.declared.record_id.RecordId.{RecordId}
use Rattle.tl_types.specs.declared.worker_id.WorkerId.{WorkerId}
use Rattle.tl_model.specs.declared.event.Act.{Act}
use Rattle.tl_model.specs.declared.event.Act.TheVariants.{Back, Claim}
use Rattle.tl_model.specs.declared.event.Event.{Event}
use Rattle.tl_model.specs.declared.header.Header.{Header}
use Rattle.tl_model.specs.Past.{Past, events_with, without_tickets}
use Rattle.tl_model.specs.Actors.{OpenClaim, open_read, open_claim, open_save, claims_record}
use Rattle.tl_model.specs.History.{records}
use Rattle.tl_model.specs.Plan.{next}
use Rattle.tl_model.specs.Rules.{is_known_worker, is_lawful, is_record, lawful_judge, may_claim, size_of}
use Rattle.tl_laws.specs.Numbers.{Numbered}
use Rattle.tl_laws.proofs.Next.{next-is}
use Rattle.tl_laws.proofs.Numbering.{all-numbered}
use Rattle.tl_laws.proofs.Tickets.{records-with}
use Rattle.tl_store.specs.Contents.{touched}
use Rattle.tl_fleet.specs.Events.{touched_each}
use Rattle.tl_fleet.specs.Workers.{Workers, all_touched, held_count, incarnation_of}
use Rattle.tl_fleet.proofs.Found.{each_touched}
use Rattle.tl_fleet.proofs.Held.{each_touched_held}
use Rattle.tl_fleet.proofs.Incarnations.{mapped_same}
use Rattle.tl_fleet.proofs.Several.{claim_stands}
use Rattle.tl_cluster.specs.Jobs.{AreInputs, with_back, with_claimed}
use Rattle.tl_cluster.specs.Room.{one_if_some, under_way_of, under_way}
use Rattle.tl_cluster.specs.Stands.{Agrees, IsJobAt, PartsState, Stands}
use Rattle.tl_cluster.proofs.Carry.{if-none, same_either}
use Rattle.tl_cluster.proofs.Count.{marks, under_way-few, under_way-less, claim_ended}
use Rattle.tl_cluster.proofs.Settling.{agrees-once}
use Rattle.tl_cluster.proofs.Steps.{goes-on, lawful-permitted, told-goes-on}

-- one thing less is under way after a claim of the actor has ended
pub claim-ended : (past : Past) (actor : Actor) (act : Act (Unit {0})) (claim : OpenClaim) → open_claim past actor ≡ Some claim → actor.0 < 16 →
    ((a : Actor) → under_way_of (record { actor = actor; act = act } ∷ past) a
    ≡ one_if_some (if actor_same a actor then open_read past a else open_read past a) + one_if_some (if actor_same a actor then None else open_claim past a)
    + one_if_some (if actor_same a actor then open_save past a else open_save past a)) →
    under_way (record { actor = actor; act = act } ∷ past) + 1 ≤ under_way past
claim-ended past actor act claim is known counts = under_way-less past (record { actor = actor; act = act } ∷ past) actor known (λ a.
    let one : (actor_same a actor ≡ true) → one_if_some (open_claim past a) ≡ 1 =
    λ e. ap (λ x. one_if_some (open_claim past x)) ((actor_same-Decides a actor).0 e) ∙ ap one_if_some is in
    let less = claim_ended (actor_same a actor) (open_read past a) (open_claim past a) (open_save past a) one in
    let P : ℕ → Type 0 = λ n. n + marks actor a ≤ under_way_of past a in
    subst P (sym (counts a)) less)

-- there is room for the event that ends a claim
pub room_to_end : (past : Past) (actor : Actor) (claim : OpenClaim) (held spare : ℕ) → open_claim past actor ≡ Some claim → actor.0 < 16 →
    under_way past + held ≤ spare → 0 < spare
room_to_end past actor claim held spare is known room =
    let less : under_way (record { actor = actor; act = Back claim.made } ∷ past) + 1 ≤ under_way past = claim-ended past actor (Back claim.made) claim is known (λ b. refl) in
    omega arith

pub given-back : {T : Type 0} (tells : Bool) (content : T → List ℕ) (parts : PartsState T) (actor : Actor) (claim : OpenClaim) →
    Stands tells content parts → open_claim (without_tickets parts.events) actor ≡ Some claim → actor.0 < 16 →
    Agrees tells content (with_back actor claim.made parts)
given-back tells content parts actor claim s is known =
    let past : Past = without_tickets parts.events in
    let a : Agrees tells content parts = s.agrees in
    let claims : claims_record claim.made (open_claim past actor) ≡ true =
    ap (claims_record claim.made) is ∙ (record_same-Decides claim.made claim.made).1 refl in
    let one_less : under_way (record { actor = actor; act = Back claim.made } ∷ past) + 1 ≤ under_way past =
    claim-ended past actor (Back claim.made) claim is known (λ b. refl) in
    let room : under_way past + held_count parts.workers ≤ parts.spare = a.room in
    record {
      lawful = goes-on tells content parts actor (Back claim.made) s known claims refl;
      permitted = λ tell. told-goes-on tells content parts actor (Back claim.made) s known tell claims;
      sized = a.sized;
      told_sized = a.told_sized;
      blocks = a.blocks;
      losses = a.losses;
      sound = a.sound;
      kept = a.kept;
      saved = a.saved;
      puts = a.puts;
      jobs = λ b other e. a.jobs b other (if-none (actor_same b actor) (open_claim past b) other e);
      places = λ b f e. a.places b f (sym (same_either (actor_same b actor) (open_save past b)) ∙ e);
      room = omega arith;
    }

-- ---- a claim

-- the records of a lawful journal are numbered
pub lawful-numbered : {T : Type 0} (header : Header) (events : List (Event T)) → is_lawful header events ≡ true → Numbered (records (without_tickets events))
lawful-numbered header events lawful =
    subst Numbered (sym (records-with (λ _. tt) events)) (all-numbered lawful_judge header events (lawful-permitted header events lawful))

each-incarnation : (files : List FileId) (i : ℕ) (ws : Workers) →
    option_map incarnation_of (slice_get (touched_each files ws) i) ≡ option_map incarnation_of (slice_get ws i)
each-incarnation [] i ws = refl
each-incarnation (f ∷ files) i ws = each-incarnation files i (all_touched f ws) ∙ mapped_same (touched f) i ws

open-after : (b : Bool) (mine : OpenClaim) (o : Option OpenClaim) (claim : OpenClaim) (past : Past) → (if b then Some mine else o) ≡ Some claim →
    IsJobAt past mine.made → (o ≡ Some claim → IsJobAt past claim.made) → IsJobAt past claim.made
open-after true mine o claim past is own other = let same : mine ≡ claim = cc in subst (λ (c : OpenClaim). IsJobAt past c.made) same own
open-after false mine o claim past is own other = other is

pub claimed : {T : Type 0} (tells : Bool) (content : T → List ℕ) (parts : PartsState T) (actor : Actor) (worker : WorkerId) (made : RecordId) (files : List FileId) (spare : ℕ) →
    Stands tells content parts → actor.0 < 16 → worker.0 < parts.header.workers → may_claim (without_tickets parts.events) actor ≡ true →
    next parts.header.order (without_tickets parts.events) ≡ Some made → AreInputs (without_tickets parts.events) made files →
    51 + held_count parts.workers + 0 ≤ spare →
    Agrees tells content (with_claimed actor worker made files (record parts { spare = spare }))
claimed tells content parts actor worker made files spare s known within idle is inputs enough =
    let past : Past = without_tickets parts.events in
    let a : Agrees tells content parts = s.agrees in
    let it = next-is parts.header.order past made is (lawful-numbered parts.header parts.events a.lawful) in
    let fits : is_record (next parts.header.order past) made ≡ true = ap (λ o. is_record o made) is ∙ (record_same-Decides made made).1 refl in
    let may : (is_known_worker parts.header worker && may_claim past actor && is_record (next parts.header.order past) made) ≡ true =
    and_from _ _ (and_from _ _ (lt-ltb worker.0 parts.header.workers within) idle) fits in
    let counted : held_count (touched_each files parts.workers) ≡ held_count parts.workers =
    each_touched_held files parts.workers (agrees-once tells content parts a) in
    let few : under_way (record { actor = actor; act = Claim worker made } ∷ past) ≤ 48 = under_way-few (record { actor = actor; act = Claim worker made } ∷ past) in
    record {
      lawful = goes-on tells content parts actor (Claim worker made) s known may refl;
      permitted = λ tell. told-goes-on tells content parts actor (Claim worker made) s known tell may;
      sized = (a.sized.0, claim_stands a.sized.0 parts.header past actor worker made files parts.workers a.sized.1 inputs.0 (λ f here. inputs.1 f));
      told_sized = λ tell.
          claim_stands (size_of (events_with content parts.events)) parts.header past actor worker made files parts.workers (a.told_sized tell) inputs.0
          (λ f here. inputs.1 f);
      blocks = λ f w b there. a.blocks f w b (sym (each_touched f files parts.workers) ∙ there);
      losses = λ w n there. a.losses w n (sym (each-incarnation files w.0 parts.workers) ∙ there);
      sound = a.sound;
      kept = a.kept;
      saved = a.saved;
      puts = a.puts;
      jobs = λ b claim e.
          open-after (actor_same b actor) (record { worker = worker; made = made }) (open_claim past b) claim past e (it.it, it.at, it.job) (a.jobs b claim);
      places = λ b f e. a.places b f (sym (same_either (actor_same b actor) (open_save past b)) ∙ e);
      room = omega arith;
    }
