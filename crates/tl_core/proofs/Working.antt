-- A job is done or given back.
use Rattle.std.proofs.Common.{◌≡◌, ℕ, ◌+◌, ◌-◌, ◌<◌, ◌≤◌, Bool, true, if◌then◌else◌, List, ◌∷◌, Some, None, refl, sym, ap, ◌∙◌, subst, arith}
use Rattle.tl_types.specs.Same.{actor_same, actor_same-Decides, record_same-Decides}
use Rattle.tl_types.specs.declared.actor.Actor.{Actor}
use Rattle.tl_model.specs.declared.event.Act.{Act}
use Rattle.tl_model.specs.declared.event.Act.TheVariants.{Back}
use Rattle.tl_model.specs.declared.event.Event.{Event}
use Rattle.tl_model.specs.declared.header.Header.{Header}
use Rattle.tl_model.specs.Past.{Past, events_with, without_tickets}
use Rattle.tl_model.specs.Actors.{OpenClaim, open_read, open_claim, open_save, claims_record}
use Rattle.tl_model.specs.Rules.{lawful_judge}
use Rattle.tl_laws.proofs.Permits.{holds-one, actor-known}
use Rattle.tl_core.specs.Residents.{Residents}
use Rattle.tl_core.specs.Room.{one_if_some, under_way_of, under_way}
use Rattle.tl_core.specs.State.{Stands, undropped_judge}
use Rattle.tl_core.proofs.Told.{plain-told}
use Rattle.tl_core.proofs.Count.{marks, under_way-less, claim_ended}
use Rattle.tl_core.proofs.Carry.{none_or}

-- one thing less is under way after a claim of the actor has ended
pub claim-ended : (past : Past) (actor : Actor) (act : Act (Unit {0})) (claim : OpenClaim) → open_claim past actor ≡ Some claim → actor.0 < 16 →
    ((a : Actor) → under_way_of (record { actor = actor; act = act } ∷ past) a
    ≡ one_if_some (if actor_same a actor then open_read past a else open_read past a) + one_if_some (if actor_same a actor then None else open_claim past a)
    + one_if_some (if actor_same a actor then open_save past a else open_save past a)) →
    under_way (record { actor = actor; act = act } ∷ past) + 1 ≤ under_way past
claim-ended past actor act claim is known counts = under_way-less past (record { actor = actor; act = act } ∷ past) actor known (λ a.
    let one : (actor_same a actor ≡ true) → one_if_some (open_claim past a) ≡ 1 =
    λ e. ap (λ x. one_if_some (open_claim past x)) ((actor_same-Decides a actor).0 e) ∙ ap one_if_some is in
    let less = claim_ended (actor_same a actor) (open_read past a) (open_claim past a) (open_save past a) one in
    let P : ℕ → Type 0 = λ n. n + marks actor a ≤ under_way_of past a in
    subst P (sym (counts a)) less)

-- there is room for the event that ends a claim
pub room_to_end : (past : Past) (actor : Actor) (claim : OpenClaim) (spare : ℕ) → open_claim past actor ≡ Some claim → actor.0 < 16 → under_way past ≤ spare → 0 < spare
room_to_end past actor claim spare is known room =
    let less : under_way (record { actor = actor; act = Back claim.made } ∷ past) + 1 ≤ under_way past = claim-ended past actor (Back claim.made) claim is known (λ a. refl) in
    omega arith

pub back : {T : Type 0} (tells : Bool) (content : T → List ℕ) (header : Header) (events : List (Event T)) (residents : Residents) (spare : ℕ)
    (actor : Actor) (claim : OpenClaim) →
    Stands tells content header events residents spare → open_claim (without_tickets events) actor ≡ Some claim → actor.0 < 16 →
    Stands tells content header (record { actor = actor; act = Back claim.made } ∷ events) residents (spare - 1)
back tells content header events residents spare actor claim s is known =
    let past : Past = without_tickets events in
    let claims : claims_record claim.made (open_claim past actor) ≡ true =
    ap (claims_record claim.made) is ∙ (record_same-Decides claim.made claim.made).1 refl in
    let told_claims : claims_record claim.made (open_claim (without_tickets (events_with content events)) actor) ≡ true =
    subst (λ (p : Past). claims_record claim.made (open_claim p actor) ≡ true) (sym (plain-told content events)) claims in
    let one_less : under_way (record { actor = actor; act = Back claim.made } ∷ past) + 1 ≤ under_way past =
    claim-ended past actor (Back claim.made) claim is known (λ a. refl) in
    record {
      lawful = holds-one lawful_judge header events (record { actor = actor; act = Back claim.made }) s.lawful (actor-known actor known) claims refl;
      told = λ tell. holds-one (undropped_judge header) header (events_with content events) (record { actor = actor; act = Back claim.made }) (s.told tell) (actor-known actor known) told_claims refl;
      places = s.places;
      blocks = s.blocks;
      sound = s.sound;
      saved = s.saved;
      puts = s.puts;
      whole = s.whole;
      jobs = λ a other is. s.jobs a other (none_or (actor_same a actor) (open_claim past a) other is);
      room = let r : under_way past ≤ spare = s.room in omega arith;
    }
