-- What is kept stands for the past with one event more.
use Rattle.std.proofs.Common.{◌≡◌, ◌∙◌, List, [], ◌∷◌, ◌++◌, length, map, Option, Some, None, refl, sym, ap, append-nil}
use Rattle.tl_types.specs.declared.actor.Actor.{Actor}
use Rattle.tl_types.specs.declared.record_id.RecordId.{RecordId}
use Rattle.tl_types.specs.declared.worker_id.WorkerId.{WorkerId}
use Rattle.tl_model.specs.declared.command.Command.{Command}
use Rattle.tl_model.specs.declared.command.Command.TheVariants as command
use Rattle.tl_model.specs.declared.reply.Reply.{Reply}
use Rattle.tl_model.specs.declared.reply.Reply.TheVariants.{Made}
use Rattle.tl_model.specs.declared.event.Act.{Act}
use Rattle.tl_model.specs.declared.event.Act.TheVariants.{Call, Claim}
use Rattle.tl_model.specs.declared.record.Record.{Record}
use Rattle.tl_model.specs.declared.record.Record.TheVariants as kind
use Rattle.tl_model.specs.Past.{Past}
use Rattle.tl_model.specs.History.{files_at, names, record_made, records}
use Rattle.tl_model.specs.Actors.{actors}
use Rattle.tl_model.specs.Plan.{claims, claims_after}
use Rattle.tl_laws.specs.Numbers.{Numbered}
use Rattle.tl_steps.specs.Steps.{new_seat, seat_after, next_of, added}
use Rattle.tl_steps.specs.Within.{IsWithin}
use Rattle.tl_steps.proofs.Lists.{map_append}
use Rattle.tl_steps.proofs.Files.{after}
use Rattle.tl_steps.proofs.Seats.{seats-after}
use Rattle.tl_steps.proofs.Within.{within-empty}
use Rattle.tl_prio.specs.declared.kept.Kept.{Kept}
use Rattle.tl_prio.specs.declared.turns.Turns.{Turns}
use Rattle.tl_prio.specs.Data.{HasClaims, OrderData, kept_after, order_after, with_kept}
use Rattle.tl_prio.specs.Standing.{HasRoomForAll, StandsBefore, StandsFor, kept_in, kept_of}
use Rattle.tl_prio.proofs.Changes.{kept-new, records-after}

none-added : (now : Past) (rs : List Record) (kept : List Kept) → records now ≡ rs → kept ≡ map (kept_in now) rs → kept ≡ map (kept_in now) (records now)
none-added now rs kept is same = same ∙ ap (map (kept_in now)) (sym is)

one-added : (now : Past) (rs : List Record) (r : Record) (next : Option Kept) (kept : List Kept) → records now ≡ rs ++ r ∷ [] →
    kept ≡ map (kept_in now) rs → next ≡ Some (kept_of r) → kept_of r ≡ kept_in now r → with_kept next kept ≡ map (kept_in now) (records now)
one-added now rs r next kept is same room new =
    ap (λ o. with_kept o kept) room
    ∙ (λ i. same i ++ new i ∷ [])
    ∙ sym (map_append (kept_in now) rs (r ∷ []))
    ∙ ap (map (kept_in now)) (sym is)

call-records : (actor : Actor) (reply : Reply) (c : Command (Unit {0})) (past : Past) (order : OrderData) (kept : List Kept) → IsWithin past →
    Numbered (records (after actor (Call c reply) past)) → HasRoomForAll order (record_made reply c (names past)) →
    kept ≡ map (kept_in (after actor (Call c reply) past)) (records past) →
    with_kept (next_of (Call c reply) order.next) kept ≡ map (kept_in (after actor (Call c reply) past)) (records (after actor (Call c reply) past))
call-records actor (Made made) (command.Put path len digest ticket) past order kept within numbered room same =
    let c = command.Put path len digest ticket in
    let r = kind.Put made in
    one-added (after actor (Call c (Made made)) past) (records past) r order.next kept refl same room (kept-new actor c (Made made) past r within refl numbered)
call-records actor (Made made) (command.Job core prio inputs outputs) past order kept within numbered room same =
    let c = command.Job core prio inputs outputs in
    let r = kind.Job made core prio (files_at (names past) inputs) (length outputs) in
    one-added (after actor (Call c (Made made)) past) (records past) r order.next kept refl same room (kept-new actor c (Made made) past r within refl numbered)
call-records actor reply c past order kept within numbered room same =
    none-added (after actor (Call c reply) past) (records past) kept (append-nil (records past)) same

act-records : (actor : Actor) (act : Act (Unit {0})) (past : Past) (order : OrderData) (kept : List Kept) → IsWithin past → Numbered (records (after actor act past)) →
    HasRoomForAll order (added past act) → kept ≡ map (kept_in (after actor act past)) (records past) →
    with_kept (next_of act order.next) kept ≡ map (kept_in (after actor act past)) (records (after actor act past))
act-records actor (Call c reply) past order kept within numbered room same = call-records actor reply c past order kept within numbered room same
act-records actor act past order kept within numbered room same = none-added (after actor act past) (records past) kept refl same

-- what stood for a past stands, after an event, for the past with the event
pub stands-after : (actor : Actor) (act : Act (Unit {0})) (past : Past) (order : OrderData) → StandsBefore act order past → HasRoomForAll order (added past act) →
    IsWithin (after actor act past) → StandsFor (order_after (record { actor = actor; act = act }) order) (after actor act past)
stands-after actor act past order stands room within =
    record {
      records = act-records actor act past order (map (kept_after act) order.records) stands.within within.numbered room
          (ap (map (kept_after act)) stands.records ∙ records-after actor act past stands.within.numbered);
      seats = ap (map (seat_after (record { actor = actor; act = act }))) stands.seats ∙ seats-after (record { actor = actor; act = act }) past;
      turns = stands.turns;
      within = within;
    }

-- nothing is kept of the empty past
pub stands-empty : (turns : Turns) → HasClaims turns (λ p. 0) → StandsFor (record { records = []; seats = map new_seat actors; turns = turns; next = None }) []
stands-empty turns none = record { records = refl; seats = refl; turns = none; within = within-empty }

-- whether there is a place for a record does not matter
pub stands-same : (old new : OrderData) (past : Past) → new.records ≡ old.records → new.seats ≡ old.seats → new.turns ≡ old.turns → StandsFor old past → StandsFor new past
stands-same old new past kept seats turns stands = record {
  records = kept ∙ stands.records;
  seats = seats ∙ stands.seats;
  turns = ap (λ (t : Turns). t.claims) turns ∙ stands.turns;
  within = stands.within;
}

-- a claim is counted
pub stands-counted : (old new : OrderData) (past : Past) (worker : WorkerId) (made : RecordId) → new.records ≡ old.records → new.seats ≡ old.seats →
    HasClaims new.turns (λ p. claims_after past (Claim worker made) p (claims past p)) → StandsFor old past → StandsBefore (Claim worker made) new past
stands-counted old new past worker made kept seats counted stands = record {
  records = kept ∙ stands.records;
  seats = seats ∙ stands.seats;
  turns = counted;
  within = stands.within;
}
