-- What an event is that no rule refuses, and how journals go on.
use Rattle.std.proofs.Common.{◌≡◌, ◌<◌, ℕ, Bool, true, false, not, if◌then◌else◌, List, ◌∷◌, Some, None, is_none, refl, ap, arith}
use Rattle.std.proofs.lemmas.Bool.{and_parts, and_from, lt-ltb}
use Rattle.tl_types.specs.declared.actor.Actor.{Actor}
use Rattle.tl_model.specs.declared.header.Header.{Header}
use Rattle.tl_model.specs.declared.event.Act.{Act}
use Rattle.tl_model.specs.declared.event.Event.{Event}
use Rattle.tl_model.specs.Past.{without_tickets}
use Rattle.tl_model.specs.Rules.{Judge, Owed, Nothing, ToSave, ToFree, ToServe, ToDrop, owed, owes_nothing, pays, is_actor, is_permitted, may_follow, broken, all_permitted, is_quiet, holds, rule_of, owed_rule}

unbroken : (paid fits : Bool) (rule : ℕ) → is_none (if not paid then Some owed_rule else (if fits then None else Some rule)) ≡ true → (paid ≡ true) × (fits ≡ true)
unbroken true true rule h = (refl, refl)
unbroken true false rule h = (refl, h)
unbroken false fits rule h = absurd (cc)

broken_not : (paid fits : Bool) (rule : ℕ) → paid ≡ true → fits ≡ true → is_none (if not paid then Some owed_rule else (if fits then None else Some rule)) ≡ true
broken_not true true rule h k = refl
broken_not true false rule h k = absurd (cc)
broken_not false fits rule h k = absurd (cc)

-- an event that no rule refuses is of an actor that there is
pub known_of : {T : Type 0} (judge : Judge T) (header : Header) (past : List (Event T)) (e : Event T) → is_none (broken judge header past e) ≡ true →
    is_actor e.actor ≡ true
known_of judge header past e h =
    (and_parts (is_actor e.actor) (is_permitted judge header past (without_tickets past) e.actor e.act)
    (unbroken (pays (owed judge past) e.actor e.act) (may_follow judge header past e) (rule_of e.act) h).1).0

-- an event that no rule refuses pays what is owed, and its own rule permits it
pub permitted_of : {T : Type 0} (judge : Judge T) (header : Header) (past : List (Event T)) (e : Event T) → is_none (broken judge header past e) ≡ true →
    (pays (owed judge past) e.actor e.act ≡ true) × (is_permitted judge header past (without_tickets past) e.actor e.act ≡ true)
permitted_of judge header past e h =
    let parts = unbroken (pays (owed judge past) e.actor e.act) (may_follow judge header past e) (rule_of e.act) h in
    (parts.0, (and_parts (is_actor e.actor) (is_permitted judge header past (without_tickets past) e.actor e.act) parts.1).1)

-- and an event that does and is may come next
pub permits : {T : Type 0} (judge : Judge T) (header : Header) (past : List (Event T)) (e : Event T) → all_permitted judge header past ≡ true →
    pays (owed judge past) e.actor e.act ≡ true → is_actor e.actor ≡ true → is_permitted judge header past (without_tickets past) e.actor e.act ≡ true →
    all_permitted judge header (e ∷ past) ≡ true
permits judge header past e before paid known fits =
    and_from (is_none (broken judge header past e)) (all_permitted judge header past)
    (broken_not (pays (owed judge past) e.actor e.act) (may_follow judge header past e) (rule_of e.act) paid
    (and_from (is_actor e.actor) (is_permitted judge header past (without_tickets past) e.actor e.act) known fits)) before

owes-nothing : (o : Owed) → owes_nothing o ≡ true → o ≡ Nothing
owes-nothing Nothing h = refl
owes-nothing (ToSave actor f) h = absurd (cc)
owes-nothing (ToFree actor f) h = absurd (cc)
owes-nothing (ToServe actor f) h = absurd (cc)
owes-nothing ToDrop h = absurd (cc)

pays-nothing : {T : Type 0} (o : Owed) (actor : Actor) (act : Act T) → o ≡ Nothing → pays o actor act ≡ true
pays-nothing o actor act e = ap (λ o. pays o actor act) e

-- after a past that owes nothing each event pays
pub quiet-pays : {T : Type 0} (judge : Judge T) (header : Header) (past : List (Event T)) (actor : Actor) (act : Act T) → holds judge header past ≡ true →
    pays (owed judge past) actor act ≡ true
quiet-pays judge header past actor act h =
    pays-nothing (owed judge past) actor act (owes-nothing (owed judge past) (and_parts (all_permitted judge header past) (is_quiet judge past) h).1)

-- one event that leaves nothing owed
pub holds-one : {T : Type 0} (judge : Judge T) (header : Header) (past : List (Event T)) (e : Event T) → holds judge header past ≡ true →
    is_actor e.actor ≡ true → is_permitted judge header past (without_tickets past) e.actor e.act ≡ true → owed judge (e ∷ past) ≡ Nothing →
    holds judge header (e ∷ past) ≡ true
holds-one judge header past e before known fits quiet =
    and_from (all_permitted judge header (e ∷ past)) (is_quiet judge (e ∷ past))
    (permits judge header past e (and_parts (all_permitted judge header past) (is_quiet judge past) before).0
    (quiet-pays judge header past e.actor e.act before) known fits)
    (ap owes_nothing quiet)

-- one event, and the one that is then owed, which leaves nothing owed
pub holds-two : {T : Type 0} (judge : Judge T) (header : Header) (past : List (Event T)) (e next : Event T) → holds judge header past ≡ true →
    is_actor e.actor ≡ true → is_permitted judge header past (without_tickets past) e.actor e.act ≡ true → pays (owed judge (e ∷ past)) next.actor next.act ≡ true →
    is_actor next.actor ≡ true → is_permitted judge header (e ∷ past) (without_tickets (e ∷ past)) next.actor next.act ≡ true → owed judge (next ∷ e ∷ past) ≡ Nothing →
    holds judge header (next ∷ e ∷ past) ≡ true
holds-two judge header past e next before known fits paid known_next fits_next quiet =
    and_from (all_permitted judge header (next ∷ e ∷ past)) (is_quiet judge (next ∷ e ∷ past))
    (permits judge header (e ∷ past) next
    (permits judge header past e (and_parts (all_permitted judge header past) (is_quiet judge past) before).0
    (quiet-pays judge header past e.actor e.act before) known fits) paid known_next fits_next)
    (ap owes_nothing quiet)

-- ---- actors that there are

pub actor-known : (actor : Actor) → actor.0 < 16 → is_actor actor ≡ true
actor-known actor h = lt-ltb actor.0 16 h

pub client-known : (actor : Actor) → actor.0 < 8 → is_actor actor ≡ true
client-known actor h = let within : actor.0 < 16 = omega arith in lt-ltb actor.0 16 within
