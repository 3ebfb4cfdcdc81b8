-- Who has something open in a permitted journal is an actor that there is, and one of the sixteen.
use Rattle.std.proofs.Common.{◌≡◌, ℕ, zero, suc, ◌<◌, Bool, true, false, ◌||◌, if◌then◌else◌, List, [], ◌∷◌, Option, Some, None, is_none, refl, sym, ap, ◌∙◌, arith}
use Rattle.std.specs.List.{list_any}
use Rattle.std.proofs.lemmas.Bool.{and_parts, ltb-true, false_from_ne_true}
use Rattle.tl_types.specs.Same.{actor_same, actor_same-Decides}
use Rattle.tl_types.specs.declared.actor.Actor.{Actor}
use Rattle.tl_types.specs.declared.file_id.FileId.{FileId}
use Rattle.tl_model.specs.declared.header.Header.{Header}
use Rattle.tl_model.specs.declared.event.Act.{Act}
use Rattle.tl_model.specs.declared.event.Act.TheVariants.{Lose}
use Rattle.tl_model.specs.declared.event.Event.{Event}
use Rattle.tl_model.specs.Past.{Past, without_tickets}
use Rattle.tl_model.specs.Actors.{OpenRead, OpenClaim, open_read, open_claim, open_save, claim_after, claim_after_loss, actors}
use Rattle.tl_model.specs.Rules.{Judge, is_actor, all_permitted, broken}
use Rattle.tl_laws.proofs.Permits.{known_of}

-- ---- an actor that there is not

apart : (a b : Actor) → is_actor a ≡ false → is_actor b ≡ true → actor_same a b ≡ false
apart a b none known =
    false_from_ne_true (actor_same a b) (λ same.
    let it : a ≡ b = (actor_same-Decides a b).0 same in
    absurd (let never : true ≡ false = sym known ∙ ap is_actor (sym it) ∙ none in cc))

-- nothing of an actor is open
pub record IsAtRest (past : Past) (actor : Actor) : Type 0 where
  pub read : open_read past actor ≡ None
  pub claim : open_claim past actor ≡ None
  pub save : open_save past actor ≡ None

if-other : {A : Type 0} (b : Bool) (mine others : A) → b ≡ false → (if b then mine else others) ≡ others
if-other b mine others h = ap (λ b. if b then mine else others) h

none-lost : (act : Act (Unit {0})) → claim_after_loss act None ≡ None
none-lost (Lose worker) = refl
none-lost _ = refl

rests-on : (past : Past) (e : Event (Unit {0})) (actor : Actor) → actor_same actor e.actor ≡ false → IsAtRest past actor → IsAtRest (e ∷ past) actor
rests-on past e actor other rest = record {
  read = if-other (actor_same actor e.actor) _ (open_read past actor) other ∙ rest.read;
  claim =
      ap (claim_after_loss e.act) (if-other (actor_same actor e.actor) (claim_after e.act (open_claim past actor)) (open_claim past actor) other ∙ rest.claim)
      ∙ none-lost e.act;
  save = if-other (actor_same actor e.actor) _ (open_save past actor) other ∙ rest.save;
}

-- an actor that there is not has nothing open
pub none-at-work : {T : Type 0} (judge : Judge T) (header : Header) (events : List (Event T)) → all_permitted judge header events ≡ true →
    (actor : Actor) → is_actor actor ≡ false → IsAtRest (without_tickets events) actor
none-at-work judge header [] ok actor none = record { read = refl; claim = refl; save = refl }
none-at-work judge header (e ∷ events) ok actor none =
    let parts = and_parts (is_none (broken judge header events e)) (all_permitted judge header events) ok in
    rests-on (without_tickets events) (record { actor = e.actor; act = _ }) actor (apart actor e.actor none (known_of judge header events e parts.0))
    (none-at-work judge header events parts.1 actor none)

-- ---- who has something open

known-by : {A : Type 0} (actor : Actor) (b : Bool) (o : Option A) (x : A) → is_actor actor ≡ b → (b ≡ false → o ≡ None) → o ≡ Some x → actor.0 < 16
known-by actor true o x known rest is = ltb-true actor.0 16 known
known-by actor false o x known rest is = absurd (let never : None ≡ Some x = sym (rest refl) ∙ is in cc)

-- who has a read open is an actor that there is
pub reader-known : {T : Type 0} (judge : Judge T) (header : Header) (events : List (Event T)) → all_permitted judge header events ≡ true →
    (actor : Actor) (read : OpenRead) → open_read (without_tickets events) actor ≡ Some read → actor.0 < 16
reader-known judge header events ok actor read is =
    known-by actor (is_actor actor) (open_read (without_tickets events) actor) read refl (λ none. (none-at-work judge header events ok actor none).read) is

-- who has a claim open is
pub claimer-known : {T : Type 0} (judge : Judge T) (header : Header) (events : List (Event T)) → all_permitted judge header events ≡ true →
    (actor : Actor) (claim : OpenClaim) → open_claim (without_tickets events) actor ≡ Some claim → actor.0 < 16
claimer-known judge header events ok actor claim is =
    known-by actor (is_actor actor) (open_claim (without_tickets events) actor) claim refl (λ none. (none-at-work judge header events ok actor none).claim) is

-- who has a save open is
pub saver-known : {T : Type 0} (judge : Judge T) (header : Header) (events : List (Event T)) → all_permitted judge header events ≡ true →
    (actor : Actor) (f : FileId) → open_save (without_tickets events) actor ≡ Some f → actor.0 < 16
saver-known judge header events ok actor f is =
    known-by actor (is_actor actor) (open_save (without_tickets events) actor) f refl (λ none. (none-at-work judge header events ok actor none).save) is

-- ---- the sixteen

or-left : (a b : Bool) → a ≡ true → (a || b) ≡ true
or-left true b h = refl
or-left false b h = absurd (cc)

or-right : (a b : Bool) → b ≡ true → (a || b) ≡ true
or-right true b h = refl
or-right false b h = h

-- one of the sixteen passes where its number does
pub among-actors : (p : Actor → Bool) (n : ℕ) → n < 16 → p (record { 0 = n }) ≡ true → list_any p actors ≡ true
among-actors p zero small h = or-left (p (record { 0 = 0 })) _ h
among-actors p (suc zero) small h = or-right (p (record { 0 = 0 })) _ (or-left (p (record { 0 = 1 })) _ h)
among-actors p (suc (suc zero)) small h = or-right (p (record { 0 = 0 })) _ (or-right (p (record { 0 = 1 })) _ (or-left (p (record { 0 = 2 })) _ h))
among-actors p (suc (suc (suc zero))) small h = or-right (p (record { 0 = 0 })) _ (or-right (p (record { 0 = 1 })) _ (or-right (p (record { 0 = 2 })) _ (or-left (p (record { 0 = 3 })) _ h)))
among-actors p (suc (suc (suc (suc zero)))) small h = or-right (p (record { 0 = 0 })) _ (or-right (p (record { 0 = 1 })) _ (or-right (p (record { 0 = 2 })) _ (or-right (p (record { 0 = 3 })) _ (or-left (p (record { 0 = 4 })) _ h))))
among-actors p (suc (suc (suc (suc (suc zero))))) small h = or-right (p (record { 0 = 0 })) _ (or-right (p (record { 0 = 1 })) _ (or-right (p (record { 0 = 2 })) _ (or-right (p (record { 0 = 3 })) _ (or-right (p (record { 0 = 4 })) _ (or-left (p (record { 0 = 5 })) _ h)))))
among-actors p (suc (suc (suc (suc (suc (suc zero)))))) small h = or-right (p (record { 0 = 0 })) _ (or-right (p (record { 0 = 1 })) _ (or-right (p (record { 0 = 2 })) _ (or-right (p (record { 0 = 3 })) _ (or-right (p (record { 0 = 4 })) _ (or-right (p (record { 0 = 5 })) _ (or-left (p (record { 0 = 6 })) _ h))))))
among-actors p (suc (suc (suc (suc (suc (suc (suc zero))))))) small h = or-right (p (record { 0 = 0 })) _ (or-right (p (record { 0 = 1 })) _ (or-right (p (record { 0 = 2 })) _ (or-right (p (record { 0 = 3 })) _ (or-right (p (record { 0 = 4 })) _ (or-right (p (record { 0 = 5 })) _ (or-right (p (record { 0 = 6 })) _ (or-left (p (record { 0 = 7 })) _ h)))))))
among-actors p (suc (suc (suc (suc (suc (suc (suc (suc zero)))))))) small h = or-right (p (record { 0 = 0 })) _ (or-right (p (record { 0 = 1 })) _ (or-right (p (record { 0 = 2 })) _ (or-right (p (record { 0 = 3 })) _ (or-right (p (record { 0 = 4 })) _ (or-right (p (record { 0 = 5 })) _ (or-right (p (record { 0 = 6 })) _ (or-right (p (record { 0 = 7 })) _ (or-left (p (record { 0 = 8 })) _ h))))))))
among-actors p (suc (suc (suc (suc (suc (suc (suc (suc (suc zero))))))))) small h = or-right (p (record { 0 = 0 })) _ (or-right (p (record { 0 = 1 })) _ (or-right (p (record { 0 = 2 })) _ (or-right (p (record { 0 = 3 })) _ (or-right (p (record { 0 = 4 })) _ (or-right (p (record { 0 = 5 })) _ (or-right (p (record { 0 = 6 })) _ (or-right (p (record { 0 = 7 })) _ (or-right (p (record { 0 = 8 })) _ (or-left (p (record { 0 = 9 })) _ h)))))))))
among-actors p (suc (suc (suc (suc (suc (suc (suc (suc (suc (suc zero)))))))))) small h = or-right (p (record { 0 = 0 })) _ (or-right (p (record { 0 = 1 })) _ (or-right (p (record { 0 = 2 })) _ (or-right (p (record { 0 = 3 })) _ (or-right (p (record { 0 = 4 })) _ (or-right (p (record { 0 = 5 })) _ (or-right (p (record { 0 = 6 })) _ (or-right (p (record { 0 = 7 })) _ (or-right (p (record { 0 = 8 })) _ (or-right (p (record { 0 = 9 })) _ (or-left (p (record { 0 = 10 })) _ h))))))))))
among-actors p (suc (suc (suc (suc (suc (suc (suc (suc (suc (suc (suc zero))))))))))) small h = or-right (p (record { 0 = 0 })) _ (or-right (p (record { 0 = 1 })) _ (or-right (p (record { 0 = 2 })) _ (or-right (p (record { 0 = 3 })) _ (or-right (p (record { 0 = 4 })) _ (or-right (p (record { 0 = 5 })) _ (or-right (p (record { 0 = 6 })) _ (or-right (p (record { 0 = 7 })) _ (or-right (p (record { 0 = 8 })) _ (or-right (p (record { 0 = 9 })) _ (or-right (p (record { 0 = 10 })) _ (or-left (p (record { 0 = 11 })) _ h)))))))))))
among-actors p (suc (suc (suc (suc (suc (suc (suc (suc (suc (suc (suc (suc zero)))))))))))) small h = or-right (p (record { 0 = 0 })) _ (or-right (p (record { 0 = 1 })) _ (or-right (p (record { 0 = 2 })) _ (or-right (p (record { 0 = 3 })) _ (or-right (p (record { 0 = 4 })) _ (or-right (p (record { 0 = 5 })) _ (or-right (p (record { 0 = 6 })) _ (or-right (p (record { 0 = 7 })) _ (or-right (p (record { 0 = 8 })) _ (or-right (p (record { 0 = 9 })) _ (or-right (p (record { 0 = 10 })) _ (or-right (p (record { 0 = 11 })) _ (or-left (p (record { 0 = 12 })) _ h))))))))))))
among-actors p (suc (suc (suc (suc (suc (suc (suc (suc (suc (suc (suc (suc (suc zero))))))))))))) small h = or-right (p (record { 0 = 0 })) _ (or-right (p (record { 0 = 1 })) _ (or-right (p (record { 0 = 2 })) _ (or-right (p (record { 0 = 3 })) _ (or-right (p (record { 0 = 4 })) _ (or-right (p (record { 0 = 5 })) _ (or-right (p (record { 0 = 6 })) _ (or-right (p (record { 0 = 7 })) _ (or-right (p (record { 0 = 8 })) _ (or-right (p (record { 0 = 9 })) _ (or-right (p (record { 0 = 10 })) _ (or-right (p (record { 0 = 11 })) _ (or-right (p (record { 0 = 12 })) _ (or-left (p (record { 0 = 13 })) _ h)))))))))))))
among-actors p (suc (suc (suc (suc (suc (suc (suc (suc (suc (suc (suc (suc (suc (suc zero)))))))))))))) small h = or-right (p (record { 0 = 0 })) _ (or-right (p (record { 0 = 1 })) _ (or-right (p (record { 0 = 2 })) _ (or-right (p (record { 0 = 3 })) _ (or-right (p (record { 0 = 4 })) _ (or-right (p (record { 0 = 5 })) _ (or-right (p (record { 0 = 6 })) _ (or-right (p (record { 0 = 7 })) _ (or-right (p (record { 0 = 8 })) _ (or-right (p (record { 0 = 9 })) _ (or-right (p (record { 0 = 10 })) _ (or-right (p (record { 0 = 11 })) _ (or-right (p (record { 0 = 12 })) _ (or-right (p (record { 0 = 13 })) _ (or-left (p (record { 0 = 14 })) _ h))))))))))))))
among-actors p (suc (suc (suc (suc (suc (suc (suc (suc (suc (suc (suc (suc (suc (suc (suc zero))))))))))))))) small h = or-right (p (record { 0 = 0 })) _ (or-right (p (record { 0 = 1 })) _ (or-right (p (record { 0 = 2 })) _ (or-right (p (record { 0 = 3 })) _ (or-right (p (record { 0 = 4 })) _ (or-right (p (record { 0 = 5 })) _ (or-right (p (record { 0 = 6 })) _ (or-right (p (record { 0 = 7 })) _ (or-right (p (record { 0 = 8 })) _ (or-right (p (record { 0 = 9 })) _ (or-right (p (record { 0 = 10 })) _ (or-right (p (record { 0 = 11 })) _ (or-right (p (record { 0 = 12 })) _ (or-right (p (record { 0 = 13 })) _ (or-right (p (record { 0 = 14 })) _ (or-left (p (record { 0 = 15 })) _ h)))))))))))))))
among-actors p (suc (suc (suc (suc (suc (suc (suc (suc (suc (suc (suc (suc (suc (suc (suc (suc n)))))))))))))))) small h = absurd (omega arith)
