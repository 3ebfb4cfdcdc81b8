-- What an actor's own events leave of what it has open.
use Rattle.std.proofs.Common.{◌≡◌, Bool, true, false, ◌&&◌, not, [], ◌∷◌, ◌++◌, cond, Option, Some, None, is_none, if◌then◌else◌, refl, ap, ◌∙◌}
use Rattle.std.specs.List.{list_all}
use Rattle.std.proofs.lemmas.Bool.{and_from, and_parts}
use Rattle.tl_types.specs.Same.{actor_same}
use Rattle.tl_types.specs.declared.actor.Actor.{Actor}
use Rattle.tl_types.specs.declared.file_id.FileId.{FileId}
use Rattle.tl_model.specs.declared.event.Act.{Act}
use Rattle.tl_model.specs.declared.event.Act.TheVariants.{Call, Served, Shut, Claim, Done, Back, Lose, Free, Drop, Load, Save, Saved, Unsave, Collect}
use Rattle.tl_model.specs.declared.event.Event.{Event}
use Rattle.tl_model.specs.Actors.{OpenRead, claim_after, claim_after_loss, is_idle, open_claim, open_read, open_save, read_after, save_after}
use Rattle.tl_model.specs.Past.{Past, act_with, without_tickets}
use Rattle.tl_pieces.specs.Setting.{Setting, Events}
use Rattle.tl_pieces.specs.Own.{Adds, is_drop, own}

-- an event that opens and ends no read
abbrev pub leaves_read : {T : Type 0} → Act T → Bool
leaves_read (Call command reply) = false
leaves_read (Served f digest) = false
leaves_read (Shut f) = false
leaves_read _ = true

-- an event that opens and ends no save
abbrev pub leaves_save : {T : Type 0} → Act T → Bool
leaves_save (Save f) = false
leaves_save (Saved f size digest) = false
leaves_save (Unsave f) = false
leaves_save _ = true

read-left : {T : Type 0} (act : Act T) (o : Option OpenRead) → leaves_read act ≡ true → read_after (act_with {U = Unit {0}} (λ _. tt) act) o ≡ o
read-left (Call command reply) o h = absurd (cc)
read-left (Served f digest) o h = absurd (cc)
read-left (Shut f) o h = absurd (cc)
read-left (Claim worker made) o h = refl
read-left (Done worker made) o h = refl
read-left (Back made) o h = refl
read-left (Lose worker) o h = refl
read-left (Free f) o h = refl
read-left (Drop worker f) o h = refl
read-left (Load worker f) o h = refl
read-left (Save f) o h = refl
read-left (Saved f size digest) o h = refl
read-left (Unsave f) o h = refl
read-left (Collect made) o h = refl

save-left : {T : Type 0} (act : Act T) (o : Option FileId) → leaves_save act ≡ true → save_after (act_with {U = Unit {0}} (λ _. tt) act) o ≡ o
save-left (Call command reply) o h = refl
save-left (Served f digest) o h = refl
save-left (Shut f) o h = refl
save-left (Claim worker made) o h = refl
save-left (Done worker made) o h = refl
save-left (Back made) o h = refl
save-left (Lose worker) o h = refl
save-left (Free f) o h = refl
save-left (Drop worker f) o h = refl
save-left (Load worker f) o h = refl
save-left (Save f) o h = absurd (cc)
save-left (Saved f size digest) o h = absurd (cc)
save-left (Unsave f) o h = absurd (cc)
save-left (Collect made) o h = refl

either-left : {A : Type 0} (b : Bool) (x y : A) → (b ≡ true → x ≡ y) → (if b then x else y) ≡ y
either-left true x y h = h refl
either-left false x y h = refl

-- drops leave both
drop-leaves : {T : Type 0} (test : Act T → Bool) → ((act : Act T) → is_drop act ≡ true → test act ≡ true) → (act : Act T) (d : Bool) → is_drop act ≡ d →
    (not d ≡ true → test act ≡ true) → test act ≡ true
drop-leaves test drops act true is h = drops act is
drop-leaves test drops act false is h = h refl

own-head : {T : Type 0} (test : Act T → Bool) (e : Event T) (rest : Events T) (same d : Bool) → is_drop e.act ≡ d →
    list_all (λ (x : Event T). test x.act) (cond (same && not d) (e ∷ rest) rest) ≡ true →
    ((same ≡ true → not d ≡ true → test e.act ≡ true) × (list_all (λ (x : Event T). test x.act) rest ≡ true))
own-head {T} test e rest true true is h = ((λ s n. absurd (cc)), h)
own-head {T} test e rest true false is h =
    let parts = and_parts (test e.act) (list_all (λ (x : Event T). test x.act) rest) h in ((λ s n. parts.0), parts.1)
own-head {T} test e rest false d is h = ((λ s n. absurd (cc)), h)

drop-read : {T : Type 0} (act : Act T) → is_drop act ≡ true → leaves_read act ≡ true
drop-read (Drop worker f) h = refl
drop-read act h = absurd (cc)

drop-save : {T : Type 0} (act : Act T) → is_drop act ≡ true → leaves_save act ≡ true
drop-save (Drop worker f) h = refl
drop-save act h = absurd (cc)

read-over : {T : Type 0} (actor : Actor) (more before : Events T) → list_all (λ (e : Event T). leaves_read e.act) (own actor more) ≡ true →
    open_read (without_tickets (more ++ before)) actor ≡ open_read (without_tickets before) actor
read-over actor [] before h = refl
read-over actor (e ∷ more) before h =
    let head = own-head leaves_read e (own actor more) (actor_same actor e.actor) (is_drop e.act) refl h in
    let o = open_read (without_tickets (more ++ before)) actor in
    either-left (actor_same actor e.actor) _ o
    (λ mine. read-left e.act o (drop-leaves leaves_read drop-read e.act (is_drop e.act) refl (head.0 mine)))
    ∙ read-over actor more before head.1

save-over : {T : Type 0} (actor : Actor) (more before : Events T) → list_all (λ (e : Event T). leaves_save e.act) (own actor more) ≡ true →
    open_save (without_tickets (more ++ before)) actor ≡ open_save (without_tickets before) actor
save-over actor [] before h = refl
save-over actor (e ∷ more) before h =
    let head = own-head leaves_save e (own actor more) (actor_same actor e.actor) (is_drop e.act) refl h in
    let o = open_save (without_tickets (more ++ before)) actor in
    either-left (actor_same actor e.actor) _ o
    (λ mine. save-left e.act o (drop-leaves leaves_save drop-save e.act (is_drop e.act) refl (head.0 mine)))
    ∙ save-over actor more before head.1

pub reads-left : {T : Type 0} (s : Setting T) (mine before after : Events T) → list_all (λ (e : Event T). leaves_read e.act) mine ≡ true → Adds s mine before after →
    open_read (without_tickets after) s.actor ≡ open_read (without_tickets before) s.actor
reads-left {T} s mine before after h a =
    ap (λ (es : Events T). open_read (without_tickets es) s.actor) a.came
    ∙ read-over s.actor a.more before (ap (list_all (λ (e : Event T). leaves_read e.act)) a.own ∙ h)

pub saves-left : {T : Type 0} (s : Setting T) (mine before after : Events T) → list_all (λ (e : Event T). leaves_save e.act) mine ≡ true → Adds s mine before after →
    open_save (without_tickets after) s.actor ≡ open_save (without_tickets before) s.actor
saves-left {T} s mine before after h a =
    ap (λ (es : Events T). open_save (without_tickets es) s.actor) a.came
    ∙ save-over s.actor a.more before (ap (list_all (λ (e : Event T). leaves_save e.act)) a.own ∙ h)

-- ---- claims

-- an event that opens no claim
abbrev pub leaves_claim : {T : Type 0} → Act T → Bool
leaves_claim (Claim worker made) = false
leaves_claim _ = true

claim-case : {T : Type 0} (act : Act T) (same : Bool) → (same ≡ true → leaves_claim act ≡ true) →
    claim_after_loss (act_with {U = Unit {0}} (λ _. tt) act) (if same then claim_after (act_with {U = Unit {0}} (λ _. tt) act) None else None) ≡ None
claim-case (Claim worker made) true h = absurd (let e : false ≡ true = h refl in cc)
claim-case (Claim worker made) false h = refl
claim-case (Lose worker) true h = refl
claim-case (Lose worker) false h = refl
claim-case (Call command reply) true h = refl
claim-case (Call command reply) false h = refl
claim-case (Served f digest) true h = refl
claim-case (Served f digest) false h = refl
claim-case (Shut f) true h = refl
claim-case (Shut f) false h = refl
claim-case (Done worker made) true h = refl
claim-case (Done worker made) false h = refl
claim-case (Back made) true h = refl
claim-case (Back made) false h = refl
claim-case (Free f) true h = refl
claim-case (Free f) false h = refl
claim-case (Drop worker f) true h = refl
claim-case (Drop worker f) false h = refl
claim-case (Load worker f) true h = refl
claim-case (Load worker f) false h = refl
claim-case (Save f) true h = refl
claim-case (Save f) false h = refl
claim-case (Saved f size digest) true h = refl
claim-case (Saved f size digest) false h = refl
claim-case (Unsave f) true h = refl
claim-case (Unsave f) false h = refl
claim-case (Collect made) true h = refl
claim-case (Collect made) false h = refl

drop-claim : {T : Type 0} (act : Act T) → is_drop act ≡ true → leaves_claim act ≡ true
drop-claim (Drop worker f) h = refl
drop-claim act h = absurd (cc)

claim-over : {T : Type 0} (actor : Actor) (more before : Events T) → list_all (λ (e : Event T). leaves_claim e.act) (own actor more) ≡ true →
    open_claim (without_tickets before) actor ≡ None → open_claim (without_tickets (more ++ before)) actor ≡ None
claim-over actor [] before h none = none
claim-over {T} actor (e ∷ more) before h none =
    let head = own-head leaves_claim e (own actor more) (actor_same actor e.actor) (is_drop e.act) refl h in
    ap (λ o. claim_after_loss (act_with {U = Unit {0}} (λ _. tt) e.act) (if actor_same actor e.actor then claim_after (act_with {U = Unit {0}} (λ _. tt) e.act) o else o))
    (claim-over actor more before head.1 none)
    ∙ claim-case e.act (actor_same actor e.actor) (λ mine. drop-leaves leaves_claim drop-claim e.act (is_drop e.act) refl (head.0 mine))

pub closed-left : {T : Type 0} (s : Setting T) (mine before after : Events T) → list_all (λ (e : Event T). leaves_claim e.act) mine ≡ true → Adds s mine before after →
    open_claim (without_tickets before) s.actor ≡ None → open_claim (without_tickets after) s.actor ≡ None
closed-left {T} s mine before after h a none =
    ap (λ (es : Events T). open_claim (without_tickets es) s.actor) a.came
    ∙ claim-over s.actor a.more before (ap (list_all (λ (e : Event T). leaves_claim e.act)) a.own ∙ h) none

-- ---- nothing open

none-of : {A : Type 0} (x : Option A) → is_none x ≡ true → x ≡ None
none-of None h = refl
none-of (Some x) h = absurd (cc)

-- an idle actor has nothing open
pub record HasNothing (past : Past) (actor : Actor) : Type 0 where
  pub read : open_read past actor ≡ None
  pub claim : open_claim past actor ≡ None
  pub save : open_save past actor ≡ None

pub idle-has : (past : Past) (actor : Actor) → is_idle past actor ≡ true → HasNothing past actor
idle-has past actor h =
    let first = and_parts (is_none (open_read past actor) && is_none (open_claim past actor)) (is_none (open_save past actor)) h in
    let second = and_parts (is_none (open_read past actor)) (is_none (open_claim past actor)) first.0 in
    record { read = none-of _ second.0; claim = none-of _ second.1; save = none-of _ first.1 }

pub has-idle : (past : Past) (actor : Actor) → open_read past actor ≡ None → open_claim past actor ≡ None → open_save past actor ≡ None → is_idle past actor ≡ true
has-idle past actor read claim save =
    and_from (is_none (open_read past actor) && is_none (open_claim past actor)) (is_none (open_save past actor))
    (and_from (is_none (open_read past actor)) (is_none (open_claim past actor)) (ap is_none read) (ap is_none claim)) (ap is_none save)
