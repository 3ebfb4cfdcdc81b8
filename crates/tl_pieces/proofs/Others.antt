-- Others' events, and an actor's own drops, leave what the actor has open.
use Rattle.std.proofs.Common.{◌≡◌, Bool, true, false, ◌&&◌, not, List, [], ◌∷◌, ◌++◌, Option, Some, None, is_none, cond, if◌then◌else◌, refl, sym, ap, ◌∙◌, subst}
use Rattle.std.specs.List.{list_all}
use Rattle.std.proofs.lemmas.Bool.{and_from, and_parts}
use Rattle.tl_types.specs.Same.{actor_same}
use Rattle.tl_types.specs.declared.actor.Actor.{Actor}
use Rattle.tl_types.specs.declared.file_id.FileId.{FileId}
use Rattle.tl_types.specs.declared.record_id.RecordId.{RecordId}
use Rattle.tl_types.specs.declared.worker_id.WorkerId.{WorkerId}
use Rattle.tl_model.specs.declared.event.Act.{Act}
use Rattle.tl_model.specs.declared.event.Act.TheVariants.{Claim, Drop, Lose}
use Rattle.tl_model.specs.declared.event.Event.{Event}
use Rattle.tl_model.specs.Actors.{OpenClaim, OpenRead, claim_after, claim_after_loss, is_idle, open_claim, open_read, open_save, read_after, save_after}
use Rattle.tl_model.specs.Past.{Past, act_with, event_with, without_tickets}
use Rattle.tl_pieces.specs.Setting.{Setting, Events, event_by}
use Rattle.tl_pieces.specs.Own.{Adds, is_by, is_drop, is_own, own}

pub some-not-none : {A : Type 0} (x : A) → Some x ≡ None → ⊥
some-not-none x e = absurd (cc)

-- ---- an event that is none of the actor's own

pub own-none : {A : Type 0} (b : Bool) (x : A) (xs : List A) → cond b (x ∷ xs) xs ≡ [] → (b ≡ false) × (xs ≡ [])
own-none true x xs h = absurd (cc)
own-none false x xs h = (refl, h)

plain : {T : Type 0} → Act T → Act (Unit {0})
plain act = act_with (λ _. tt) act

read-case : {T : Type 0} (same : Bool) (act : Act T) (open_ : Option OpenRead) → (same && not (is_drop act)) ≡ false →
    (if same then read_after (act_with {U = Unit {0}} (λ _. tt) act) open_ else open_) ≡ open_
read-case false act open_ h = refl
read-case true (Drop worker f) open_ h = refl
read-case true act open_ h = absurd (cc)

save-case : {T : Type 0} (same : Bool) (act : Act T) (open_ : Option FileId) → (same && not (is_drop act)) ≡ false →
    (if same then save_after (act_with {U = Unit {0}} (λ _. tt) act) open_ else open_) ≡ open_
save-case false act open_ h = refl
save-case true (Drop worker f) open_ h = refl
save-case true act open_ h = absurd (cc)

loss-none : (act : Act (Unit {0})) → claim_after_loss act None ≡ None
loss-none (Lose worker) = refl
loss-none act = refl

claim-case : {T : Type 0} (same : Bool) (act : Act T) → (same && not (is_drop act)) ≡ false →
    claim_after_loss (act_with {U = Unit {0}} (λ _. tt) act) (if same then claim_after (act_with {U = Unit {0}} (λ _. tt) act) None else None) ≡ None
claim-case false act h = loss-none (act_with (λ _. tt) act)
claim-case true (Drop worker f) h = refl
claim-case true act h = absurd (cc)

-- what each event that is none of the actor's own leaves so is left so by many
pub others-leave : {T : Type 0} (actor : Actor) (P : Past → Type 0) →
    ((e : Event T) (past : Past) → is_own actor e ≡ false → P past → P (event_with (λ _. tt) e ∷ past)) →
    (more before : Events T) → own actor more ≡ [] → P (without_tickets before) → P (without_tickets (more ++ before))
others-leave actor P step [] before h p = p
others-leave actor P step (e ∷ more) before h p =
    let parts = own-none (is_own actor e) e (own actor more) h in
    step e (without_tickets (more ++ before)) parts.0 (others-leave actor P step more before parts.1 p)

pub claim-stays : {T : Type 0} (s : Setting T) (before after : Events T) → Adds s [] before after →
    open_claim (without_tickets before) s.actor ≡ None → open_claim (without_tickets after) s.actor ≡ None
claim-stays s before after a none =
    subst (λ es. open_claim (without_tickets es) s.actor ≡ None) (sym a.came)
    (others-leave s.actor (λ past. open_claim past s.actor ≡ None)
    (λ e past other is. ap (λ o. claim_after_loss (act_with {U = Unit {0}} (λ _. tt) e.act) (if actor_same s.actor e.actor then claim_after (act_with {U = Unit {0}} (λ _. tt) e.act) o else o)) is
    ∙ claim-case (actor_same s.actor e.actor) e.act other)
    a.more before a.own none)

pub read-stays : {T : Type 0} (s : Setting T) (before after : Events T) → Adds s [] before after →
    open_read (without_tickets after) s.actor ≡ open_read (without_tickets before) s.actor
read-stays s before after a =
    ap (λ es. open_read (without_tickets es) s.actor) a.came
    ∙ others-leave s.actor (λ past. open_read past s.actor ≡ open_read (without_tickets before) s.actor)
    (λ e past other is. read-case (actor_same s.actor e.actor) e.act (open_read past s.actor) other ∙ is)
    a.more before a.own refl

pub save-stays : {T : Type 0} (s : Setting T) (before after : Events T) → Adds s [] before after →
    open_save (without_tickets after) s.actor ≡ open_save (without_tickets before) s.actor
save-stays s before after a =
    ap (λ es. open_save (without_tickets es) s.actor) a.came
    ∙ others-leave s.actor (λ past. open_save past s.actor ≡ open_save (without_tickets before) s.actor)
    (λ e past other is. save-case (actor_same s.actor e.actor) e.act (open_save past s.actor) other ∙ is)
    a.more before a.own refl

none-of : {A : Type 0} (x : Option A) → is_none x ≡ true → x ≡ None
none-of None h = refl
none-of (Some x) h = absurd (cc)

pub rest-stays : {T : Type 0} (s : Setting T) (before after : Events T) → Adds s [] before after →
    is_idle (without_tickets before) s.actor ≡ true → is_idle (without_tickets after) s.actor ≡ true
rest-stays s before after a idle =
    let read = open_read (without_tickets before) s.actor in
    let claim = open_claim (without_tickets before) s.actor in
    let save = open_save (without_tickets before) s.actor in
    let first = and_parts (is_none read && is_none claim) (is_none save) idle in
    let second = and_parts (is_none read) (is_none claim) first.0 in
    let claim_is = claim-stays s before after a (none-of claim second.1) in
    and_from (is_none (open_read (without_tickets after) s.actor) && is_none (open_claim (without_tickets after) s.actor)) (is_none (open_save (without_tickets after) s.actor))
    (and_from (is_none (open_read (without_tickets after) s.actor)) (is_none (open_claim (without_tickets after) s.actor))
    (ap is_none (read-stays s before after a) ∙ second.0) (ap is_none claim_is))
    (ap is_none (save-stays s before after a) ∙ first.1)

-- ---- where all that came is the actor's

drop-claim : {T : Type 0} (same : Bool) (act : Act T) (open_ : Option OpenClaim) → same ≡ true → (same && not (is_drop act)) ≡ false →
    claim_after_loss (act_with {U = Unit {0}} (λ _. tt) act) (if same then claim_after (act_with {U = Unit {0}} (λ _. tt) act) open_ else open_) ≡ open_
drop-claim false act open_ is h = absurd (cc)
drop-claim true (Drop worker f) open_ is h = refl
drop-claim true act open_ is h = absurd (cc)

-- the actor's drops leave its claim
pub claim-same : {T : Type 0} (actor : Actor) (before more : Events T) → own actor more ≡ [] → list_all (is_by actor) more ≡ true →
    open_claim (without_tickets (more ++ before)) actor ≡ open_claim (without_tickets before) actor
claim-same actor before [] none all = refl
claim-same actor before (e ∷ more) none all =
    let parts = own-none (is_own actor e) e (own actor more) none in
    let mine = and_parts (is_by actor e) (list_all (is_by actor) more) all in
    drop-claim (actor_same actor e.actor) e.act (open_claim (without_tickets (more ++ before)) actor) mine.0 parts.0
    ∙ claim-same actor before more parts.1 mine.1

claim-opened : {T : Type 0} (actor : Actor) (worker : WorkerId) (made : RecordId) (e : Event T) (past : Past) → is_by actor e ≡ true → e ≡ event_by actor (Claim worker made) →
    open_claim (event_with (λ _. tt) e ∷ past) actor ≡ Some (record { worker = worker; made = made })
claim-opened {T} actor worker made e past same is =
    ap (λ (x : Event T). open_claim (event_with (λ _. tt) x ∷ past) actor) is
    ∙ ap (λ b. if b then Some (record { worker = worker; made = made }) else open_claim past actor) (sym (ap (is_by actor) is) ∙ same)

claim-opens-by : {T : Type 0} (actor : Actor) (worker : WorkerId) (made : RecordId) (before : Events T) (e : Event T) (more : Events T) (b : Bool) → is_own actor e ≡ b →
    cond b (e ∷ own actor more) (own actor more) ≡ event_by actor (Claim worker made) ∷ [] → is_by actor e ≡ true →
    (own actor more ≡ event_by actor (Claim worker made) ∷ [] → open_claim (without_tickets (more ++ before)) actor ≡ Some (record { worker = worker; made = made })) →
    open_claim (without_tickets (e ∷ more ++ before)) actor ≡ Some (record { worker = worker; made = made })
claim-opens-by actor worker made before e more true is h same earlier = claim-opened actor worker made e (without_tickets (more ++ before)) same (cc)
claim-opens-by actor worker made before e more false is h same earlier =
    drop-claim (actor_same actor e.actor) e.act (open_claim (without_tickets (more ++ before)) actor) same is ∙ earlier h

-- a claim that is all that the actor did is open
pub claim-opens : {T : Type 0} (actor : Actor) (worker : WorkerId) (made : RecordId) (before more : Events T) → own actor more ≡ event_by actor (Claim worker made) ∷ [] →
    list_all (is_by actor) more ≡ true → open_claim (without_tickets (more ++ before)) actor ≡ Some (record { worker = worker; made = made })
claim-opens actor worker made before [] mine all = absurd (cc)
claim-opens actor worker made before (e ∷ more) mine all =
    let by = and_parts (is_by actor e) (list_all (is_by actor) more) all in
    claim-opens-by actor worker made before e more (is_own actor e) refl mine by.0 (λ h. claim-opens actor worker made before more h by.1)
