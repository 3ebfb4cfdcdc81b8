-- What an actor's own events leave of what is open.
use Rattle.std.proofs.Common.{◌≡◌, ℕ, Bool, true, false, ◌&&◌, not, List, [], ◌∷◌, ◌++◌, cond, None, if◌then◌else◌, refl, sym, ap, ◌∙◌, subst}
use Rattle.std.specs.List.{list_all}
use Rattle.std.proofs.lemmas.Bool.{and_parts}
use Rattle.tl_types.specs.Same.{actor_same}
use Rattle.tl_types.specs.declared.actor.Actor.{Actor}
use Rattle.tl_model.specs.declared.command.Command.{Command}
use Rattle.tl_model.specs.declared.command.Command.TheVariants.{Read}
use Rattle.tl_model.specs.declared.reply.Reply.{Reply}
use Rattle.tl_model.specs.declared.reply.Reply.TheVariants.{Opened}
use Rattle.tl_model.specs.declared.event.Act.{Act}
use Rattle.tl_model.specs.declared.event.Act.TheVariants.{Call, Claim, Drop, Lose, Save}
use Rattle.tl_model.specs.declared.event.Event.{Event}
use Rattle.tl_model.specs.Actors.{claim_after, claim_after_loss, is_idle, read_after, save_after}
use Rattle.tl_model.specs.Past.{act_with, without_tickets}
use Rattle.tl_pieces.specs.Setting.{Setting, Events}
use Rattle.tl_pieces.specs.Own.{Adds, is_by, is_drop, own}
use Rattle.tl_work.specs.Runs.{NothingRuns}
use Rattle.tl_clients.specs.Asks.{asks_no_read}
use Rattle.tl_clients.specs.Ready.{IsReady}
use Rattle.tl_desk.specs.Finds.{Post}
use Rattle.tl_types.specs.declared.worker_id.WorkerId.{WorkerId}
use Rattle.tl_work.specs.Setting.{setting}
use Rattle.tl_work.proofs.Open.{has-idle, idle-has, leaves_claim}

-- what the actor did passes a test that drops pass
own-head : {T : Type 0} (test : Act T → Bool) → ((act : Act T) → is_drop act ≡ true → test act ≡ true) → (e : Event T) (rest : Events T) (same d : Bool) → is_drop e.act ≡ d →
    list_all (λ (x : Event T). test x.act) (cond (same && not d) (e ∷ rest) rest) ≡ true →
    ((same ≡ true → test e.act ≡ true) × (list_all (λ (x : Event T). test x.act) rest ≡ true))
own-head {T} test drops e rest true true is h = ((λ s. drops e.act is), h)
own-head {T} test drops e rest true false is h =
    let parts = and_parts (test e.act) (list_all (λ (x : Event T). test x.act) rest) h in ((λ s. parts.0), parts.1)
own-head {T} test drops e rest false d is h = ((λ s. absurd (cc)), h)

-- ---- claims

drop-claim : {T : Type 0} (act : Act T) → is_drop act ≡ true → leaves_claim act ≡ true
drop-claim (Drop worker f) h = refl
drop-claim act h = absurd (cc)

claim-none : {T : Type 0} (act : Act T) (same : Bool) → leaves_claim act ≡ true →
    claim_after_loss (act_with {U = Unit {0}} (λ _. tt) act) (if same then claim_after (act_with {U = Unit {0}} (λ _. tt) act) None else None) ≡ None
claim-none (Claim worker made) same h = absurd (cc)
claim-none act true h = refl
claim-none act false h = refl

runs-over : {T : Type 0} (actor : Actor) (more before : Events T) → list_all (is_by actor) more ≡ true →
    list_all (λ (e : Event T). leaves_claim e.act) (own actor more) ≡ true → NothingRuns before → NothingRuns (more ++ before)
runs-over actor [] before mine h none = none
runs-over {T} actor (e ∷ more) before mine h none = λ other.
    let by = and_parts (is_by actor e) (list_all (is_by actor) more) mine in
    let head = own-head leaves_claim drop-claim e (own actor more) (actor_same actor e.actor) (is_drop e.act) refl h in
    ap (λ o. claim_after_loss (act_with {U = Unit {0}} (λ _. tt) e.act) (if actor_same other e.actor then claim_after (act_with {U = Unit {0}} (λ _. tt) e.act) o else o))
    (runs-over actor more before by.1 head.1 none other)
    ∙ claim-none e.act (actor_same other e.actor) (head.0 by.0)

-- where the actor has the journal to itself, and opened no claim, nothing runs still
pub nothing-runs-on : {T : Type 0} (s : Setting T) (mine before after : Events T) → s.whole ≡ true → Adds s mine before after →
    list_all (λ (e : Event T). leaves_claim e.act) mine ≡ true → NothingRuns before → NothingRuns after
nothing-runs-on {T} s mine before after whole a h none =
    subst NothingRuns (sym a.came)
    (runs-over s.actor a.more before (a.alone whole) (ap (list_all (λ (e : Event T). leaves_claim e.act)) a.own ∙ h) none)

-- ---- all that is open

-- an event that opens nothing
abbrev pub opens_nothing : {T : Type 0} → Act T → Bool
opens_nothing (Call command reply) = asks_no_read command
opens_nothing (Claim worker made) = false
opens_nothing (Save f) = false
opens_nothing _ = true

drop-opens : {T : Type 0} (act : Act T) → is_drop act ≡ true → opens_nothing act ≡ true
drop-opens (Drop worker f) h = refl
drop-opens act h = absurd (cc)

pub opens-no-claim : {T : Type 0} (act : Act T) → opens_nothing act ≡ true → leaves_claim act ≡ true
opens-no-claim (Claim worker made) h = absurd (cc)
opens-no-claim act h = refl

pub open-no-claim : {T : Type 0} (events : Events T) → list_all (λ (e : Event T). opens_nothing e.act) events ≡ true →
    list_all (λ (e : Event T). leaves_claim e.act) events ≡ true
open-no-claim [] h = refl
open-no-claim {T} (e ∷ events) h =
    let parts = and_parts (opens_nothing e.act) (list_all (λ (x : Event T). opens_nothing x.act) events) h in
    ap (λ b. b && list_all (λ (x : Event T). leaves_claim x.act) events) (opens-no-claim e.act parts.0) ∙ open-no-claim events parts.1

call-opens : {T : Type 0} (reply : Reply) (command : Command T) → asks_no_read command ≡ true →
    read_after (act_with {U = Unit {0}} (λ _. tt) (Call command reply)) None ≡ None
call-opens reply (Read path prio form) h = absurd (cc)
call-opens (Opened f) command h = refl
call-opens reply command h = refl

read-none : {T : Type 0} (act : Act T) (same : Bool) → (same ≡ true → opens_nothing act ≡ true) →
    (if same then read_after (act_with {U = Unit {0}} (λ _. tt) act) None else None) ≡ None
read-none act false h = refl
read-none (Call command reply) true h = call-opens reply command (h refl)
read-none act true h = refl

save-none : {T : Type 0} (act : Act T) (same : Bool) → (same ≡ true → opens_nothing act ≡ true) →
    (if same then save_after (act_with {U = Unit {0}} (λ _. tt) act) None else None) ≡ None
save-none act false h = refl
save-none (Save f) true h = absurd (let e : false ≡ true = h refl in cc)
save-none act true h = refl

loss-none : (act : Act (Unit {0})) → claim_after_loss act None ≡ None
loss-none (Lose worker) = refl
loss-none act = refl

claim-closed : {T : Type 0} (act : Act T) (same : Bool) → (same ≡ true → opens_nothing act ≡ true) →
    claim_after_loss (act_with {U = Unit {0}} (λ _. tt) act) (if same then claim_after (act_with {U = Unit {0}} (λ _. tt) act) None else None) ≡ None
claim-closed (Claim worker made) true h = absurd (let e : false ≡ true = h refl in cc)
claim-closed act false h = loss-none (act_with (λ _. tt) act)
claim-closed act true h = refl

idle-over : {T : Type 0} (actor : Actor) (more before : Events T) → list_all (λ (e : Event T). opens_nothing e.act) (own actor more) ≡ true →
    is_idle (without_tickets before) actor ≡ true → is_idle (without_tickets (more ++ before)) actor ≡ true
idle-over actor [] before h idle = idle
idle-over {T} actor (e ∷ more) before h idle =
    let head = own-head opens_nothing drop-opens e (own actor more) (actor_same actor e.actor) (is_drop e.act) refl h in
    let has = idle-has (without_tickets (more ++ before)) actor (idle-over actor more before head.1 idle) in
    let same = actor_same actor e.actor in
    has-idle (without_tickets (e ∷ more ++ before)) actor
    (ap (λ o. if actor_same actor e.actor then read_after (act_with {U = Unit {0}} (λ _. tt) e.act) o else o) has.read ∙ read-none e.act same head.0)
    (ap (λ o. claim_after_loss (act_with {U = Unit {0}} (λ _. tt) e.act) (if actor_same actor e.actor then claim_after (act_with {U = Unit {0}} (λ _. tt) e.act) o else o)) has.claim
    ∙ claim-closed e.act same head.0)
    (ap (λ o. if actor_same actor e.actor then save_after (act_with {U = Unit {0}} (λ _. tt) e.act) o else o) has.save ∙ save-none e.act same head.0)

-- an idle actor that opened nothing is idle still
pub idle-on : {T : Type 0} (s : Setting T) (mine before after : Events T) → Adds s mine before after →
    list_all (λ (e : Event T). opens_nothing e.act) mine ≡ true → is_idle (without_tickets before) s.actor ≡ true → is_idle (without_tickets after) s.actor ≡ true
idle-on {T} s mine before after a h idle =
    subst (λ (es : Events T). is_idle (without_tickets es) s.actor ≡ true) (sym a.came)
    (idle-over s.actor a.more before (ap (list_all (λ (e : Event T). opens_nothing e.act)) a.own ∙ h) idle)

-- ---- a client that can be asked again

-- at the same post a client that is idle is ready, if nothing runs where it sees the whole journal
pub ready-at : {T : Type 0} (whole : Bool) (post post' : Post) (worker : WorkerId) (before after : Events T) → post' ≡ post →
    IsReady whole post worker before → is_idle (without_tickets after) post.actor ≡ true → (whole ≡ true → NothingRuns after) →
    IsReady whole post' worker after
ready-at {T} whole post post' worker before after same ready idle alone =
    subst (λ (p : Post). IsReady whole p worker after) (sym same)
    (record { client = ready.client; worker_is = ready.worker_is; idle = idle; alone = alone })

-- a client that opened nothing is ready still
pub ready-on : {T : Type 0} (whole tells : Bool) (content : T → List ℕ) (post post' : Post) (worker : WorkerId) (mine before after : Events T) → post' ≡ post →
    Adds (setting whole tells content post worker) mine before after → list_all (λ (e : Event T). opens_nothing e.act) mine ≡ true →
    IsReady whole post worker before → IsReady whole post' worker after
ready-on {T} whole tells content post post' worker mine before after same a h ready =
    let s : Setting T = setting whole tells content post worker in
    ready-at whole post post' worker before after same ready (idle-on s mine before after a h ready.idle)
    (λ is. nothing-runs-on s mine before after is a (open-no-claim mine h) (ready.alone is))
