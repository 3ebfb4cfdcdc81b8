-- What events of other actors leave an actor.
use Rattle.std.proofs.Common.{◌≡◌, Bool, false, if◌then◌else◌, List, [], ◌∷◌, ◌++◌, Some, None, refl, ap, ◌∙◌}
use Rattle.tl_types.specs.Same.{actor_same, worker_same}
use Rattle.tl_types.specs.declared.actor.Actor.{Actor}
use Rattle.tl_model.specs.declared.event.Act.{Act}
use Rattle.tl_model.specs.declared.event.Act.TheVariants.{Call, Served, Shut, Claim, Done, Back, Lose, Free, Drop, Load, Save, Saved, Unsave, Collect}
use Rattle.tl_model.specs.declared.event.Event.{Event}
use Rattle.tl_model.specs.Past.{Past, act_with, without_tickets}
use Rattle.tl_model.specs.Actors.{OpenClaim, open_read, read_after, open_claim, claim_after, claim_after_loss, open_save, save_after}
use Rattle.tl_laws.specs.Others.{AreOfOthers, LoseNot, loses}

if-other : {A : Type 0} (b : Bool) (mine others : A) → b ≡ false → (if b then mine else others) ≡ others
if-other b mine others h = ap (λ b. if b then mine else others) h

-- an open read stays
pub reads-apart : {T : Type 0} (actor : Actor) (more events : List (Event T)) → AreOfOthers actor more →
    open_read (without_tickets (more ++ events)) actor ≡ open_read (without_tickets events) actor
reads-apart actor [] events others = refl
reads-apart actor (e ∷ more) events others =
    let past : Past = without_tickets (more ++ events) in
    if-other (actor_same actor e.actor) (read_after (act_with {U = Unit {0}} (λ _. tt) e.act) (open_read past actor)) (open_read past actor) others.0
    ∙ reads-apart actor more events others.1

-- so does an open save
pub saves-apart : {T : Type 0} (actor : Actor) (more events : List (Event T)) → AreOfOthers actor more →
    open_save (without_tickets (more ++ events)) actor ≡ open_save (without_tickets events) actor
saves-apart actor [] events others = refl
saves-apart actor (e ∷ more) events others =
    let past : Past = without_tickets (more ++ events) in
    if-other (actor_same actor e.actor) (save_after (act_with {U = Unit {0}} (λ _. tt) e.act) (open_save past actor)) (open_save past actor) others.0
    ∙ saves-apart actor more events others.1

unlost : {T : Type 0} (act : Act T) (claim : OpenClaim) → loses claim.worker act ≡ false → claim_after_loss (act_with {U = Unit {0}} (λ _. tt) act) (Some claim) ≡ Some claim
unlost (Lose worker) claim none = if-other (worker_same worker claim.worker) None (Some claim) none
unlost (Call command reply) claim none = refl
unlost (Served f digest) claim none = refl
unlost (Shut f) claim none = refl
unlost (Claim worker made) claim none = refl
unlost (Done worker made) claim none = refl
unlost (Back made) claim none = refl
unlost (Free f) claim none = refl
unlost (Drop worker f) claim none = refl
unlost (Load worker f) claim none = refl
unlost (Save f) claim none = refl
unlost (Saved f size digest) claim none = refl
unlost (Unsave f) claim none = refl
unlost (Collect made) claim none = refl

-- an open claim stays where its worker is not lost
pub claims-apart : {T : Type 0} (actor : Actor) (more events : List (Event T)) (claim : OpenClaim) → AreOfOthers actor more → LoseNot claim.worker more →
    open_claim (without_tickets events) actor ≡ Some claim → open_claim (without_tickets (more ++ events)) actor ≡ Some claim
claims-apart actor [] events claim others kept is = is
claims-apart actor (e ∷ more) events claim others kept is =
    let past : Past = without_tickets (more ++ events) in
    let act : Act (Unit {0}) = act_with {U = Unit {0}} (λ _. tt) e.act in
    ap (claim_after_loss act)
    (if-other (actor_same actor e.actor) (claim_after act (open_claim past actor)) (open_claim past actor) others.0
    ∙ claims-apart actor more events claim others.1 kept.1 is)
    ∙ unlost e.act claim kept.0

none-lost : (act : Act (Unit {0})) → claim_after_loss act None ≡ None
none-lost (Lose worker) = refl
none-lost _ = refl

-- and where none is open, none comes
pub no-claim-apart : {T : Type 0} (actor : Actor) (more events : List (Event T)) → AreOfOthers actor more →
    open_claim (without_tickets events) actor ≡ None → open_claim (without_tickets (more ++ events)) actor ≡ None
no-claim-apart actor [] events others is = is
no-claim-apart actor (e ∷ more) events others is =
    let past : Past = without_tickets (more ++ events) in
    let act : Act (Unit {0}) = act_with {U = Unit {0}} (λ _. tt) e.act in
    ap (claim_after_loss act)
    (if-other (actor_same actor e.actor) (claim_after act (open_claim past actor)) (open_claim past actor) others.0
    ∙ no-claim-apart actor more events others.1 is)
    ∙ none-lost act
