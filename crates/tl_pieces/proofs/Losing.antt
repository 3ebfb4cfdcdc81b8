-- A claim that nobody's loss of its worker takes stays open.
use Rattle.std.proofs.Common.{◌≡◌, Bool, true, false, ◌&&◌, ◌||◌, not, if◌then◌else◌, [], ◌∷◌, ◌++◌, Some, None, cond, refl, sym, ap, ◌∙◌, append_assoc}
use Rattle.std.specs.List.{list_any}
use Rattle.std.proofs.lemmas.List.Folds.{list_any-append}
use Rattle.tl_types.specs.Same.{actor_same, actor_same-Decides, worker_same, worker_same-Decides}
use Rattle.tl_types.specs.declared.actor.Actor.{Actor}
use Rattle.tl_types.specs.declared.worker_id.WorkerId.{WorkerId}
use Rattle.tl_model.specs.declared.event.Act.{Act}
use Rattle.tl_model.specs.declared.event.Act.TheVariants.{Claim, Drop, Lose}
use Rattle.tl_model.specs.declared.event.Event.{Event}
use Rattle.tl_model.specs.Actors.{OpenClaim, claim_after, claim_after_loss, open_claim}
use Rattle.tl_model.specs.Past.{Past, act_with, without_tickets}
use Rattle.tl_pieces.specs.Setting.{Setting, Events, event_by}
use Rattle.tl_pieces.specs.Own.{is_drop, is_own, own}
use Rattle.tl_pieces.specs.Runs.{IsRun, Lost, Run, ending, is_loss, loses}
use Rattle.tl_pieces.proofs.Others.{own-none, some-not-none}

neither : (a b : Bool) → (a || b) ≡ false → (a ≡ false) × (b ≡ false)
neither true b h = absurd (cc)
neither false b h = (refl, h)

flipped : (v w : WorkerId) (b : Bool) → worker_same w v ≡ b → worker_same v w ≡ false → b ≡ false
flipped v w true is other = absurd (let same : worker_same v w ≡ true = (worker_same-Decides v w).1 (sym ((worker_same-Decides w v).0 is)) in cc)
flipped v w false is other = refl

stays-case : {T : Type 0} (same : Bool) (act : Act T) (claim : OpenClaim) → (same && not (is_drop act)) ≡ false → loses claim.worker act ≡ false →
    claim_after_loss (act_with {U = Unit {0}} (λ _. tt) act) (if same then claim_after (act_with {U = Unit {0}} (λ _. tt) act) (Some claim) else Some claim) ≡ Some claim
stays-case false (Lose w) claim h kept = ap (λ b. if b then None else Some claim) (flipped claim.worker w (worker_same w claim.worker) refl kept)
stays-case false act claim h kept = refl
stays-case true (Drop w f) claim h kept = refl
stays-case true act claim h kept = absurd (cc)

-- after others' events without a loss of its worker
claim-kept : {T : Type 0} (actor : Actor) (claim : OpenClaim) (before more : Events T) → own actor more ≡ [] → list_any (is_loss claim.worker) more ≡ false →
    open_claim (without_tickets before) actor ≡ Some claim → open_claim (without_tickets (more ++ before)) actor ≡ Some claim
claim-kept actor claim before [] none kept is = is
claim-kept actor claim before (e ∷ more) none kept is =
    let parts = own-none (is_own actor e) e (own actor more) none in
    let losses = neither (is_loss claim.worker e) (list_any (is_loss claim.worker) more) kept in
    ap (λ o. claim_after_loss (act_with {U = Unit {0}} (λ _. tt) e.act) (if actor_same actor e.actor then claim_after (act_with {U = Unit {0}} (λ _. tt) e.act) o else o))
    (claim-kept actor claim before more parts.1 losses.1 is)
    ∙ stays-case (actor_same actor e.actor) e.act claim parts.0 losses.0

claim-is : {T : Type 0} (actor : Actor) (claim : OpenClaim) (e : Event T) (past : Events T) → e ≡ event_by actor (Claim claim.worker claim.made) →
    open_claim (without_tickets (e ∷ past)) actor ≡ Some claim
claim-is {T} actor claim e past is =
    ap (λ (x : Event T). open_claim (without_tickets (x ∷ past)) actor) is
    ∙ ap (λ b. if b then Some claim else open_claim (without_tickets past) actor) ((actor_same-Decides actor actor).1 refl)

claim-step : {T : Type 0} (actor : Actor) (claim : OpenClaim) (before : Events T) (e : Event T) (more : Events T) (b : Bool) → is_own actor e ≡ b →
    cond b (e ∷ own actor more) (own actor more) ≡ event_by actor (Claim claim.worker claim.made) ∷ [] → is_loss claim.worker e ≡ false →
    (own actor more ≡ event_by actor (Claim claim.worker claim.made) ∷ [] → open_claim (without_tickets (more ++ before)) actor ≡ Some claim) →
    open_claim (without_tickets (e ∷ more ++ before)) actor ≡ Some claim
claim-step actor claim before e more true is h kept earlier = claim-is actor claim e (more ++ before) (cc)
claim-step actor claim before e more false is h kept earlier =
    ap (λ o. claim_after_loss (act_with {U = Unit {0}} (λ _. tt) e.act) (if actor_same actor e.actor then claim_after (act_with {U = Unit {0}} (λ _. tt) e.act) o else o)) (earlier h)
    ∙ stays-case (actor_same actor e.actor) e.act claim is kept

-- after the claim among others' events without a loss of its worker
claim-made : {T : Type 0} (actor : Actor) (claim : OpenClaim) (before more : Events T) → own actor more ≡ event_by actor (Claim claim.worker claim.made) ∷ [] →
    list_any (is_loss claim.worker) more ≡ false → open_claim (without_tickets (more ++ before)) actor ≡ Some claim
claim-made actor claim before [] mine kept = absurd (cc)
claim-made actor claim before (e ∷ more) mine kept =
    let losses = neither (is_loss claim.worker e) (list_any (is_loss claim.worker) more) kept in
    claim-step actor claim before e more (is_own actor e) refl mine losses.0 (λ h. claim-made actor claim before more h losses.1)

not-false : (b : Bool) → (b ≡ false → ⊥) → b ≡ true
not-false true h = refl
not-false false h = absurd (h refl)

either : (a b c : Bool) → (a || b) ≡ true → (a || (b || c)) ≡ true
either true b c h = refl
either false true c h = refl
either false false c h = absurd (cc)

pub lost-by-loss : {T : Type 0} (s : Setting T) (worker : WorkerId) (is_so : Past → Bool) (run : Run) (before after : Events T) → IsRun s worker is_so run before after →
    run.end ≡ Lost → (more : Events T) × (after ≡ more ++ before) × (list_any (is_loss worker) more ≡ true)
lost-by-loss {T} s worker is_so run before after r lost =
    let claim : OpenClaim = record { worker = worker; made = run.made } in
    let ended = list_any (is_loss worker) r.ends.more in
    let claimed = list_any (is_loss worker) r.claims.more in
    let some : (ended || claimed) ≡ true = not-false (ended || claimed) (λ h.
    let kept = neither ended claimed h in
    let opened : open_claim (without_tickets r.claimed_at) s.actor ≡ Some claim =
    ap (λ es. open_claim (without_tickets es) s.actor) r.claims.came ∙ claim-made s.actor claim r.looked_at r.claims.more r.claims.own kept.1 in
    let still = claim-kept s.actor claim r.claimed_at r.ends.more (r.ends.own ∙ ap (ending {T = T} s.actor worker run.made) lost) kept.0 opened in
    some-not-none claim (sym still ∙ ap (λ es. open_claim (without_tickets es) s.actor) (sym r.ends.came) ∙ r.closed)) in (
      r.ends.more ++ (r.claims.more ++ r.looks.more),
      r.ends.came ∙ ap (λ es. r.ends.more ++ es) (r.claims.came ∙ ap (λ es. r.claims.more ++ es) r.looks.came ∙ sym (append_assoc r.claims.more r.looks.more before))
          ∙ sym (append_assoc r.ends.more (r.claims.more ++ r.looks.more) before),
      list_any-append (is_loss worker) r.ends.more (r.claims.more ++ r.looks.more) ∙ ap (λ b. ended || b) (list_any-append (is_loss worker) r.claims.more r.looks.more)
          ∙ either ended claimed (list_any (is_loss worker) r.looks.more) some,
    )
