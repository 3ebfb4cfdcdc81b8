-- How the claim of a job ends.
use Rattle.std.proofs.Common.{◌≡◌, ◌≢◌, ◌⊎◌, inl, inr, ◌<◌, ◌+◌, ℕ, Bool, true, false, [], ◌∷◌, ◌++◌, Option, Some, None, if◌then◌else◌, refl, sym, ap, ◌∙◌, subst, arith}
use Rattle.tl_types.specs.Same.{actor_same, worker_same, worker_same-Decides}
use Rattle.tl_types.specs.declared.actor.Actor.{Actor}
use Rattle.tl_types.specs.declared.worker_id.WorkerId.{WorkerId}
use Rattle.tl_model.specs.declared.event.Act.{Act}
use Rattle.tl_model.specs.declared.event.Act.TheVariants.{Call, Served, Shut, Claim, Done, Back, Lose, Free, Drop, Load, Save, Saved, Unsave, Collect}
use Rattle.tl_model.specs.Actors.{OpenClaim, claim_after, claim_after_loss, open_claim}
use Rattle.tl_model.specs.Past.{act_with, without_tickets}
use Rattle.tl_laws.specs.Others.{AreOfOthers}
use Rattle.tl_laws_drops.specs.Drops.{DropsFollow}
use Rattle.tl_laws_drops.proofs.ManyDrops.{claim-kept}
use Rattle.tl_laws_drops.proofs.Tickets.{drops-without-tickets}
use Rattle.tl_cluster.specs.Losses.{incarnation, loses}
use Rattle.tl_desk.specs.Finds.{Finds, Turns}
use Rattle.tl_desk.specs.Turns.{Finishes, GivesBack, IsUnlessLost, with_act}
use Rattle.tl_cluster.specs.declared.work.Finish.TheVariants as finish
use Rattle.tl_cluster.specs.declared.work.Work.{Work}
use Rattle.tl_pieces.specs.Setting.{Setting, Events, event_by}
use Rattle.tl_pieces.specs.Runs.{GivenBack, Installed, Lost}
use Rattle.tl_pieces.proofs.Adding.{added-then}
use Rattle.tl_work.specs.Runs.{EndsWork, GivesBackWork, IsTakenUp}
use Rattle.tl_work.proofs.Finding.{finds-twice, found-adds, same-actor, turn-adds}

-- ---- losses by others

-- what is known of a claim while others' events come: it is open, and its worker was lost no more
-- often; or it was lost
abbrev pub OpenOrLost : {T : Type 0} → Actor → OpenClaim → ℕ → Events T → Type 0
OpenOrLost actor claim times events =
    ((open_claim (without_tickets events) actor ≡ Some claim) × (incarnation events claim.worker ≡ times))
    ⊎ ((open_claim (without_tickets events) actor ≡ None) × (times < incarnation events claim.worker))

more-yet : (times n : ℕ) (b : Bool) → times < n → times < (if b then n + 1 else n)
more-yet times n true less = omega arith
more-yet times n false less = less

lost-now : (claim : OpenClaim) (times n : ℕ) (worker : WorkerId) (c : OpenClaim) (b : Bool) → worker_same claim.worker worker ≡ b →
    (b' : Bool) → worker_same worker c.worker ≡ b' → (Some c ≡ Some claim) × (n ≡ times) →
    (((if b' then None else Some c) ≡ Some claim) × ((if b then n + 1 else n) ≡ times))
    ⊎ (((if b' then None else Some c) ≡ None) × (times < (if b then n + 1 else n)))
lost-now claim times n worker c true is true is' h = inr (refl, let e : n ≡ times = h.1 in omega arith)
lost-now claim times n worker c false is false is' h = inl (h.0, h.1)
lost-now claim times n worker c true is false is' h =
    let one : claim.worker ≡ worker = (worker_same-Decides claim.worker worker).0 is in
    let c_is : c ≡ claim = cc in
    let no : true ≡ false = sym ((worker_same-Decides worker c.worker).1 (sym one ∙ ap (λ (x : OpenClaim). x.worker) (sym c_is))) ∙ is' in
    absurd (cc)
lost-now claim times n worker c false is true is' h =
    let one : worker ≡ c.worker = (worker_same-Decides worker c.worker).0 is' in
    let c_is : c ≡ claim = cc in
    let no : true ≡ false = sym ((worker_same-Decides claim.worker worker).1 (ap (λ (x : OpenClaim). x.worker) (sym c_is) ∙ sym one)) ∙ is in
    absurd (cc)

loss-step : {T : Type 0} (claim : OpenClaim) (times n : ℕ) (act : Act T) (same : Bool) (o : Option OpenClaim) → same ≡ false →
    ((o ≡ Some claim) × (n ≡ times)) ⊎ ((o ≡ None) × (times < n)) →
    ((claim_after_loss (act_with {U = Unit {0}} (λ _. tt) act) (if same then claim_after (act_with {U = Unit {0}} (λ _. tt) act) o else o) ≡ Some claim)
    × ((if loses claim.worker act then n + 1 else n) ≡ times))
    ⊎ ((claim_after_loss (act_with {U = Unit {0}} (λ _. tt) act) (if same then claim_after (act_with {U = Unit {0}} (λ _. tt) act) o else o) ≡ None)
    × (times < (if loses claim.worker act then n + 1 else n)))
loss-step claim times n act true o other h = absurd (cc)
loss-step claim times n (Call command reply) false o other h = h
loss-step claim times n (Served f digest) false o other h = h
loss-step claim times n (Shut f) false o other h = h
loss-step claim times n (Claim worker made) false o other h = h
loss-step claim times n (Done worker made) false o other h = h
loss-step claim times n (Back made) false o other h = h
loss-step claim times n (Free f) false o other h = h
loss-step claim times n (Drop worker f) false o other h = h
loss-step claim times n (Load worker f) false o other h = h
loss-step claim times n (Save f) false o other h = h
loss-step claim times n (Saved f size digest) false o other h = h
loss-step claim times n (Unsave f) false o other h = h
loss-step claim times n (Collect made) false o other h = h
loss-step claim times n (Lose worker) false None other (inl h) = absurd (cc)
loss-step claim times n (Lose worker) false (Some c) other (inl h) =
    lost-now claim times n worker c (worker_same claim.worker worker) refl (worker_same worker c.worker) refl h
loss-step claim times n (Lose worker) false None other (inr h) = inr (refl, more-yet times n (worker_same claim.worker worker) h.1)
loss-step claim times n (Lose worker) false (Some c) other (inr h) = absurd (cc)

pub open-or-lost : {T : Type 0} (actor : Actor) (claim : OpenClaim) (times : ℕ) (others events : Events T) → AreOfOthers actor others →
    OpenOrLost actor claim times events → OpenOrLost actor claim times (others ++ events)
open-or-lost actor claim times [] events h o = o
open-or-lost actor claim times (e ∷ others) events h o =
    loss-step claim times (incarnation (others ++ events) claim.worker) e.act (actor_same actor e.actor)
    (open_claim (without_tickets (others ++ events)) actor) h.0
    (open-or-lost actor claim times others events h.1 o)

-- ---- a job that was taken up

claim_of : {T : Type 0} → Work T → OpenClaim
claim_of work = record { worker = work.worker; made = work.rec }

taken-or-lost : {T : Type 0} (s : Setting T) (work : Work T) (events found : Events T) → IsTakenUp s work events →
    Finds s.whole s.actor events found → OpenOrLost s.actor (record { worker = work.worker; made = work.rec }) work.incarnation found
taken-or-lost {T} s work events found t f =
    let claim : OpenClaim = record { worker = work.worker; made = work.rec } in
    let open_ : open_claim (without_tickets events) s.actor ≡ Some claim = ap (open_claim (without_tickets events)) (sym t.for_actor) ∙ t.claim in
    subst (λ (es : Events T). OpenOrLost s.actor claim work.incarnation es) (sym f.came)
    (open-or-lost s.actor claim work.incarnation f.others events f.theirs (inl (open_, t.losses)))

unless-lost : {T : Type 0} (actor : Actor) (work : Work T) (found : Events T) → work.actor ≡ actor →
    OpenOrLost actor (record { worker = work.worker; made = work.rec }) work.incarnation found → IsUnlessLost found work
unless-lost actor work found same (inl h) = record {
  never_less = let e : incarnation found work.worker ≡ work.incarnation = h.1 in omega arith;
  still = λ e. ap (open_claim (without_tickets found)) same ∙ h.0;
}
unless-lost actor work found same (inr h) = record {
  never_less = omega arith;
  still = λ e. absurd (omega arith);
}

-- others leave the claim of a job that was taken up, unless they lose its worker
pub taken-stays : {T : Type 0} (s : Setting T) (work : Work T) (events found : Events T) → IsTakenUp s work events →
    Finds s.whole s.actor events found → IsUnlessLost found work
taken-stays s work events found t f = unless-lost s.actor work found t.for_actor (taken-or-lost s work events found t f)

lost-closed : {T : Type 0} (actor : Actor) (work : Work T) (found : Events T) → incarnation found work.worker ≢ work.incarnation →
    OpenOrLost actor (record { worker = work.worker; made = work.rec }) work.incarnation found →
    open_claim (without_tickets found) actor ≡ None
lost-closed actor work found other (inl h) = absurd (other h.1)
lost-closed actor work found other (inr h) = h.0

after-end : {T : Type 0} (actor : Actor) (act : Act T) (found new : Events T) →
    ((o : Option OpenClaim) → claim_after_loss (act_with {U = Unit {0}} (λ _. tt) act) (claim_after (act_with {U = Unit {0}} (λ _. tt) act) o) ≡ None) →
    DropsFollow actor (event_by actor act ∷ found) new → open_claim (without_tickets new) actor ≡ None
after-end {T} actor act found new ends d =
    ap (λ (es : Events T). open_claim (without_tickets es) actor) d.1
    ∙ ap (λ past. open_claim past actor) (drops-without-tickets actor d.0 (event_by actor act ∷ found))
    ∙ claim-kept actor d.0 (without_tickets (event_by actor act ∷ found)) actor
    ∙ ap (λ b. claim_after_loss (act_with {U = Unit {0}} (λ _. tt) act)
    (if b then claim_after (act_with {U = Unit {0}} (λ _. tt) act) (open_claim (without_tickets found) actor)
    else open_claim (without_tickets found) actor)) (same-actor actor)
    ∙ ends (open_claim (without_tickets found) actor)

abbrev same-loss : {T : Type 0} (work : Work T) (found : Events T) → Type 0
same-loss work found = incarnation found work.worker ≡ work.incarnation

-- the job was done
pub done-ends : {T : Type 0} (s : Setting T) (work : Work T) (seen new : Events T) → work.actor ≡ s.actor → work.worker ≡ s.worker →
    Finishes s.whole work seen new finish.Installed → EndsWork s work Installed seen new
done-ends {T} s work seen new actor worker f =
    let act : Act T = Done s.worker work.rec in
    let t : Turns s.whole s.actor seen new (same-loss work) (with_act s.actor act) =
    subst (λ (w : WorkerId). Turns s.whole s.actor seen new (same-loss work) (with_act s.actor (Done w work.rec))) worker
    (subst (λ (a : Actor). Turns s.whole a seen new (same-loss work) (with_act a (Done work.worker work.rec))) actor f) in
    record {
      ends = turn-adds s seen new (same-loss work) act refl t;
      closed = after-end s.actor act t.found new (λ o. refl) t.turned;
    }

-- the worker was lost
pub void-ends : {T : Type 0} (s : Setting T) (work : Work T) (events seen : Events T) → IsTakenUp s work events → Finds s.whole s.actor events seen →
    incarnation seen work.worker ≢ work.incarnation → EndsWork s work Lost events seen
void-ends s work events seen t f other = record {
  ends = found-adds s events seen f;
  closed = lost-closed s.actor work seen other (taken-or-lost s work events seen t f);
}

pub void-finish : {T : Type 0} (s : Setting T) (work : Work T) (events new : Events T) (at_claim now : ℕ) → IsTakenUp s work events →
    Finishes s.whole work events new (finish.Void at_claim now) → EndsWork s work Lost events new
void-finish {T} s work events new at_claim now t f =
    void-ends s work events new t (subst (λ (a : Actor). Finds s.whole a events new) t.for_actor f.1.finds) f.1.so.1

-- the job was given back, where others' events had come by then
pub back-ends : {T : Type 0} (s : Setting T) (work : Work T) (events seen new : Events T) → IsTakenUp s work events → Finds s.whole s.actor events seen →
    GivesBack s.whole work seen new → GivesBackWork s work events new
back-ends {T} s work events seen new t f (inl back) =
    let act : Act T = Back work.rec in
    let turn : Turns s.whole s.actor seen new (same-loss work) (with_act s.actor act) =
    subst (λ (a : Actor). Turns s.whole a seen new (same-loss work) (with_act a act)) t.for_actor back in
    record {
      end = GivenBack;
      failed = refl;
      ended = record {
        ends = added-then s (event_by s.actor act ∷ []) events seen new (found-adds s events seen f) (turn-adds s seen new (same-loss work) act refl turn);
        closed = after-end s.actor act turn.found new (λ o. refl) turn.turned;
      };
    }
back-ends {T} s work events seen new t f (inr stays) =
    let found : Finds s.whole s.actor seen new = subst (λ (a : Actor). Finds s.whole a seen new) t.for_actor stays.finds in
    record {
      end = Lost;
      failed = refl;
      ended = void-ends s work events new t (finds-twice s.whole s.actor events seen new f found) stays.so;
    }
