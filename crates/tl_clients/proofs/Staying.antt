-- A client stays ready over what it adds.
use Rattle.std.proofs.Common.{◌≡◌, ◌≤◌, ℕ, Bool, true, false, List, [], ◌∷◌, ◌++◌, None, is_none, if◌then◌else◌, refl, sym, ap, ◌∙◌, subst, arith}
use Rattle.std.specs.List.{list_all}
use Rattle.std.proofs.lemmas.Bool.{and_from, and_parts}
use Rattle.tl_io.specs.Counts.{Rises}
use Rattle.tl_types.specs.Same.{actor_same, actor_same-Decides}
use Rattle.tl_types.specs.declared.actor.Actor.{Actor}
use Rattle.tl_types.specs.declared.worker_id.WorkerId.{WorkerId}
use Rattle.tl_model.specs.declared.event.Act.{Act}
use Rattle.tl_model.specs.declared.event.Act.TheVariants.{Lose}
use Rattle.tl_model.specs.Actors.{claim_after, claim_after_loss, is_idle, open_claim, open_read, open_save}
use Rattle.tl_model.specs.Past.{Past, act_with, events_with, without_tickets}
use Rattle.tl_model.specs.Rules.{is_lawful, is_legal, may_claim}
use Rattle.tl_desk.specs.Finds.{Post}
use Rattle.tl_pieces.specs.Setting.{Setting, Events}
use Rattle.tl_pieces.specs.Own.{Adds, is_by}
use Rattle.tl_pieces.specs.Counts.{IsCount}
use Rattle.tl_pieces.specs.Lines.{AddsSome}
use Rattle.tl_pieces.specs.Moments.{is_quiet_end}
use Rattle.tl_work.specs.Runs.{NothingRuns}
use Rattle.tl_work.specs.Setting.{setting}
use Rattle.tl_work.proofs.Open.{has-idle, idle-has}
use Rattle.tl_work.proofs.RunningNext.{seen-quiet}
use Rattle.tl_clients.specs.Ready.{IsReady}

-- ---- nothing runs

lost-none : {T : Type 0} (act : Act T) → claim_after_loss (act_with {U = Unit {0}} (λ _. tt) act) None ≡ None
lost-none (Lose worker) = refl
lost-none act = refl

-- what one actor does opens no claim of another
other-closed : {T : Type 0} (actor other : Actor) (more before : Events T) → actor_same other actor ≡ false → list_all (is_by actor) more ≡ true →
    open_claim (without_tickets before) other ≡ None → open_claim (without_tickets (more ++ before)) other ≡ None
other-closed actor other [] before not all none = none
other-closed actor other (e ∷ more) before not all none =
    let parts = and_parts (is_by actor e) (list_all (is_by actor) more) all in
    let same : actor ≡ e.actor = (actor_same-Decides actor e.actor).0 parts.0 in
    let is : actor_same other e.actor ≡ false = ap (actor_same other) (sym same) ∙ not in
    ap (λ o. claim_after_loss (act_with {U = Unit {0}} (λ _. tt) e.act) (if actor_same other e.actor then claim_after (act_with {U = Unit {0}} (λ _. tt) e.act) o else o))
    (other-closed actor other more before not parts.1 none)
    ∙ ap (λ b. claim_after_loss (act_with {U = Unit {0}} (λ _. tt) e.act) (if b then claim_after (act_with {U = Unit {0}} (λ _. tt) e.act) None else None)) is
    ∙ lost-none e.act

closed-after : {T : Type 0} (s : Setting T) (mine before after : Events T) → Adds s mine before after → open_claim (without_tickets after) s.actor ≡ None → s.whole ≡ true →
    NothingRuns before → (actor : Actor) (b : Bool) → actor_same actor s.actor ≡ b → open_claim (without_tickets after) actor ≡ None
closed-after s mine before after a closed whole none actor true is =
    ap (open_claim (without_tickets after)) ((actor_same-Decides actor s.actor).0 is) ∙ closed
closed-after {T} s mine before after a closed whole none actor false is =
    ap (λ (es : Events T). open_claim (without_tickets es) actor) a.came ∙ other-closed s.actor actor a.more before is (a.alone whole) (none actor)

-- where the actor has the journal to itself and has no claim, nothing runs still
pub nothing-runs-after : {T : Type 0} (s : Setting T) (mine before after : Events T) → Adds s mine before after → open_claim (without_tickets after) s.actor ≡ None → s.whole ≡ true →
    NothingRuns before → NothingRuns after
nothing-runs-after s mine before after a closed whole none actor = closed-after s mine before after a closed whole none actor (actor_same actor s.actor) refl

-- ---- a client is ready

pub ready-on : {T : Type 0} (whole tells : Bool) (content : T → List ℕ) (post post' : Post) (worker : WorkerId) (before after : Events T) → post' ≡ post →
    IsReady whole post worker before → AddsSome (setting whole tells content post worker) before after → is_idle (without_tickets after) post.actor ≡ true →
    IsReady whole post' worker after
ready-on {T} whole tells content post post' worker before after same r a idle =
    let s : Setting T = setting whole tells content post worker in
    let ready : IsReady whole post worker after = record {
      client = r.client;
      worker_is = r.worker_is;
      idle = idle;
      alone = λ w. nothing-runs-after s a.0 before after a.1 (idle-has (without_tickets after) post.actor idle).claim w (r.alone w);
    } in
    subst (λ (p : Post). IsReady whole p worker after) (sym same) ready

pub idle-claims : (past : Past) (actor : Actor) → is_idle past actor ≡ true → may_claim past actor ≡ true
idle-claims past actor idle =
    let has = idle-has past actor idle in
    and_from (is_none (open_claim past actor)) (is_none (open_save past actor)) (ap is_none has.claim) (ap is_none has.save)

-- a run leaves its actor idle
pub idle-next : (before after : Past) (actor : Actor) → is_idle before actor ≡ true → open_claim after actor ≡ None →
    open_read after actor ≡ open_read before actor → open_save after actor ≡ open_save before actor → is_idle after actor ≡ true
idle-next before after actor idle closed reads saves =
    let has = idle-has before actor idle in has-idle after actor (reads ∙ has.read) closed (saves ∙ has.save)

-- ---- counts

-- what a desk's holder sees is quiet
pub quiet-now : {T : Type 0} (whole tells : Bool) (content : T → List ℕ) (post post' : Post) (own : WorkerId) (seen : Events T) → post' ≡ post →
    is_lawful post'.header seen ≡ true → (tells ≡ true → is_legal post'.header (events_with content seen) ≡ true) → is_quiet_end (setting whole tells content post own) seen ≡ true
quiet-now whole tells content post post' own seen same lawful legal =
    subst (λ (p : Post). is_quiet_end (setting whole tells content p own) seen ≡ true) same (seen-quiet (setting whole tells content post' own) seen lawful legal)

pub count-short : {T : Type 0} (s : Setting T) (nothing_left : Past → Bool) (n k : ℕ) (after : Events T) → k ≤ n → is_quiet_end s after ≡ true → nothing_left (without_tickets after) ≡ true →
    IsCount s nothing_left n k after
count-short s nothing_left n k after few quiet so = record {
  within = few;
  short = λ h. record { at = after; later = []; within = refl; own = refl; quiet = quiet; so = so };
}

pub count-all : {T : Type 0} (s : Setting T) (nothing_left : Past → Bool) (n k : ℕ) (after : Events T) → k ≡ n → IsCount s nothing_left n k after
count-all s nothing_left n k after all = record { within = omega arith; short = λ h. absurd (omega arith) }

pub rises-later : (old mid now : ℕ) → old ≤ mid → Rises mid now → Rises old now
rises-later old mid now h r = omega arith

-- what is so of one post's setting is so of the same post's
pub for-post : {T : Type 0} (whole tells : Bool) (content : T → List ℕ) (post post' : Post) (worker : WorkerId) (P : Setting T → Type 0) → post' ≡ post →
    P (setting whole tells content post' worker) → P (setting whole tells content post worker)
for-post whole tells content post post' worker P same p = subst (λ (q : Post). P (setting whole tells content q worker)) same p
