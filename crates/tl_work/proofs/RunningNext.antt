-- The job that is next, from its claim to its end.
use Rattle.std.proofs.Common.{◌≡◌, ℕ, Bool, true, false, List, ◌∷◌, ◌++◌, Option, Some, None, is_none, if◌then◌else◌, refl, sym, ap, ◌∙◌, subst}
use Rattle.std.specs.List.{list_all}
use Rattle.std.proofs.lemmas.Bool.{and_parts}
use Rattle.tl_types.specs.declared.actor.Actor.{Actor}
use Rattle.tl_types.specs.declared.record_id.RecordId.{RecordId}
use Rattle.tl_types.specs.declared.worker_id.WorkerId.{WorkerId}
use Rattle.tl_model.specs.declared.event.Act.TheVariants.{Claim}
use Rattle.tl_model.specs.declared.event.Event.{Event}
use Rattle.tl_model.specs.Actors.{open_claim, open_read, open_save}
use Rattle.tl_model.specs.Past.{Past, events_with, without_tickets}
use Rattle.tl_model.specs.Plan.{next}
use Rattle.tl_model.specs.Rules.{all_permitted, is_lawful, is_legal, is_quiet, lawful_judge, legal_judge, may_claim}
use Rattle.tl_laws_drops.specs.Drops.{DropsFollow}
use Rattle.tl_laws_progress.proofs.Running.{permitted-run-leaves-fewer}
use Rattle.tl_cluster.specs.declared.work.Work.{Work}
use Rattle.tl_desk.specs.Finds.{Finds, Post}
use Rattle.tl_desk.specs.Turns.{Claims, IsNextWork}
use Rattle.tl_pieces.specs.Setting.{Setting, Events, event_by}
use Rattle.tl_pieces.specs.Own.{Adds}
use Rattle.tl_pieces.specs.Faults.{IsDamage}
use Rattle.tl_pieces.specs.Moments.{is_quiet_end}
use Rattle.tl_pieces.specs.Runs.{GivenBack, Installed, Lost, Run, RunEnd, run_of}
use Rattle.tl_pieces.proofs.Adding.{added-none}
use Rattle.tl_pieces.proofs.Begun.{run-adds}
use Rattle.tl_pieces.proofs.Others.{claim-stays}
use Rattle.tl_work.specs.declared.error.WorkError.{WorkError}
use Rattle.tl_work.specs.declared.error.WorkError.TheVariants.{StoreFault, Damaged, NoMemory}
use Rattle.tl_work.specs.declared.run.Ran.{Ran}
use Rattle.tl_work.specs.declared.run.Ran.TheVariants as ran
use Rattle.tl_work.specs.Loads.{WhereDamaged}
use Rattle.tl_work.specs.Runs.{DoneAlone, EndsWork, GivesBackWork, GivesUp, IsTakenUp, LeavesFewer, RunFails, RunsFrom, is_input}
use Rattle.tl_work.specs.Setting.{setting}
use Rattle.tl_work.proofs.Finding.{found-adds, turn-adds}
use Rattle.tl_work.proofs.Open.{leaves_read, leaves_save, reads-left, saves-left}
use Rattle.tl_work.proofs.TakingUp.{taken-up}

-- ---- quiet ends

quiet-case : (tells told plain : Bool) → (tells ≡ true → told ≡ true) → plain ≡ true → (if tells then told else plain) ≡ true
quiet-case true told plain h k = h refl
quiet-case false told plain h k = k

-- what a desk's holder sees is quiet
pub seen-quiet : {T : Type 0} (s : Setting T) (seen : Events T) → is_lawful s.header seen ≡ true →
    (s.tells ≡ true → is_legal s.header (events_with s.content seen) ≡ true) → is_quiet_end s seen ≡ true
seen-quiet s seen lawful legal =
    quiet-case s.tells (is_quiet (legal_judge s.header) (events_with s.content seen)) (is_quiet lawful_judge seen)
    (λ tells. (and_parts (all_permitted (legal_judge s.header) s.header (events_with s.content seen)) (is_quiet (legal_judge s.header) (events_with s.content seen)) (legal tells)).1)
    (and_parts (all_permitted lawful_judge s.header seen) (is_quiet lawful_judge seen) lawful).1

-- ---- nothing was claimed

none-of : {A : Type 0} (x : Option A) → is_none x ≡ true → x ≡ None
none-of None h = refl
none-of (Some x) h = absurd (cc)

pub free-claim : (past : Past) (actor : Actor) → may_claim past actor ≡ true → open_claim past actor ≡ None
free-claim past actor h = none-of (open_claim past actor) (and_parts (is_none (open_claim past actor)) (is_none (open_save past actor)) h).0

pub still-closed : {T : Type 0} (s : Setting T) (seen new : Events T) → may_claim (without_tickets seen) s.actor ≡ true → Finds s.whole s.actor seen new →
    open_claim (without_tickets new) s.actor ≡ None
still-closed s seen new h f = claim-stays s seen new (found-adds s seen new f) (free-claim (without_tickets seen) s.actor h)

-- ---- a run

-- the claim is that of the work's own worker
pub taken-here : {T : Type 0} (whole tells : Bool) (content : T → List ℕ) (post post' : Post) (worker : WorkerId) (seen new : Events T) (work : Work T) →
    post' ≡ post → Claims whole tells content post worker seen new (Some work) → IsTakenUp (setting whole tells content post' work.worker) work new
taken-here {T} whole tells content post post' worker seen new work same t =
    let so : IsNextWork tells content post worker work t.found = t.so in
    subst (λ (p : Post). IsTakenUp (setting whole tells content p work.worker) work new) (sym same)
    (subst (λ (w : WorkerId). IsTakenUp (setting whole tells content post w) work new) (sym so.on_worker)
    (taken-up whole tells content post worker seen new work t))

-- what was so of the work's own worker is so of the worker that was asked for
pub for-worker : {T : Type 0} (whole tells : Bool) (content : T → List ℕ) (post post' : Post) (worker : WorkerId) (seen new : Events T) (work : Work T) (P : Setting T → Type 0) →
    post' ≡ post → Claims whole tells content post worker seen new (Some work) → P (setting whole tells content post' work.worker) → P (setting whole tells content post worker)
for-worker {T} whole tells content post post' worker seen new work P same t p =
    let so : IsNextWork tells content post worker work t.found = t.so in
    subst (λ (w : WorkerId). P (setting whole tells content post w)) so.on_worker
    (subst (λ (q : Post). P (setting whole tells content q work.worker)) same p)

pub runs-from : {T : Type 0} (whole tells : Bool) (content : T → List ℕ) (post : Post) (worker : WorkerId) (seen mid after : Events T) (work : Work T) (end : RunEnd) →
    is_quiet_end (setting whole tells content post worker) seen ≡ true → Claims whole tells content post worker seen mid (Some work) →
    EndsWork (setting whole tells content post worker) work end mid after →
    RunsFrom (setting whole tells content post worker) (record { made = work.rec; end = end }) seen after
runs-from {T} whole tells content post worker seen mid after work end quiet t e is_so so =
    let s : Setting T = setting whole tells content post worker in
    record {
      looked_at = seen;
      claimed_at = mid;
      looks = added-none s seen;
      quiet = quiet;
      so = so;
      claims = turn-adds s seen mid (IsNextWork tells content post worker work) (Claim worker work.rec) refl t;
      ends = e.ends;
      closed = e.closed;
    }

any-past : Past → Bool
any-past past = true

-- what a run adds
pub run-added : {T : Type 0} (s : Setting T) (run : Run) (before after : Events T) → RunsFrom s run before after → Adds s (run_of s.actor s.worker run) before after
run-added s run before after r = run-adds s s.worker (λ past. true) run before after (r (λ past. true) refl)

run-leaves-read : (T : Type 0) (actor : Actor) (worker : WorkerId) (made : RecordId) (end : RunEnd) →
    list_all (λ (e : Event T). leaves_read e.act) (run_of {T = T} actor worker (record { made = made; end = end })) ≡ true
run-leaves-read T actor worker made Installed = refl
run-leaves-read T actor worker made GivenBack = refl
run-leaves-read T actor worker made Lost = refl

run-leaves-save : (T : Type 0) (actor : Actor) (worker : WorkerId) (made : RecordId) (end : RunEnd) →
    list_all (λ (e : Event T). leaves_save e.act) (run_of {T = T} actor worker (record { made = made; end = end })) ≡ true
run-leaves-save T actor worker made Installed = refl
run-leaves-save T actor worker made GivenBack = refl
run-leaves-save T actor worker made Lost = refl

pub run-reads : {T : Type 0} (s : Setting T) (run : Run) (before after : Events T) → RunsFrom s run before after →
    open_read (without_tickets after) s.actor ≡ open_read (without_tickets before) s.actor
run-reads {T} s run before after r = reads-left s _ before after (run-leaves-read T s.actor s.worker run.made run.end) (run-added s run before after r)

pub run-saves : {T : Type 0} (s : Setting T) (run : Run) (before after : Events T) → RunsFrom s run before after →
    open_save (without_tickets after) s.actor ≡ open_save (without_tickets before) s.actor
run-saves {T} s run before after r = saves-left s _ before after (run-leaves-save T s.actor s.worker run.made run.end) (run-added s run before after r)

abbrev pub gives-up : {T : Type 0} (whole tells : Bool) (content : T → List ℕ) (post : Post) (worker : WorkerId) (seen mid after : Events T) (work : Work T) →
    is_quiet_end (setting whole tells content post worker) seen ≡ true → Claims whole tells content post worker seen mid (Some work) →
    GivesBackWork (setting whole tells content post worker) work mid after → GivesUp (setting whole tells content post worker) seen after
gives-up whole tells content post worker seen mid after work quiet t b =
    (record { made = work.rec; end = b.end }, b.failed, runs-from whole tells content post worker seen mid after work b.end quiet t b.ended)

-- a run that was given up, whatever the reason
pub fails : {T : Type 0} (s : Setting T) (before after : Events T) (error : WorkError) (g : GivesUp s before after) →
    WhereDamaged (IsDamage s (is_input g.0.made) after) error → RunFails s before after error
fails s before after StoreFault g d = g
fails s before after (Damaged damage) g d = (g, d)
fails s before after NoMemory g d = (run_of s.actor s.worker g.0, run-added s g.0 before after g.2)

-- ---- progress

-- where the holder sees the whole journal, nothing came before the claim
pub claimed-at-once : {T : Type 0} (whole tells : Bool) (content : T → List ℕ) (post : Post) (worker : WorkerId) (seen mid : Events T) (work : Work T) → whole ≡ true →
    Claims whole tells content post worker seen mid (Some work) → DropsFollow post.actor (event_by post.actor (Claim worker work.rec) ∷ seen) mid
claimed-at-once {T} whole tells content post worker seen mid work is t =
    let found : t.found ≡ seen = t.finds.came ∙ ap (λ es. es ++ seen) (t.finds.alone is) in
    subst (λ (es : Events T). DropsFollow post.actor (event_by post.actor (Claim worker work.rec) ∷ es) mid) found t.turned

pub leaves-fewer : {T : Type 0} (whole tells : Bool) (content : T → List ℕ) (post : Post) (worker : WorkerId) (seen mid after : Events T) (work : Work T) (end : Ran) → whole ≡ true →
    is_lawful post.header after ≡ true → Claims whole tells content post worker seen mid (Some work) →
    DoneAlone (setting whole tells content post worker) work mid after end → LeavesFewer seen after (Some end)
leaves-fewer whole tells content post worker seen mid after work ran.Installed is lawful t d =
    permitted-run-leaves-fewer post.header seen after post.actor worker work.rec
    (and_parts (all_permitted lawful_judge post.header after) (is_quiet lawful_judge after) lawful).0
    (record { claimed = mid; claim = claimed-at-once whole tells content post worker seen mid work is t; done = d })
leaves-fewer whole tells content post worker seen mid after work ran.Lost is lawful t d = d

-- ---- what a claim answered

pub none-next : {T : Type 0} (whole tells : Bool) (content : T → List ℕ) (post : Post) (worker : WorkerId) (seen new : Events T) (work : Option (Work T)) →
    work ≡ None → Claims whole tells content post worker seen new work →
    Finds whole post.actor seen new × (next post.header.order (without_tickets new) ≡ None)
none-next {T} whole tells content post worker seen new work is t =
    let none : Claims whole tells content post worker seen new None = subst (λ (o : Option (Work T)). Claims whole tells content post worker seen new o) is t in
    (none.finds, none.so)

pub some-work : {T : Type 0} (whole tells : Bool) (content : T → List ℕ) (post : Post) (worker : WorkerId) (seen new : Events T) (answer : Option (Work T)) (work : Work T) →
    answer ≡ Some work → Claims whole tells content post worker seen new answer → Claims whole tells content post worker seen new (Some work)
some-work {T} whole tells content post worker seen new answer work is t =
    subst (λ (o : Option (Work T)). Claims whole tells content post worker seen new o) is t
