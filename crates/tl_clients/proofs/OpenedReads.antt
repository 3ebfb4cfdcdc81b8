-- The call of a read, and what comes after it.
use Rattle.std.proofs.Common.{◌≡◌, ℕ, Bool, true, false, List, [], ◌∷◌, ◌++◌, Option, Some, None, Result, Ok, Err, IfOk, IfErr, if◌then◌else◌, refl, sym, ap, ◌∙◌, subst}
use Rattle.tl_io.specs.Counts.{Rises}
use Rattle.tl_types.specs.Block.{FileOutcome}
use Rattle.tl_types.specs.Same.{file_same}
use Rattle.tl_types.specs.declared.actor.Actor.{Actor}
use Rattle.tl_types.specs.declared.file_id.FileId.{FileId}
use Rattle.tl_types.specs.declared.worker_id.WorkerId.{WorkerId}
use Rattle.tl_model.specs.declared.answer.Answer.{Answer}
use Rattle.tl_model.specs.declared.answer.Answer.TheVariants.{Said}
use Rattle.tl_model.specs.declared.answer.ClientError.TheVariants as client
use Rattle.tl_model.specs.declared.answer.Damage.{Damage}
use Rattle.tl_model.specs.declared.command.Command.{Command}
use Rattle.tl_model.specs.declared.command.Command.TheVariants.{Read}
use Rattle.tl_model.specs.declared.command.Form.{Form}
use Rattle.tl_model.specs.declared.event.Act.{Act}
use Rattle.tl_model.specs.declared.event.Act.TheVariants.{Call, Shut}
use Rattle.tl_model.specs.declared.reply.Reply.{Reply}
use Rattle.tl_model.specs.declared.reply.Reply.TheVariants.{Made, Opened}
use Rattle.tl_model.specs.Actors.{OpenRead, is_idle, open_claim, open_read, open_save, read_after_call}
use Rattle.tl_model.specs.Namespace.{PathOf}
use Rattle.tl_model.specs.Past.{without_tickets}
use Rattle.tl_laws_drops.specs.Drops.{DropsFollow}
use Rattle.tl_laws_drops.proofs.ManyDrops.{read-kept}
use Rattle.tl_laws_drops.proofs.Tickets.{drops-without-tickets}
use Rattle.tl_cluster.specs.Called.{after_call, made_of, with_saved}
use Rattle.tl_desk.specs.Finds.{Post}
use Rattle.tl_desk.specs.Turns.{Calls}
use Rattle.tl_pieces.specs.Setting.{Setting, Events, event_by}
use Rattle.tl_pieces.specs.Own.{Adds}
use Rattle.tl_pieces.specs.Calls.{IsCalled, is_opened}
use Rattle.tl_pieces.specs.Faults.{FaultCount, is_read_or_input}
use Rattle.tl_pieces.specs.Lines.{IsLine, IsReadLine, IsTryLine}
use Rattle.tl_pieces.specs.Reading.{IsReadGivenUp, is_missing}
use Rattle.tl_pieces.specs.Runs.{Ran}
use Rattle.tl_pieces.proofs.Adding.{added-both, added-on, added-then}
use Rattle.tl_pieces.proofs.Others.{rest-stays}
use Rattle.tl_work.specs.declared.error.WorkError.{WorkError}
use Rattle.tl_work.specs.declared.error.WorkError.TheVariants.{StoreFault, Damaged, NoMemory}
use Rattle.tl_work.specs.Runs.{NothingRuns}
use Rattle.tl_work.specs.Setting.{setting}
use Rattle.tl_work.proofs.Finding.{act-adds, drops-add, found-adds, same-actor}
use Rattle.tl_work.proofs.Open.{closed-left, has-idle, idle-has, saves-left}
use Rattle.tl_work.proofs.TakingUp.{damage-on}
use Rattle.tl_clients.specs.Lines.{read_answer, try_answer}
use Rattle.tl_clients.specs.Ready.{IsReady}
use Rattle.tl_clients.specs.Waits.{GivesUpReading, IsIdle, IsWaiting, ServesAtLast, TriesOnce, TryFails, WaitsInVain, is_file}
use Rattle.tl_clients.proofs.Calling.{calls-called}
use Rattle.tl_clients.proofs.Looking.{free-from}
use Rattle.tl_clients.proofs.Serving.{either-left, loaded-too, nothing-runs-after}

none-made : (reply : Reply) → made_of reply None ≡ None
none-made (Made made) = refl
none-made reply = refl

-- nothing follows the call of a read
call-alone : {T : Type 0} (actor : Actor) (path : PathOf) (prio : ℕ) (form : Form) (reply : Reply) (found : Events T) →
    after_call actor (Read path prio form) reply found ≡ event_by actor (Call (Read path prio form) reply) ∷ found
call-alone {T} actor path prio form reply found =
    ap (λ put. with_saved {T = T} actor put (event_by actor (Call (Read path prio form) reply) ∷ found)) (none-made reply)

call-turned : {T : Type 0} (s : Setting T) (path : PathOf) (prio : ℕ) (form : Form) (answer : ℕ × Reply) (seen new : Events T) →
    (c : Calls s.whole s.actor (Read path prio form) seen new answer) → DropsFollow s.actor (event_by s.actor (Call (Read path prio form) answer.1) ∷ c.found) new
call-turned {T} s path prio form answer seen new c =
    subst (λ (es : Events T). DropsFollow s.actor es new) (call-alone s.actor path prio form answer.1 c.found) c.turned

call-adds : {T : Type 0} (s : Setting T) (path : PathOf) (prio : ℕ) (form : Form) (answer : ℕ × Reply) (seen new : Events T) →
    Calls s.whole s.actor (Read path prio form) seen new answer → Adds s (event_by s.actor (Call (Read path prio form) answer.1) ∷ []) seen new
call-adds {T} s path prio form answer seen new c =
    let act : Act T = Call (Read path prio form) answer.1 in
    let mine : Events T = event_by s.actor act ∷ [] in
    added-then s mine seen c.found new (found-adds s seen c.found c.finds)
    (added-on s mine c.found (event_by s.actor act ∷ c.found) new (act-adds s act c.found refl)
    (drops-add s (event_by s.actor act ∷ c.found) new (call-turned s path prio form answer seen new c)))

call-reads : {T : Type 0} (s : Setting T) (path : PathOf) (prio : ℕ) (form : Form) (answer : ℕ × Reply) (seen new : Events T) →
    (c : Calls s.whole s.actor (Read path prio form) seen new answer) →
    open_read (without_tickets new) s.actor ≡ read_after_call {T = Unit {0}} answer.1 (Read path prio form) (open_read (without_tickets c.found) s.actor)
call-reads {T} s path prio form answer seen new c =
    let turned = call-turned s path prio form answer seen new c in
    let main : Events T = event_by s.actor (Call (Read path prio form) answer.1) ∷ c.found in
    ap (λ (es : Events T). open_read (without_tickets es) s.actor) turned.1
    ∙ ap (λ past. open_read past s.actor) (drops-without-tickets s.actor turned.0 main)
    ∙ read-kept s.actor turned.0 (without_tickets main) s.actor
    ∙ ap (λ b. if b then read_after_call {T = Unit {0}} answer.1 (Read path prio form) (open_read (without_tickets c.found) s.actor) else open_read (without_tickets c.found) s.actor)
    (same-actor s.actor)

-- what a call of a read leaves of what runs and of what else is open
pub record CalledRead {T : Type 0} (s : Setting T) (path : PathOf) (prio : ℕ) (form : Form) (answer : ℕ × Reply) (seen new : Events T) : Type 0 where
  pub called : IsCalled s (Read path prio form) answer.0 answer.1 seen new
  pub adds : Adds s (event_by s.actor (Call (Read path prio form) answer.1) ∷ []) seen new
  pub claim : open_claim (without_tickets new) s.actor ≡ None
  pub save : open_save (without_tickets new) s.actor ≡ None
  pub before : Option OpenRead
  pub none : before ≡ None
  pub read : open_read (without_tickets new) s.actor ≡ read_after_call {T = Unit {0}} answer.1 (Read path prio form) before

pub called-read : {T : Type 0} (s : Setting T) (path : PathOf) (prio : ℕ) (form : Form) (answer : ℕ × Reply) (seen new : Events T) →
    is_idle (without_tickets seen) s.actor ≡ true → Calls s.whole s.actor (Read path prio form) seen new answer → CalledRead s path prio form answer seen new
called-read {T} s path prio form answer seen new idle c =
    let has = idle-has (without_tickets seen) s.actor idle in
    let adds = call-adds s path prio form answer seen new c in
    record {
      called = calls-called s (Read path prio form) answer seen new c;
      adds = adds;
      claim = closed-left s _ seen new refl adds has.claim;
      save = saves-left s _ seen new refl adds ∙ has.save;
      before = open_read (without_tickets c.found) s.actor;
      none = (idle-has (without_tickets c.found) s.actor (rest-stays s seen c.found (found-adds s seen c.found c.finds) idle)).read;
      read = call-reads s path prio form answer seen new c;
    }

pub call-rests : {T : Type 0} (s : Setting T) (path : PathOf) (prio : ℕ) (form : Form) (answer : ℕ × Reply) (seen new : Events T) → s.whole ≡ true → NothingRuns seen →
    CalledRead s path prio form answer seen new → NothingRuns new
call-rests s path prio form answer seen new whole none r = nothing-runs-after s _ seen new whole r.adds none r.claim

-- an opened read waits
pub opened-waits : {T : Type 0} (s : Setting T) (path : PathOf) (prio : ℕ) (form : Form) (number : ℕ) (reply : Reply) (f : FileId) (seen new : Events T) → reply ≡ Opened f →
    CalledRead s path prio form (number, reply) seen new → IsWaiting s f new
opened-waits {T} s path prio form number reply f seen new is r = record {
  reading = (
    record { file = f; prio = prio },
    r.read ∙ ap (λ (x : Reply). read_after_call {T = Unit {0}} x (Read path prio form) r.before) is,
    refl,
  );
  free = free-from (without_tickets new) s.actor r.claim r.save;
}

is-not-opened : (reply : Reply) → ((f : FileId) → reply ≡ Opened f → ⊥) → is_opened reply ≡ false
is-not-opened (Opened f) never = absurd (never f refl)
is-not-opened reply never = refl

stays-closed : (path : PathOf) (prio : ℕ) (form : Form) (reply : Reply) (before : Option OpenRead) → is_opened reply ≡ false → before ≡ None →
    read_after_call {T = Unit {0}} reply (Read path prio form) before ≡ None
stays-closed path prio form (Opened f) before h none = absurd (cc)
stays-closed path prio form reply before h none = none

-- a refused one doesn't
pub refused-idle : {T : Type 0} (s : Setting T) (path : PathOf) (prio : ℕ) (form : Form) (number : ℕ) (reply : Reply) (seen new : Events T) → ((f : FileId) → reply ≡ Opened f → ⊥) →
    CalledRead s path prio form (number, reply) seen new → IsIdle s new
refused-idle s path prio form number reply seen new never r =
    has-idle (without_tickets new) s.actor (r.read ∙ stays-closed path prio form reply r.before (is-not-opened reply never) r.none) r.claim r.save

pub refused-line : {T : Type 0} (s : Setting T) (count : FaultCount) (path : PathOf) (prio : ℕ) (form : Form) (number : ℕ) (reply : Reply) (seen new : Events T) →
    ((f : FileId) → reply ≡ Opened f → ⊥) → CalledRead s path prio form (number, reply) seen new →
    IsReadLine s count (Read path prio form) seen new (Ok (Said number reply))
refused-line s count path prio form number reply seen new never r = record {
  ended = (is-not-opened reply never, r.called);
  rest = refused-idle s path prio form number reply seen new never r;
}

pub refused-try : {T : Type 0} (s : Setting T) (count : FaultCount) (path : PathOf) (prio : ℕ) (form : Form) (number : ℕ) (reply : Reply) (seen new : Events T) →
    ((f : FileId) → reply ≡ Opened f → ⊥) → CalledRead s path prio form (number, reply) seen new →
    IsTryLine s count (Read path prio form) seen new (Ok (Said number reply))
refused-try s count path prio form number reply seen new never r = record {
  ended = (is-not-opened reply never, r.called);
  rest = refused-idle s path prio form number reply seen new never r;
}

opened-called : {T : Type 0} (s : Setting T) (path : PathOf) (prio : ℕ) (form : Form) (number : ℕ) (reply : Reply) (f : FileId) (seen mid : Events T) → reply ≡ Opened f →
    CalledRead s path prio form (number, reply) seen mid → IsCalled s (Read path prio form) number (Opened f) seen mid
opened-called s path prio form number reply f seen mid is r =
    subst (λ (x : Reply). IsCalled s (Read path prio form) number x seen mid) is r.called

-- ---- the line of a read that waited

abbrev given-up : {T : Type 0} (s : Setting T) (command : Command T) (number : ℕ) (f : FileId) (seen mid ran_at after : Events T) → IsCalled s command number (Opened f) seen mid →
    WaitsInVain s f mid ran_at → Adds s (event_by s.actor (Shut f) ∷ []) ran_at after → IsReadGivenUp s command number seen after
given-up s command number f seen mid ran_at after called vain shut = record {
  file = f;
  opened_at = mid;
  ran_at = ran_at;
  runs = vain.runs;
  opened = called;
  ran = vain.ran;
  kept_up = vain.kept_up;
  shut = shut;
}

read-error : {T : Type 0} (s : Setting T) (count : FaultCount) (command : Command T) (number : ℕ) (f : FileId) (mine seen mid after : Events T) (error : WorkError) →
    IsCalled s command number (Opened f) seen mid → Adds s mine seen mid → (error ≡ StoreFault → Rises count.before count.now) → GivesUpReading s f mid after error →
    IsReadLine s count command seen after (read_answer number (Err error))
read-error s count command number f mine seen mid after StoreFault called adds rose g = record {
  ended = (given-up s command number f seen mid g.ran_at after called g.failed g.shut, rose refl);
  rest = g.idle;
}
read-error s count command number f mine seen mid after (Damaged damage) called adds rose g = record {
  ended = (
    given-up s command number f seen mid g.ran_at after called g.failed.0 g.shut,
    damage-on s _ g.ran_at after g.shut.more damage g.shut.came g.failed.1,
  );
  rest = g.idle;
}
read-error {T} s count command number f mine seen mid after NoMemory called adds rose g =
    let failed = g.failed in
    record {
      ended = (
        event_by s.actor (Shut f) ∷ (failed.0 ++ mine),
        added-both s (failed.0 ++ mine) (event_by s.actor (Shut f) ∷ []) seen g.ran_at after (added-both s mine failed.0 seen mid g.ran_at adds failed.1) g.shut,
      );
      rest = g.idle;
    }

pub read-line : {T : Type 0} (s : Setting T) (count : FaultCount) (path : PathOf) (prio : ℕ) (form : Form) (number : ℕ) (reply : Reply) (f : FileId) (seen mid after : Events T)
    (served : Result FileOutcome WorkError) → reply ≡ Opened f → CalledRead s path prio form (number, reply) seen mid → IfOk served (ServesAtLast s f mid after) →
    IfErr served (GivesUpReading s f mid after) → (served ≡ Err StoreFault → Rises count.before count.now) →
    IsReadLine s count (Read path prio form) seen after (read_answer number served)
read-line {T} s count path prio form number reply f seen mid after (Ok block) is r ok err rose =
    let called = opened-called s path prio form number reply f seen mid is r in
    record {
      ended = record {
        opened_at = mid;
        ran_at = ok.ran_at;
        runs = ok.runs;
        opened = subst (λ (x : FileId). IsCalled s (Read path prio form) number (Opened x) seen mid) (sym ok.of_file) called;
        ran = subst (λ (x : FileId). Ran s s.worker (is_missing x) ok.runs mid ok.ran_at) (sym ok.of_file) ok.ran;
        kept_up = ok.kept_up;
        served = ok.served;
      };
      rest = ok.idle;
    }
read-line s count path prio form number reply f seen mid after (Err error) is r ok err rose =
    read-error s count (Read path prio form) number f _ seen mid after error (opened-called s path prio form number reply f seen mid is r) r.adds (λ e. rose (ap Err e)) err

-- ---- the line of a read that looked once

try-error : {T : Type 0} (s : Setting T) (count : FaultCount) (command : Command T) (number : ℕ) (f : FileId) (mine seen mid after : Events T) (error : WorkError) →
    IsCalled s command number (Opened f) seen mid → Adds s mine seen mid → (error ≡ StoreFault → Rises count.before count.now) → TryFails s f mid after error →
    IsTryLine s count command seen after (try_answer number f (Err error))
try-error s count command number f mine seen mid after StoreFault called adds rose t = record {
  ended = (record { file = f; opened_at = mid; opened = called; shut = t.0.shut }, rose refl);
  rest = t.0.idle;
}
try-error s count command number f mine seen mid after (Damaged damage) called adds rose t = record {
  ended = (
    record { file = f; opened_at = mid; opened = called; shut = t.0.shut },
    loaded-too s (is_file f) (is_read_or_input f []) after damage (λ past g h. either-left (file_same f g) false h) t.1,
  );
  rest = t.0.idle;
}
try-error s count command number f mine seen mid after NoMemory called adds rose t = record {
  ended = (event_by s.actor (Shut f) ∷ mine, added-both s mine (event_by s.actor (Shut f) ∷ []) seen mid after adds t.0.shut);
  rest = t.0.idle;
}

pub try-line : {T : Type 0} (s : Setting T) (count : FaultCount) (path : PathOf) (prio : ℕ) (form : Form) (number : ℕ) (reply : Reply) (f : FileId) (seen mid after : Events T)
    (tried : Result (Option FileOutcome) WorkError) → reply ≡ Opened f → CalledRead s path prio form (number, reply) seen mid → IfOk tried (TriesOnce s f mid after) →
    IfErr tried (TryFails s f mid after) → (tried ≡ Err StoreFault → Rises count.before count.now) →
    IsTryLine s count (Read path prio form) seen after (try_answer number f tried)
try-line {T} s count path prio form number reply f seen mid after (Ok (Some block)) is r ok err rose =
    let called = opened-called s path prio form number reply f seen mid is r in
    record {
      ended = record {
        opened_at = mid;
        opened = subst (λ (x : FileId). IsCalled s (Read path prio form) number (Opened x) seen mid) (sym ok.0) called;
        served = ok.1;
      };
      rest = ok.2;
    }
try-line {T} s count path prio form number reply f seen mid after (Ok None) is r ok err rose =
    let called = opened-called s path prio form number reply f seen mid is r in
    record {
      ended = record { opened_at = mid; opened = called; missing = ok.1; shut = ok.0.shut };
      rest = ok.0.idle;
    }
try-line s count path prio form number reply f seen mid after (Err error) is r ok err rose =
    try-error s count (Read path prio form) number f _ seen mid after error (opened-called s path prio form number reply f seen mid is r) r.adds (λ e. rose (ap Err e)) err

-- ---- what comes of want of memory, and when the client can be asked again

pub without-memory : {T : Type 0} (s : Setting T) (count : FaultCount) (answered : Answer → Type 0) (failed : Option ℕ → Type 0) (damaged : Option ℕ → Damage → Type 0) (seen new : Events T) →
    Adds s [] seen new → is_idle (without_tickets seen) s.actor ≡ true → IsLine s count answered failed damaged seen new (Err client.NoMemory)
without-memory s count answered failed damaged seen new a idle = record { ended = ([], a); rest = rest-stays s seen new a idle }

pub ready-again : {T : Type 0} (whole : Bool) (post post' : Post) (worker : WorkerId) (seen new : Events T) → post' ≡ post → IsReady whole post worker seen →
    is_idle (without_tickets new) post.actor ≡ true → (whole ≡ true → NothingRuns new) → IsReady whole post' worker new
ready-again {T} whole post post' worker seen new same ready idle alone =
    subst (λ (p : Post). IsReady whole p worker new) (sym same)
    (record { client = ready.client; worker_is = ready.worker_is; idle = idle; alone = alone })

pub memory-ready : {T : Type 0} (whole tells : Bool) (content : T → List ℕ) (post post' : Post) (worker : WorkerId) (seen new : Events T) → post' ≡ post →
    Adds (setting whole tells content post worker) [] seen new → IsReady whole post worker seen → IsReady whole post' worker new
memory-ready {T} whole tells content post post' worker seen new same a ready =
    let s : Setting T = setting whole tells content post worker in
    let idle = rest-stays s seen new a ready.idle in
    ready-again whole post post' worker seen new same ready idle
    (λ is. nothing-runs-after s [] seen new is a (ready.alone is) (idle-has (without_tickets new) post.actor idle).claim)
