-- The three steps of a round.
use Rattle.std.proofs.Common.{◌≡◌, ◌≤◌, ◌<◌, ℕ, zero, suc, Bool, true, false, List, [], ◌∷◌, Option, Some, None, Result, Ok, Err, OnErr, inl, is_none, refl, sym, ap, ◌∙◌, subst, arith}
use Rattle.std.proofs.lemmas.Bool.{and_from}
use Rattle.tl_types.specs.declared.actor.Actor.{Actor}
use Rattle.tl_types.specs.declared.record_id.RecordId.{RecordId}
use Rattle.tl_types.specs.declared.worker_id.WorkerId.{WorkerId}
use Rattle.tl_model.specs.declared.event.Act.TheVariants.{Collect}
use Rattle.tl_model.specs.Actors.{is_idle, open_claim, open_read, open_save}
use Rattle.tl_model.specs.Needs.{garbage}
use Rattle.tl_model.specs.Past.{Past, events_with, without_tickets}
use Rattle.tl_model.specs.Rules.{is_lawful, is_legal, may_claim}
use Rattle.tl_desk.specs.Finds.{Post}
use Rattle.tl_desk.specs.Turns.{Collects, LetsGo}
use Rattle.tl_pieces.specs.Setting.{Setting, Events, event_by}
use Rattle.tl_pieces.specs.Own.{Adds}
use Rattle.tl_pieces.specs.Counts.{Kept, SaveOf, anywhere}
use Rattle.tl_pieces.specs.Moments.{Moment, is_quiet_end}
use Rattle.tl_pieces.specs.Runs.{Run, is_kept_up}
use Rattle.tl_pieces.proofs.Adding.{added-none, added-on, added-own}
use Rattle.tl_pieces.proofs.Others.{rest-stays}
use Rattle.tl_pieces.proofs.Pieced.{let-go-adds}
use Rattle.tl_work.specs.declared.error.WorkError.{WorkError}
use Rattle.tl_work.specs.declared.error.WorkError.TheVariants.{StoreFault, Damaged, NoMemory}
use Rattle.tl_work.specs.declared.run.Ran.{Ran}
use Rattle.tl_work.specs.declared.run.Ran.TheVariants as ran
use Rattle.tl_work.specs.Runs.{RunFails, RunsNext, end_of}
use Rattle.tl_work.specs.Saves.{SavesNext}
use Rattle.tl_work.specs.Setting.{setting}
use Rattle.tl_work.proofs.Finding.{drops-add, found-adds}
use Rattle.tl_work.proofs.Open.{closed-left, has-idle, idle-has, reads-left, saves-left}
use Rattle.tl_work.proofs.RunningNext.{seen-quiet}
use Rattle.tl_crew.specs.Rounds.{CollectsOne, Cuts, Passes, RunsOne, SavesOne}

-- ---- desks

-- what a desk's holder sees is quiet
pub quiet-now : {T : Type 0} (whole tells : Bool) (content : T → List ℕ) (post post' : Post) (worker : WorkerId) (seen : Events T) → post' ≡ post →
    is_lawful post'.header seen ≡ true → (tells ≡ true → is_legal post'.header (events_with content seen) ≡ true) → is_quiet_end (setting whole tells content post worker) seen ≡ true
quiet-now whole tells content post post' worker seen same lawful legal =
    subst (λ (p : Post). is_quiet_end (setting whole tells content p worker) seen ≡ true) same (seen-quiet (setting whole tells content post' worker) seen lawful legal)

pub idle-claims : (past : Past) (actor : Actor) → is_idle past actor ≡ true → may_claim past actor ≡ true
idle-claims past actor idle =
    let has = idle-has past actor idle in
    and_from (is_none (open_claim past actor)) (is_none (open_save past actor)) (ap is_none has.claim) (ap is_none has.save)

-- a run leaves its actor idle
pub idle-next : (before after : Past) (actor : Actor) → is_idle before actor ≡ true → open_claim after actor ≡ None →
    open_read after actor ≡ open_read before actor → open_save after actor ≡ open_save before actor → is_idle after actor ≡ true
idle-next before after actor idle closed reads saves =
    let has = idle-has before actor idle in has-idle after actor (reads ∙ has.read) closed (saves ∙ has.save)

-- ---- nothing was done

pub passes-now : {T : Type 0} (s : Setting T) (is_so : Past → Bool) (before after : Events T) → Adds s [] before after → is_quiet_end s after ≡ true → is_so (without_tickets after) ≡ true →
    Passes s is_so before after
passes-now s is_so before after a quiet so = record { at = after; found = a; quiet = quiet; so = so; since = added-none s after }

pub passes-adds : {T : Type 0} (s : Setting T) (is_so : Past → Bool) (before after : Events T) → Passes s is_so before after → Adds s [] before after
passes-adds s is_so before after p = added-on s [] before p.at after p.found p.since

-- it was so at a moment
pub passes-moment : {T : Type 0} (s : Setting T) (is_so : Past → Bool) (before after : Events T) → Passes s is_so before after → Moment s is_so before after
passes-moment s is_so before after p = record {
  at = p.at;
  later = p.since.more;
  within = p.since.came;
  own = added-own s [] before p.at p.found;
  quiet = p.quiet;
  so = p.so;
}

-- ---- a run

kept-up : (made : RecordId) (answer : Ran) → is_kept_up (record { made = made; end = end_of answer }) ≡ true
kept-up made ran.Installed = refl
kept-up made ran.Lost = refl

pub ran-one : {T : Type 0} (s : Setting T) (before after : Events T) (answer : Option Ran) → is_quiet_end s after ≡ true → RunsNext s before after answer →
    (run : Option Run) × RunsOne s run before after
ran-one s before after None quiet n = (None, passes-now s _ before after n.0 quiet (ap is_none n.1))
ran-one s before after (Some answer) quiet n = (
  Some (record { made = n.0; end = end_of answer }),
  (kept-up n.0 answer, n.1 anywhere refl),
)

pub run-cuts : {T : Type 0} (s : Setting T) (before after : Events T) (error : WorkError) → RunFails s before after error → Cuts s before after error
run-cuts s before after StoreFault f = inl (record { run = f.0; failed = f.1; ran = f.2 anywhere refl })
run-cuts s before after (Damaged damage) f = (record { run = f.0.0; failed = f.0.1; ran = f.0.2 anywhere refl }, f.1)
run-cuts s before after NoMemory f = f

-- ---- a save

pub saved-one : {T : Type 0} (s : Setting T) (before after : Events T) (b : Bool) → is_quiet_end s after ≡ true → SavesNext s before after b →
    (save : Option SaveOf) × SavesOne s save before after
saved-one s before after false quiet n = (None, passes-now s _ before after n.0 quiet (ap is_none n.1))
saved-one s before after true quiet n = (Some (record { file = n.0; end = Kept n.1 }), (refl, n.2))

-- ---- a record let go

let-one-go : {T : Type 0} (s : Setting T) (k : ℕ) (seen found new : Events T) → k ≤ 1 → is_quiet_end s new ≡ true → Adds s [] seen found → LetsGo s.actor k found new →
    (k < 1 → garbage (without_tickets new) ≡ None) → (gone : Option RecordId) × CollectsOne s gone seen new
let-one-go {T} s zero seen found new most quiet a l none =
    (None, passes-now s _ seen new (subst (λ (es : Events T). Adds s [] seen es) (sym l) a) quiet (ap is_none (none (omega arith))))
let-one-go {T} s (suc zero) seen found new most quiet a l none = (
  Some l.1,
  (l.0, subst (λ (es : Events T). Adds s [] seen es) (sym l.2) a, l.3, drops-add s (event_by s.actor (Collect l.1) ∷ l.0) new l.4),
)
let-one-go s (suc (suc k)) seen found new most quiet a l none = absurd (omega arith)

pub collected-one : {T : Type 0} (whole tells : Bool) (content : T → List ℕ) (post : Post) (worker : WorkerId) (k : ℕ) (seen new : Events T) →
    is_quiet_end (setting whole tells content post worker) new ≡ true → Collects whole post.actor 1 seen new k →
    (gone : Option RecordId) × CollectsOne (setting whole tells content post worker) gone seen new
collected-one {T} whole tells content post worker k seen new quiet c =
    let s : Setting T = setting whole tells content post worker in
    let-one-go s k seen c.found new c.most quiet (found-adds s seen c.found c.finds) c.let_go c.none_left

-- after it its actor is idle
pub collected-idle : {T : Type 0} (s : Setting T) (gone : Option RecordId) (before after : Events T) → is_idle (without_tickets before) s.actor ≡ true →
    CollectsOne s gone before after → is_idle (without_tickets after) s.actor ≡ true
collected-idle s None before after idle c = rest-stays s before after (passes-adds s _ before after c) idle
collected-idle {T} s (Some made) before after idle c =
    let has = idle-has (without_tickets before) s.actor idle in
    let adds = let-go-adds s (made ∷ []) before after c in
    has-idle (without_tickets after) s.actor
    (reads-left s _ before after refl adds ∙ has.read)
    (closed-left s _ before after refl adds has.claim)
    (saves-left s _ before after refl adds ∙ has.save)

-- an error says what is so of each
pub on-err : {A E : Type 0} (result : Result A E) (P : Type 0) → P → OnErr result P
on-err (Ok a) P p = tt
on-err (Err error) P p = p

-- what is so of one post's setting is so of the same post's
pub for-post : {T : Type 0} (whole tells : Bool) (content : T → List ℕ) (post post' : Post) (worker : WorkerId) (P : Setting T → Type 0) → post' ≡ post →
    P (setting whole tells content post' worker) → P (setting whole tells content post worker)
for-post whole tells content post post' worker P same p = subst (λ (q : Post). P (setting whole tells content q worker)) same p
