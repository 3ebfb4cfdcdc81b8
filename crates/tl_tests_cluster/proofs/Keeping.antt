-- Turns that are no calls leave the history as it is.
use Rattle.std.proofs.Common.{◌≡◌, ℕ, Bool, List, Option, Some, Result, Ok, MatchResult, option_map, slice_get, sym, ap, ◌∙◌, subst}
use Rattle.tl_types.specs.Block.{FileOutcome}
use Rattle.tl_types.specs.declared.actor.Actor.{Actor}
use Rattle.tl_types.specs.declared.file_id.FileId.{FileId}
use Rattle.tl_types.specs.declared.worker_id.WorkerId.{WorkerId}
use Rattle.tl_model.specs.declared.event.Event.{Event}
use Rattle.tl_model.specs.History.{calls_of, files_from, outputs_of, records_of}
use Rattle.tl_model.specs.Past.{without_tickets}
use Rattle.tl_laws_drops.proofs.ManyDrops.{calls-kept}
use Rattle.tl_laws_drops.proofs.Tickets.{drops-without-tickets}
use Rattle.tl_cluster.specs.State.{State, past_of}
use Rattle.tl_cluster.specs.Turned.{Turned}
use Rattle.tl_cluster.specs.Works.{Blocks, Claimed, Finished, IsJobOf}
use Rattle.tl_cluster.specs.declared.work.Finish.{Finish}
use Rattle.tl_cluster.specs.declared.work.Finish.TheVariants as finish
use Rattle.tl_cluster.specs.declared.work.Work.{Work}
use Rattle.tl_tests_cluster.specs.Making.{HasSameCalls, MakesOne}

-- the calls after a turn are those of its main event and what follows it
pub turned-calls : {T : Type 0} (actor : Actor) (old new : State T) (main : List (Event T)) (blocks : FileId → Option FileOutcome) →
    Turned actor old main blocks new → calls_of (past_of new) ≡ calls_of (without_tickets main)
turned-calls actor old new main blocks t =
    ap (λ events. calls_of (without_tickets events)) t.events
    ∙ ap calls_of (drops-without-tickets actor t.drops main)
    ∙ calls-kept actor t.drops (without_tickets main)

pub claimed-calls : {T : Type 0} (tells : Bool) (content : T → List ℕ) (old new : State T) (actor : Actor) (worker : WorkerId) (work : Work T) →
    Claimed tells content old new actor worker (Some work) → HasSameCalls old new
claimed-calls tells content old new actor worker work c = turned-calls actor old new _ _ c.1

pub claimed-makes : {T : Type 0} (tells : Bool) (content : T → List ℕ) (old new : State T) (actor : Actor) (worker : WorkerId) (work : Work T) →
    Claimed tells content old new actor worker (Some work) → work.core.program.outputs ≡ 1 → MakesOne new work.rec
claimed-makes tells content old new actor worker work c one =
    let job : IsJobOf tells content old work = c.6 in
    ap (λ calls. option_map outputs_of (slice_get (records_of calls) work.rec.0)) (claimed-calls tells content old new actor worker work c)
    ∙ ap (option_map outputs_of) job.3
    ∙ ap (λ n. Some (files_from work.rec 0 n)) (sym job.5 ∙ one)

pub finished-calls : {T : Type 0} (old new : State T) (work : Work T) (blocks : Blocks) (how : Finish) →
    Finished old new work blocks how → HasSameCalls old new
finished-calls old new work blocks finish.Installed f = turned-calls work.actor old new _ _ f.1
finished-calls old new work blocks (finish.Void held now) f = ap (λ state. calls_of (past_of state)) f.3

-- where it was answered how the job ends
pub done-calls : {T E : Type 0} (old new : State T) (work : Work T) (blocks : Blocks) (result : Result Finish E) (how : Finish) (back : E → Type 0) →
    result ≡ Ok how → MatchResult result (Finished old new work blocks) back → HasSameCalls old new
done-calls {T} {E} old new work blocks result how back is answered =
    finished-calls old new work blocks how (subst (λ (r : Result Finish E). MatchResult r (Finished old new work blocks) back) is answered)
