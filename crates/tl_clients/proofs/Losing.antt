-- A desk's loss as a line.
use Rattle.std.proofs.Common.{◌≡◌, ℕ, Bool, List, [], ◌∷◌, Result, Ok, Err, OnErr, OnOk, refl}
use Rattle.tl_types.specs.declared.worker_id.WorkerId.{WorkerId}
use Rattle.tl_model.specs.declared.answer.Answer.TheVariants.{Lost}
use Rattle.tl_model.specs.declared.event.Act.TheVariants.{Lose}
use Rattle.tl_desk.specs.Finds.{Post, Stays, Turns, is_any}
use Rattle.tl_desk.specs.Turns.{with_act}
use Rattle.tl_pieces.specs.Setting.{Setting, Events, event_by}
use Rattle.tl_pieces.specs.Faults.{FaultCount}
use Rattle.tl_pieces.specs.Lines.{IsLoseLine}
use Rattle.tl_work.specs.Setting.{setting}
use Rattle.tl_work.proofs.Finding.{found-adds, turn-adds}
use Rattle.tl_clients.specs.Ready.{IsReady}
use Rattle.tl_clients.proofs.Resting.{idle-on, ready-on}

-- a client that a worker was lost by, or not, is ready still
pub lose-ready : {T A E : Type 0} (whole tells : Bool) (content : T → List ℕ) (post post' : Post) (worker lost : WorkerId)
    (result : Result A E) (seen new : Events T) → post' ≡ post → IsReady whole post worker seen →
    OnOk result (Turns whole post.actor seen new is_any (with_act post.actor (Lose lost))) → OnErr result (Stays whole post.actor seen new is_any) →
    IsReady whole post' worker new
lose-ready {T} whole tells content post post' worker lost (Ok done) seen new same ready ok err =
    let s : Setting T = setting whole tells content post worker in
    ready-on whole tells content post post' worker (event_by post.actor (Lose lost) ∷ []) seen new same
    (turn-adds s seen new is_any (Lose lost) refl ok) refl ready
lose-ready {T} whole tells content post post' worker lost (Err error) seen new same ready ok err =
    let s : Setting T = setting whole tells content post worker in
    ready-on whole tells content post post' worker [] seen new same (found-adds s seen new err.finds) refl ready

-- the line of a loss
pub lost-line : {T : Type 0} (whole tells : Bool) (content : T → List ℕ) (post : Post) (worker lost : WorkerId) (count : FaultCount)
    (seen new : Events T) → IsReady whole post worker seen → Turns whole post.actor seen new is_any (with_act post.actor (Lose lost)) →
    IsLoseLine (setting whole tells content post worker) count lost seen new (Ok (Lost lost))
lost-line {T} whole tells content post worker lost count seen new ready t =
    let s : Setting T = setting whole tells content post worker in
    let adds = turn-adds s seen new is_any (Lose lost) refl t in
    record { ended = (refl, adds); rest = idle-on s (event_by post.actor (Lose lost) ∷ []) seen new adds refl ready.idle }
