use Rattle.std.proofs.Common.{◌∷◌, refl, ap, ◌∙◌, subst}
use Rattle.tl_model.specs.declared.event.Act.TheVariants.{Lose}
use Rattle.tl_cluster.specs.Losses.{without_worker}
use Rattle.tl_cluster.specs.Main.{with_lost}
use Rattle.tl_cluster.specs.Stands.{PartsState}
use Rattle.tl_cluster.specs.State.{State}
use Rattle.tl_cluster.specs.Turned.{Settled, Turned}
use Rattle.tl_cluster.proofs.Losing.{held-lost}
use Rattle.tl_cluster.proofs.Rooms.{roomier-stands}
use Rattle.tl_cluster.proofs.Turning.{state_of, turned}
use Rattle.tl_cluster.proofs.cluster.Cluster.lose.Goals as goal

pub lose-requires-clause-stands : goal.lose-requires-clause-stands
lose-requires-clause-stands g c =
    roomier-stands g.T.Ticket.tells g.T.Ticket.content 0 c.self.inside.parts c.reserve.new.self c.in_ok-reserve.ensures.ok c.self.invariant

pub returns-clause-ok : goal.returns-clause-ok
returns-clause-ok g c =
    let parts = c.self.inside.parts in
    let actor = c.args.actor in
    let worker = c.args.worker in
    let after : State _ = state_of c.settle.new.self in
    let room = c.in_ok-reserve.ensures.ok in
    let main = c.lose.ensures.lost ∙ ap (with_lost actor worker) room.is in
    let settled = subst (λ (p : PartsState _). Settled actor p c.settle.new.self) main c.settle.ensures.settled in
    subst (λ (s : State _). Turned actor s (record { actor = actor; act = Lose worker } ∷ s.events) (without_worker worker s) after) c.self.view_is
    (turned actor parts (with_lost actor worker (record parts { spare = c.reserve.new.self.spare })) c.settle.new.self (without_worker worker (state_of parts)) refl
    (λ f. held-lost g.T.Ticket.tells g.T.Ticket.content parts worker f c.self.invariant.agrees) settled)
