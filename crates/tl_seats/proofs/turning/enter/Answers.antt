use Rattle.std.proofs.Common.{sym, ap, ◌∙◌, subst}
use mathlib.Core.List.{IsSuffix}
use Rattle.tl_turn.specs.Log.{entries_by}
use Rattle.tl_seats.specs.Seats.{number_of}
use Rattle.tl_seats.proofs.Carrying.{finds}
use Rattle.tl_seats.proofs.turning.enter.Goals as goal

pub returns-clause-found : goal.returns-clause-found
returns-clause-found g c actor same =
    let seat = c.args.seat.now in
    let handed = c.into_cluster.ensures.cluster in
    finds actor seat.seen c.into_cluster.result.events seat.mine
    (subst (λ s. IsSuffix seat.seen s.events) (sym handed) c.enter.ensures.seen)
    (ap (λ s. entries_by number_of actor.0 s.events) handed
    ∙ ap (λ n. entries_by number_of n c.enter.result.cluster.events) (sym same) ∙ c.enter.ensures.mine)
    (ap (λ n. entries_by number_of n seat.seen) (sym same) ∙ c.enter.ensures.own)
