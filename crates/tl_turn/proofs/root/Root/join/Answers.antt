use Rattle.std.proofs.Common.{arith, sym, ap, ◌∙◌}
use Rattle.tl_turn.proofs.Keeps.{joins, tells_both}
use Rattle.tl_turn.proofs.Turns.{seated_away}
use Rattle.tl_turn.proofs.root.Root.join.Goals as goal

pub join_seat-requires : goal.join_seat-requires
join_seat-requires g c =
    let table = ap (λ r. r.turn) c.self.view_is ∙ c.requires.of.0 ∙ sym c.turn.view_is in
    let other = ap (λ s. s.turn) c.seat.view_is ∙ c.requires.of.1 ∙ sym c.turn.view_is in
    let away = seated_away _ _ c.seat.invariant.seated (ap (λ s. s.holds) c.seat.view_is ∙ c.requires.away) in
    (table, other, away.1, omega arith, joins g.S.Told.maker g.S.Told.log _ _ _ _ c.self.invariant.0 away.0)

pub load-requires : goal.load-requires
load-requires g c =
    let table = ap (λ r. r.turn) c.self.view_is ∙ c.requires.of.0 ∙ sym c.turn.view_is in
    let joined = c.join_seat.ensures in
    (joined.0 ∙ table, omega arith, tells_both g.S.Told.maker g.S.Told.log _ _ _ (ap (λ m. m.0.role) joined.2 ∙ c.self.invariant.0))
