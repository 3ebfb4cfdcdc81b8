use Rattle.std.proofs.Common.{arith, sym, ap, ◌∙◌}
use Rattle.tl_turn.proofs.Keeps.{splits, tells_own}
use Rattle.tl_turn.proofs.root.Root.seat.Goals as goal

pub split_seat-pass-requires : goal.split_seat-pass-requires
split_seat-pass-requires g c =
    let table = ap (λ r. r.turn) c.self.view_is ∙ c.requires.of ∙ sym c.turn.view_is in
    let made = ap (λ r. r.made) c.self.view_is in
    let rooted = c.self.invariant in
    let few = c.requires.few in
    (table, omega arith, splits g.S.Told.maker g.S.Told.log _ _ rooted.0 (omega arith))

pub load-requires : goal.load-requires
load-requires g c =
    let table = ap (λ r. r.turn) c.self.view_is ∙ c.requires.of ∙ sym c.turn.view_is in
    let split = c.split_seat-pass.ensures in
    (split.3 ∙ table, omega arith, tells_own g.S.Told.maker g.S.Told.log _ _ _ (ap (λ m. m.0.role) split.4))
