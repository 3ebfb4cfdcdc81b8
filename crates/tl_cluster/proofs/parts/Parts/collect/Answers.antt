use Rattle.std.proofs.Common.{ap, ◌∙◌, length}
use Rattle.tl_model.specs.History.{records}
use Rattle.tl_model.specs.Past.{without_tickets}
use Rattle.tl_cluster.specs.Stands.{PartsState}
use Rattle.tl_cluster.proofs.LettingGo.{room-made}
use Rattle.tl_cluster.proofs.Rooms.{roomier-stands}
use Rattle.tl_cluster.proofs.parts.Parts.collect.Goals as goal

pub collect_most-requires-clause-stands : goal.collect_most-requires-clause-stands
collect_most-requires-clause-stands g c =
    roomier-stands g.T.Ticket.tells g.T.Ticket.content c.min-most.result c.args.self.now c.reserve.new.self c.in_ok-reserve.ensures.ok c.requires.stands

pub collect_most-requires-clause-room : goal.collect_most-requires-clause-room
collect_most-requires-clause-room g c =
    let accepted = c.accepted.ensures ∙ ap (λ (p : PartsState _). length (records (without_tickets p.events))) c.self.view_is in
    room-made c.args.n c.accepted.result.0 c.min-most.result c.args.self.now c.reserve.new.self accepted c.min-most.ensures c.in_ok-reserve.ensures.ok
