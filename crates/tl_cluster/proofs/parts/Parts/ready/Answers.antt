use Rattle.tl_cluster.proofs.Keeping.{more-room}
use Rattle.tl_cluster.proofs.parts.Parts.ready.Goals as goal

pub returns-in_err-make_place-clause-same : goal.returns-in_err-make_place-clause-same
returns-in_err-make_place-clause-same g c =
    more-room g.T.Ticket.tells g.T.Ticket.content c.args.self.now c.reserve.new.self c.make_place.new.self c.requires
    c.in_ok-reserve.ensures.ok c.make_place.ensures.same c.make_place.ensures.kept c.make_place.ensures.places

pub returns-clause-same : goal.returns-clause-same
returns-clause-same g c =
    more-room g.T.Ticket.tells g.T.Ticket.content c.args.self.now c.reserve.new.self c.make_place.new.self c.requires
    c.in_ok-reserve.ensures.ok c.make_place.ensures.same c.make_place.ensures.kept c.make_place.ensures.places
