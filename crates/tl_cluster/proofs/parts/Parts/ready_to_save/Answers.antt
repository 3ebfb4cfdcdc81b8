use Rattle.std.proofs.Common.{sym, ap, ◌∙◌, subst}
use Rattle.tl_cluster.specs.Stands.{PartsState, Stands}
use Rattle.tl_cluster.proofs.Rooms.{places-stay, roomier-stands, with-places}
use Rattle.tl_cluster.proofs.parts.Parts.ready_to_save.Goals as goal

pub returns-clause-ready : goal.returns-clause-ready
returns-clause-ready g c =
    let inside = c.self.inside in
    let room = c.in_ok-reserve.ensures.ok in
    let same = c.self.view_is ∙ room.is in
    let stands = subst (Stands g.T.Ticket.tells g.T.Ticket.content) (sym c.self.view_is)
    (roomier-stands g.T.Ticket.tells g.T.Ticket.content 0 c.args.self.now c.reserve.new.self room c.requires.stands) in
    record {
      header = ap (λ (p : PartsState _). p.header) same;
      events = ap (λ (p : PartsState _). p.events) same;
      workers = ap (λ (p : PartsState _). p.workers) same;
      stands = with-places g.T.Ticket.tells g.T.Ticket.content _ c.room.new.self stands c.room.ensures.kept
          (places-stay inside.vault c.room.new.self c.args.file c.room.ensures.again c.room.ensures.others);
    }
