use Rattle.std.proofs.Common.{◌≡◌, ◌≤◌, ◌-◌, ◌^◌, true, false}
use Rattle.tl_model.specs.Actors.{is_idle}
use Rattle.tl_model.specs.Past.{without_tickets}
use Rattle.tl_work.specs.Setting.{setting}
use Rattle.tl_crew.specs.Rounds.{StopsAfter}
use Rattle.tl_crew.proofs.crew.make_rounds.Given as goal

abbrev pub invariant-rounds : goal.invariant-rounds
invariant-rounds g l = record {
  so_far : StopsAfter (setting g.K.Desk.whole g.D.Ticket.Ticket.tells g.D.Ticket.Ticket.content (g.K.Desk.post (g.K.Desk.home l.fn.desk)) l.worker)
      (record { before = g.H.Stop.noes l.fn.stop; now = g.H.Stop.noes l.stop }) (g.K.Desk.seen l.fn.desk) (g.K.Desk.seen l.desk);
  idle : is_idle (without_tickets (g.K.Desk.seen l.desk)) (g.K.Desk.post (g.K.Desk.home l.fn.desk)).actor ≡ true;
  told : g.H.Stop.told l.stop ≡ false;
  home : g.K.Desk.home l.desk ≡ g.K.Desk.home l.fn.desk;
  never_falls : g.D.Depot.faults l.fn.depot ≤ g.D.Depot.faults l.depot;
}

abbrev pub decreases-rounds : goal.decreases-rounds
decreases-rounds g l = 2 ^ 64 - g.H.Stop.noes l.stop
