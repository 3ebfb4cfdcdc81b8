use Rattle.std.proofs.Common.{◌≡◌, ◌≤◌, true}
use Rattle.tl_types.specs.declared.worker_id.WorkerId.{WorkerId}
use Rattle.tl_model.specs.Actors.{is_idle}
use Rattle.tl_model.specs.Past.{without_tickets}
use Rattle.tl_work.specs.Setting.{setting}
use Rattle.tl_clients.proofs.Working.{RanSoFar}
use Rattle.tl_clients.proofs.counts.run_up_to.Given as goal

abbrev pub invariant-runs : goal.invariant-runs
invariant-runs g l = record {
  ran : (own : WorkerId) → RanSoFar (setting g.K.Desk.whole g.D.Ticket.Ticket.tells g.D.Ticket.Ticket.content (g.K.Desk.post (g.K.Desk.home l.fn.desk)) own) l.worker l.done (g.K.Desk.seen l.fn.desk) (g.K.Desk.seen l.desk);
  few : l.done ≤ l.n;
  alone : g.K.Desk.whole ≡ true → l.done ≡ l.counter;
  idle : is_idle (without_tickets (g.K.Desk.seen l.desk)) (g.K.Desk.post (g.K.Desk.home l.fn.desk)).actor ≡ true;
  home : g.K.Desk.home l.desk ≡ g.K.Desk.home l.fn.desk;
  never_falls : g.D.Depot.faults l.fn.depot ≤ g.D.Depot.faults l.depot;
}
