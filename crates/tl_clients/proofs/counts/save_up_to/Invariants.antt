use Rattle.std.proofs.Common.{◌≡◌, ◌≤◌, ◌-◌, true}
use Rattle.tl_types.specs.declared.worker_id.WorkerId.{WorkerId}
use Rattle.tl_model.specs.Actors.{is_idle}
use Rattle.tl_model.specs.Past.{without_tickets}
use Rattle.tl_work.specs.Setting.{setting}
use Rattle.tl_clients.proofs.SavingUp.{SavedSoFar}
use Rattle.tl_clients.proofs.counts.save_up_to.Given as goal

abbrev pub invariant-saves : goal.invariant-saves
invariant-saves g l = record {
  saved : (own : WorkerId) → SavedSoFar (setting g.K.Desk.whole g.D.Ticket.Ticket.tells g.D.Ticket.Ticket.content (g.K.Desk.post (g.K.Desk.home l.fn.desk)) own) l.done (g.K.Desk.seen l.fn.desk) (g.K.Desk.seen l.desk);
  few : l.done ≤ l.n;
  idle : is_idle (without_tickets (g.K.Desk.seen l.desk)) (g.K.Desk.post (g.K.Desk.home l.fn.desk)).actor ≡ true;
  home : g.K.Desk.home l.desk ≡ g.K.Desk.home l.fn.desk;
  never_falls : g.D.Depot.faults l.fn.depot ≤ g.D.Depot.faults l.depot;
}

abbrev pub decreases-saves : goal.decreases-saves
decreases-saves g l = l.n - l.done
