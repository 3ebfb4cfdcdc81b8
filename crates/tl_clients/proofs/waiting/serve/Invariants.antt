use Rattle.std.proofs.Common.{◌≡◌, ◌≤◌, ◌+◌, ◌-◌, ◌^◌, true}
use Rattle.tl_work.specs.Runs.{NothingRuns, task_count}
use Rattle.tl_work.specs.Setting.{setting}
use Rattle.tl_clients.specs.Waits.{IsWaiting, WaitsSoFar}
use Rattle.tl_clients.proofs.waiting.serve.Given as goal

abbrev pub invariant-rounds : goal.invariant-rounds
invariant-rounds g l = record {
  so_far : WaitsSoFar (setting g.K.Desk.whole g.D.Ticket.Ticket.tells g.D.Ticket.Ticket.content (g.K.Desk.post (g.K.Desk.home l.fn.desk)) l.worker)
      l.file (g.K.Desk.seen l.fn.desk) (g.K.Desk.seen l.desk);
  waiting : IsWaiting (setting g.K.Desk.whole g.D.Ticket.Ticket.tells g.D.Ticket.Ticket.content (g.K.Desk.post (g.K.Desk.home l.fn.desk)) l.worker)
      l.file (g.K.Desk.seen l.desk);
  alone : g.K.Desk.whole ≡ true → NothingRuns (g.K.Desk.seen l.desk);
  fewer : g.K.Desk.whole ≡ true → l.rounds + task_count (g.K.Desk.seen l.desk) ≤ task_count (g.K.Desk.seen l.fn.desk);
  never_falls : g.D.Depot.faults l.fn.depot ≤ g.D.Depot.faults l.depot;
  home : g.K.Desk.home l.desk ≡ g.K.Desk.home l.fn.desk;
}

abbrev pub decreases-rounds : goal.decreases-rounds
decreases-rounds g l = 2 ^ 64 - 1 - l.rounds
