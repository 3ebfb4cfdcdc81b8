use Rattle.std.proofs.Common.{◌≡◌, ◌≤◌, true, length, map, take}
use Rattle.tl_work.specs.Loads.{fed_outcome}
use Rattle.tl_work.proofs.loading.outcomes_of.Given as goal

abbrev pub invariant-loop-feed : goal.invariant-loop-feed
invariant-loop-feed g l = record {
  each : length l.outcomes.items ≡ l.feed-index;
  told : g.D.Ticket.Ticket.tells ≡ true →
      l.outcomes.items ≡ map (fed_outcome g.D.Ticket.Ticket.content) (take l.feed-index l.feeds);
  never_falls : g.D.Depot.faults l.fn.depot ≤ g.D.Depot.faults l.depot;
}
