use Rattle.std.proofs.Common.{◌≡◌}
use Rattle.tl_turn.specs.Plays.{IsWaiting}
use Rattle.tl_turn.proofs.steps.wait_and_take.Given as goal

abbrev pub invariant-loop : goal.invariant-loop
invariant-loop g l = record { table : l.pass.table_id ≡ l.fn.pass.table_id; waiting : IsWaiting l.fn.pass.me.0 l.ticket l.pass.me }
