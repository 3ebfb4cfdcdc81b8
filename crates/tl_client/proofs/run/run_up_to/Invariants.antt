use Rattle.std.proofs.Common.{◌≡◌, ◌≤◌, ◌-◌, List, length}
use Rattle.tl_types.specs.declared.record_id.RecordId.{RecordId}
use Rattle.tl_core.specs.Answers.{past_of}
use Rattle.tl_client.specs.Pieces.{RanInTurn}
use Rattle.tl_client.specs.Rest.{NothingRuns, SameReads, SameSaves}
use Rattle.tl_client.proofs.run.run_up_to.Given as goal

abbrev pub invariant-jobs : goal.invariant-jobs
invariant-jobs l = record {
  ran : (ran : List RecordId) × RanInTurn l.fn.cluster.header.order l.actor l.worker ran l.fn.cluster.events l.cluster.events × (length ran ≡ l.count);
  few : l.count ≤ l.n;
  header : l.cluster.header ≡ l.fn.cluster.header;
  rest : NothingRuns (past_of l.cluster) l.actor;
  reads : SameReads (past_of l.fn.cluster) (past_of l.cluster);
  saves : SameSaves (past_of l.fn.cluster) (past_of l.cluster);
}

abbrev pub decreases-jobs : goal.decreases-jobs
decreases-jobs l = l.n - l.count
