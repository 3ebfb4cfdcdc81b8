use Rattle.std.proofs.Common.{◌≡◌, List, length}
use Rattle.tl_types.specs.declared.record_id.RecordId.{RecordId}
use Rattle.tl_model.specs.Plan.{tasks}
use Rattle.tl_model.specs.Tables.{chosen}
use Rattle.tl_core.specs.Answers.{past_of}
use Rattle.tl_client.specs.Pieces.{Ran}
use Rattle.tl_client.specs.Rest.{NothingRuns, SameReads, SameSaves}
use Rattle.tl_client.proofs.reading.serve.Given as goal

abbrev pub invariant-rounds : goal.invariant-rounds
invariant-rounds l = record {
  runs : (ran : List RecordId) × Ran l.fn.cluster.header.order l.actor l.worker l.file ran l.fn.cluster.events l.cluster.events;
  header : l.cluster.header ≡ l.fn.cluster.header;
  rest : NothingRuns (past_of l.cluster) l.actor;
  reads : SameReads (past_of l.fn.cluster) (past_of l.cluster);
  saves : SameSaves (past_of l.fn.cluster) (past_of l.cluster);
}

abbrev pub decreases-rounds : goal.decreases-rounds
decreases-rounds l = length (chosen (tasks (past_of l.cluster)))
