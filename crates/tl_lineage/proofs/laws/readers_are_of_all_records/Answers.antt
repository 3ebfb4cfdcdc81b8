use Rattle.tl_model.specs.History.{records}
use Rattle.tl_lineage.specs.Standing.{is_gone}
use Rattle.tl_lineage.proofs.Stands.{readers-at}
use Rattle.tl_lineage.proofs.laws.readers_are_of_all_records.Goals as goal

pub returns : goal.returns
returns c = λ past slots f stand. readers-at f (is_gone past) (records past) slots stand.each
