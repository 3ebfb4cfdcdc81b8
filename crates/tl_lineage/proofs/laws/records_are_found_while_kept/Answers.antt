use Rattle.std.proofs.Common.{slice_get}
use Rattle.tl_model.specs.History.{record_at}
use Rattle.tl_lineage.specs.Standing.{is_gone}
use Rattle.tl_lineage.proofs.Stands.{found-at}
use Rattle.tl_lineage.proofs.laws.records_are_found_while_kept.Goals as goal

pub returns : goal.returns
returns c = λ past slots made stand. found-at (is_gone past made.0) (slice_get slots made.0) (record_at past made) (stand.each made.0)
