use Rattle.std.proofs.Common.{refl}
use Rattle.tl_lineage.proofs.Stands.{next-stands}
use Rattle.tl_lineage.proofs.laws.slots_follow_the_journal.Goals as goal

pub returns-clause-empty : goal.returns-clause-empty
returns-clause-empty c = record { each = λ n. refl }

pub returns-clause-next : goal.returns-clause-next
returns-clause-next c = next-stands
