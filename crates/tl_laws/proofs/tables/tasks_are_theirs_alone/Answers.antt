use Rattle.tl_laws.proofs.TableLaws.{downward-Solves, Solves-only}
use Rattle.tl_laws.proofs.tables.tasks_are_theirs_alone.Goals as goal

pub returns-clause-solves : goal.returns-clause-solves
returns-clause-solves c past = downward-Solves _ _

pub returns-clause-only : goal.returns-clause-only
returns-clause-only c past table s = Solves-only _ _ table s
