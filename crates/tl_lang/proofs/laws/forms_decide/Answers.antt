use Rattle.tl_lang.proofs.Levels.{kind_of-out, evaluate-out}
use Rattle.tl_lang.proofs.laws.forms_decide.Goals as goal

pub returns-clause-kinds : goal.returns-clause-kinds
returns-clause-kinds c inputs = kind_of-out inputs c.args._expr.now

pub returns-clause-meanings : goal.returns-clause-meanings
returns-clause-meanings c given = evaluate-out given c.args._expr.now
