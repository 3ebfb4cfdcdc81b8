use Rattle.tl_lang.proofs.MeanLaws.{same-outcome, at-entered}
use Rattle.tl_lang.proofs.laws.more_fuel_changes_nothing.Goals as goal

pub returns-clause-more : goal.returns-clause-more
returns-clause-more c given fuel more le enough = same-outcome given c.args._output.now fuel more le enough

pub returns-clause-less : goal.returns-clause-less
returns-clause-less c given fuel units less enough = at-entered given c.args._output.now fuel enough units less
