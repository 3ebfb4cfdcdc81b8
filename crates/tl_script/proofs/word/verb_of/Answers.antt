use Rattle.tl_script.proofs.WordTables.{found_in_table, none_in_table}
use Rattle.tl_script.proofs.word.verb_of.Goals as goal

pub returns-clause-found : goal.returns-clause-found
returns-clause-found c = rw c.find_verb.ensures (found_in_table c.args.word.now)

pub returns-clause-none : goal.returns-clause-none
returns-clause-none c = rw c.find_verb.ensures (none_in_table c.args.word.now)
