use Rattle.tl_kind.proofs.WordTable.{found_in_table, none_in_table}
use Rattle.tl_kind.proofs.word.word_of.Goals as goal

pub returns-clause-found : goal.returns-clause-found
returns-clause-found c = rw c.find_word.ensures (found_in_table c.args.letters.now)

pub returns-clause-none : goal.returns-clause-none
returns-clause-none c = rw c.find_word.ensures (none_in_table c.args.letters.now)
