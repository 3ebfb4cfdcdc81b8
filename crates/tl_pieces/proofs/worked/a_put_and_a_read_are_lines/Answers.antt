use Rattle.tl_pieces.proofs.Examples.{put-line, read-line, try-line}
use Rattle.tl_pieces.proofs.worked.a_put_and_a_read_are_lines.Goals as goal

pub returns-clause-puts : goal.returns-clause-puts
returns-clause-puts g c = λ s count text digest ticket of_text told. put-line s count text digest ticket of_text told

pub returns-clause-reads : goal.returns-clause-reads
returns-clause-reads g c = λ s count text digest ticket of_text told. read-line s count text digest ticket of_text told

pub returns-clause-tries : goal.returns-clause-tries
returns-clause-tries g c = λ s count text digest ticket of_text told. try-line s count text digest ticket of_text told
