use Rattle.std.specs.Prelude.{string_bytes, codes}
use Rattle.tl_run.proofs.WordLemmas.{only_word}
use Rattle.tl_run.proofs.words.is_alone.Goals as goal

pub returns-in-len1 : goal.returns-in-len1
returns-in-len1 c = only_word string_bytes c.args.words.now c.word-item.result (codes "alone") c.as_str.result.now c.eq.result c.in-len1.len_at_least c.in-len1.len_below c.word-item.is c.as_str.ensures.value c.eq.ensures
