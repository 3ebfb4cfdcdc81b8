use Rattle.std.proofs.Common.{sym, subst}
use Rattle.std.proofs.lemmas.Bool.{and_parts}
use Rattle.tl_model.specs.Rules.{lawful_judge, all_permitted, is_quiet}
use Rattle.tl_laws.specs.Numbers.{Numbered}
use Rattle.tl_laws.proofs.Numbering.{all-numbered}
use Rattle.tl_laws.proofs.Tickets.{records-with}
use Rattle.tl_laws.proofs.numbers.records_are_numbered.Goals as goal

pub returns : goal.returns
returns g c = λ header past lawful.
    subst Numbered (sym (records-with (λ _. tt) past))
    (all-numbered lawful_judge header past (and_parts (all_permitted lawful_judge header past) (is_quiet lawful_judge past) lawful).0)
