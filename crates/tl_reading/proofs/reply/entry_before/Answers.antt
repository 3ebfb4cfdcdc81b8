use Rattle.std.proofs.Common.{◌++◌, sym, ◌∙◌, ap}
use Rattle.tl_report.specs.Words.{entry_word}
use Rattle.tl_script.proofs.Splits.{one_cut}
use Rattle.tl_reading.proofs.Names.{entry_without_space}
use Rattle.tl_reading.proofs.Sayings.{no_space_in}
use Rattle.tl_reading.proofs.reply.entry_before.Goals as goal

pub returns-in_default-clause-none : goal.returns-in_default-clause-none
returns-in_default-clause-none c = λ entry rest is e.
    no_space_in c.args.text.now c.token_of.result.0.now c.token_of.result.1.now (entry_word entry) rest c.token_of.ensures.token c.token_of.ensures.cut c.in_default.ensures.none e

pub returns-in_default-name_of-clause-none : goal.returns-in_default-name_of-clause-none
returns-in_default-name_of-clause-none c = λ entry rest is e.
    c.in_default-name_of.ensures.none entry is
    (one_cut 32 c.token_of.result.0.now c.in-Some.rest.now (entry_word entry) rest c.token_of.ensures.token (entry_without_space entry is)
    (sym (c.token_of.ensures.cut ∙ ap (λ more. c.token_of.result.0.now ++ more) c.in-Some.ensures.found) ∙ e)).0
