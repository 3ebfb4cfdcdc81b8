use Rattle.std.proofs.Common.{◌++◌, sym, ◌∙◌, ap}
use Rattle.tl_report.specs.Words.{reply_words}
use Rattle.tl_reading.specs.Replies.{saying_of}
use Rattle.tl_reading.proofs.Sayings.{no_space_in, saying_cut, saying_joined, saying_same}
use Rattle.tl_reading.proofs.Stopping.{err_more, ok_both}
use Rattle.tl_reading.proofs.reply.reply_before.Goals as goal

pub returns-in_default-clause-none : goal.returns-in_default-clause-none
returns-in_default-clause-none c = λ reply rest is e.
    no_space_in c.args.text.now c.token_of.result.0.now c.token_of.result.1.now (reply_words reply) rest c.token_of.ensures.token c.token_of.ensures.cut c.in_default.ensures.none e

pub returns-in_default-saying_of-clause-none : goal.returns-in_default-saying_of-clause-none
returns-in_default-saying_of-clause-none c = λ reply rest is e.
    c.in_default-saying_of.ensures.none (saying_of reply)
    (saying_cut c.token_of.result.0.now c.in-Some.rest.now reply rest c.token_of.ensures.token
    (sym (c.token_of.ensures.cut ∙ ap (λ more. c.token_of.result.0.now ++ more) c.in-Some.ensures.found) ∙ e)).0

pub returns-clause-found : goal.returns-clause-found
returns-clause-found c =
    ok_both c.reply_said.result _ _ _
    (λ r same said. saying_joined c.args.text.now c.token_of.result.0.now c.in-Some.rest.now c.in-Some-saying_of.word r.0 r.1.now
    (c.token_of.ensures.cut ∙ ap (λ more. c.token_of.result.0.now ++ more) c.in-Some.ensures.found) c.in-Some-saying_of.ensures.found same said)
    c.reply_said.ensures.word c.reply_said.ensures.found

pub returns-clause-none : goal.returns-clause-none
returns-clause-none c =
    err_more c.reply_said.result _ _
    (λ none reply rest is e.
    let cut = saying_same c.token_of.result.0.now c.in-Some.rest.now c.in-Some-saying_of.word reply rest c.token_of.ensures.token c.in-Some-saying_of.ensures.found
    (sym (c.token_of.ensures.cut ∙ ap (λ more. c.token_of.result.0.now ++ more) c.in-Some.ensures.found) ∙ e) in
    none reply rest cut.0 is cut.1)
    c.reply_said.ensures.none
