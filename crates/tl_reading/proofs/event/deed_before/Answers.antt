use Rattle.std.proofs.Common.{◌++◌, sym, ◌∙◌, ap}
use Rattle.tl_reading.specs.Acts.{deed_text}
use Rattle.tl_reading.proofs.EventParts.{deed_cut}
use Rattle.tl_reading.proofs.Sayings.{no_space_in}
use Rattle.tl_reading.proofs.event.deed_before.Goals as goal

pub returns-in_err-rest-clause-none : goal.returns-in_err-rest-clause-none
returns-in_err-rest-clause-none c = rw c.from_residual.ensures (λ word rest e.
    no_space_in c.args.text.now c.token_of.result.0.now c.token_of.result.1.now (deed_text word) rest c.token_of.ensures.token c.token_of.ensures.cut c.in_err-rest.ensures.none e)

pub returns-in_err-deed-clause-none : goal.returns-in_err-deed-clause-none
returns-in_err-deed-clause-none c = rw c.from_residual-in_err-deed.ensures (λ word rest e.
    c.in_err-deed.ensures.none word
    (deed_cut c.token_of.result.0.now c.in_ok-rest.rest.now word rest c.token_of.ensures.token
    (sym (c.token_of.ensures.cut ∙ ap (λ more. c.token_of.result.0.now ++ more) c.in_ok-rest.ensures.found) ∙ e)))
