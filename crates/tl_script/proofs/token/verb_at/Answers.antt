use Rattle.tl_script.proofs.OneToken.{no_verb_first}
use Rattle.tl_script.proofs.token.verb_at.Goals as goal

pub returns-in_err-verb-clause-none : goal.returns-in_err-verb-clause-none
returns-in_err-verb-clause-none c =
    rw c.from_residual.ensures (no_verb_first c.args.front.now c.token_of.result.0.now c.token_of.result.1.now c.token_of.ensures.cut c.token_of.ensures.token c.token_of.ensures.ended c.in_err-verb.ensures.none)
