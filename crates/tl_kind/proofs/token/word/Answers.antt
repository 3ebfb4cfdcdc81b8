use Rattle.std.proofs.Common.{refl, ◌∙◌}
use Rattle.tl_kind.proofs.Tokens.{refused_no_word, refused_unknown}
use Rattle.tl_kind.proofs.token.word.Goals as goal

pub returns-then-len-eq0-clause-bad : goal.returns-then-len-eq0-clause-bad
returns-then-len-eq0-clause-bad c = refused_no_word c.args.cursor.now.rest.now c.refused_first.result c.letters_len-len.result _ refl c.letters_len-len.ensures c.if-len-eq0.true c.refused_first.ensures

pub returns-in-None-clause-bad : goal.returns-in-None-clause-bad
returns-in-None-clause-bad c = refused_unknown c.args.cursor.now.rest.now c.letters_len-len.result _ refl c.letters_len-len.ensures c.if-len-eq0.false (λ w e. c.in-None.ensures.none w (c.split_at.ensures.front ∙ e))
