use Rattle.std.proofs.Common.{◌∙◌}
use Rattle.tl_eval.proofs.Searching.{is_some-occurs}
use Rattle.tl_eval.proofs.texts.has.Goals as goal

pub returns : goal.returns
returns c = c.is_some.ensures ∙ is_some-occurs c.args.text.now c.args.part.now c.find.result c.find.ensures
