use Rattle.std.proofs.Common.{length, ap, sym}
use Rattle.std.proofs.lemmas.Bool.{eqb-false}
use Rattle.tl_script.proofs.Wrong.{refused_spare}
use Rattle.tl_script.proofs.token.at_end.Goals as goal

pub returns-else-is_empty-clause-bad : goal.returns-else-is_empty-clause-bad
returns-else-is_empty-clause-bad c = refused_spare c.args.text.now c.requires (λ e. let some = eqb-false _ 0 (sym c.if-is_empty.ensures) in some (ap length e))
