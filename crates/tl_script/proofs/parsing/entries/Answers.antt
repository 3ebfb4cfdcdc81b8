use Rattle.std.proofs.Common.{sym, ◌∙◌}
use Rattle.tl_script.proofs.Scripts.{said_at_end}
use Rattle.tl_script.proofs.parsing.entries.Goals as goal

pub returns-clause-read : goal.returns-clause-read
returns-clause-read c = said_at_end c.args.header.now c.loop-rest.number c.args.text.now c.loop-rest.rest.now c.loop-rest.entries.items (sym c.is_empty.ensures ∙ c.loop-rest-test.false) c.loop-rest.invariant.read
