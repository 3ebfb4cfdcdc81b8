use Rattle.tl_script.specs.Lines.{lines_of}
use Rattle.tl_script.proofs.Scripts.{reads_script}
use Rattle.tl_script.proofs.parsing.parse.Goals as goal

pub returns-clause-only : goal.returns-clause-only
returns-clause-only c = reads_script (lines_of c.args.text.now) c.script.result c.script.ensures.read c.script.ensures.refused
