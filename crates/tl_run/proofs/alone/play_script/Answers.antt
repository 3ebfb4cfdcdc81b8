use Rattle.tl_run.proofs.Scripts.{script-lines, script-workers}
use Rattle.tl_run.proofs.alone.play_script.Goals as goal

pub play-requires-clause-lines : goal.play-requires-clause-lines
play-requires-clause-lines g c = script-lines _ c.in-Ok-parse.script.header c.in-Ok-parse.script.lines.items c.in-Ok-parse.ensures.read
