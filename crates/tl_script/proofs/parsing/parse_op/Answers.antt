use Rattle.std.proofs.Common.{arith}
use Rattle.tl_script.proofs.Unique.{reads_op}
use Rattle.tl_script.proofs.parsing.parse_op.Goals as goal

pub returns-clause-only : goal.returns-clause-only
returns-clause-only c = reads_op c.args.header.now c.args.text.now (omega arith) c.op_of.result c.op_of.ensures.read c.op_of.ensures.refused
