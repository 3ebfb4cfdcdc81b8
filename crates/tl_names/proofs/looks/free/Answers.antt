use Rattle.std.proofs.Common.{Ok, Err}
use Rattle.tl_names.proofs.Looked.{free_answers}
use Rattle.tl_names.proofs.looks.free.Goals as goal

pub returns-in-Ok : goal.returns-in-Ok
returns-in-Ok c = free_answers c.args.dirs.now.slots c.requires c.args.path.now (Ok c.in-Ok.field-0) c.in-Ok.ensures

pub returns-in-Err : goal.returns-in-Err
returns-in-Err c = free_answers c.args.dirs.now.slots c.requires c.args.path.now (Err c.in-Err.refusal) c.in-Err.ensures
