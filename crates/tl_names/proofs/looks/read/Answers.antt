use Rattle.std.proofs.Common.{Ok, Err}
use Rattle.tl_names.proofs.Looked.{read_answers}
use Rattle.tl_names.proofs.looks.read.Goals as goal

pub returns-in-Ok : goal.returns-in-Ok
returns-in-Ok c = read_answers c.args.dirs.now.slots c.requires c.args.path.now (Ok c.in-Ok.file) c.in-Ok.ensures

pub returns-in-Err : goal.returns-in-Err
returns-in-Err c = read_answers c.args.dirs.now.slots c.requires c.args.path.now (Err c.in-Err.refusal) c.in-Err.ensures
