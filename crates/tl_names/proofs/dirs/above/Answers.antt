use Rattle.std.proofs.Common.{Ok, ap}
use Rattle.tl_names.proofs.Taken.{above_there, not_file, not_refused}
use Rattle.tl_names.proofs.dirs.above.Goals as goal

pub unreachable-requires : goal.unreachable-requires
unreachable-requires c =
    let led = above_there c.args.dirs.now.slots c.args.path.now (Ok c.in-Ok-File.field-0) c.requires.there c.requires.some c.in-Ok-File.ensures in
    not_file c.in-Ok-File.field-0-0 c.in-Ok-File.field-0-1 led.0 (Ok c.in-Ok-File.field-0) (ap Ok c.in-Ok-File.field-0-is) led.1

pub unreachable-requires-in-Err : goal.unreachable-requires-in-Err
unreachable-requires-in-Err c =
    let led = above_there c.args.dirs.now.slots c.args.path.now c.walk_above.result c.requires.there c.requires.some c.walk_above.ensures in
    not_refused c.in-Err._refusal led.0 c.walk_above.result c.in-Err.is led.1
