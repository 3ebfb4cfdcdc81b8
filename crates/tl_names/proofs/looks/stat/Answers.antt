use Rattle.std.proofs.Common.{Ok, sym, ap, ◌∙◌}
use Rattle.tl_names.proofs.Looked.{stat_dir, stat_file, stat_refused}
use Rattle.tl_names.proofs.looks.stat.Goals as goal

pub returns-in-Ok-Dir : goal.returns-in-Ok-Dir
returns-in-Ok-Dir c =
    stat_dir c.args.dirs.now.slots c.requires c.args.path.now c.in-Ok-Dir.d c.child_count-children.result (sym c.in-Ok-Dir.ensures ∙ ap Ok c.in-Ok-Dir.field-0-is)
    c.child_count-children.ensures

pub returns-in-Ok-File : goal.returns-in-Ok-File
returns-in-Ok-File c = stat_file c.args.dirs.now.slots c.requires c.args.path.now c.in-Ok-File.file c.in-Ok-File.pinned (sym c.in-Ok-File.ensures ∙ ap Ok c.in-Ok-File.field-0-is)

pub returns-in-Err : goal.returns-in-Err
returns-in-Err c = stat_refused c.args.dirs.now.slots c.requires c.args.path.now c.in-Err.refusal (sym c.in-Err.ensures)
