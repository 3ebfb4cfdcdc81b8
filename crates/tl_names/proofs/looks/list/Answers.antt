use Rattle.std.proofs.Common.{Ok, sym, ap, ◌∙◌}
use Rattle.tl_names.proofs.Looked.{list_dir, list_file, list_refused}
use Rattle.tl_names.proofs.looks.list.Goals as goal

pub returns-in_ok-entries-in-Ok-Dir : goal.returns-in_ok-entries-in-Ok-Dir
returns-in_ok-entries-in-Ok-Dir c =
    list_dir c.args.dirs.now.slots c.requires c.args.path.now c.in-Ok-Dir.d c.from_vec.result (sym c.in-Ok-Dir.ensures ∙ ap Ok c.in-Ok-Dir.field-0-is)
    (c.from_vec.ensures ∙ c.in_ok-entries-in-Ok-Dir.ensures)

pub returns-in-Ok-File : goal.returns-in-Ok-File
returns-in-Ok-File c =
    list_file c.args.dirs.now.slots c.requires c.args.path.now c.in-Ok-File.field-0-0 c.in-Ok-File.field-0-1 (sym c.in-Ok-File.ensures ∙ ap Ok c.in-Ok-File.field-0-is)

pub returns-in-Err : goal.returns-in-Err
returns-in-Err c = list_refused c.args.dirs.now.slots c.requires c.args.path.now c.in-Err.refusal (sym c.in-Err.ensures)
