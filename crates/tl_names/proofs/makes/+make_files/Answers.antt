use Rattle.std.proofs.Common.{rules, length, ◌+◌, false, Some, None, ◌≡◌, sym, arith}
use Rattle.tl_model.specs.Namespace.{last_part, with_name}
use Rattle.tl_names.specs.declared.child.Child.TheVariants.{File}
use Rattle.tl_names.proofs.Outputs.{added_makes, makes_more, output, output_node, refused_here, refused_later}
use Rattle.tl_names.proofs.Restored.{file_restored_after, known_after, restored_after}
use Rattle.tl_names.proofs.Rooms.{room_found, room_known}
use Rattle.tl_names.proofs.makes.+make_files.Goals as goal

pub returns-in-Err-clause-refusal : goal.returns-in-Err-clause-refusal
returns-in-Err-clause-refusal t c =
    λ names stands. refused_here c.args.dirs.now.slots names c.args.paths.now c.in-Some.rest.now c.in-Some.path.now c.args.made.0 c.args.out c.in-Err.refusal stands c.in-Some.ensures.cases.0 (sym c.in-Err.ensures)

pub add_file-requires-clause-known : goal.add_file-requires-clause-known
add_file-requires-clause-known t c = room_known c.args.dirs.now.slots c.requires.tree c.in-Some.path.now c.in-Ok.d (sym c.in-Ok.ensures)

pub make_files-requires : goal.make_files-requires
make_files-requires t c =
    let more : length c.in-Some.rest.now + 1 ≡ length c.args.paths.now = c.in-Some.ensures.cases.1 in (
      search rules,
      ((added_makes c.args.dirs.now c.add_file.new.dirs c.requires.tree c.in-Some.path.now c.in-Ok.d _ (sym c.in-Ok.ensures) c.in_ok-added.ensures.named).tree, omega (arith, more, c.requires.few)),
    )

pub remove_file-requires-clause-known : goal.remove_file-requires-clause-known
remove_file-requires-clause-known t c =
    known_after c.args.dirs.now c.add_file.new.dirs c.make_files.new.dirs c.in-Ok.d _
    (room_known c.args.dirs.now.slots c.requires.tree c.in-Some.path.now c.in-Ok.d (sym c.in-Ok.ensures)) c.in_ok-added.ensures.named (rw c.in-Ok-Some.field-0-is at c.in-Ok-Some.ensures.kept).0

pub remove_file-requires-in-Err-make_files-clause-known :
    goal.remove_file-requires-in-Err-make_files-clause-known
remove_file-requires-in-Err-make_files-clause-known t c =
    known_after c.args.dirs.now c.add_file.new.dirs c.make_files.new.dirs c.in-Ok.d _
    (room_known c.args.dirs.now.slots c.requires.tree c.in-Some.path.now c.in-Ok.d (sym c.in-Ok.ensures)) c.in_ok-added.ensures.named c.in-Err-make_files.ensures.err.0

pub returns-in-Ok-None-clause-refusal : goal.returns-in-Ok-None-clause-refusal
returns-in-Ok-None-clause-refusal t c = λ names stands.
    refused_later c.args.dirs.now.slots names c.args.paths.now c.in-Some.rest.now c.in-Some.path.now c.args.made.0 c.args.out c.in-Ok.d None stands c.in-Some.ensures.cases.0 (sym c.in-Ok.ensures)
    (rw c.in-Ok-None.field-0-is at (c.in-Ok-None.ensures.refusal (with_name names c.in-Some.path.now (output_node c.args.made.0 c.args.out))
    ((added_makes c.args.dirs.now c.add_file.new.dirs c.requires.tree c.in-Some.path.now c.in-Ok.d _ (sym c.in-Ok.ensures) c.in_ok-added.ensures.named).stands names stands)))

pub returns-in-Ok-None-clause-made : goal.returns-in-Ok-None-clause-made
returns-in-Ok-None-clause-made t c =
    makes_more c.args.dirs.now.slots c.add_file.new.dirs.slots c.make_files.new.dirs.slots c.args.pins.now c.add_file.new.pins c.make_files.new.pins c.args.paths.now c.in-Some.rest.now
    c.in-Some.path.now c.args.made c.args.out c.in_ok-added.added c.in-Some.ensures.cases.0
    (added_makes c.args.dirs.now c.add_file.new.dirs c.requires.tree c.in-Some.path.now c.in-Ok.d _ (sym c.in-Ok.ensures) c.in_ok-added.ensures.named)
    c.in_ok-added.ensures.added c.in_ok-added.ensures.pins (rw c.in-Ok-None.field-0-is at c.in-Ok-None.ensures.made)

pub returns-in-Ok-Some-clause-refusal : goal.returns-in-Ok-Some-clause-refusal
returns-in-Ok-Some-clause-refusal t c = λ names stands.
    refused_later c.args.dirs.now.slots names c.args.paths.now c.in-Some.rest.now c.in-Some.path.now c.args.made.0 c.args.out c.in-Ok.d (Some c.in-Ok-Some.refusal) stands c.in-Some.ensures.cases.0 (sym c.in-Ok.ensures)
    (rw c.in-Ok-Some.field-0-is at (c.in-Ok-Some.ensures.refusal (with_name names c.in-Some.path.now (output_node c.args.made.0 c.args.out))
    ((added_makes c.args.dirs.now c.add_file.new.dirs c.requires.tree c.in-Some.path.now c.in-Ok.d _ (sym c.in-Ok.ensures) c.in_ok-added.ensures.named).stands names stands)))

pub returns-in-Ok-Some-clause-kept : goal.returns-in-Ok-Some-clause-kept
returns-in-Ok-Some-clause-kept t c = (
  restored_after c.args.dirs.now c.add_file.new.dirs c.make_files.new.dirs c.remove_file.new.dirs c.in-Ok.d (last_part c.in-Some.path.now) (File (output c.args.made.0 c.args.out) false)
      (room_known c.args.dirs.now.slots c.requires.tree c.in-Some.path.now c.in-Ok.d (sym c.in-Ok.ensures)) (room_found c.args.dirs.now.slots c.in-Some.path.now c.in-Ok.d (sym c.in-Ok.ensures)).new
      c.in_ok-added.ensures.named (rw c.in-Ok-Some.field-0-is at c.in-Ok-Some.ensures.kept).0 c.remove_file.ensures.named,
  file_restored_after c.args.pins.now c.add_file.new.pins c.make_files.new.pins c.remove_file.new.pins (output c.args.made.0 c.args.out) c.in_ok-added.added
      c.in_ok-added.ensures.added c.in_ok-added.ensures.pins (rw c.in-Ok-Some.field-0-is at c.in-Ok-Some.ensures.kept).1 c.remove_file.ensures.pins,
)

pub returns-in-Err-make_files-clause-err : goal.returns-in-Err-make_files-clause-err
returns-in-Err-make_files-clause-err t c = (
  restored_after c.args.dirs.now c.add_file.new.dirs c.make_files.new.dirs c.remove_file-in-Err-make_files.new.dirs c.in-Ok.d (last_part c.in-Some.path.now) (File (output c.args.made.0 c.args.out) false)
      (room_known c.args.dirs.now.slots c.requires.tree c.in-Some.path.now c.in-Ok.d (sym c.in-Ok.ensures)) (room_found c.args.dirs.now.slots c.in-Some.path.now c.in-Ok.d (sym c.in-Ok.ensures)).new
      c.in_ok-added.ensures.named c.in-Err-make_files.ensures.err.0 c.remove_file-in-Err-make_files.ensures.named,
  file_restored_after c.args.pins.now c.add_file.new.pins c.make_files.new.pins c.remove_file-in-Err-make_files.new.pins (output c.args.made.0 c.args.out) c.in_ok-added.added
      c.in_ok-added.ensures.added c.in_ok-added.ensures.pins c.in-Err-make_files.ensures.err.1 c.remove_file-in-Err-make_files.ensures.pins,
)
