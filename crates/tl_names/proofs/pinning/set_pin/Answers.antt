use Rattle.std.proofs.Common.{sym, ap, ◌∙◌}
use Rattle.tl_model.specs.Namespace.{parent}
use Rattle.tl_names.proofs.Places.{known_place}
use Rattle.std.specs.BTreeMap.{insert_entry}
use Rattle.std.specs.Cmp.Lexicographic.{slice_cmp}
use Rattle.std.specs.Ordering.{nat_cmp}
use Rattle.slab.specs.Slab.{with_value}
use Rattle.tl_names.specs.declared.child.Child.TheVariants.{File}
use Rattle.tl_names.specs.Tables.{child_at, children_at}
use Rattle.tl_names.proofs.Results.{err_holds, ok_holds}
use Rattle.tl_names.proofs.Taken.{file_pinned, file_there, name_there, pin_refused}
use Rattle.tl_names.proofs.pinning.set_pin.Goals as goal

pub returns-in-Err-clause-ok : goal.returns-in-Err-clause-ok
returns-in-Err-clause-ok c = pin_refused c.args.dirs.now.slots c.args.pins.now c.args.path.now c.args.pinned c.in-Err.refusal c.requires (sym c.in-Err.ensures)

pub set_child-requires : goal.set_child-requires
set_child-requires c = known_place c.args.dirs.now.slots c.requires (parent c.args.path.now) c.above-d.result c.above-d.ensures

pub unreachable-requires : goal.unreachable-requires
unreachable-requires c =
    let at = file_there c.args.dirs.now.slots c.args.path.now c.in-Ok.file c.in-Ok.ensures in
    name_there c.args.dirs.now.slots c.args.path.now c.above-d.result c.in-Ok.file at.0 at.1 c.above-d.ensures
    (ap (child_at c.args.dirs.now.slots c.above-d.result) (sym c.in_ok-name.ensures) ∙ err_holds c.set_child.result (sym c.if-is_err.ensures.value) c.set_child.ensures.absent)

pub returns-clause-ok : goal.returns-clause-ok
returns-clause-ok c =
    let at = file_there c.args.dirs.now.slots c.args.path.now c.in-Ok.file c.in-Ok.ensures in
    file_pinned c.args.dirs.now c.set_child.new.dirs c.args.pins.now c.set.new.self c.args.path.now c.above-d.result c.in-Ok.file at.0 c.args.pinned c.requires at.1 c.above-d.ensures
    (ok_holds c.set_child.result (sym c.if-is_err.ensures.value) c.set_child.ensures.ok
    ∙ ap (λ name. with_value c.args.dirs.now c.above-d.result (insert_entry (slice_cmp nat_cmp) (children_at c.args.dirs.now.slots c.above-d.result) name (File c.in-Ok.file c.args.pinned))) c.in_ok-name.ensures)
    c.in_ok-set.ensures.ok
