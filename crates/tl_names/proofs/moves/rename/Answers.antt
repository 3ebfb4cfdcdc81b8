use Rattle.std.proofs.Common.{◌≡◌, ◌-◌, ◌≤◌, length, sym, ap, ◌∙◌, subst, arith}
use Rattle.std.specs.BTreeMap.{insert_entry}
use Rattle.std.specs.Cmp.Lexicographic.{slice_cmp}
use Rattle.std.specs.Map.{remove_entry}
use Rattle.std.specs.Ordering.{nat_cmp}
use Rattle.std.specs.Str.{bytes_eq}
use Rattle.slab.specs.Slab.{with_value}
use Rattle.tl_model.specs.Namespace.{parent}
use Rattle.tl_names.specs.Moves.{bytes_of, child_fits}
use Rattle.tl_names.specs.Tables.{IsKnown, child_at, children_at}
use Rattle.tl_names.proofs.Movable.{bytes_limit, front_bytes, path_limits}
use Rattle.tl_names.proofs.Moved.{moved_by, rename_done, rename_into_itself, rename_no_room, rename_too_deep, rename_unwalked}
use Rattle.tl_names.proofs.Places.{known_place}
use Rattle.tl_names.proofs.Rooms.{room_known}
use Rattle.tl_names.proofs.Trees.{set_known}
use Rattle.tl_names.proofs.moves.rename.Goals as goal

pub returns-in-Err-clause-ok : goal.returns-in-Err-clause-ok
returns-in-Err-clause-ok c = rename_unwalked c.args.dirs.now.slots c.requires c.args.from.now c.args.to.now c.in-Err.refusal (sym c.in-Err.ensures)

pub returns-then-is_below-clause-ok : goal.returns-then-is_below-clause-ok
returns-then-is_below-clause-ok c = rename_into_itself c.args.dirs.now.slots c.requires c.args.from.now c.args.to.now c.in-Ok.child (sym c.in-Ok.ensures) (sym c.if-is_below.ensures)

pub returns-in-Err-room_for-clause-ok : goal.returns-in-Err-room_for-clause-ok
returns-in-Err-room_for-clause-ok c =
    rename_no_room c.args.dirs.now.slots c.requires c.args.from.now c.args.to.now c.in-Ok.child c.in-Err-room_for.refusal (sym c.in-Ok.ensures) (sym c.if-is_below.ensures) (sym c.in-Err-room_for.ensures)

pub overflow_sub-bytes : goal.overflow_sub-bytes
overflow_sub-bytes c =
    let above : c.bytes_above-bytes.result ≡ bytes_of (parent c.args.to.now) = c.bytes_above-bytes.ensures in
    let front : bytes_of (parent c.args.to.now) ≤ bytes_of c.args.to.now = front_bytes c.args.to.now (length c.args.to.now - 1) in
    let limit : bytes_of c.args.to.now ≤ 1024 = bytes_limit c.args.to.now c.len.ensures.path in
    omega arith

pub returns-then-not-child_fits-clause-ok : goal.returns-then-not-child_fits-clause-ok
returns-then-not-child_fits-clause-ok c =
    rename_too_deep c.args.dirs.now.slots c.requires c.args.from.now c.args.to.now c.in-Ok.child c.in-Ok-room_for.d c.bytes_above-bytes.result (sym c.in-Ok.ensures) (sym c.if-is_below.ensures)
    (sym c.in-Ok-room_for.ensures) (path_limits c.args.to.now c.len.ensures.path).0 c.bytes_above-bytes.ensures
    (let above : c.bytes_above-bytes.result ≡ bytes_of (parent c.args.to.now) = c.bytes_above-bytes.ensures in
    let front : bytes_of (parent c.args.to.now) ≤ bytes_of c.args.to.now = front_bytes c.args.to.now (length c.args.to.now - 1) in
    let limit : bytes_of c.args.to.now ≤ 1024 = bytes_limit c.args.to.now c.len.ensures.path in
    omega arith)
    (sym (c.if-not-child_fits.ensures
    ∙ ap (λ n. child_fits c.args.dirs.now.slots (17 - n) (1024 - c.bytes_above-bytes.result) (c.last_part.result.now, c.in-Ok.child)) c.len.ensures.value
    ∙ ap (λ name. child_fits c.args.dirs.now.slots (17 - length c.args.to.now) (1024 - c.bytes_above-bytes.result) (name, c.in-Ok.child)) c.last_part.ensures))

pub set_child-requires : goal.set_child-requires
set_child-requires c = room_known c.args.dirs.now.slots c.requires c.args.to.now c.in-Ok-room_for.d (sym c.in-Ok-room_for.ensures)

pub unset_child-requires : goal.unset_child-requires
unset_child-requires c =
    subst (λ slab. IsKnown slab.slots c.above-left.result) (sym c.in_ok-set_child.ensures.ok)
    (set_known c.args.dirs.now.slots c.in-Ok-room_for.d c.above-left.result _ (known_place c.args.dirs.now.slots c.requires (parent c.args.from.now) c.above-left.result c.above-left.ensures))

pub returns-clause-ok : goal.returns-clause-ok
returns-clause-ok c =
    rename_done c.args.dirs.now.slots c.unset_child.new.dirs.slots c.args.from.now c.args.to.now c.in-Ok.child c.in-Ok-room_for.d c.above-left.result c.bytes_above-bytes.result
    (moved_by c.args.dirs.now c.set_child.new.dirs c.unset_child.new.dirs c.args.from.now c.args.to.now c.in-Ok.child c.in-Ok-room_for.d c.above-left.result c.requires (sym c.in-Ok.ensures)
    (sym c.if-is_below.ensures) (sym c.in-Ok-room_for.ensures) c.above-left.ensures
    (c.in_ok-set_child.ensures.ok
    ∙ ap (λ name. with_value c.args.dirs.now c.in-Ok-room_for.d (insert_entry (slice_cmp nat_cmp) (children_at c.args.dirs.now.slots c.in-Ok-room_for.d) name c.in-Ok.child)) c.in_ok-name.ensures)
    (c.unset_child.ensures.entries
    ∙ ap (λ name. with_value c.set_child.new.dirs c.above-left.result (remove_entry (bytes_eq name) (children_at c.set_child.new.dirs.slots c.above-left.result))) c.last_part-2.ensures)
    (ap (child_at c.unset_child.new.dirs.slots c.above-left.result) (sym c.last_part-2.ensures) ∙ c.unset_child.ensures.gone))
    (sym c.in-Ok-room_for.ensures) (path_limits c.args.to.now c.len.ensures.path).0 c.bytes_above-bytes.ensures
    (let above : c.bytes_above-bytes.result ≡ bytes_of (parent c.args.to.now) = c.bytes_above-bytes.ensures in
    let front : bytes_of (parent c.args.to.now) ≤ bytes_of c.args.to.now = front_bytes c.args.to.now (length c.args.to.now - 1) in
    let limit : bytes_of c.args.to.now ≤ 1024 = bytes_limit c.args.to.now c.len.ensures.path in
    omega arith)
    (sym (c.if-not-child_fits.ensures
    ∙ ap (λ n. child_fits c.args.dirs.now.slots (17 - n) (1024 - c.bytes_above-bytes.result) (c.last_part.result.now, c.in-Ok.child)) c.len.ensures.value
    ∙ ap (λ name. child_fits c.args.dirs.now.slots (17 - length c.args.to.now) (1024 - c.bytes_above-bytes.result) (name, c.in-Ok.child)) c.last_part.ensures))
