use Rattle.std.proofs.Common.{◌+◌, ◌≤◌, sym, subst}
use Rattle.slab.specs.Slab.{HasRoomFor}
use Rattle.tl_names.specs.Tables.{IsKnown}
use Rattle.tl_names.proofs.Rooms.{count_kept, room_known}
use Rattle.tl_names.proofs.makes.make_dir.Goals as goal

pub set_child-requires : goal.set_child-requires
set_child-requires c =
    subst (λ slab. IsKnown slab.slots c.in-Ok.d) (sym c.in_ok-reserve.ensures.rest_kept) (room_known c.args.dirs.now.slots c.requires c.args.path.now c.in-Ok.d (sym c.in-Ok.ensures))

pub insert_reserved-requires : goal.insert_reserved-requires
insert_reserved-requires c =
    subst (λ slab. HasRoomFor slab 1) (sym c.in_ok-set_child.ensures.ok)
    (subst (λ n. n + 1 ≤ c.reserve.new.self.capacity) (sym (count_kept c.reserve.new.self.slots c.in-Ok.d _ (subst (λ slab. IsKnown slab.slots c.in-Ok.d) (sym c.in_ok-reserve.ensures.rest_kept) (room_known c.args.dirs.now.slots c.requires c.args.path.now c.in-Ok.d (sym c.in-Ok.ensures))))) c.in_ok-reserve.ensures.room)
