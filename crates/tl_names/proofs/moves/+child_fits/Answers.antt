use Rattle.std.proofs.Common.{[], ◌-◌, length, sym, ap, ◌∙◌}
use Rattle.std.specs.Prelude.{unwrap_or}
use Rattle.std.specs.List.{list_all}
use Rattle.std.specs.Map.Iter.{deref_pair}
use Rattle.std.proofs.lemmas.Map.Iter.{rest_all, rest_more}
use Rattle.tl_names.specs.Moves.{child_fits}
use Rattle.tl_names.specs.Tables.{children_at, children_of}
use Rattle.tl_names.proofs.Movable.{fits_dir, next_fails, next_passes, none_left}
use Rattle.tl_names.proofs.moves.+child_fits.Goals as goal

pub loop-next-init : goal.loop-next-init
loop-next-init t c =
    ap (list_all (child_fits c.args.dirs.now.slots (c.args.parts - 1) (c.args.bytes - 1 - length c.args.name.now)))
    (ap children_of c.into_iter-next-iterator.ensures.into_iter_gives ∙ c.iter-next-items.ensures ∙ ap (λ o. unwrap_or o []) c.in-Some.ensures)

pub returns-then-not-child_fits : goal.returns-then-not-child_fits
returns-then-not-child_fits t c =
    next_fails (child_fits c.args.dirs.now.slots (c.args.parts - 1) (c.args.bytes - 1 - length c.args.name.now)) (c.in-Some-2.next.now, c.in-Some-2.below.now) c.loop-next.next-iterator c.next.new.self
    (list_all (child_fits c.args.dirs.now.slots (c.args.parts - 1) (c.args.bytes - 1 - length c.args.name.now)) (children_at c.args.dirs.now.slots c.in-Dir.d))
    (rest_more deref_pair c.loop-next.next-iterator c.next.new.self c.next.result (c.in-Some-2.next, c.in-Some-2.below) c.in-Some-2.is c.next.ensures.steps)
    c.loop-next.invariant
    (ap (λ name. child_fits c.args.dirs.now.slots (c.args.parts - 1) (c.args.bytes - 1 - length c.args.name.now) (name, c.in-Some-2.below.now)) (sym c.deref.ensures.value) ∙ sym c.if-not-child_fits.ensures)
    ∙ sym (ap (λ x. child_fits c.args.dirs.now.slots c.args.parts c.args.bytes (c.args.name.now, x)) c.in-Dir.is
    ∙ fits_dir c.args.dirs.now.slots c.args.parts c.args.bytes c.args.name.now c.in-Dir.d c.if-parts-eq0.false c.if-name-bytes.false)

pub loop-next-preserved : goal.loop-next-preserved
loop-next-preserved t c =
    next_passes (child_fits c.args.dirs.now.slots (c.args.parts - 1) (c.args.bytes - 1 - length c.args.name.now)) (c.in-Some-2.next.now, c.in-Some-2.below.now) c.loop-next.next-iterator c.next.new.self _
    (rest_more deref_pair c.loop-next.next-iterator c.next.new.self c.next.result (c.in-Some-2.next, c.in-Some-2.below) c.in-Some-2.is c.next.ensures.steps)
    c.loop-next.invariant
    (ap (λ name. child_fits c.args.dirs.now.slots (c.args.parts - 1) (c.args.bytes - 1 - length c.args.name.now) (name, c.in-Some-2.below.now)) (sym c.deref.ensures.value) ∙ sym c.if-not-child_fits.ensures)

pub returns : goal.returns
returns t c =
    none_left (child_fits c.args.dirs.now.slots (c.args.parts - 1) (c.args.bytes - 1 - length c.args.name.now)) c.loop-next.next-iterator _
    (rest_all deref_pair c.loop-next.next-iterator c.next.new.self c.next.result c.in-None.is c.next.ensures.steps) c.loop-next.invariant
    ∙ sym (ap (λ x. child_fits c.args.dirs.now.slots c.args.parts c.args.bytes (c.args.name.now, x)) c.in-Dir.is
    ∙ fits_dir c.args.dirs.now.slots c.args.parts c.args.bytes c.args.name.now c.in-Dir.d c.if-parts-eq0.false c.if-name-bytes.false)
