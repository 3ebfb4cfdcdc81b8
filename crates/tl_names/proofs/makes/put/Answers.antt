use Rattle.std.proofs.Common.{sym, ap, ◌∙◌}
use Rattle.tl_names.proofs.Making.{put_made, put_refused}
use Rattle.tl_names.proofs.makes.put.Goals as goal

pub returns-in-None-clause-ok : goal.returns-in-None-clause-ok
returns-in-None-clause-ok c =
    put_made c.args.dirs.now.slots c.make_files.new.dirs.slots c.args.pins.now c.make_files.new.pins c.args.path.now c.from_ref.result.now c.args.next c.from_ref.ensures.value
    (λ names stands. sym c.in-None.is ∙ c.in_ok-make_files.ensures.refusal names stands) (rw c.in-None.is at c.in_ok-make_files.ensures.made)

pub returns-in-Some-clause-ok : goal.returns-in-Some-clause-ok
returns-in-Some-clause-ok c =
    let kept = (rw c.in-Some.is at c.in_ok-make_files.ensures.kept) in
    put_refused c.args.dirs.now.slots c.make_files.new.dirs.slots c.args.pins.now c.make_files.new.pins c.args.path.now c.from_ref.result.now c.args.next c.in-Some.refusal c.requires c.from_ref.ensures.value
    (λ names stands. sym c.in-Some.is ∙ c.in_ok-make_files.ensures.refusal names stands) (ap (λ slab. slab.slots) kept.0) kept.1
