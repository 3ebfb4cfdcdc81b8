use Rattle.std.proofs.Common.{sym, ◌∙◌}
use Rattle.tl_names.proofs.Making.{mkdir_made, mkdir_refused}
use Rattle.tl_names.proofs.makes.mkdir.Goals as goal

pub returns-in-None-clause-ok : goal.returns-in-None-clause-ok
returns-in-None-clause-ok c =
    mkdir_made c.args.dirs.now.slots c.make_dir.new.dirs.slots c.requires c.args.path.now (sym c.in-None.is ∙ c.in_ok-make_dir.ensures.refusal) (rw c.in-None.is at c.in_ok-make_dir.ensures.made)

pub returns-in-Some-clause-ok : goal.returns-in-Some-clause-ok
returns-in-Some-clause-ok c =
    mkdir_refused c.args.dirs.now.slots c.make_dir.new.dirs.slots c.requires c.args.path.now c.in-Some.refusal (sym c.in-Some.is ∙ c.in_ok-make_dir.ensures.refusal) (rw c.in-Some.is at c.in_ok-make_dir.ensures.kept)
