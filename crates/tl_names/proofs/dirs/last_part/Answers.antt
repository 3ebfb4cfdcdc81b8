use Rattle.std.proofs.Common.{◌-◌, ◌∙◌, ap, sym}
use Rattle.std.specs.Prelude.{slice_get}
use Rattle.tl_names.proofs.Rooms.{last_is}
use Rattle.tl_names.proofs.dirs.last_part.Goals as goal

pub returns : goal.returns
returns c = last_is c.args.path.now c.part.result.now (ap (λ k. slice_get c.args.path.now (k - 1)) (sym c.len.ensures.value) ∙ c.part.ensures)
