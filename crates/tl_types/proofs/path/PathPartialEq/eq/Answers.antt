use Rattle.std.specs.Cmp.Derive.Mapped.{pointwise-map}
use Rattle.tl_types.proofs.path.PathPartialEq.eq.Goals as goal

pub returns : goal.returns
returns c = rw (← c.self.view_is, ← c.other.view_is, pointwise-map) c.eq.ensures
