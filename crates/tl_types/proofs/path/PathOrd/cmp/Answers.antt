use Rattle.std.specs.Cmp.Derive.Mapped.{lex_map}
use Rattle.tl_types.proofs.path.PathOrd.cmp.Goals as goal

pub returns : goal.returns
returns c = rw (← c.self.view_is, ← c.other.view_is, lex_map) c.cmp.ensures
