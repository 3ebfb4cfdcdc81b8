-- Scopes as names with their kinds.
use Rattle.std.specs.Prelude.{[], ◌∷◌}
use Rattle.tl_lang.specs.Names.{Names}
use Rattle.tl_lang.specs.declared.kind.Kind.{Kind}
use Rattle.tl_kind.specs.declared.scope.Scope.{Scope}
use Rattle.tl_kind.specs.declared.scope.Scope.TheVariants.{Empty, Inner'}

abbrev pub names : Scope → Names Kind
names Empty = []
names (Inner' x k p outer) = (x.now, k) ∷ names outer
