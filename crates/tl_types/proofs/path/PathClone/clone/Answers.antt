use Rattle.std.proofs.Common.{◌∙◌, subst, sym}
use Rattle.tl_types.proofs.Copies.{lists_of-copies}
use Rattle.tl_types.specs.Path.{IsPath}
use Rattle.tl_types.proofs.path.PathClone.clone.Goals as goal

pub invariant_of-result : goal.invariant_of-result
invariant_of-result c = subst IsPath (sym (lists_of-copies _ _ c.in_ok-clone.ensures.cases.0)) c.self.invariant

pub returns : goal.returns
returns c = record { cases = lists_of-copies _ _ c.in_ok-clone.ensures.cases.0 ∙ c.self.view_is }
