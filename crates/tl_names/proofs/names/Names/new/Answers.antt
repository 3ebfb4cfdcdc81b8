use Rattle.std.proofs.Common.{Some, subst}
use Rattle.slab.specs.Slab.{Updates}
use Rattle.tl_names.proofs.Begun.{first_stands, first_tree, is_first}
use Rattle.tl_names.proofs.names.Names.new.Goals as goal

pub invariant_of-result : goal.invariant_of-result
invariant_of-result c =
    first_tree c.insert.new.self.slots
    (is_first c.new-dirs.result c.insert.new.self c.in_ok-insert.field-0 c.new-dirs.ensures.empty c.new-dirs.ensures.first_key c.in_ok-insert.ensures.key
    (subst (λ names. Updates c.new-dirs.result c.insert.new.self c.in_ok-insert.field-0 (Some names)) c.new.ensures c.in_ok-insert.ensures.updates))

pub returns-clause-names : goal.returns-clause-names
returns-clause-names c =
    first_stands c.insert.new.self.slots
    (is_first c.new-dirs.result c.insert.new.self c.in_ok-insert.field-0 c.new-dirs.ensures.empty c.new-dirs.ensures.first_key c.in_ok-insert.ensures.key
    (subst (λ names. Updates c.new-dirs.result c.insert.new.self c.in_ok-insert.field-0 (Some names)) c.new.ensures c.in_ok-insert.ensures.updates))
