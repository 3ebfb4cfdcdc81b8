use Rattle.tl_numbers.proofs.Layering.{empty-layers}
use Rattle.tl_numbers.proofs.number_set.NumberSet.new.Goals as goal

pub invariant_of-result : goal.invariant_of-result
invariant_of-result c = rw (c.new.ensures.items, c.new-2.ensures.items, c.new-3.ensures.items, c.new-4.ensures.items) empty-layers
