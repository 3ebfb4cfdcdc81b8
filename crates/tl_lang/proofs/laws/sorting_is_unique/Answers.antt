use Rattle.tl_lang.proofs.SortLaws.{IsSorted-sorted, IsPermutation-sorted, sorted-only}
use Rattle.tl_lang.proofs.laws.sorting_is_unique.Goals as goal

pub returns-clause-ascends : goal.returns-clause-ascends
returns-clause-ascends c texts = IsSorted-sorted texts

pub returns-clause-permutes : goal.returns-clause-permutes
returns-clause-permutes c texts = IsPermutation-sorted texts

pub returns-clause-only : goal.returns-clause-only
returns-clause-only c texts others moved up = sorted-only texts others moved up
