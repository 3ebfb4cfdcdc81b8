use Rattle.std.proofs.Common.{◌≡◌, ◌+◌, [], ◌∷◌, ◌++◌, length, true, false, nat_le, length-append, refl, arith}
use Rattle.std.proofs.lemmas.Bool.{le-leb, lt-leb}
use Rattle.tl_lang.specs.Computing.{computing}
use Rattle.tl_lang.proofs.worked.limits.Goals as goal

pub returns-clause-cat_whole : goal.returns-clause-cat_whole
unfolding computing
returns-clause-cat_whole c s h =
    let fits : nat_le (length (s ++ 120 ∷ [])) 1048576 ≡ true = le-leb _ _ (omega (arith, length-append s (120 ∷ []), h)) in
    rw fits refl

pub returns-clause-cat_past : goal.returns-clause-cat_past
unfolding computing
returns-clause-cat_past c s h =
    let past : nat_le (length (s ++ 120 ∷ [])) 1048576 ≡ false = lt-leb _ _ (omega (arith, length-append s (120 ∷ []), h)) in
    rw past refl

pub returns-clause-list_past : goal.returns-clause-list_past
unfolding computing
returns-clause-list_past c s h =
    let past : nat_le (0 + length s + 1) 1048576 ≡ false = lt-leb _ _ (omega (arith, h)) in
    rw past refl

pub returns-clause-list_after_parts : goal.returns-clause-list_after_parts
unfolding computing
returns-clause-list_after_parts c s h = refl
