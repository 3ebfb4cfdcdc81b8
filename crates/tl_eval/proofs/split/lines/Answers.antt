use Rattle.std.proofs.Common.{◌≡◌, ◌∙◌, ap, subst, IfOk, Ok}
use Rattle.tl_eval.specs.Held.{meant, answered}
use Rattle.tl_eval.proofs.Pieces.{lines_over, lines_are_front, lines_are_all, is_none, is_not_none}
use Rattle.tl_eval.proofs.split.lines.Goals as goal

pub returns-in_default : goal.returns-in_default
returns-in_default c = lines_over _ (rw c.in_default.is at c.in_ok-pieces.ensures)

pub returns-then-is_empty : goal.returns-then-is_empty
returns-then-is_empty c =
    ap (λ v. Ok (meant v)) c.in_ok-into_list.ensures.value
    ∙ lines_are_front c.in-Some.pieces _ _ (rw c.in-Some.is at c.in_ok-pieces.ensures) (is_none c.in-Some.last.now c.if-is_empty.ensures) c.in_ok-into_list.ensures.within

pub returns : goal.returns
returns c =
    subst (λ a. IfOk c.with_last.result (λ answer. answered answer ≡ a))
    (lines_are_all c.in-Some.pieces _ _ (rw c.in-Some.is at c.in_ok-pieces.ensures) (is_not_none c.in-Some.last.now c.if-is_empty.ensures))
    c.with_last.ensures
