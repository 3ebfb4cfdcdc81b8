use Rattle.std.proofs.Common.{◌≡◌, map, ◌+◌, ◌*◌, drop, max, true}
use Rattle.tl_lang.specs.declared.expr.Expr.{size-Expr}
use Rattle.tl_lang.specs.Kinds.{kind_of}
use Rattle.tl_kind.specs.Scope.{names}
use Rattle.tl_kind.proofs.ListKinds.{list_from}
use Rattle.tl_kind.proofs.kinds.+kinds.Given as goal

abbrev pub decreases-kind_of : goal.decreases-kind_of
decreases-kind_of l = 2 * size-Expr l.expr.now

abbrev pub decreases-one : goal.decreases-one
decreases-one l = 2 * size-Expr l.a.now + 1

abbrev pub decreases-two : goal.decreases-two
decreases-two l = 2 * max (size-Expr l.a.now) (size-Expr l.b.now) + 1

abbrev pub decreases-part_of : goal.decreases-part_of
decreases-part_of l = 2 * max (max (size-Expr l.a.now) (size-Expr l.i.now)) (size-Expr l.j.now) + 1

abbrev pub decreases-branch : goal.decreases-branch
decreases-branch l = 2 * max (max (size-Expr l.c.now) (size-Expr l.a.now)) (size-Expr l.b.now) + 1

abbrev pub decreases-binding : goal.decreases-binding
decreases-binding l = 2 * max (size-Expr l.a.now) (size-Expr l.b.now) + 1

abbrev pub decreases-items : goal.decreases-items
decreases-items l = 2 * max (size-Expr l.m.now) (size-Expr l.a.now) + 1

abbrev pub decreases-fold : goal.decreases-fold
decreases-fold l = 2 * max (max (size-Expr l.m.now) (size-Expr l.i.now)) (size-Expr l.a.now) + 1

abbrev pub decreases-texts : goal.decreases-texts
decreases-texts l = 2 * goal.size-texts l + 1

abbrev pub invariant-texts-loop-part : goal.invariant-texts-loop-part
invariant-texts-loop-part l =
    list_from l.are_texts (map (λ a. kind_of l.inputs a (names l.scope)) (drop l.part-index l.parts)) ≡ list_from true (map (λ a. kind_of l.inputs a (names l.scope)) l.parts)
