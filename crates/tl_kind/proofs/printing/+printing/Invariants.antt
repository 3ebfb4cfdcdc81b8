use Rattle.std.proofs.Common.{◌≡◌, ◌++◌, ◌+◌, ◌*◌, drop, take, length, max, map}
use Rattle.tl_lang.specs.declared.expr.Expr.{size-Expr}
use Rattle.tl_kind.specs.Written.{an_expr, form_text, parts_text, spelling}
use Rattle.tl_kind.proofs.printing.+printing.Given as goal

abbrev pub decreases-expression : goal.decreases-expression
decreases-expression l = 4 * size-Expr l.expr.now

abbrev pub decreases-part : goal.decreases-part
decreases-part l = 4 * size-Expr l.expr.now + 1

abbrev pub decreases-one : goal.decreases-one
decreases-one l = 4 * size-Expr l.a.now + 3

abbrev pub decreases-two : goal.decreases-two
decreases-two l = 4 * max (size-Expr l.a.now) (size-Expr l.b.now) + 3

abbrev pub decreases-three_parts : goal.decreases-three_parts
decreases-three_parts l = 4 * max (max (size-Expr l.a.now) (size-Expr l.b.now)) (size-Expr l.c.now) + 2

abbrev pub decreases-three : goal.decreases-three
decreases-three l = 4 * max (max (size-Expr l.a.now) (size-Expr l.b.now)) (size-Expr l.c.now) + 3

abbrev pub decreases-binding : goal.decreases-binding
decreases-binding l = 4 * max (size-Expr l.a.now) (size-Expr l.b.now) + 3

abbrev pub decreases-fold : goal.decreases-fold
decreases-fold l = 4 * max (max (size-Expr l.m.now) (size-Expr l.i.now)) (size-Expr l.a.now) + 3

abbrev pub decreases-list : goal.decreases-list
decreases-list l = 4 * goal.size-list l + 3

abbrev pub invariant-list-loop-expr : goal.invariant-list-loop-expr
invariant-list-loop-expr l = record {
  printed : l.out.items ++ parts_text (map (λ e. an_expr (spelling e)) (drop l.expr-index l.parts)) ≡ l.fn.out.items ++ form_text l.bytes (map (λ e. an_expr (spelling e)) l.parts);
  kept : take (length l.fn.out.items) l.out.items ≡ l.fn.out.items;
}
