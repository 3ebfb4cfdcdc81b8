-- An expression's kind and meaning by the form at its top, as `out-Expr` shows it.
use Rattle.std.proofs.Common.{◌≡◌, ℕ}
use Rattle.tl_lang.specs.declared.expr.Expr.{Expr, out-Expr, roll-Expr}
use Rattle.tl_lang.specs.Tree.{Form, at_parts}
use Rattle.tl_lang.specs.Kinds.{kinds_step, kind_of}
use Rattle.tl_lang.specs.Meaning.{Given, step, evaluate}
use Rattle.tl_lang.proofs.Trees.{fold_tree-roll, fold_tree-out}

pub kind_of-out : (inputs : ℕ) (e : Expr) → kind_of inputs e ≡ kinds_step inputs (at_parts (kind_of inputs) (out-Expr e))
kind_of-out inputs e = fold_tree-out (kinds_step inputs) e

pub kind_of-roll : (inputs : ℕ) (form : Form Expr) → kind_of inputs (roll-Expr form) ≡ kinds_step inputs (at_parts (kind_of inputs) form)
kind_of-roll inputs form = fold_tree-roll (kinds_step inputs) form

pub evaluate-out : (given : Given) (e : Expr) → evaluate given e ≡ step given (at_parts (evaluate given) (out-Expr e))
evaluate-out given e = fold_tree-out (step given) e

pub evaluate-roll : (given : Given) (form : Form Expr) → evaluate given (roll-Expr form) ≡ step given (at_parts (evaluate given) form)
evaluate-roll given form = fold_tree-roll (step given) form
