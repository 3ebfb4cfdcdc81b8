use Rattle.std.proofs.Common.{codes, map, sym, ◌∙◌, ap, List}
use Rattle.tl_lang.specs.declared.expr.Expr.{Expr}
use Rattle.tl_lang.proofs.AtForms as forms
use Rattle.tl_kind.specs.Written.{an_expr, form_text, spelling, spelling_step}
use Rattle.tl_kind.proofs.Printed.{prints_list}
use Rattle.tl_kind.proofs.printing.+printing.Goals as goal

pub expression-returns-in-Cat-clause-ok : goal.expression-returns-in-Cat-clause-ok
expression-returns-in-Cat-clause-ok t c = rw (ap spelling c.in-Cat.is ∙ forms.at-Cat spelling_step c.in-Cat.a c.in-Cat.b) c.two.ensures.ok

pub expression-returns-in-Len-clause-ok : goal.expression-returns-in-Len-clause-ok
expression-returns-in-Len-clause-ok t c = rw (ap spelling c.in-Len.is ∙ forms.at-Len spelling_step c.in-Len.a) c.one.ensures.ok

pub expression-returns-in-Sub-clause-ok : goal.expression-returns-in-Sub-clause-ok
expression-returns-in-Sub-clause-ok t c = rw (ap spelling c.in-Sub.is ∙ forms.at-Sub spelling_step c.in-Sub.a c.in-Sub.b c.in-Sub.c) c.three.ensures.ok

pub expression-returns-in-Eq-clause-ok : goal.expression-returns-in-Eq-clause-ok
expression-returns-in-Eq-clause-ok t c = rw (ap spelling c.in-Eq.is ∙ forms.at-Eq spelling_step c.in-Eq.a c.in-Eq.b) c.two-in-Eq.ensures.ok

pub expression-returns-in-Has-clause-ok : goal.expression-returns-in-Has-clause-ok
expression-returns-in-Has-clause-ok t c = rw (ap spelling c.in-Has.is ∙ forms.at-Has spelling_step c.in-Has.a c.in-Has.b) c.two-in-Has.ensures.ok

pub expression-returns-in-Num-clause-ok : goal.expression-returns-in-Num-clause-ok
expression-returns-in-Num-clause-ok t c = rw (ap spelling c.in-Num.is ∙ forms.at-Num spelling_step c.in-Num.a) c.one-in-Num.ensures.ok

pub expression-returns-in-Str-clause-ok : goal.expression-returns-in-Str-clause-ok
expression-returns-in-Str-clause-ok t c = rw (ap spelling c.in-Str.is ∙ forms.at-Str spelling_step c.in-Str.a) c.one-in-Str.ensures.ok

pub expression-returns-in-Add-clause-ok : goal.expression-returns-in-Add-clause-ok
expression-returns-in-Add-clause-ok t c = rw (ap spelling c.in-Add.is ∙ forms.at-Add spelling_step c.in-Add.a c.in-Add.b) c.two-in-Add.ensures.ok

pub expression-returns-in-Minus-clause-ok : goal.expression-returns-in-Minus-clause-ok
expression-returns-in-Minus-clause-ok t c = rw (ap spelling c.in-Minus.is ∙ forms.at-Minus spelling_step c.in-Minus.a c.in-Minus.b) c.two-in-Minus.ensures.ok

pub expression-returns-in-Mul-clause-ok : goal.expression-returns-in-Mul-clause-ok
expression-returns-in-Mul-clause-ok t c = rw (ap spelling c.in-Mul.is ∙ forms.at-Mul spelling_step c.in-Mul.a c.in-Mul.b) c.two-in-Mul.ensures.ok

pub expression-returns-in-Div-clause-ok : goal.expression-returns-in-Div-clause-ok
expression-returns-in-Div-clause-ok t c = rw (ap spelling c.in-Div.is ∙ forms.at-Div spelling_step c.in-Div.a c.in-Div.b) c.two-in-Div.ensures.ok

pub expression-returns-in-Mod-clause-ok : goal.expression-returns-in-Mod-clause-ok
expression-returns-in-Mod-clause-ok t c = rw (ap spelling c.in-Mod.is ∙ forms.at-Mod spelling_step c.in-Mod.a c.in-Mod.b) c.two-in-Mod.ensures.ok

pub expression-returns-in-Lt-clause-ok : goal.expression-returns-in-Lt-clause-ok
expression-returns-in-Lt-clause-ok t c = rw (ap spelling c.in-Lt.is ∙ forms.at-Lt spelling_step c.in-Lt.a c.in-Lt.b) c.two-in-Lt.ensures.ok

pub expression-returns-in-Same-clause-ok : goal.expression-returns-in-Same-clause-ok
expression-returns-in-Same-clause-ok t c = rw (ap spelling c.in-Same.is ∙ forms.at-Same spelling_step c.in-Same.a c.in-Same.b) c.two-in-Same.ensures.ok

pub expression-returns-in-If-clause-ok : goal.expression-returns-in-If-clause-ok
expression-returns-in-If-clause-ok t c = rw (ap spelling c.in-If.is ∙ forms.at-If spelling_step c.in-If.a c.in-If.b c.in-If.c) c.three-in-If.ensures.ok

pub expression-returns-in-Let-clause-ok : goal.expression-returns-in-Let-clause-ok
expression-returns-in-Let-clause-ok t c = rw (ap spelling c.in-Let.is ∙ forms.at-Let spelling_step c.in-Let.name c.in-Let.a c.in-Let.b) c.binding.ensures.ok

pub expression-returns-in-Lines-clause-ok : goal.expression-returns-in-Lines-clause-ok
expression-returns-in-Lines-clause-ok t c = rw (ap spelling c.in-Lines.is ∙ forms.at-Lines spelling_step c.in-Lines.a) c.one-in-Lines.ensures.ok

pub expression-returns-in-Split-clause-ok : goal.expression-returns-in-Split-clause-ok
expression-returns-in-Split-clause-ok t c = rw (ap spelling c.in-Split.is ∙ forms.at-Split spelling_step c.in-Split.a c.in-Split.b) c.two-in-Split.ensures.ok

pub expression-returns-in-Join-clause-ok : goal.expression-returns-in-Join-clause-ok
expression-returns-in-Join-clause-ok t c = rw (ap spelling c.in-Join.is ∙ forms.at-Join spelling_step c.in-Join.a c.in-Join.b) c.two-in-Join.ensures.ok

pub expression-returns-in-List-clause-ok : goal.expression-returns-in-List-clause-ok
expression-returns-in-List-clause-ok t c = rw (ap spelling c.in-List.is ∙ forms.at-List spelling_step c.in-List.parts ∙ prints_list c.in-List.parts ∙ ap (λ (parts : List Expr). form_text (codes "list") (map (λ e. an_expr (spelling e)) parts)) (sym c.as_slice-in-List.ensures)) c.list.ensures.ok

pub expression-returns-in-Append-clause-ok : goal.expression-returns-in-Append-clause-ok
expression-returns-in-Append-clause-ok t c = rw (ap spelling c.in-Append.is ∙ forms.at-Append spelling_step c.in-Append.a c.in-Append.b) c.two-in-Append.ensures.ok

pub expression-returns-in-At-clause-ok : goal.expression-returns-in-At-clause-ok
expression-returns-in-At-clause-ok t c = rw (ap spelling c.in-At.is ∙ forms.at-At spelling_step c.in-At.a c.in-At.b) c.two-in-At.ensures.ok

pub expression-returns-in-Count-clause-ok : goal.expression-returns-in-Count-clause-ok
expression-returns-in-Count-clause-ok t c = rw (ap spelling c.in-Count.is ∙ forms.at-Count spelling_step c.in-Count.a) c.one-in-Count.ensures.ok

pub expression-returns-in-Sort-clause-ok : goal.expression-returns-in-Sort-clause-ok
expression-returns-in-Sort-clause-ok t c = rw (ap spelling c.in-Sort.is ∙ forms.at-Sort spelling_step c.in-Sort.a) c.one-in-Sort.ensures.ok

pub expression-returns-in-Each-clause-ok : goal.expression-returns-in-Each-clause-ok
expression-returns-in-Each-clause-ok t c = rw (ap spelling c.in-Each.is ∙ forms.at-Each spelling_step c.in-Each.name c.in-Each.a c.in-Each.b) c.binding-in-Each.ensures.ok

pub expression-returns-in-Keep-clause-ok : goal.expression-returns-in-Keep-clause-ok
expression-returns-in-Keep-clause-ok t c = rw (ap spelling c.in-Keep.is ∙ forms.at-Keep spelling_step c.in-Keep.name c.in-Keep.a c.in-Keep.b) c.binding-in-Keep.ensures.ok

pub expression-returns-in-Fold-clause-ok : goal.expression-returns-in-Fold-clause-ok
expression-returns-in-Fold-clause-ok t c = rw (ap spelling c.in-Fold.is ∙ forms.at-Fold spelling_step c.in-Fold.so_far c.in-Fold.name c.in-Fold.m c.in-Fold.i c.in-Fold.a) c.fold.ensures.ok
