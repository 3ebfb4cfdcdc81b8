use Rattle.std.proofs.Common.{◌&&◌, ◌∷◌, map, sym, ◌∙◌, ap}
use Rattle.tl_lang.specs.declared.expr.Expr.{Expr}
use Rattle.tl_lang.specs.Kinds.{Kinding, kinds_step, kind_of, same_kind}
use Rattle.tl_lang.specs.declared.kind.Kind.TheVariants as kind
use Rattle.tl_kind.specs.Kinds.{list_of}
use Rattle.tl_kind.specs.Scope.{names}
use Rattle.tl_lang.proofs.AtForms as forms
use Rattle.tl_kind.proofs.ListKinds.{list_of-parts, list_of-ends, list_of-refused, judged-err, branches-fit, takes-two, takes-three, folded-fit, folded-refused}
use Rattle.tl_kind.proofs.kinds.+kinds.Goals as goal

pub kind_of-returns-in-Cat : goal.kind_of-returns-in-Cat
kind_of-returns-in-Cat t c =
    c.two.ensures
    ∙ sym (ap (λ (k : Kinding). k (names c.args.scope.now)) (forms.at-Cat (kinds_step c.args.inputs) c.in-Cat.a c.in-Cat.b))
    ∙ sym (ap (λ (e : Expr). kind_of c.args.inputs e (names c.args.scope.now)) c.in-Cat.is)

pub kind_of-returns-in-Len : goal.kind_of-returns-in-Len
kind_of-returns-in-Len t c =
    c.one.ensures
    ∙ sym (ap (λ (k : Kinding). k (names c.args.scope.now)) (forms.at-Len (kinds_step c.args.inputs) c.in-Len.a))
    ∙ sym (ap (λ (e : Expr). kind_of c.args.inputs e (names c.args.scope.now)) c.in-Len.is)

pub kind_of-returns-in-Sub : goal.kind_of-returns-in-Sub
kind_of-returns-in-Sub t c =
    c.part_of.ensures
    ∙ sym (ap (λ (k : Kinding). k (names c.args.scope.now)) (forms.at-Sub (kinds_step c.args.inputs) c.in-Sub.a c.in-Sub.i c.in-Sub.j))
    ∙ sym (ap (λ (e : Expr). kind_of c.args.inputs e (names c.args.scope.now)) c.in-Sub.is)

pub kind_of-returns-in-Eq : goal.kind_of-returns-in-Eq
kind_of-returns-in-Eq t c =
    c.two-in-Eq.ensures
    ∙ sym (ap (λ (k : Kinding). k (names c.args.scope.now)) (forms.at-Eq (kinds_step c.args.inputs) c.in-Eq.a c.in-Eq.b))
    ∙ sym (ap (λ (e : Expr). kind_of c.args.inputs e (names c.args.scope.now)) c.in-Eq.is)

pub kind_of-returns-in-Has : goal.kind_of-returns-in-Has
kind_of-returns-in-Has t c =
    c.two-in-Has.ensures
    ∙ sym (ap (λ (k : Kinding). k (names c.args.scope.now)) (forms.at-Has (kinds_step c.args.inputs) c.in-Has.a c.in-Has.b))
    ∙ sym (ap (λ (e : Expr). kind_of c.args.inputs e (names c.args.scope.now)) c.in-Has.is)

pub kind_of-returns-in-Num : goal.kind_of-returns-in-Num
kind_of-returns-in-Num t c =
    c.one-in-Num.ensures
    ∙ sym (ap (λ (k : Kinding). k (names c.args.scope.now)) (forms.at-Num (kinds_step c.args.inputs) c.in-Num.a))
    ∙ sym (ap (λ (e : Expr). kind_of c.args.inputs e (names c.args.scope.now)) c.in-Num.is)

pub kind_of-returns-in-Str : goal.kind_of-returns-in-Str
kind_of-returns-in-Str t c =
    c.one-in-Str.ensures
    ∙ sym (ap (λ (k : Kinding). k (names c.args.scope.now)) (forms.at-Str (kinds_step c.args.inputs) c.in-Str.a))
    ∙ sym (ap (λ (e : Expr). kind_of c.args.inputs e (names c.args.scope.now)) c.in-Str.is)

pub kind_of-returns-in-Add : goal.kind_of-returns-in-Add
kind_of-returns-in-Add t c =
    c.two-in-Add.ensures
    ∙ sym (ap (λ (k : Kinding). k (names c.args.scope.now)) (forms.at-Add (kinds_step c.args.inputs) c.in-Add.a c.in-Add.b))
    ∙ sym (ap (λ (e : Expr). kind_of c.args.inputs e (names c.args.scope.now)) c.in-Add.is)

pub kind_of-returns-in-Minus : goal.kind_of-returns-in-Minus
kind_of-returns-in-Minus t c =
    c.two-in-Minus.ensures
    ∙ sym (ap (λ (k : Kinding). k (names c.args.scope.now)) (forms.at-Minus (kinds_step c.args.inputs) c.in-Minus.a c.in-Minus.b))
    ∙ sym (ap (λ (e : Expr). kind_of c.args.inputs e (names c.args.scope.now)) c.in-Minus.is)

pub kind_of-returns-in-Mul : goal.kind_of-returns-in-Mul
kind_of-returns-in-Mul t c =
    c.two-in-Mul.ensures
    ∙ sym (ap (λ (k : Kinding). k (names c.args.scope.now)) (forms.at-Mul (kinds_step c.args.inputs) c.in-Mul.a c.in-Mul.b))
    ∙ sym (ap (λ (e : Expr). kind_of c.args.inputs e (names c.args.scope.now)) c.in-Mul.is)

pub kind_of-returns-in-Div : goal.kind_of-returns-in-Div
kind_of-returns-in-Div t c =
    c.two-in-Div.ensures
    ∙ sym (ap (λ (k : Kinding). k (names c.args.scope.now)) (forms.at-Div (kinds_step c.args.inputs) c.in-Div.a c.in-Div.b))
    ∙ sym (ap (λ (e : Expr). kind_of c.args.inputs e (names c.args.scope.now)) c.in-Div.is)

pub kind_of-returns-in-Mod : goal.kind_of-returns-in-Mod
kind_of-returns-in-Mod t c =
    c.two-in-Mod.ensures
    ∙ sym (ap (λ (k : Kinding). k (names c.args.scope.now)) (forms.at-Mod (kinds_step c.args.inputs) c.in-Mod.a c.in-Mod.b))
    ∙ sym (ap (λ (e : Expr). kind_of c.args.inputs e (names c.args.scope.now)) c.in-Mod.is)

pub kind_of-returns-in-Lt : goal.kind_of-returns-in-Lt
kind_of-returns-in-Lt t c =
    c.two-in-Lt.ensures
    ∙ sym (ap (λ (k : Kinding). k (names c.args.scope.now)) (forms.at-Lt (kinds_step c.args.inputs) c.in-Lt.a c.in-Lt.b))
    ∙ sym (ap (λ (e : Expr). kind_of c.args.inputs e (names c.args.scope.now)) c.in-Lt.is)

pub kind_of-returns-in-Same : goal.kind_of-returns-in-Same
kind_of-returns-in-Same t c =
    c.two-in-Same.ensures
    ∙ sym (ap (λ (k : Kinding). k (names c.args.scope.now)) (forms.at-Same (kinds_step c.args.inputs) c.in-Same.a c.in-Same.b))
    ∙ sym (ap (λ (e : Expr). kind_of c.args.inputs e (names c.args.scope.now)) c.in-Same.is)

pub kind_of-returns-in-If : goal.kind_of-returns-in-If
kind_of-returns-in-If t c =
    c.branch-c.ensures
    ∙ sym (ap (λ (k : Kinding). k (names c.args.scope.now)) (forms.at-If (kinds_step c.args.inputs) c.in-If.c c.in-If.a c.in-If.b))
    ∙ sym (ap (λ (e : Expr). kind_of c.args.inputs e (names c.args.scope.now)) c.in-If.is)

pub kind_of-returns-in-Let : goal.kind_of-returns-in-Let
kind_of-returns-in-Let t c =
    c.binding.ensures
    ∙ sym (ap (λ (k : Kinding). k (names c.args.scope.now)) (forms.at-Let (kinds_step c.args.inputs) c.in-Let.name c.in-Let.a c.in-Let.b))
    ∙ sym (ap (λ (e : Expr). kind_of c.args.inputs e (names c.args.scope.now)) c.in-Let.is)

pub kind_of-returns-in-Lines : goal.kind_of-returns-in-Lines
kind_of-returns-in-Lines t c =
    c.one-in-Lines.ensures
    ∙ sym (ap (λ (k : Kinding). k (names c.args.scope.now)) (forms.at-Lines (kinds_step c.args.inputs) c.in-Lines.a))
    ∙ sym (ap (λ (e : Expr). kind_of c.args.inputs e (names c.args.scope.now)) c.in-Lines.is)

pub kind_of-returns-in-Split : goal.kind_of-returns-in-Split
kind_of-returns-in-Split t c =
    c.two-in-Split.ensures
    ∙ sym (ap (λ (k : Kinding). k (names c.args.scope.now)) (forms.at-Split (kinds_step c.args.inputs) c.in-Split.a c.in-Split.b))
    ∙ sym (ap (λ (e : Expr). kind_of c.args.inputs e (names c.args.scope.now)) c.in-Split.is)

pub kind_of-returns-in-Join : goal.kind_of-returns-in-Join
kind_of-returns-in-Join t c =
    c.two-in-Join.ensures
    ∙ sym (ap (λ (k : Kinding). k (names c.args.scope.now)) (forms.at-Join (kinds_step c.args.inputs) c.in-Join.a c.in-Join.b))
    ∙ sym (ap (λ (e : Expr). kind_of c.args.inputs e (names c.args.scope.now)) c.in-Join.is)

pub kind_of-returns-in-List : goal.kind_of-returns-in-List
kind_of-returns-in-List t c =
    c.texts.ensures ∙ ap (λ parts. list_of (map (λ e. kind_of c.args.inputs e (names c.args.scope.now)) parts)) c.as_slice.ensures ∙ list_of-parts c.args.inputs (kind_of c.args.inputs) (names c.args.scope.now) c.in-List.parts
    ∙ sym (ap (λ (k : Kinding). k (names c.args.scope.now)) (forms.at-List (kinds_step c.args.inputs) c.in-List.parts))
    ∙ sym (ap (λ (e : Expr). kind_of c.args.inputs e (names c.args.scope.now)) c.in-List.is)

pub kind_of-returns-in-Append : goal.kind_of-returns-in-Append
kind_of-returns-in-Append t c =
    c.two-in-Append.ensures
    ∙ sym (ap (λ (k : Kinding). k (names c.args.scope.now)) (forms.at-Append (kinds_step c.args.inputs) c.in-Append.a c.in-Append.b))
    ∙ sym (ap (λ (e : Expr). kind_of c.args.inputs e (names c.args.scope.now)) c.in-Append.is)

pub kind_of-returns-in-At : goal.kind_of-returns-in-At
kind_of-returns-in-At t c =
    c.two-in-At.ensures
    ∙ sym (ap (λ (k : Kinding). k (names c.args.scope.now)) (forms.at-At (kinds_step c.args.inputs) c.in-At.a c.in-At.b))
    ∙ sym (ap (λ (e : Expr). kind_of c.args.inputs e (names c.args.scope.now)) c.in-At.is)

pub kind_of-returns-in-Count : goal.kind_of-returns-in-Count
kind_of-returns-in-Count t c =
    c.one-in-Count.ensures
    ∙ sym (ap (λ (k : Kinding). k (names c.args.scope.now)) (forms.at-Count (kinds_step c.args.inputs) c.in-Count.a))
    ∙ sym (ap (λ (e : Expr). kind_of c.args.inputs e (names c.args.scope.now)) c.in-Count.is)

pub kind_of-returns-in-Sort : goal.kind_of-returns-in-Sort
kind_of-returns-in-Sort t c =
    c.one-in-Sort.ensures
    ∙ sym (ap (λ (k : Kinding). k (names c.args.scope.now)) (forms.at-Sort (kinds_step c.args.inputs) c.in-Sort.a))
    ∙ sym (ap (λ (e : Expr). kind_of c.args.inputs e (names c.args.scope.now)) c.in-Sort.is)

pub kind_of-returns-in-Each : goal.kind_of-returns-in-Each
kind_of-returns-in-Each t c =
    c.items.ensures
    ∙ sym (ap (λ (k : Kinding). k (names c.args.scope.now)) (forms.at-Each (kinds_step c.args.inputs) c.in-Each.name c.in-Each.m c.in-Each.a))
    ∙ sym (ap (λ (e : Expr). kind_of c.args.inputs e (names c.args.scope.now)) c.in-Each.is)

pub kind_of-returns-in-Keep : goal.kind_of-returns-in-Keep
kind_of-returns-in-Keep t c =
    c.items-in-Keep.ensures
    ∙ sym (ap (λ (k : Kinding). k (names c.args.scope.now)) (forms.at-Keep (kinds_step c.args.inputs) c.in-Keep.name c.in-Keep.m c.in-Keep.a))
    ∙ sym (ap (λ (e : Expr). kind_of c.args.inputs e (names c.args.scope.now)) c.in-Keep.is)

pub kind_of-returns-in-Fold : goal.kind_of-returns-in-Fold
kind_of-returns-in-Fold t c =
    c.fold.ensures
    ∙ sym (ap (λ (k : Kinding). k (names c.args.scope.now)) (forms.at-Fold (kinds_step c.args.inputs) c.in-Fold.so_far c.in-Fold.name c.in-Fold.m c.in-Fold.i c.in-Fold.a))
    ∙ sym (ap (λ (e : Expr). kind_of c.args.inputs e (names c.args.scope.now)) c.in-Fold.is)

pub texts-returns : goal.texts-returns
texts-returns t c = list_of-ends _ c.args.parts.now c.loop-part.part-index c.loop-part.are_texts _ c.loop-part-test.false c.loop-part.invariant c.gives.ensures

pub texts-returns-in_err-kind : goal.texts-returns-in_err-kind
texts-returns-in_err-kind t c =
    list_of-refused _ c.args.parts.now c.loop-part.part-index c.loop-part.are_texts c.part-item.result _ _ c.loop-part-test.true c.part-item.is c.in_err-kind.ensures c.loop-part.invariant (judged-err c.from_residual.result c.in_err-kind.field-0.0 c.from_residual.ensures.1)

pub branch-returns : goal.branch-returns
branch-returns t c = branches-fit _ _ _ c.in_ok-test.test c.in_ok-first.first c.in_ok-second.second _ c.fits.result (c.in_ok-test.ensures ∙ ap (λ (e : Expr). kind_of c.args.inputs e (names c.args.scope.now)) c.get.ensures) (c.in_ok-first.ensures ∙ ap (λ (e : Expr). kind_of c.args.inputs e (names c.args.scope.now)) c.get-2.ensures) (c.in_ok-second.ensures ∙ ap (λ (e : Expr). kind_of c.args.inputs e (names c.args.scope.now)) c.get-3.ensures) c.gives.ensures (c.fits.ensures ∙ ap (λ s. same_kind c.in_ok-test.test kind.Number && s) c.same.ensures)

pub part_of-returns : goal.part_of-returns
part_of-returns t c =
    takes-three _ _ _ c.in_ok-text.text c.in_ok-start.start c.in_ok-end.end _ _ _ _ _ c.fits-2.result (c.in_ok-text.ensures ∙ ap (λ (e : Expr). kind_of c.args.inputs e (names c.args.scope.now)) c.get.ensures) (c.in_ok-start.ensures ∙ ap (λ (e : Expr). kind_of c.args.inputs e (names c.args.scope.now)) c.get-2.ensures) (c.in_ok-end.ensures ∙ ap (λ (e : Expr). kind_of c.args.inputs e (names c.args.scope.now)) c.get-3.ensures) c.gives.ensures
    (c.fits-2.ensures ∙ ap (λ s. same_kind c.in_ok-text.text kind.Text && s) (c.fits-numbers.ensures ∙ ap (λ s. same_kind c.in_ok-start.start kind.Number && s) c.fits.ensures))

pub two-returns : goal.two-returns
two-returns t c = takes-two _ _ c.in_ok-first.first c.in_ok-second.second c.args.wanted.0 _ _ _ c.fits-2.result (c.in_ok-first.ensures ∙ ap (λ (e : Expr). kind_of c.args.inputs e (names c.args.scope.now)) c.get.ensures) (c.in_ok-second.ensures ∙ ap (λ (e : Expr). kind_of c.args.inputs e (names c.args.scope.now)) c.get-2.ensures) c.gives.ensures (c.fits-2.ensures ∙ ap (λ s. same_kind c.in_ok-first.first c.args.wanted.0 && s) c.fits.ensures)

pub fold-returns : goal.fold-returns
fold-returns t c =
    folded-fit _ _ (λ k. kind_of c.args.inputs c.args.a.now ((c.args.name.now, kind.Text) ∷ (c.args.so_far.now, k) ∷ names c.args.scope.now)) c.in_ok-list.list c.in_ok-start.start c.in_ok-body.body _ c.fits-2.result (c.in_ok-list.ensures ∙ ap (λ (e : Expr). kind_of c.args.inputs e (names c.args.scope.now)) c.get.ensures) (c.in_ok-start.ensures ∙ ap (λ (e : Expr). kind_of c.args.inputs e (names c.args.scope.now)) c.get-2.ensures) (c.in_ok-body.ensures ∙ ap (λ (e : Expr). kind_of c.args.inputs e ((c.args.name.now, kind.Text) ∷ (c.args.so_far.now, c.in_ok-start.start) ∷ names c.args.scope.now)) c.get-3.ensures) c.gives.ensures
    (c.fits-2.ensures ∙ ap (λ s. same_kind c.in_ok-list.list kind.List && s) c.fits.ensures)

pub fold-returns-in_err-body : goal.fold-returns-in_err-body
fold-returns-in_err-body t c = folded-refused _ _ (λ k. kind_of c.args.inputs c.args.a.now ((c.args.name.now, kind.Text) ∷ (c.args.so_far.now, k) ∷ names c.args.scope.now)) c.in_ok-list.list c.in_ok-start.start _ _ (c.in_ok-list.ensures ∙ ap (λ (e : Expr). kind_of c.args.inputs e (names c.args.scope.now)) c.get.ensures) (c.in_ok-start.ensures ∙ ap (λ (e : Expr). kind_of c.args.inputs e (names c.args.scope.now)) c.get-2.ensures) (c.in_err-body.ensures ∙ ap (λ (e : Expr). kind_of c.args.inputs e ((c.args.name.now, kind.Text) ∷ (c.args.so_far.now, c.in_ok-start.start) ∷ names c.args.scope.now)) c.get-3.ensures) (judged-err c.from_residual-in_err-body.result c.in_err-body.field-0.0 c.from_residual-in_err-body.ensures.1)
