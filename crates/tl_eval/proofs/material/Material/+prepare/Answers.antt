use Rattle.std.proofs.Common.{◌∙◌, ap, map}
use Rattle.tl_eval.specs.declared.op.Unary.TheVariants as unary
use Rattle.tl_eval.specs.declared.op.Binary.TheVariants as binary
use Rattle.tl_eval.specs.declared.op.OnTexts.TheVariants as texts
use Rattle.tl_eval.specs.declared.op.OnNumbers.TheVariants as numbers
use Rattle.tl_eval.specs.declared.op.OnListText.TheVariants as list_text
use Rattle.tl_eval.specs.Materials.{given_of}
use Rattle.tl_eval.specs.Prepared.{unary_form, binary_form}
use Rattle.tl_eval.proofs.Preparing.{by_form, by_one, by_two, made_unary, made_binary, made_sub, made_if, made_let, made_each, made_keep, made_fold, made_list}
use Rattle.tl_lang.specs.declared.expr.Expr.TheOpen as form
use Rattle.tl_lang.specs.Meaning.{evaluate, step}
use Rattle.tl_lang.proofs.AtForms.{at-Cat, at-Len, at-Sub, at-Eq, at-Has, at-Num, at-Str, at-Add, at-Minus, at-Mul, at-Div, at-Mod, at-Lt, at-Same, at-If, at-Let, at-Lines, at-Split, at-Join, at-List, at-Append, at-At, at-Count, at-Sort, at-Each, at-Keep, at-Fold}
use Rattle.tl_eval.proofs.material.Material.+prepare.Goals as goal

pub prepare-returns-in_ok-b-in-Cat : goal.prepare-returns-in_ok-b-in-Cat
prepare-returns-in_ok-b-in-Cat t c = by_one (given_of c.args.self.now) _ _ _ (binary_form (binary.Texts texts.Cat) (evaluate (given_of c.args.self.now) c.in-Cat.a)) c.in_ok-b-in-Cat.b _ c.in-Cat.b c.in-Cat.is c.get.ensures c.in_ok-b-in-Cat.ensures (at-Cat (step (given_of c.args.self.now)) c.in-Cat.a c.in-Cat.b) c.binary.ensures

pub prepare-returns-in-Len : goal.prepare-returns-in-Len
prepare-returns-in-Len t c = by_form (given_of c.args.self.now) _ _ _ (unary_form unary.Len (evaluate (given_of c.args.self.now) c.in-Len.a)) c.in-Len.is (at-Len (step (given_of c.args.self.now)) c.in-Len.a) c.unary.ensures

pub prepare-returns-in_ok-j-in-Sub : goal.prepare-returns-in_ok-j-in-Sub
prepare-returns-in_ok-j-in-Sub t c = by_two (given_of c.args.self.now) _ _ _ (form.Sub (evaluate (given_of c.args.self.now) c.in-Sub.a)) c.in_ok-i-in-Sub.i c.in_ok-j-in-Sub.j _ c.in-Sub.i _ c.in-Sub.j c.in-Sub.is c.get-in-Sub.ensures c.in_ok-i-in-Sub.ensures c.get-in-Sub-2.ensures c.in_ok-j-in-Sub.ensures (at-Sub (step (given_of c.args.self.now)) c.in-Sub.a c.in-Sub.i c.in-Sub.j) c.sub.ensures

pub prepare-returns-in_ok-b-in-Eq : goal.prepare-returns-in_ok-b-in-Eq
prepare-returns-in_ok-b-in-Eq t c = by_one (given_of c.args.self.now) _ _ _ (binary_form (binary.Texts texts.Eq) (evaluate (given_of c.args.self.now) c.in-Eq.a)) c.in_ok-b-in-Eq.b _ c.in-Eq.b c.in-Eq.is c.get-in-Eq.ensures c.in_ok-b-in-Eq.ensures (at-Eq (step (given_of c.args.self.now)) c.in-Eq.a c.in-Eq.b) c.binary-in-Eq.ensures

pub prepare-returns-in_ok-b-in-Has : goal.prepare-returns-in_ok-b-in-Has
prepare-returns-in_ok-b-in-Has t c = by_one (given_of c.args.self.now) _ _ _ (binary_form (binary.Texts texts.Has) (evaluate (given_of c.args.self.now) c.in-Has.a)) c.in_ok-b-in-Has.b _ c.in-Has.b c.in-Has.is c.get-in-Has.ensures c.in_ok-b-in-Has.ensures (at-Has (step (given_of c.args.self.now)) c.in-Has.a c.in-Has.b) c.binary-in-Has.ensures

pub prepare-returns-in-Num : goal.prepare-returns-in-Num
prepare-returns-in-Num t c = by_form (given_of c.args.self.now) _ _ _ (unary_form unary.Num (evaluate (given_of c.args.self.now) c.in-Num.a)) c.in-Num.is (at-Num (step (given_of c.args.self.now)) c.in-Num.a) c.unary-in-Num.ensures

pub prepare-returns-in-Str : goal.prepare-returns-in-Str
prepare-returns-in-Str t c = by_form (given_of c.args.self.now) _ _ _ (unary_form unary.Str (evaluate (given_of c.args.self.now) c.in-Str.a)) c.in-Str.is (at-Str (step (given_of c.args.self.now)) c.in-Str.a) c.unary-in-Str.ensures

pub prepare-returns-in_ok-b-in-Add : goal.prepare-returns-in_ok-b-in-Add
prepare-returns-in_ok-b-in-Add t c = by_one (given_of c.args.self.now) _ _ _ (binary_form (binary.Numbers numbers.Add) (evaluate (given_of c.args.self.now) c.in-Add.a)) c.in_ok-b-in-Add.b _ c.in-Add.b c.in-Add.is c.get-in-Add.ensures c.in_ok-b-in-Add.ensures (at-Add (step (given_of c.args.self.now)) c.in-Add.a c.in-Add.b) c.binary-in-Add.ensures

pub prepare-returns-in_ok-b-in-Minus : goal.prepare-returns-in_ok-b-in-Minus
prepare-returns-in_ok-b-in-Minus t c = by_one (given_of c.args.self.now) _ _ _ (binary_form (binary.Numbers numbers.Minus) (evaluate (given_of c.args.self.now) c.in-Minus.a)) c.in_ok-b-in-Minus.b _ c.in-Minus.b c.in-Minus.is c.get-in-Minus.ensures c.in_ok-b-in-Minus.ensures (at-Minus (step (given_of c.args.self.now)) c.in-Minus.a c.in-Minus.b) c.binary-in-Minus.ensures

pub prepare-returns-in_ok-b-in-Mul : goal.prepare-returns-in_ok-b-in-Mul
prepare-returns-in_ok-b-in-Mul t c = by_one (given_of c.args.self.now) _ _ _ (binary_form (binary.Numbers numbers.Mul) (evaluate (given_of c.args.self.now) c.in-Mul.a)) c.in_ok-b-in-Mul.b _ c.in-Mul.b c.in-Mul.is c.get-in-Mul.ensures c.in_ok-b-in-Mul.ensures (at-Mul (step (given_of c.args.self.now)) c.in-Mul.a c.in-Mul.b) c.binary-in-Mul.ensures

pub prepare-returns-in_ok-b-in-Div : goal.prepare-returns-in_ok-b-in-Div
prepare-returns-in_ok-b-in-Div t c = by_one (given_of c.args.self.now) _ _ _ (binary_form (binary.Numbers numbers.Div) (evaluate (given_of c.args.self.now) c.in-Div.a)) c.in_ok-b-in-Div.b _ c.in-Div.b c.in-Div.is c.get-in-Div.ensures c.in_ok-b-in-Div.ensures (at-Div (step (given_of c.args.self.now)) c.in-Div.a c.in-Div.b) c.binary-in-Div.ensures

pub prepare-returns-in_ok-b-in-Mod : goal.prepare-returns-in_ok-b-in-Mod
prepare-returns-in_ok-b-in-Mod t c = by_one (given_of c.args.self.now) _ _ _ (binary_form (binary.Numbers numbers.Mod) (evaluate (given_of c.args.self.now) c.in-Mod.a)) c.in_ok-b-in-Mod.b _ c.in-Mod.b c.in-Mod.is c.get-in-Mod.ensures c.in_ok-b-in-Mod.ensures (at-Mod (step (given_of c.args.self.now)) c.in-Mod.a c.in-Mod.b) c.binary-in-Mod.ensures

pub prepare-returns-in_ok-b-in-Lt : goal.prepare-returns-in_ok-b-in-Lt
prepare-returns-in_ok-b-in-Lt t c = by_one (given_of c.args.self.now) _ _ _ (binary_form (binary.Numbers numbers.Lt) (evaluate (given_of c.args.self.now) c.in-Lt.a)) c.in_ok-b-in-Lt.b _ c.in-Lt.b c.in-Lt.is c.get-in-Lt.ensures c.in_ok-b-in-Lt.ensures (at-Lt (step (given_of c.args.self.now)) c.in-Lt.a c.in-Lt.b) c.binary-in-Lt.ensures

pub prepare-returns-in_ok-b-in-Same : goal.prepare-returns-in_ok-b-in-Same
prepare-returns-in_ok-b-in-Same t c = by_one (given_of c.args.self.now) _ _ _ (binary_form (binary.Numbers numbers.Same) (evaluate (given_of c.args.self.now) c.in-Same.a)) c.in_ok-b-in-Same.b _ c.in-Same.b c.in-Same.is c.get-in-Same.ensures c.in_ok-b-in-Same.ensures (at-Same (step (given_of c.args.self.now)) c.in-Same.a c.in-Same.b) c.binary-in-Same.ensures

pub prepare-returns-in_ok-b-in-If : goal.prepare-returns-in_ok-b-in-If
prepare-returns-in_ok-b-in-If t c = by_two (given_of c.args.self.now) _ _ _ (form.If (evaluate (given_of c.args.self.now) c.in-If.c)) c.in_ok-a-in-If.a c.in_ok-b-in-If.b _ c.in-If.a _ c.in-If.b c.in-If.is c.get-in-If.ensures c.in_ok-a-in-If.ensures c.get-in-If-2.ensures c.in_ok-b-in-If.ensures (at-If (step (given_of c.args.self.now)) c.in-If.c c.in-If.a c.in-If.b) c.choice.ensures

pub prepare-returns-in_ok-b-in-Let : goal.prepare-returns-in_ok-b-in-Let
prepare-returns-in_ok-b-in-Let t c = by_one (given_of c.args.self.now) _ _ _ (form.Let c.in-Let.x (evaluate (given_of c.args.self.now) c.in-Let.a)) c.in_ok-b-in-Let.b _ c.in-Let.b c.in-Let.is c.get-in-Let.ensures c.in_ok-b-in-Let.ensures (at-Let (step (given_of c.args.self.now)) c.in-Let.x c.in-Let.a c.in-Let.b) c.bind.ensures

pub prepare-returns-in-Lines : goal.prepare-returns-in-Lines
prepare-returns-in-Lines t c = by_form (given_of c.args.self.now) _ _ _ (unary_form unary.Lines (evaluate (given_of c.args.self.now) c.in-Lines.a)) c.in-Lines.is (at-Lines (step (given_of c.args.self.now)) c.in-Lines.a) c.unary-in-Lines.ensures

pub prepare-returns-in_ok-b-in-Split : goal.prepare-returns-in_ok-b-in-Split
prepare-returns-in_ok-b-in-Split t c = by_one (given_of c.args.self.now) _ _ _ (binary_form (binary.Texts texts.Split) (evaluate (given_of c.args.self.now) c.in-Split.a)) c.in_ok-b-in-Split.b _ c.in-Split.b c.in-Split.is c.get-in-Split.ensures c.in_ok-b-in-Split.ensures (at-Split (step (given_of c.args.self.now)) c.in-Split.a c.in-Split.b) c.binary-in-Split.ensures

pub prepare-returns-in_ok-b-in-Join : goal.prepare-returns-in_ok-b-in-Join
prepare-returns-in_ok-b-in-Join t c = by_one (given_of c.args.self.now) _ _ _ (binary_form (binary.ListText list_text.Join) (evaluate (given_of c.args.self.now) c.in-Join.a)) c.in_ok-b-in-Join.b _ c.in-Join.b c.in-Join.is c.get-in-Join.ensures c.in_ok-b-in-Join.ensures (at-Join (step (given_of c.args.self.now)) c.in-Join.a c.in-Join.b) c.binary-in-Join.ensures

pub prepare-returns-in-List : goal.prepare-returns-in-List
prepare-returns-in-List t c = by_form (given_of c.args.self.now) _ _ _ (form.List (map (evaluate (given_of c.args.self.now)) c.in-List.parts)) c.in-List.is (at-List (step (given_of c.args.self.now)) c.in-List.parts) c.list.ensures

pub prepare-returns-in_ok-b-in-Append : goal.prepare-returns-in_ok-b-in-Append
prepare-returns-in_ok-b-in-Append t c = by_one (given_of c.args.self.now) _ _ _ (binary_form (binary.ListText list_text.Append) (evaluate (given_of c.args.self.now) c.in-Append.a)) c.in_ok-b-in-Append.b _ c.in-Append.b c.in-Append.is c.get-in-Append.ensures c.in_ok-b-in-Append.ensures (at-Append (step (given_of c.args.self.now)) c.in-Append.a c.in-Append.b) c.binary-in-Append.ensures

pub prepare-returns-in_ok-b-in-At : goal.prepare-returns-in_ok-b-in-At
prepare-returns-in_ok-b-in-At t c = by_one (given_of c.args.self.now) _ _ _ (binary_form (binary.At) (evaluate (given_of c.args.self.now) c.in-At.a)) c.in_ok-b-in-At.b _ c.in-At.b c.in-At.is c.get-in-At.ensures c.in_ok-b-in-At.ensures (at-At (step (given_of c.args.self.now)) c.in-At.a c.in-At.b) c.binary-in-At.ensures

pub prepare-returns-in-Count : goal.prepare-returns-in-Count
prepare-returns-in-Count t c = by_form (given_of c.args.self.now) _ _ _ (unary_form unary.Count (evaluate (given_of c.args.self.now) c.in-Count.a)) c.in-Count.is (at-Count (step (given_of c.args.self.now)) c.in-Count.a) c.unary-in-Count.ensures

pub prepare-returns-in-Sort : goal.prepare-returns-in-Sort
prepare-returns-in-Sort t c = by_form (given_of c.args.self.now) _ _ _ (unary_form unary.Sort (evaluate (given_of c.args.self.now) c.in-Sort.a)) c.in-Sort.is (at-Sort (step (given_of c.args.self.now)) c.in-Sort.a) c.unary-in-Sort.ensures

pub prepare-returns-in_ok-a-in-Each : goal.prepare-returns-in_ok-a-in-Each
prepare-returns-in_ok-a-in-Each t c = by_one (given_of c.args.self.now) _ _ _ (form.Each c.in-Each.x (evaluate (given_of c.args.self.now) c.in-Each.m)) c.in_ok-a-in-Each.a _ c.in-Each.a c.in-Each.is c.get-in-Each.ensures c.in_ok-a-in-Each.ensures (at-Each (step (given_of c.args.self.now)) c.in-Each.x c.in-Each.m c.in-Each.a) c.each.ensures

pub prepare-returns-in_ok-a-in-Keep : goal.prepare-returns-in_ok-a-in-Keep
prepare-returns-in_ok-a-in-Keep t c = by_one (given_of c.args.self.now) _ _ _ (form.Keep c.in-Keep.x (evaluate (given_of c.args.self.now) c.in-Keep.m)) c.in_ok-a-in-Keep.a _ c.in-Keep.a c.in-Keep.is c.get-in-Keep.ensures c.in_ok-a-in-Keep.ensures (at-Keep (step (given_of c.args.self.now)) c.in-Keep.x c.in-Keep.m c.in-Keep.a) c.keep.ensures

pub prepare-returns-in_ok-a-in-Fold : goal.prepare-returns-in_ok-a-in-Fold
prepare-returns-in_ok-a-in-Fold t c = by_two (given_of c.args.self.now) _ _ _ (form.Fold c.in-Fold.s c.in-Fold.x (evaluate (given_of c.args.self.now) c.in-Fold.m)) c.in_ok-i-in-Fold.i c.in_ok-a-in-Fold.a _ c.in-Fold.i _ c.in-Fold.a c.in-Fold.is c.get-in-Fold.ensures c.in_ok-i-in-Fold.ensures c.get-in-Fold-2.ensures c.in_ok-a-in-Fold.ensures (at-Fold (step (given_of c.args.self.now)) c.in-Fold.s c.in-Fold.x c.in-Fold.m c.in-Fold.i c.in-Fold.a) c.fold.ensures

pub unary-returns : goal.unary-returns
unary-returns t c = made_unary (given_of c.args.self.now) _ c.in_ok-part.part _ _ c.get.ensures c.in_ok-part.ensures _ c.node.ensures

pub binary-returns : goal.binary-returns
binary-returns t c = made_binary (given_of c.args.self.now) _ c.in_ok-left.left _ _ c.get.ensures c.in_ok-left.ensures _ c.args.right c.node.ensures

pub sub-returns : goal.sub-returns
sub-returns t c = made_sub (given_of c.args.self.now) _ c.in_ok-whole.whole _ _ c.get.ensures c.in_ok-whole.ensures c.args.from c.args.to c.node.ensures

pub choice-returns : goal.choice-returns
choice-returns t c = made_if (given_of c.args.self.now) _ c.in_ok-condition.condition _ _ c.get.ensures c.in_ok-condition.ensures c.args.one c.args.other c.node.ensures

pub bind-returns : goal.bind-returns
bind-returns t c = made_let (given_of c.args.self.now) _ c.in_ok-part.part _ _ c.get.ensures c.in_ok-part.ensures _ _ c.args.body c.in_ok-name.ensures c.node.ensures

pub each-returns : goal.each-returns
each-returns t c = made_each (given_of c.args.self.now) _ c.in_ok-items.items _ _ c.get.ensures c.in_ok-items.ensures _ _ c.args.body c.in_ok-name.ensures c.node.ensures

pub keep-returns : goal.keep-returns
keep-returns t c = made_keep (given_of c.args.self.now) _ c.in_ok-items.items _ _ c.get.ensures c.in_ok-items.ensures _ _ c.args.body c.in_ok-name.ensures c.node.ensures

pub fold-returns : goal.fold-returns
fold-returns t c = made_fold (given_of c.args.self.now) _ c.in_ok-items.items _ _ c.get.ensures c.in_ok-items.ensures _ _ _ _ c.args.start c.args.body c.in_ok-state.ensures c.in_ok-name.ensures c.node.ensures

pub list-returns : goal.list-returns
list-returns t c = made_list (given_of c.args.self.now) _ _ c.in_ok-new.field-0 _ c.in_ok-new.ensures.ok (c.in_ok-parts.ensures ∙ ap (map (evaluate (given_of c.args.self.now))) c.as_slice.ensures) c.node.ensures
