-- Nodes that mean what expressions mean.
use Rattle.std.specs.Prelude.{◌≡◌}
use Rattle.std.specs.Global.{Global}
use Rattle.std.specs.declared.sync.Arc.{Arc}
use Rattle.tl_eval.specs.declared.node.Node.{Node}
use Rattle.tl_eval.specs.declared.op.Unary.{Unary}
use Rattle.tl_eval.specs.declared.op.Unary.TheVariants as unary
use Rattle.tl_eval.specs.declared.op.Binary.{Binary}
use Rattle.tl_eval.specs.declared.op.Binary.TheVariants as binary
use Rattle.tl_eval.specs.declared.op.OnTexts.{OnTexts}
use Rattle.tl_eval.specs.declared.op.OnTexts.TheVariants as texts
use Rattle.tl_eval.specs.declared.op.OnNumbers.{OnNumbers}
use Rattle.tl_eval.specs.declared.op.OnNumbers.TheVariants as numbers
use Rattle.tl_eval.specs.declared.op.OnListText.{OnListText}
use Rattle.tl_eval.specs.declared.op.OnListText.TheVariants as list_text
use Rattle.tl_eval.specs.Nodes.{gives}
use Rattle.tl_lang.specs.declared.expr.Expr.{Expr}
use Rattle.tl_lang.specs.declared.expr.Expr.TheOpen as form
use Rattle.tl_lang.specs.Tree.{Form}
use Rattle.tl_lang.specs.Meaning.{Given, Meaning, step, evaluate}

-- the node means the expression
abbrev pub Means : Given → Expr → Arc Node Global → Type 0
Means given expr node = gives node.value ≡ evaluate given expr

-- the node means the form, whose parts have these meanings
abbrev pub MeansForm : Given → Form Meaning → Arc Node Global → Type 0
MeansForm given shape node = gives node.value ≡ step given shape

-- the form of a node with one part or two, of which the values decide
abbrev pub unary_form : Unary → Meaning → Form Meaning
unary_form unary.Len a = form.Len a
unary_form unary.Num a = form.Num a
unary_form unary.Str a = form.Str a
unary_form unary.Lines a = form.Lines a
unary_form unary.Count a = form.Count a
unary_form unary.Sort a = form.Sort a

abbrev pub texts_form : OnTexts → Meaning → Meaning → Form Meaning
texts_form texts.Cat a b = form.Cat a b
texts_form texts.Eq a b = form.Eq a b
texts_form texts.Has a b = form.Has a b
texts_form texts.Split a b = form.Split a b

abbrev pub numbers_form : OnNumbers → Meaning → Meaning → Form Meaning
numbers_form numbers.Add a b = form.Add a b
numbers_form numbers.Minus a b = form.Minus a b
numbers_form numbers.Mul a b = form.Mul a b
numbers_form numbers.Div a b = form.Div a b
numbers_form numbers.Mod a b = form.Mod a b
numbers_form numbers.Lt a b = form.Lt a b
numbers_form numbers.Same a b = form.Same a b

abbrev pub list_text_form : OnListText → Meaning → Meaning → Form Meaning
list_text_form list_text.Join a b = form.Join a b
list_text_form list_text.Append a b = form.Append a b

abbrev pub binary_form : Binary → Meaning → Meaning → Form Meaning
binary_form (binary.Texts op) a b = texts_form op a b
binary_form (binary.Numbers op) a b = numbers_form op a b
binary_form (binary.ListText op) a b = list_text_form op a b
binary_form binary.At a b = form.At a b
