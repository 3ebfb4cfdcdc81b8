-- The words of the forms.
use Rattle.std.specs.Prelude.{ℕ, List, bytes_eq, codes, Option}
use Rattle.std.specs.Map.{lookup}
use Rattle.tl_kind.specs.declared.word.Word.{Word}
use Rattle.tl_kind.specs.declared.word.Word.TheVariants as word
use Rattle.tl_kind.specs.declared.word.One.{One}
use Rattle.tl_kind.specs.declared.word.One.TheVariants as one
use Rattle.tl_kind.specs.declared.word.Two.{Two}
use Rattle.tl_kind.specs.declared.word.Two.TheVariants as two
use Rattle.tl_kind.specs.declared.word.Three.{Three}
use Rattle.tl_kind.specs.declared.word.Three.TheVariants as three
use Rattle.tl_kind.specs.declared.word.Binding.{Binding}
use Rattle.tl_kind.specs.declared.word.Binding.TheVariants as binding

abbrev pub one_text : One → List ℕ
one_text one.Len = codes "len"
one_text one.Num = codes "num"
one_text one.Str = codes "str"
one_text one.Lines = codes "lines"
one_text one.Count = codes "count"
one_text one.Sort = codes "sort"

abbrev pub two_text : Two → List ℕ
two_text two.Cat = codes "cat"
two_text two.Eq = codes "eq"
two_text two.Has = codes "has"
two_text two.Add = codes "add"
two_text two.Minus = codes "minus"
two_text two.Mul = codes "mul"
two_text two.Div = codes "div"
two_text two.Mod = codes "mod"
two_text two.Lt = codes "lt"
two_text two.Same = codes "same"
two_text two.Split = codes "split"
two_text two.Join = codes "join"
two_text two.Append = codes "append"
two_text two.At = codes "at"

abbrev pub three_text : Three → List ℕ
three_text three.Sub = codes "sub"
three_text three.If = codes "if"

abbrev pub binding_text : Binding → List ℕ
binding_text binding.Let = codes "let"
binding_text binding.Each = codes "each"
binding_text binding.Keep = codes "keep"

abbrev pub word_text : Word → List ℕ
word_text word.Input = codes "in"
word_text word.Key = codes "conf"
word_text (word.One w) = one_text w
word_text (word.Two w) = two_text w
word_text (word.Three w) = three_text w
word_text (word.Binding w) = binding_text w
word_text word.Fold = codes "fold"
word_text word.List = codes "list"

-- the word beside these letters
abbrev pub found_in : List (List ℕ × Word) → List ℕ → Option Word
found_in table letters = lookup (λ spelled. bytes_eq spelled letters) table
