-- What the forms whose parts are all evaluated give of the parts' values.
use Rattle.std.specs.Prelude.{ℕ, ℤ, List}
use Rattle.tl_eval.specs.declared.op.Unary.{Unary}
use Rattle.tl_eval.specs.declared.op.Unary.TheVariants as unary
use Rattle.tl_eval.specs.declared.op.Binary.{Binary}
use Rattle.tl_eval.specs.declared.op.Binary.TheVariants as binary
use Rattle.tl_eval.specs.declared.op.OnTexts.{OnTexts}
use Rattle.tl_eval.specs.declared.op.OnTexts.TheVariants as texts
use Rattle.tl_eval.specs.declared.op.OnNumbers.{OnNumbers}
use Rattle.tl_eval.specs.declared.op.OnNumbers.TheVariants as numbers
use Rattle.tl_eval.specs.declared.op.OnListText.{OnListText}
use Rattle.tl_eval.specs.declared.op.OnListText.TheVariants as list_text
use Rattle.tl_lang.specs.Value.{Value, Answer, on_text, on_number, on_list, on_texts, on_numbers, on_list_text}
use Rattle.tl_lang.specs.Texts.{cat, len, sub, eq, has, num, str}
use Rattle.tl_lang.specs.Numbers.{add, minus, mul, div, mod', lt, same}
use Rattle.tl_lang.specs.Lists.{lines, split, join, append, at, count, sort}

abbrev pub of_one : Unary → Value → Answer
of_one unary.Len = on_text len
of_one unary.Num = on_text num
of_one unary.Str = on_number str
of_one unary.Lines = on_text lines
of_one unary.Count = on_list count
of_one unary.Sort = on_list sort

abbrev pub of_texts : OnTexts → List ℕ → List ℕ → Answer
of_texts texts.Cat = cat
of_texts texts.Eq = eq
of_texts texts.Has = has
of_texts texts.Split = split

abbrev pub of_numbers : OnNumbers → ℤ → ℤ → Answer
of_numbers numbers.Add = add
of_numbers numbers.Minus = minus
of_numbers numbers.Mul = mul
of_numbers numbers.Div = div
of_numbers numbers.Mod = mod'
of_numbers numbers.Lt = lt
of_numbers numbers.Same = same

abbrev pub of_list_text : OnListText → List (List ℕ) → List ℕ → Answer
of_list_text list_text.Join = join
of_list_text list_text.Append = append

abbrev pub of_two : Binary → Value → Value → Answer
of_two (binary.Texts op) = on_texts (of_texts op)
of_two (binary.Numbers op) = on_numbers (of_numbers op)
of_two (binary.ListText op) = on_list_text (of_list_text op)
of_two binary.At = λ v w. on_list (λ ts. on_number (at ts) w) v

abbrev pub of_sub : Value → Value → Value → Answer
of_sub v p q = on_text (λ s. on_numbers (sub s) p q) v
