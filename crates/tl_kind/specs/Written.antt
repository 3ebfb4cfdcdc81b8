-- Programs as they are written: each has one spelling.
use Rattle.std.specs.Prelude.{◌≡◌, ◌≤◌, ℕ, zero, suc, ◌^◌, ℤ, Bool, true, false, ◌&&◌, nat_lt, nat_le, List, [], ◌∷◌, ◌++◌, map, length, codes}
use Rattle.std.specs.List.{list_all}
use Rattle.std.specs.Fmt.{decimal, signed_decimal}
use Rattle.tl_text.specs.Quoted.{quoted}
use Rattle.tl_lang.specs.declared.expr.Expr.{Expr}
use Rattle.tl_lang.specs.declared.expr.Expr.TheOpen as form
use Rattle.tl_lang.specs.declared.program.Program.{Program}
use Rattle.tl_lang.specs.Tree.{Form, fold_tree}
use Rattle.tl_lang.specs.Value.{is_number}
use Rattle.tl_kind.specs.declared.word.Word.{Word}
use Rattle.tl_kind.specs.declared.word.Word.TheVariants as word
use Rattle.tl_kind.specs.declared.word.One.{One}
use Rattle.tl_kind.specs.declared.word.One.TheVariants as one
use Rattle.tl_kind.specs.declared.word.Two.{Two}
use Rattle.tl_kind.specs.declared.word.Two.TheVariants as two
use Rattle.tl_kind.specs.declared.word.Three.{Three}
use Rattle.tl_kind.specs.declared.word.Three.TheVariants as three
use Rattle.tl_kind.specs.declared.word.Binding.{Binding}
use Rattle.tl_kind.specs.declared.word.Binding.TheVariants as binding
use Rattle.tl_kind.specs.Words.{word_text}

-- ---- forms and their parts

-- a part of a form: an expression, a name, a number or a quoted text
pub data Part (A : Type 0) : Type 0 where
  an_expr : A → Part A
  a_name : List ℕ → Part A
  a_number : ℕ → Part A
  a_quote : List ℕ → Part A

-- an expression: a quoted text, a signed number, a name, or the word and the parts of a form
pub data Written (A : Type 0) : Type 0 where
  quote : List ℕ → Written A
  signed : ℤ → Written A
  variable : List ℕ → Written A
  with_parts : Word → List (Part A) → Written A

abbrev pub map_part : {A B : Type 0} → (A → B) → Part A → Part B
map_part f (an_expr e) = an_expr (f e)
map_part f (a_name x) = a_name x
map_part f (a_number n) = a_number n
map_part f (a_quote s) = a_quote s

abbrev pub map_written : {A B : Type 0} → (A → B) → Written A → Written B
map_written f (quote s) = quote s
map_written f (signed z) = signed z
map_written f (variable x) = variable x
map_written f (with_parts w parts) = with_parts w (map (map_part f) parts)

abbrev pub with_one : {A : Type 0} → One → A → Written A
with_one w a = with_parts (word.One w) (an_expr a ∷ [])

abbrev pub with_two : {A : Type 0} → Two → A → A → Written A
with_two w a b = with_parts (word.Two w) (an_expr a ∷ an_expr b ∷ [])

abbrev pub with_three : {A : Type 0} → Three → A → A → A → Written A
with_three w a b c = with_parts (word.Three w) (an_expr a ∷ an_expr b ∷ an_expr c ∷ [])

abbrev pub with_name : {A : Type 0} → Binding → List ℕ → A → A → Written A
with_name w x a b = with_parts (word.Binding w) (a_name x ∷ an_expr a ∷ an_expr b ∷ [])

-- how each expression is written
abbrev pub written : {A : Type 0} → Form A → Written A
written (form.Text s) = quote s
written (form.Number z) = signed z
written (form.Var x) = variable x
written (form.Input k) = with_parts word.Input (a_number k ∷ [])
written (form.Key key) = with_parts word.Key (a_quote key ∷ [])
written (form.Cat a b) = with_two two.Cat a b
written (form.Len a) = with_one one.Len a
written (form.Sub a i j) = with_three three.Sub a i j
written (form.Eq a b) = with_two two.Eq a b
written (form.Has a b) = with_two two.Has a b
written (form.Num a) = with_one one.Num a
written (form.Str a) = with_one one.Str a
written (form.Add a b) = with_two two.Add a b
written (form.Minus a b) = with_two two.Minus a b
written (form.Mul a b) = with_two two.Mul a b
written (form.Div a b) = with_two two.Div a b
written (form.Mod a b) = with_two two.Mod a b
written (form.Lt a b) = with_two two.Lt a b
written (form.Same a b) = with_two two.Same a b
written (form.If c a b) = with_three three.If c a b
written (form.Let x a b) = with_name binding.Let x a b
written (form.Lines a) = with_one one.Lines a
written (form.Split a s) = with_two two.Split a s
written (form.Join m s) = with_two two.Join m s
written (form.List parts) = with_parts word.List (map an_expr parts)
written (form.Append m a) = with_two two.Append m a
written (form.At m i) = with_two two.At m i
written (form.Count m) = with_one one.Count m
written (form.Sort m) = with_one one.Sort m
written (form.Each x m a) = with_name binding.Each x m a
written (form.Keep x m a) = with_name binding.Keep x m a
written (form.Fold s x m i a) = with_parts word.Fold (a_name s ∷ a_name x ∷ an_expr m ∷ an_expr i ∷ an_expr a ∷ [])

-- ---- spellings

abbrev pub part_text : Part (List ℕ) → List ℕ
part_text (an_expr t) = t
part_text (a_name x) = x
part_text (a_number n) = decimal n
part_text (a_quote s) = quoted s

-- a space before each part, and `)`
abbrev pub parts_text : List (Part (List ℕ)) → List ℕ
parts_text [] = 0x29 ∷ []
parts_text (p ∷ ps) = 0x20 ∷ part_text p ++ parts_text ps

-- `(`, the word, and the parts
abbrev pub form_text : List ℕ → List (Part (List ℕ)) → List ℕ
form_text word parts = 0x28 ∷ word ++ parts_text parts

abbrev pub written_text : Written (List ℕ) → List ℕ
written_text (quote s) = quoted s
written_text (signed z) = signed_decimal z
written_text (variable x) = x
written_text (with_parts w parts) = form_text (word_text w) parts

abbrev pub spelling_step : Form (List ℕ) → List ℕ
spelling_step f = written_text (written f)

-- the one spelling of an expression
abbrev pub spelling : Expr → List ℕ
spelling = fold_tree spelling_step

-- the one spelling of a program
abbrev pub program_text : Program → List ℕ
program_text program = form_text (codes "job") (map (λ e. an_expr (spelling e)) program.outputs)

-- ---- limits

abbrev pub is_letter : ℕ → Bool
is_letter byte = nat_le 0x61 byte && nat_le byte 0x7A

-- 1 to 16 lower-case letters
abbrev pub is_name : List ℕ → Bool
is_name x = nat_lt 0 (length x) && (nat_le (length x) 16 && list_all is_letter x)

abbrev pub is_byte : ℕ → Bool
is_byte byte = nat_lt byte 256

abbrev pub part_fits : ℕ → Part (ℕ → Bool) → Bool
part_fits room (an_expr fits) = fits room
part_fits room (a_name x) = is_name x
part_fits room (a_number n) = nat_lt n (2 ^ 64)
part_fits room (a_quote s) = list_all is_byte s

-- the names, numbers and bytes are such; a form opens a parenthesis and has at most 16 parts
abbrev pub written_fits : Written (ℕ → Bool) → ℕ → Bool
written_fits (quote s) room = list_all is_byte s
written_fits (signed z) room = is_number z
written_fits (variable x) room = is_name x
written_fits (with_parts w parts) zero = false
written_fits (with_parts w parts) (suc room) = nat_le (length parts) 16 && list_all (part_fits room) parts

-- the expression is within the limits, where so many parentheses may be open at once in it
abbrev pub fits : Expr → ℕ → Bool
fits = fold_tree (λ f. written_fits (written f))

-- the greatest number of outputs
abbrev pub output_limit : ℕ
output_limit = 64

-- the program is within the limits: its spelling has at most 4,096 bytes, it has 1 to 64 outputs, and
-- parentheses are nested at most 32 deep, of which the program's own is the first
pub record IsWithin (program : Program) : Type 0 where
  pub short : length (program_text program) ≤ 4096
  pub some : 1 ≤ length program.outputs
  pub few : length program.outputs ≤ output_limit
  pub within : list_all (λ e. fits e 31) program.outputs ≡ true

-- the text is the spelling of the program, which is within the limits
pub record IsProgram (text : List ℕ) (program : Program) : Type 0 where
  pub spelled : text ≡ program_text program
  pub limits : IsWithin program
