-- The programs of the worked evaluations.
use Rattle.std.specs.Prelude.{ℕ, pos, negsuc, List, [], ◌∷◌, codes}
use Rattle.tl_lang.specs.declared.expr.Expr.{Expr, Text, Number, Var, Input, Cat, Len, Str, Add, Div, Mod, Lines, Fold}
use Rattle.tl_lang.specs.declared.program.Program.{Program}
use Rattle.tl_lang.specs.Value.{Value}
use Rattle.tl_lang.specs.Fuel.{Ending}
use Rattle.tl_lang.specs.Meaning.{evaluate}

-- (job (cat (in 0) "!"))
abbrev pub shout : Program
shout = record { outputs = Cat (Input 0) (Text (codes "!")) ∷ [] }

-- (job (str (fold a x (lines (in 0)) 0 (add a (len x)))))
abbrev pub line_bytes : Program
line_bytes = record { outputs = Str (Fold (codes "a") (codes "x") (Lines (Input 0)) (Number (pos 0)) (Add (Var (codes "a")) (Len (Var (codes "x"))))) ∷ [] }

-- (job (str (div -7 2)) (str (mod -7 2)))
abbrev pub quotients : Program
quotients = record { outputs = Str (Div (Number (negsuc 6)) (Number (pos 2))) ∷ Str (Mod (Number (negsuc 6)) (Number (pos 2))) ∷ [] }

-- an expression by itself, where the input is `hi` and the key `k` has the value `v`
abbrev pub trial : Expr → ℕ → Ending Value
trial e fuel = evaluate (record { inputs = codes "hi" ∷ []; conf = (codes "k", codes "v") ∷ [] }) e [] fuel

-- a quoted text, a number that is not negative, and quoted texts
abbrev pub a_text : List ℕ → Expr
a_text s = Text s

abbrev pub plus : ℕ → Expr
plus n = Number (pos n)

abbrev pub quoted_texts : List (List ℕ) → List Expr
quoted_texts [] = []
quoted_texts (s ∷ ss) = Text s ∷ quoted_texts ss
