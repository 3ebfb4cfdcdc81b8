-- Values and expressions within the limits of the language.
use Rattle.std.specs.Prelude.{Bool, true, ◌&&◌, List, [], ◌∷◌}
use Rattle.std.specs.List.{list_all}
use Rattle.tl_lang.specs.declared.expr.Expr.{Expr}
use Rattle.tl_lang.specs.declared.expr.Expr.TheOpen as form
use Rattle.tl_lang.specs.Tree.{Form, fold_tree}
use Rattle.tl_lang.specs.Value.{Value, text, number, list, is_text, is_number, is_list}
use Rattle.tl_lang.specs.Fuel.{Ending, done, fault}
use Rattle.tl_lang.specs.Names.{Names}
use Rattle.tl_lang.specs.Meaning.{Given}

abbrev pub is_within : Value → Bool
is_within (text s) = is_text s
is_within (number n) = is_number n
is_within (list ts) = is_list ts

-- the parts of a form, in the order of the text
abbrev pub parts : {A : Type 0} → Form A → List A
parts (form.Text s) = []
parts (form.Number n) = []
parts (form.Var x) = []
parts (form.Input k) = []
parts (form.Key key) = []
parts (form.Cat a b) = a ∷ b ∷ []
parts (form.Len a) = a ∷ []
parts (form.Sub a i j) = a ∷ i ∷ j ∷ []
parts (form.Eq a b) = a ∷ b ∷ []
parts (form.Has a b) = a ∷ b ∷ []
parts (form.Num a) = a ∷ []
parts (form.Str a) = a ∷ []
parts (form.Add a b) = a ∷ b ∷ []
parts (form.Minus a b) = a ∷ b ∷ []
parts (form.Mul a b) = a ∷ b ∷ []
parts (form.Div a b) = a ∷ b ∷ []
parts (form.Mod a b) = a ∷ b ∷ []
parts (form.Lt a b) = a ∷ b ∷ []
parts (form.Same a b) = a ∷ b ∷ []
parts (form.If c a b) = c ∷ a ∷ b ∷ []
parts (form.Let x a b) = a ∷ b ∷ []
parts (form.Lines a) = a ∷ []
parts (form.Split a b) = a ∷ b ∷ []
parts (form.Join a b) = a ∷ b ∷ []
parts (form.List all) = all
parts (form.Append a b) = a ∷ b ∷ []
parts (form.At a b) = a ∷ b ∷ []
parts (form.Count a) = a ∷ []
parts (form.Sort a) = a ∷ []
parts (form.Each x m a) = m ∷ a ∷ []
parts (form.Keep x m a) = m ∷ a ∷ []
parts (form.Fold s x m i a) = m ∷ i ∷ a ∷ []

abbrev pub is_literal_within : {A : Type 0} → Form A → Bool
is_literal_within (form.Text s) = is_text s
is_literal_within (form.Number n) = is_number n
is_literal_within _ = true

abbrev pub all_within : Form Bool → Bool
all_within form = is_literal_within form && list_all (λ part. part) (parts form)

-- each literal of the expression is within the limits
abbrev pub literals_within : Expr → Bool
literals_within = fold_tree all_within

-- the inputs and the values of the configuration are
abbrev pub given_within : Given → Bool
given_within given = list_all is_text given.inputs && list_all (λ p. is_text p.1) given.conf

-- the values of the visible names are
abbrev pub names_within : Names Value → Bool
names_within names = list_all (λ n. is_within n.1) names

-- where there is a result, it has the property
abbrev pub OnResult : {A : Type 0} → (A → Type 0) → Ending A → Type 0
OnResult P (done a left) = P a
OnResult P (fault k left) = Unit {0}
