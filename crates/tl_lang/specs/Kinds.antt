-- The kind rules: the kind of an expression, or the number of the first refusal in order of the text.
use Rattle.std.specs.Prelude.{◌≡◌, ◌≤◌, ℕ, Bool, true, false, ◌&&◌, if◌then◌else◌, nat_lt, ◌==◌, List, [], ◌∷◌, map, length, Option, Some, None, ok_or, Result, Ok, Err}
use Rattle.tl_types.specs.declared.outcome.Outcome.{Outcome}
use Rattle.tl_types.specs.declared.outcome.Outcome.TheVariants as outcome
use Rattle.tl_lang.specs.declared.expr.Expr.{Expr}
use Rattle.tl_lang.specs.declared.expr.Expr.TheOpen as form
use Rattle.tl_lang.specs.declared.kind.Kind.{Kind}
use Rattle.tl_lang.specs.declared.kind.Kind.TheVariants as kind
use Rattle.tl_lang.specs.declared.program.Program.{Program}
use Rattle.tl_lang.specs.Tree.{Form, fold_tree}
use Rattle.tl_lang.specs.Value.{Value, text, number, list}
use Rattle.tl_lang.specs.Fuel.{Ending, done, fault}
use Rattle.tl_lang.specs.Names.{Names, visible}

-- the numbers of the refusals
abbrev pub outputs_differ : ℕ
outputs_differ = 1

abbrev pub unbound : ℕ
unbound = 2

abbrev pub wrong_kind : ℕ
wrong_kind = 3

abbrev pub no_input : ℕ
no_input = 4

abbrev pub Judged : Type 0
Judged = Result Kind ℕ

abbrev pub and_then : {A B : Type 0} → Result A ℕ → (A → Result B ℕ) → Result B ℕ
and_then (Ok a) go = go a
and_then (Err refusal) go = Err refusal

abbrev pub same_kind : Kind → Kind → Bool
same_kind kind.Text kind.Text = true
same_kind kind.Number kind.Number = true
same_kind kind.List kind.List = true
same_kind _ _ = false

abbrev pub same_kinds : List Kind → List Kind → Bool
same_kinds [] [] = true
same_kinds (k ∷ ks) (w ∷ ws) = same_kind k w && same_kinds ks ws
same_kinds _ _ = false

-- the kinds of the parts, or the first refusal among them
abbrev pub in_order : List Judged → Result (List Kind) ℕ
in_order [] = Ok []
in_order (part ∷ parts) = and_then part (λ k. and_then (in_order parts) (λ ks. Ok (k ∷ ks)))

-- parts of these kinds, and the kind that the form then has
abbrev pub takes : List Kind → Kind → List Judged → Judged
takes wanted gives parts = and_then (in_order parts) (λ kinds. if same_kinds kinds wanted then Ok gives else Err wrong_kind)

-- two branches of one kind, which the form then has
abbrev pub branches : Judged → Judged → Judged → Judged
branches c a b = and_then c (λ k. and_then a (λ p. and_then b (λ q. if same_kind k kind.Number && same_kind p q then Ok p else Err wrong_kind)))

abbrev pub Kinding : Type 0
Kinding = Names Kind → Judged

-- the kind of a form, from the number of inputs and the kinds of the visible names
abbrev pub kinds_step : ℕ → Form Kinding → Kinding
kinds_step inputs (form.Text s) scope = Ok kind.Text
kinds_step inputs (form.Number n) scope = Ok kind.Number
kinds_step inputs (form.Var x) scope = ok_or (visible x scope) unbound
kinds_step inputs (form.Input k) scope = if nat_lt k inputs then Ok kind.Text else Err no_input
kinds_step inputs (form.Key key) scope = Ok kind.Text
kinds_step inputs (form.Cat a b) scope = takes (kind.Text ∷ kind.Text ∷ []) kind.Text (a scope ∷ b scope ∷ [])
kinds_step inputs (form.Len a) scope = takes (kind.Text ∷ []) kind.Number (a scope ∷ [])
kinds_step inputs (form.Sub a i j) scope = takes (kind.Text ∷ kind.Number ∷ kind.Number ∷ []) kind.Text (a scope ∷ i scope ∷ j scope ∷ [])
kinds_step inputs (form.Eq a b) scope = takes (kind.Text ∷ kind.Text ∷ []) kind.Number (a scope ∷ b scope ∷ [])
kinds_step inputs (form.Has a b) scope = takes (kind.Text ∷ kind.Text ∷ []) kind.Number (a scope ∷ b scope ∷ [])
kinds_step inputs (form.Num a) scope = takes (kind.Text ∷ []) kind.Number (a scope ∷ [])
kinds_step inputs (form.Str a) scope = takes (kind.Number ∷ []) kind.Text (a scope ∷ [])
kinds_step inputs (form.Add a b) scope = takes (kind.Number ∷ kind.Number ∷ []) kind.Number (a scope ∷ b scope ∷ [])
kinds_step inputs (form.Minus a b) scope = takes (kind.Number ∷ kind.Number ∷ []) kind.Number (a scope ∷ b scope ∷ [])
kinds_step inputs (form.Mul a b) scope = takes (kind.Number ∷ kind.Number ∷ []) kind.Number (a scope ∷ b scope ∷ [])
kinds_step inputs (form.Div a b) scope = takes (kind.Number ∷ kind.Number ∷ []) kind.Number (a scope ∷ b scope ∷ [])
kinds_step inputs (form.Mod a b) scope = takes (kind.Number ∷ kind.Number ∷ []) kind.Number (a scope ∷ b scope ∷ [])
kinds_step inputs (form.Lt a b) scope = takes (kind.Number ∷ kind.Number ∷ []) kind.Number (a scope ∷ b scope ∷ [])
kinds_step inputs (form.Same a b) scope = takes (kind.Number ∷ kind.Number ∷ []) kind.Number (a scope ∷ b scope ∷ [])
kinds_step inputs (form.If c a b) scope = branches (c scope) (a scope) (b scope)
kinds_step inputs (form.Let x a b) scope = and_then (a scope) (λ k. b ((x, k) ∷ scope))
kinds_step inputs (form.Lines a) scope = takes (kind.Text ∷ []) kind.List (a scope ∷ [])
kinds_step inputs (form.Split a s) scope = takes (kind.Text ∷ kind.Text ∷ []) kind.List (a scope ∷ s scope ∷ [])
kinds_step inputs (form.Join m s) scope = takes (kind.List ∷ kind.Text ∷ []) kind.Text (m scope ∷ s scope ∷ [])
kinds_step inputs (form.List parts) scope = takes (map (λ a. kind.Text) parts) kind.List (map (λ a. a scope) parts)
kinds_step inputs (form.Append m a) scope = takes (kind.List ∷ kind.Text ∷ []) kind.List (m scope ∷ a scope ∷ [])
kinds_step inputs (form.At m i) scope = takes (kind.List ∷ kind.Number ∷ []) kind.Text (m scope ∷ i scope ∷ [])
kinds_step inputs (form.Count m) scope = takes (kind.List ∷ []) kind.Number (m scope ∷ [])
kinds_step inputs (form.Sort m) scope = takes (kind.List ∷ []) kind.List (m scope ∷ [])
kinds_step inputs (form.Each x m a) scope = takes (kind.List ∷ kind.Text ∷ []) kind.List (m scope ∷ a ((x, kind.Text) ∷ scope) ∷ [])
kinds_step inputs (form.Keep x m a) scope = takes (kind.List ∷ kind.Number ∷ []) kind.List (m scope ∷ a ((x, kind.Text) ∷ scope) ∷ [])
kinds_step inputs (form.Fold s x m i a) scope =
    and_then (m scope) (λ p. and_then (i scope) (λ k. takes (kind.List ∷ k ∷ []) k (Ok p ∷ a ((x, kind.Text) ∷ (s, k) ∷ scope) ∷ [])))

abbrev pub kind_of : ℕ → Expr → Names Kind → Judged
kind_of inputs = fold_tree (kinds_step inputs)

-- an output is a text
abbrev pub then_outputs : Judged → Option ℕ → Option ℕ
then_outputs (Ok kind.Text) later = later
then_outputs (Ok kind.Number) later = Some wrong_kind
then_outputs (Ok kind.List) later = Some wrong_kind
then_outputs (Err refusal) later = Some refusal

abbrev pub refusal_in : ℕ → List Expr → Option ℕ
refusal_in inputs [] = None
refusal_in inputs (e ∷ outputs) = then_outputs (kind_of inputs e []) (refusal_in inputs outputs)

-- the first refusal of a program for these numbers of inputs and outputs
abbrev pub refusal : Program → ℕ → ℕ → Option ℕ
refusal program inputs outputs = if length program.outputs == outputs then refusal_in inputs program.outputs else Some outputs_differ

-- the kind rules hold of the program for these numbers of inputs and outputs
abbrev pub KindsHold : Program → ℕ → ℕ → Type 0
KindsHold program inputs outputs = refusal program inputs outputs ≡ None

-- ---- what the kind rules promise

abbrev pub kind_of_value : Value → Kind
kind_of_value (text s) = kind.Text
kind_of_value (number n) = kind.Number
kind_of_value (list ts) = kind.List

-- the same names are visible, and their values have their kinds
abbrev pub Agree : Names Kind → Names Value → Type 0
Agree [] [] = Unit {0}
Agree (k ∷ scope) (v ∷ names) = (k.0 ≡ v.0) × (kind_of_value v.1 ≡ k.1) × Agree scope names
Agree [] (v ∷ names) = ⊥
Agree (k ∷ scope) [] = ⊥

-- a fault that an evaluation can meet
abbrev pub IsFault : ℕ → Type 0
IsFault k = (1 ≤ k) × (k ≤ 7)

-- a result with the property, or a fault
abbrev pub EndsWith : {A : Type 0} → (A → Type 0) → Ending A → Type 0
EndsWith P (done a left) = P a
EndsWith P (fault k left) = IsFault k

abbrev pub IsOfKind : Kind → Value → Type 0
IsOfKind k v = kind_of_value v ≡ k

-- a value, or one of the faults 1 to 8
abbrev pub IsOutcome : Outcome → Type 0
IsOutcome (outcome.Value s) = Unit {0}
IsOutcome (outcome.Fault k) = (1 ≤ k) × (k ≤ 8)
