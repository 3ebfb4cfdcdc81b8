-- What a program gives: the outcome of each output, and how many expressions are entered.
use Rattle.std.specs.Prelude.{ℕ, ◌-◌, List, [], ◌∷◌, map, sum_by, Option, Some, None, option_map}
use Rattle.tl_types.specs.declared.outcome.Outcome.{Outcome}
use Rattle.tl_types.specs.declared.outcome.Outcome.TheVariants as outcome
use Rattle.tl_lang.specs.declared.expr.Expr.{Expr}
use Rattle.tl_lang.specs.declared.program.Program.{Program}
use Rattle.tl_lang.specs.Value.{Value, text, number, list, no_meaning, input_fault}
use Rattle.tl_lang.specs.Fuel.{Ending, done, fault}
use Rattle.tl_lang.specs.Names.{Names}
use Rattle.tl_lang.specs.Meaning.{Given, evaluate}

-- the values of the inputs, where none is a fault
abbrev pub values : List Outcome → Option (List (List ℕ))
values [] = Some []
values (outcome.Value s ∷ inputs) = option_map (λ ss. s ∷ ss) (values inputs)
values (outcome.Fault k ∷ inputs) = None

abbrev pub outcome_of : Ending Value → Outcome
outcome_of (done (text s) left) = outcome.Value s
outcome_of (done (number n) left) = outcome.Fault no_meaning
outcome_of (done (list ts) left) = outcome.Fault no_meaning
outcome_of (fault k left) = outcome.Fault k

abbrev pub units_left : Ending Value → ℕ
units_left (done v left) = left
units_left (fault k left) = left

-- each output by itself, with the whole fuel
abbrev pub ending : Given → ℕ → Expr → Ending Value
ending given fuel e = evaluate given e [] fuel

abbrev pub outcomes : Option (List (List ℕ)) → Names (List ℕ) → ℕ → List Expr → List Outcome
outcomes None conf fuel outputs = map (λ e. outcome.Fault input_fault) outputs
outcomes (Some inputs) conf fuel outputs = map (λ e. outcome_of (ending (record { inputs = inputs; conf = conf }) fuel e)) outputs

-- the outcomes of a program's outputs, from its configuration, the outcomes of its inputs and its fuel
abbrev pub mean : Program → Names (List ℕ) → List Outcome → ℕ → List Outcome
mean program conf inputs fuel = outcomes (values inputs) conf fuel program.outputs

-- how many expressions an output enters
abbrev pub entered_by : Given → ℕ → Expr → ℕ
entered_by given fuel e = fuel - units_left (ending given fuel e)

abbrev pub entered_in : Option (List (List ℕ)) → Names (List ℕ) → ℕ → List Expr → ℕ
entered_in None conf fuel outputs = 0
entered_in (Some inputs) conf fuel outputs = sum_by (entered_by (record { inputs = inputs; conf = conf }) fuel) outputs

-- how many expressions a program enters in all
abbrev pub entered : Program → Names (List ℕ) → List Outcome → ℕ → ℕ
entered program conf inputs fuel = entered_in (values inputs) conf fuel program.outputs
