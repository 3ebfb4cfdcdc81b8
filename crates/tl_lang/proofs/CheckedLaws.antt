-- The outcomes of a program that meets the kind rules.
use Rattle.std.proofs.Common.{◌≡◌, ℕ, suc, Bool, true, false, List, [], ◌∷◌, map, length, Option, Some, None, option_map, Ok, Err, if◌then◌else◌, sym, ap, refl, subst, arith}
use Rattle.std.specs.Prelude.{All}
use Rattle.std.specs.List.{AllByRecursion}
use Rattle.std.proofs.lemmas.List.Elements.{All-from_recursion}
use Rattle.tl_types.specs.declared.outcome.Outcome.{Outcome}
use Rattle.tl_types.specs.declared.outcome.Outcome.TheVariants as outcome
use Rattle.tl_lang.specs.declared.expr.Expr.{Expr}
use Rattle.tl_lang.specs.declared.kind.Kind.TheVariants as kind
use Rattle.tl_lang.specs.declared.program.Program.{Program}
use Rattle.tl_lang.specs.Value.{Value, text, number, list}
use Rattle.tl_lang.specs.Fuel.{Ending, done, fault}
use Rattle.tl_lang.specs.Names.{Names}
use Rattle.tl_lang.specs.Meaning.{Given}
use Rattle.tl_lang.specs.Mean.{values, outcome_of, ending, outcomes, mean}
use Rattle.tl_lang.specs.Kinds.{Judged, outputs_differ, kind_of, then_outputs, refusal_in, KindsHold, EndsWith, IsOfKind, IsOutcome}
use Rattle.tl_lang.proofs.KindLaws.{Keeps-evaluate}

-- each output is a text
abbrev AllTexts : ℕ → List Expr → Type 0
AllTexts inputs es = AllByRecursion (λ e. kind_of inputs e [] ≡ Ok kind.Text) es

then_outputs-None : (j : Judged) (later : Option ℕ) → then_outputs j later ≡ None → (j ≡ Ok kind.Text) × (later ≡ None)
then_outputs-None (Ok kind.Text) later e = (refl, e)
then_outputs-None (Ok kind.Number) later e = absurd (cc)
then_outputs-None (Ok kind.List) later e = absurd (cc)
then_outputs-None (Err k) later e = absurd (cc)

texts-refusal_in : (inputs : ℕ) (es : List Expr) → refusal_in inputs es ≡ None → AllTexts inputs es
texts-refusal_in inputs [] e = tt
texts-refusal_in inputs (x ∷ es) e = let parts = then_outputs-None (kind_of inputs x []) (refusal_in inputs es) e in (parts.0, texts-refusal_in inputs es parts.1)

refusal-if : (t : Bool) (o : Option ℕ) → (if t then o else Some outputs_differ) ≡ None → o ≡ None
refusal-if true o e = e
refusal-if false o e = absurd (cc)

texts-KindsHold : (program : Program) (inputs outputs : ℕ) → KindsHold program inputs outputs → AllTexts inputs program.outputs
texts-KindsHold program inputs outputs holds = texts-refusal_in inputs program.outputs (refusal-if _ _ holds)

-- the values are as many as the inputs
abbrev AsMany : List Outcome → Option (List (List ℕ)) → Type 0
AsMany inputs None = Unit {0}
AsMany inputs (Some ss) = length ss ≡ length inputs

AsMany-cons : (i : Outcome) (s : List ℕ) (inputs : List Outcome) (o : Option (List (List ℕ))) → AsMany inputs o → AsMany (i ∷ inputs) (option_map (λ ss. s ∷ ss) o)
AsMany-cons i s inputs None e = tt
AsMany-cons i s inputs (Some ss) e = ap suc e

AsMany-values : (inputs : List Outcome) → AsMany inputs (values inputs)
AsMany-values [] = refl
AsMany-values (outcome.Value s ∷ inputs) = AsMany-cons (outcome.Value s) s inputs (values inputs) (AsMany-values inputs)
AsMany-values (outcome.Fault k ∷ inputs) = tt

IsOutcome-ending : (x : Ending Value) → EndsWith (IsOfKind kind.Text) x → IsOutcome (outcome_of x)
IsOutcome-ending (done (text s) left) e = tt
IsOutcome-ending (done (number n) left) e = absurd (cc)
IsOutcome-ending (done (list ts) left) e = absurd (cc)
IsOutcome-ending (fault k left) e = (e.0, omega (arith, e.1))

IsOutcome-outputs : (given : Given) (fuel : ℕ) (es : List Expr) → AllTexts (length given.inputs) es → AllByRecursion IsOutcome (map (λ e. outcome_of (ending given fuel e)) es)
IsOutcome-outputs given fuel [] all = tt
IsOutcome-outputs given fuel (e ∷ es) all = (IsOutcome-ending (ending given fuel e) (Keeps-evaluate given e [] [] kind.Text all.0 tt fuel), IsOutcome-outputs given fuel es all.1)

IsOutcome-input_faults : (es : List Expr) → AllByRecursion IsOutcome (map (λ e. outcome.Fault 8) es)
IsOutcome-input_faults [] = tt
IsOutcome-input_faults (e ∷ es) = ((omega arith, omega arith), IsOutcome-input_faults es)

IsOutcome-outcomes : (o : Option (List (List ℕ))) (conf : Names (List ℕ)) (fuel : ℕ) (inputs : List Outcome) (es : List Expr) → AsMany inputs o → AllTexts (length inputs) es → AllByRecursion IsOutcome (outcomes o conf fuel es)
IsOutcome-outcomes None conf fuel inputs es many all = IsOutcome-input_faults es
IsOutcome-outcomes (Some ss) conf fuel inputs es many all =
    IsOutcome-outputs (record { inputs = ss; conf = conf }) fuel es (subst (λ n. AllTexts n es) (sym many) all)

pub IsOutcome-mean : (program : Program) (outputs : ℕ) (conf : Names (List ℕ)) (inputs : List Outcome) (fuel : ℕ) → KindsHold program (length inputs) outputs → All IsOutcome (mean program conf inputs fuel)
IsOutcome-mean program outputs conf inputs fuel holds =
    All-from_recursion IsOutcome (mean program conf inputs fuel) (IsOutcome-outcomes (values inputs) conf fuel inputs program.outputs (AsMany-values inputs) (texts-KindsHold program (length inputs) outputs holds))
