-- What holds of the outcomes of a program.
use Rattle.std.proofs.Common.{◌≡◌, ◌≢◌, ◌≤◌, ◌<◌, ◌+◌, ◌-◌, ℕ, List, [], length, Option, Some, None, Result, Ok, Err, sym, ◌∙◌, ap, refl, arith, ⊎_elim}
use Rattle.std.proofs.lemmas.List.{length-map}
use Rattle.tl_types.specs.declared.outcome.Outcome.{Outcome}
use Rattle.tl_types.specs.declared.outcome.Outcome.TheVariants as outcome
use Rattle.tl_lang.specs.declared.expr.Expr.{Expr}
use Rattle.tl_lang.specs.declared.program.Program.{Program}
use Rattle.tl_lang.specs.Value.{Value, text, number, list}
use Rattle.tl_lang.specs.Fuel.{done, answer, entering}
use Rattle.tl_lang.specs.Names.{Names}
use Rattle.tl_lang.specs.Meaning.{Given}
use Rattle.tl_lang.specs.Mean.{values, outcome_of, units_left, ending, outcomes, mean, entered_by}
use Rattle.tl_lang.proofs.FuelLaws.{entering-short, entering-enough, cases_fuel, Enters-evaluate}

length-outcomes : (o : Option (List (List ℕ))) (conf : Names (List ℕ)) (fuel : ℕ) (es : List Expr) → length (outcomes o conf fuel es) ≡ length es
length-outcomes None conf fuel es = length-map es _
length-outcomes (Some inputs) conf fuel es = length-map es _

pub length-mean : (program : Program) (conf : Names (List ℕ)) (inputs : List Outcome) (fuel : ℕ) → length (mean program conf inputs fuel) ≡ length program.outputs
length-mean program conf inputs fuel = length-outcomes (values inputs) conf fuel program.outputs

-- an outcome does not depend on the units that are left
outcome-left : (v : Value) (m n : ℕ) → outcome_of (done v m) ≡ outcome_of (done v n)
outcome-left (text s) m n = refl
outcome-left (number k) m n = refl
outcome-left (list ts) m n = refl

outcome-answer : (end : Result Value ℕ) (m n : ℕ) → outcome_of (answer end m) ≡ outcome_of (answer end n)
outcome-answer (Ok v) m n = outcome-left v m n
outcome-answer (Err k) m n = refl

left-answer : (end : Result Value ℕ) (n : ℕ) → units_left (answer end n) ≡ n
left-answer (Ok v) n = refl
left-answer (Err k) n = refl

same-entering : (entered : ℕ) (end : Result Value ℕ) (fuel more : ℕ) → fuel ≤ more → outcome_of (entering entered end fuel) ≢ outcome.Fault 1 → outcome_of (entering entered end more) ≡ outcome_of (entering entered end fuel)
same-entering entered end fuel more le enough =
    ⊎_elim
    (λ less. absurd (enough (ap outcome_of (entering-short entered end fuel less))))
    (λ e.
    let left : entered + (more - entered) ≡ more = omega (arith, e.1) in
    let at_more : entering entered end more ≡ answer end (more - entered) = ap (entering entered end) (sym left) ∙ entering-enough entered end (more - entered) in
    let at_fuel : entering entered end fuel ≡ answer end e.0 = ap (entering entered end) (sym e.1) ∙ entering-enough entered end e.0 in
    ap outcome_of at_more ∙ outcome-answer end (more - entered) e.0 ∙ sym (ap outcome_of at_fuel))
    (cases_fuel entered fuel)

pub same-outcome : (given : Given) (e : Expr) (fuel more : ℕ) → fuel ≤ more → outcome_of (ending given fuel e) ≢ outcome.Fault 1 → outcome_of (ending given more e) ≡ outcome_of (ending given fuel e)
same-outcome given e fuel more le enough =
    let r = Enters-evaluate given e [] in
    ap outcome_of (r.is more) ∙ same-entering r.entered r.end fuel more le (λ is. enough (ap outcome_of (r.is fuel) ∙ is)) ∙ sym (ap outcome_of (r.is fuel))

entered-entering : (entered : ℕ) (end : Result Value ℕ) (fuel : ℕ) → (outcome_of (entering entered end fuel) ≢ outcome.Fault 1) → fuel - units_left (entering entered end fuel) ≡ entered
entered-entering entered end fuel enough =
    ⊎_elim
    (λ less. absurd (enough (ap outcome_of (entering-short entered end fuel less))))
    (λ e.
    let at_fuel : entering entered end fuel ≡ answer end e.0 = ap (entering entered end) (sym e.1) ∙ entering-enough entered end e.0 in
    let left = ap units_left at_fuel ∙ left-answer end e.0 in
    omega (arith, left, e.1))
    (cases_fuel entered fuel)

-- with exactly the units that it uses an output has the same outcome, and with fewer it ends for want of them
pub at-entered : (given : Given) (e : Expr) (fuel : ℕ) → outcome_of (ending given fuel e) ≢ outcome.Fault 1 → (units : ℕ) → units < entered_by given fuel e → outcome_of (ending given units e) ≡ outcome.Fault 1
at-entered given e fuel enough units less =
    let r = Enters-evaluate given e [] in
    let used = ap (λ x. fuel - units_left x) (r.is fuel) ∙ entered-entering r.entered r.end fuel (λ is. enough (ap outcome_of (r.is fuel) ∙ is)) in
    ap outcome_of (r.is units ∙ entering-short r.entered r.end units (omega (arith, used, less)))
