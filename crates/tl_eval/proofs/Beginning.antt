-- An evaluation begins as what its job means.
use Rattle.std.proofs.Common.{◌≡◌, ◌≤◌, ◌<◌, ◌+◌, ◌-◌, ◌==◌, ℕ, zero, suc, Bool, true, false, if◌then◌else◌, List, [], ◌∷◌, map, drop, length, Option, None, Some, Result, Ok, Err, IfOk, sym, ◌∙◌, ap, refl, arith}
use Rattle.std.specs.Prelude.{slice_get, sum_by}
use Rattle.std.proofs.lemmas.Bool.{eqb-true}
use Rattle.std.proofs.lemmas.List.{length-map}
use Rattle.std.proofs.lemmas.List.Sums.{sum_by-cons}
use Rattle.std.proofs.lemmas.Simd.{map-map}
use Rattle.std.specs.Global.{Global}
use Rattle.std.specs.declared.sync.Arc.{Arc}
use Rattle.tl_types.specs.declared.no_memory.NoMemory.{NoMemory}
use Rattle.tl_types.specs.declared.outcome.Outcome.{Outcome}
use Rattle.tl_types.specs.declared.outcome.Outcome.TheVariants as outcome
use Rattle.tl_eval.specs.declared.node.Node.{Node}
use Rattle.tl_eval.specs.declared.running.Running.{Running}
use Rattle.tl_eval.specs.declared.running.Progress.{Progress}
use Rattle.tl_eval.specs.declared.running.Progress.TheVariants.{Going, Over}
use Rattle.tl_eval.specs.Begun.{Begins, IsOver}
use Rattle.tl_eval.specs.Nodes.{gives}
use Rattle.tl_eval.specs.Running.{this_ending, root_ending, root_outcome, root_entered, outcomes_with, entries_with}
use Rattle.tl_eval.proofs.Leading.{drop-got}
use Rattle.tl_eval.proofs.Outputs.{begun}
use Rattle.tl_lang.specs.declared.expr.Expr.{Expr}
use Rattle.tl_lang.specs.declared.job.JobSpecCore.{JobSpecCore}
use Rattle.tl_lang.specs.declared.program.Program.{Program}
use Rattle.tl_lang.specs.Kinds.{KindsHold, outputs_differ, refusal_in}
use Rattle.tl_lang.specs.Mean.{values, outcome_of, units_left, ending, outcomes, entered_by, entered_in}
use Rattle.tl_lang.specs.Meaning.{Given, Meaning, evaluate}
use Rattle.tl_lang.specs.Names.{Names}
use Rattle.tl_lang.specs.Value.{Value, no_fuel}
use Rattle.tl_lang.specs.Fuel.{Ending, fault}
use Rattle.tl_lang.proofs.Levels.{evaluate-out}

abbrev Part : Type 0
Part = Arc Node Global

-- ---- no fuel

ends_at_once : (given : Given) (e : Expr) → ending given 0 e ≡ fault no_fuel 0
ends_at_once given e = (λ i. evaluate-out given e i [] 0)

map_each : {A B : Type 0} (f g : A → B) → ((x : A) → f x ≡ g x) → (xs : List A) → map f xs ≡ map g xs
map_each f g same [] = refl
map_each f g same (x ∷ xs) = λ i. same x i ∷ map_each f g same xs i

sum_none : (f : Expr → ℕ) → ((e : Expr) → f e ≡ 0) → (es : List Expr) → sum_by f es ≡ 0
sum_none f none [] = refl
sum_none f none (e ∷ es) = let first = none e in let rest = sum_none f none es in omega (arith, sum_by-cons f e es)

short_outcomes : (o : Option (List (List ℕ))) (texts : List (List ℕ)) (conf : Names (List ℕ)) (es : List Expr) → o ≡ Some texts → map (λ e. outcome.Fault no_fuel) es ≡ outcomes o conf 0 es
short_outcomes o texts conf es is =
    map_each _ _ (λ e. sym (ap outcome_of (ends_at_once (record { inputs = texts; conf = conf }) e))) es ∙ (λ i. outcomes (sym is i) conf 0 es)

short_entered : (o : Option (List (List ℕ))) (conf : Names (List ℕ)) (es : List Expr) → entered_in o conf 0 es ≡ 0
short_entered None conf es = refl
short_entered (Some texts) conf es = sum_none _ (λ e. omega arith) es

-- ---- an evaluation that enters nothing

pub input_faults : (r : Result Progress NoMemory) (job : JobSpecCore) (inputs : List Outcome) (outputs : List Expr) → outputs ≡ job.program.program.outputs → None ≡ values inputs → IfOk r (IsOver 8 outputs) → IfOk r (Begins job inputs)
input_faults (Ok (Going r)) job inputs outputs same none h = absurd h
input_faults (Ok (Over end)) job inputs outputs same none h = (
  h.0 ∙ ap (map (λ e. outcome.Fault 8)) same ∙ (λ i. outcomes (none i) job.conf job.fuel job.program.program.outputs),
  h.1 ∙ (λ i. entered_in (none i) job.conf job.fuel job.program.program.outputs),
  h.1,
)
input_faults (Err e) job inputs outputs same none h = h

pub no_fuel_left : (r : Result Progress NoMemory) (job : JobSpecCore) (inputs : List Outcome) (outputs : List Expr) (texts : List (List ℕ)) → outputs ≡ job.program.program.outputs → Some texts ≡ values inputs → job.fuel ≡ 0 → IfOk r (IsOver 1 outputs) → IfOk r (Begins job inputs)
no_fuel_left (Ok (Going r)) job inputs outputs texts same some none h = absurd h
no_fuel_left (Ok (Over end)) job inputs outputs texts same some none h = (
  h.0 ∙ ap (map (λ e. outcome.Fault 1)) same ∙ short_outcomes (values inputs) texts job.conf job.program.program.outputs (sym some) ∙ (λ i. outcomes (values inputs) job.conf (sym none i) job.program.program.outputs),
  h.1 ∙ sym (short_entered (values inputs) job.conf job.program.program.outputs) ∙ (λ i. entered_in (values inputs) job.conf (sym none i) job.program.program.outputs),
  h.1,
)
no_fuel_left (Err e) job inputs outputs texts same some none h = h

-- ---- an evaluation that goes on

sum_by-map : {A B : Type 0} (f : A → B) (h : B → ℕ) (xs : List A) → sum_by (λ x. h (f x)) xs ≡ sum_by h (map f xs)
sum_by-map f h [] = refl
sum_by-map f h (x ∷ xs) = sum_by-cons (λ y. h (f y)) x xs ∙ ap (λ n. h (f x) + n) (sum_by-map f h xs) ∙ sym (sum_by-cons h (f x) (map f xs))

module _ (given : Given) (fuel : ℕ) (roots : List Part) (es : List Expr) (means : map (λ (n : Part). gives n.value) roots ≡ map (evaluate given) es) where
  outcome_at : Meaning → Outcome
  outcome_at m = outcome_of (m [] fuel)

  entered_at : Meaning → ℕ
  entered_at m = fuel - units_left (m [] fuel)

  same_outcomes : map (root_outcome fuel) roots ≡ map (λ e. outcome_of (ending given fuel e)) es
  unfolding outcome_at
  same_outcomes = sym (map-map outcome_at (λ (n : Part). gives n.value) roots) ∙ ap (map outcome_at) means ∙ map-map outcome_at (evaluate given) es

  same_entered : sum_by (root_entered fuel) roots ≡ sum_by (entered_by given fuel) es
  unfolding entered_at
  same_entered = sum_by-map (λ (n : Part). gives n.value) entered_at roots ∙ ap (sum_by entered_at) means ∙ sym (sum_by-map (evaluate given) entered_at es)

few_outputs : (program : Program) (inputs outputs : ℕ) → KindsHold program inputs outputs → length program.outputs ≡ outputs
few_outputs program inputs outputs holds = same (length program.outputs == outputs) (refusal_in inputs program.outputs) refl holds where
  same : (b : Bool) (rest : Option ℕ) → (length program.outputs == outputs) ≡ b → (if b then rest else Some outputs_differ) ≡ None → length program.outputs ≡ outputs
  same true rest is e = eqb-true (length program.outputs) outputs is
  same false rest is e = cc

-- ---- no output

no_exprs : (given : Given) (roots : List Part) (es : List Expr) → None ≡ slice_get roots 0 → map (λ (n : Part). gives n.value) roots ≡ map (evaluate given) es → es ≡ []
no_exprs given [] [] none means = refl
no_exprs given [] (e ∷ es) none means = cc
no_exprs given (root ∷ roots) es none means = cc

outcomes_none : (o : Option (List (List ℕ))) (conf : Names (List ℕ)) (fuel : ℕ) → [] ≡ outcomes o conf fuel []
outcomes_none None conf fuel = refl
outcomes_none (Some texts) conf fuel = refl

entered_none : (o : Option (List (List ℕ))) (conf : Names (List ℕ)) (fuel : ℕ) → 0 ≡ entered_in o conf fuel []
entered_none None conf fuel = refl
entered_none (Some texts) conf fuel = refl

pub no_output : (r : Result Progress NoMemory) (job : JobSpecCore) (inputs : List Outcome) (outputs : List Expr) (given : Given) (roots : List Part) (code : ℕ) → outputs ≡ job.program.program.outputs → None ≡ slice_get roots 0 → map (λ (n : Part). gives n.value) roots ≡ map (evaluate given) outputs → IfOk r (IsOver code outputs) → IfOk r (Begins job inputs)
no_output (Ok (Going r)) job inputs outputs given roots code same none means h = absurd h
no_output (Ok (Over end)) job inputs outputs given roots code same none means h =
    let empty = no_exprs given roots outputs none means in
    let out = sym same ∙ empty in (
      h.0 ∙ ap (map (λ e. outcome.Fault code)) empty ∙ outcomes_none (values inputs) job.conf job.fuel ∙ (λ i. outcomes (values inputs) job.conf job.fuel (sym out i)),
      h.1 ∙ entered_none (values inputs) job.conf job.fuel ∙ (λ i. entered_in (values inputs) job.conf job.fuel (sym out i)),
      h.1,
    )
no_output (Err e) job inputs outputs given roots code same none means h = h

-- ---- the first output

drop_zero : {A : Type 0} (xs : List A) → drop 0 xs ≡ xs
drop_zero [] = refl
drop_zero (x ∷ xs) = refl

positive : (n m k : ℕ) → n ≡ m → k ≡ m → (m ≡ 0 → ⊥) → 1 ≤ k
positive n zero k a b some = absurd (some refl)
positive n (suc m) k a b some = omega arith

answers_first : (fuel : ℕ) (roots : List Part) (root : Part) (ended : List Outcome) (this : Ending Value) → ended ≡ [] → roots ≡ root ∷ drop 1 roots → this ≡ root_ending fuel root → outcomes_with fuel roots ended this ≡ map (root_outcome fuel) roots
answers_first fuel roots root ended this none all begins =
    (λ i. outcomes_with fuel roots (none i) (begins i)) ∙ ap (map (root_outcome fuel)) (sym all)

enters_first : (fuel : ℕ) (roots : List Part) (root : Part) (ended : List Outcome) (spent : ℕ) (this : Ending Value) → ended ≡ [] → spent ≡ 0 → roots ≡ root ∷ drop 1 roots → this ≡ root_ending fuel root → entries_with fuel roots ended spent this ≡ sum_by (root_entered fuel) roots
enters_first fuel roots root ended spent this none zero_spent all begins =
    let first = sum_by-cons (root_entered fuel) root (drop 1 roots) in
    let here : 0 + (fuel - units_left (root_ending fuel root)) + sum_by (root_entered fuel) (drop 1 roots) ≡ sum_by (root_entered fuel) (root ∷ drop 1 roots) = omega (arith, first) in
    (λ i. entries_with fuel roots (none i) (zero_spent i) (begins i)) ∙ here ∙ ap (sum_by (root_entered fuel)) (sym all)

pub goes : (job : JobSpecCore) (inputs : List Outcome) (r : Running) (texts : List (List ℕ)) (outputs : List Expr) (given : Given) (root : Part) (count : ℕ) →
    r.fuel ≡ job.fuel → (job.fuel ≡ 0 → ⊥) → r.left ≡ job.fuel → r.spent ≡ 0 → r.outcomes.items ≡ [] → r.stack ≡ [] → r.node.value ≡ root.value → Some root ≡ slice_get r.roots 0 →
    outputs ≡ job.program.program.outputs → count ≡ job.program.outputs → count < 256 → KindsHold job.program.program job.program.inputs job.program.outputs →
    Some texts ≡ values inputs → given ≡ record { inputs = texts; conf = job.conf } → map (λ (n : Part). gives n.value) r.roots ≡ map (evaluate given) outputs → Begins job inputs (Going r)
goes job inputs r texts outputs given root count fuel some left spent ended stack node got same counted small kinds valued is means =
    let all : r.roots ≡ root ∷ drop 1 r.roots = sym (drop_zero r.roots) ∙ drop-got r.roots 0 root got in
    let begins : this_ending r ≡ root_ending r.fuel root = begun root r.node r.stack r.left node stack ∙ (λ i. root_ending ((left ∙ sym fuel) i) root) in
    let none : length r.outcomes.items ≡ 0 = ap length ended in
    let one : suc (length r.outcomes.items) ≡ 1 = ap suc none in
    let many : length r.roots ≡ job.program.outputs =
    sym (length-map r.roots (λ (n : Part). gives n.value)) ∙ ap length means ∙ length-map outputs (evaluate given) ∙ ap length same
    ∙ few_outputs job.program.program job.program.inputs job.program.outputs kinds in
    let within : 1 ≤ length r.roots = omega (arith, ap length all) in
    let handed : Given = record { inputs = texts; conf = job.conf } in
    let meant_so : map (λ (n : Part). gives n.value) r.roots ≡ map (evaluate handed) outputs = means ∙ (λ i. map (evaluate (is i)) outputs) in (
      record {
        has_fuel = positive r.fuel job.fuel r.left fuel left some;
        left = omega arith;
        outputs = omega arith;
        few = omega arith;
        spent = omega arith;
      },
      answers_first r.fuel r.roots root r.outcomes.items (this_ending r) ended all begins
          ∙ same_outcomes handed r.fuel r.roots outputs meant_so
          ∙ (λ i. outcomes (valued i) job.conf (fuel i) (same i)),
      enters_first r.fuel r.roots root r.outcomes.items r.spent (this_ending r) ended spent all begins
          ∙ same_entered handed r.fuel r.roots outputs meant_so
          ∙ (λ i. entered_in (valued i) job.conf (fuel i) (same i)),
      omega arith,
    )
