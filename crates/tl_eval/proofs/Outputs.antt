-- One output after another.
use Rattle.std.proofs.Common.{◌≡◌, ◌≤◌, ◌<◌, ◌+◌, ◌-◌, ◌^◌, ℕ, suc, true, false, List, [], ◌∷◌, ◌++◌, map, drop, length, None, Some, Result, Ok, Err, IfOk, sym, ◌∙◌, ap, refl, arith, append_assoc, length-append}
use Rattle.std.specs.Prelude.{slice_get, sum_by}
use Rattle.std.proofs.lemmas.List.Sums.{sum_by-cons}
use Rattle.std.proofs.lemmas.Option.{slice_get_within}
use Rattle.std.specs.Global.{Global}
use Rattle.std.specs.declared.sync.Arc.{Arc}
use Rattle.tl_types.specs.declared.no_memory.NoMemory.{NoMemory}
use Rattle.tl_types.specs.declared.outcome.Outcome.{Outcome}
use Rattle.tl_eval.specs.declared.frame.Frame.{Frame}
use Rattle.tl_eval.specs.declared.node.Node.{Node}
use Rattle.tl_eval.specs.declared.machine.State.TheVariants as State
use Rattle.tl_eval.specs.declared.machine.Slice.TheVariants.{More, Done}
use Rattle.tl_eval.specs.Evaluation.{Answers, IsSound, seen}
use Rattle.tl_eval.proofs.Shrinking.{costs}
use Rattle.tl_eval.specs.declared.running.Finished.{Finished}
use Rattle.tl_eval.specs.declared.running.Running.{Running}
use Rattle.tl_eval.specs.declared.running.Progress.{Progress}
use Rattle.tl_eval.specs.declared.running.Progress.TheVariants.{Going, Over}
use Rattle.tl_eval.specs.declared.stop.Stop.TheVariants.{Enter, End}
use Rattle.tl_eval.specs.Stops.{StopsAt}
use Rattle.tl_eval.specs.Frames.{names_of, resume}
use Rattle.tl_eval.specs.Nodes.{gives}
use Rattle.tl_eval.specs.Running.{this_ending, root_ending, root_outcome, root_entered, outcomes_with, entries_with, will_enter, has_entered, IsUnderWay, GoesOnWith, Advances, EndsOutput}
use Rattle.tl_eval.proofs.Leading.{drop-got, drop-missed}
use Rattle.tl_lang.specs.Value.{Value}
use Rattle.tl_lang.specs.Fuel.{Ending}
use Rattle.tl_lang.specs.Mean.{outcome_of, units_left}

abbrev Part : Type 0
Part = Arc Node Global

-- the list that is dropped by one more begins with the next output
next_root : (roots : List Part) (ended more : List Outcome) (outcome : Outcome) (root : Part) (n : ℕ) → more ≡ ended ++ outcome ∷ [] → n ≡ length more → Some root ≡ slice_get roots n → drop (suc (length ended)) roots ≡ root ∷ drop (suc (length more)) roots
next_root roots ended more outcome root n added long got =
    let one : length more ≡ suc (length ended) = ap length added ∙ length-append ended (outcome ∷ []) ∙ omega arith in
    ap (λ k. drop k roots) (sym one ∙ sym long) ∙ drop-got roots n root got ∙ ap (λ k. root ∷ drop (suc k) roots) long

-- the ending of an output that has just begun
pub begun : (root node : Part) (stack : List Frame) (fuel : ℕ) → node.value ≡ root.value → stack ≡ [] → resume stack (gives node.value (names_of stack) fuel) ≡ root_ending fuel root
begun root node stack fuel same empty = (λ i. resume (empty i) (gives (same i) (names_of (empty i)) fuel))

module _ (fuel : ℕ) (roots : List Part) (ended more : List Outcome) (outcome : Outcome) (root : Part) (n : ℕ) (added : more ≡ ended ++ outcome ∷ []) (long : n ≡ length more) (got : Some root ≡ slice_get roots n) where
  outcomes_next : (now this : Ending Value) → now ≡ root_ending fuel root → outcome ≡ outcome_of this → outcomes_with fuel roots more now ≡ outcomes_with fuel roots ended this
  outcomes_next now this begins ends =
      (λ i. added i ++ outcome_of (begins i) ∷ map (root_outcome fuel) (drop (suc (length more)) roots))
      ∙ append_assoc ended (outcome ∷ []) _
      ∙ (λ i. ended ++ ends i ∷ map (root_outcome fuel) (sym (next_root roots ended more outcome root n added long got) i))

  entries_next : (spent later : ℕ) (now this : Ending Value) → later ≡ spent + (fuel - units_left this) → now ≡ root_ending fuel root → entries_with fuel roots more later now ≡ entries_with fuel roots ended spent this
  entries_next spent later now this costs begins =
      let rest = sum_by (root_entered fuel) (drop (suc (length more)) roots) in
      let all : sum_by (root_entered fuel) (drop (suc (length ended)) roots) ≡ root_entered fuel root + rest =
      ap (sum_by (root_entered fuel)) (next_root roots ended more outcome root n added long got) ∙ sum_by-cons (root_entered fuel) root (drop (suc (length more)) roots) in
      let here : fuel - units_left now ≡ root_entered fuel root = ap (λ x. fuel - units_left x) begins in
      omega (arith, all, here, costs)

-- where no output is left
no_root : (roots : List Part) (ended more : List Outcome) (outcome : Outcome) (n : ℕ) → more ≡ ended ++ outcome ∷ [] → n ≡ length more → None ≡ slice_get roots n → drop (suc (length ended)) roots ≡ []
no_root roots ended more outcome n added long missed =
    let one : length more ≡ suc (length ended) = ap length added ∙ length-append ended (outcome ∷ []) ∙ omega arith in
    ap (λ k. drop k roots) (sym one ∙ sym long) ∙ drop-missed roots n missed

pub next_begins : (old new : Running) (outcome : Outcome) (left n paid : ℕ) (root : Part) → IsUnderWay old → left ≤ old.fuel → new.fuel ≡ old.fuel → new.roots ≡ old.roots → new.outcomes.items ≡ old.outcomes.items ++ outcome ∷ [] → n ≡ length new.outcomes.items → Some root ≡ slice_get old.roots n → paid ≡ old.fuel - left → paid < 2 ^ 32 → new.spent ≡ old.spent + paid → new.node.value ≡ root.value → new.stack ≡ [] → new.left ≡ old.fuel → EndsOutput old outcome left (Going new)
next_begins old new outcome left n paid root way within fuel_same roots_same added long got pays small spent node stack full =
    let one : length new.outcomes.items ≡ suc (length old.outcomes.items) = ap length added ∙ length-append old.outcomes.items (outcome ∷ []) ∙ omega arith in
    let inside = slice_get_within old.roots n root (sym got) in
    let count : length new.roots ≡ length old.roots = ap length roots_same in
    let way_has = way.has_fuel in
    let way_left = way.left in
    let way_few = way.few in
    let way_spent = way.spent in
    let begins = begun root new.node new.stack new.left node stack ∙ ap (λ f. root_ending f root) full in (
      record {
        has_fuel = omega arith;
        left = omega arith;
        outputs = omega arith;
        few = omega arith;
        spent = omega arith;
      },
      λ this ends costs. (λ i. outcomes_with (fuel_same i) (roots_same i) new.outcomes.items (this_ending new)) ∙ outcomes_next old.fuel old.roots old.outcomes.items new.outcomes.items outcome root n added long got (this_ending new) this begins ends,
      λ this costs.
          let paid_is : new.spent ≡ old.spent + (old.fuel - units_left this) = omega arith in
          (λ i. entries_with (fuel_same i) (roots_same i) new.outcomes.items new.spent (this_ending new)) ∙ entries_next old.fuel old.roots old.outcomes.items new.outcomes.items outcome root n added long got old.spent new.spent (this_ending new) this paid_is begins,
      omega arith,
    )

pub all_end : (old : Running) (end : Finished) (outcome : Outcome) (left n paid : ℕ) → end.outcomes.items ≡ old.outcomes.items ++ outcome ∷ [] → n ≡ length end.outcomes.items → None ≡ slice_get old.roots n → paid ≡ old.fuel - left → end.entered ≡ old.spent + paid → EndsOutput old outcome left (Over end)
all_end old end outcome left n paid added long missed pays spent =
    let none = no_root old.roots old.outcomes.items end.outcomes.items outcome n added long missed in (
      λ this ends. added ∙ (λ i. old.outcomes.items ++ ends i ∷ map (root_outcome old.fuel) (sym none i)),
      λ this costs.
          let rest : sum_by (root_entered old.fuel) (drop (suc (length old.outcomes.items)) old.roots) ≡ 0 = ap (sum_by (root_entered old.fuel)) none in
          omega (arith, rest),
      omega arith,
    )

-- ---- one more expression

-- how the output ends that is under way, once its next expression was entered
abbrev pub once_entered : Running → ℕ → Ending Value
once_entered r left = resume r.stack (gives r.node.value (names_of r.stack) (suc left))

is_this_ending : (r : Running) (left : ℕ) → 1 ≤ r.left → left ≡ r.left - 1 → once_entered r left ≡ this_ending r
is_this_ending r left has less =
    let one : suc left ≡ r.left = omega arith in
    (λ i. resume r.stack (gives r.node.value (names_of r.stack) (one i)))

pub goes_on_inside : (old new : Running) (left : ℕ) → IsUnderWay old → left ≡ old.left - 1 → new.fuel ≡ old.fuel → new.roots ≡ old.roots → new.outcomes ≡ old.outcomes → new.spent ≡ old.spent → new.left ≡ left → StopsAt (Enter new.node) new.stack left (once_entered old left) → GoesOnWith (suc (has_entered old)) old new
goes_on_inside old new left way less fuel roots outcomes spent rest stops =
    let has = way.has_fuel in
    let within = way.left in
    let few = way.few in
    let paid = way.spent in
    let outputs = way.outputs in
    let count : length new.roots ≡ length old.roots = ap length roots in
    let ended : length new.outcomes.items ≡ length old.outcomes.items = ap (λ v. length v.items) outcomes in
    let some = stops.0 in
    let same = (λ i. resume new.stack (gives new.node.value (names_of new.stack) (rest i))) ∙ stops.1 ∙ is_this_ending old left has less in
    record {
      way = record { has_fuel = omega arith; left = omega arith; outputs = omega arith; few = omega arith; spent = omega arith };
      answer = λ i. outcomes_with (fuel i) (roots i) (outcomes i).items (same i);
      total = λ i. entries_with (fuel i) (roots i) (outcomes i).items (spent i) (same i);
      entered = omega arith;
    }

pub ends_inside : (r : Result Progress NoMemory) (old : Running) (outcome : Outcome) (stack : List Frame) (left : ℕ) → IsUnderWay old → left ≡ old.left - 1 → StopsAt (End outcome) stack left (once_entered old left) → IfOk r (EndsOutput old outcome left) → IfOk r (Advances old)
ends_inside (Ok (Going new)) old outcome stack left way less stops h =
    let same = is_this_ending old left way.has_fuel less in
    let has = way.has_fuel in
    let within = way.left in
    let count = h.3 in
    record {
      way = h.0;
      answer = h.1 (once_entered old left) stops.0 stops.1 ∙ ap (outcomes_with old.fuel old.roots old.outcomes.items) same;
      total = h.2 (once_entered old left) stops.1 ∙ ap (entries_with old.fuel old.roots old.outcomes.items old.spent) same;
      entered = omega arith;
    }
ends_inside (Ok (Over end)) old outcome stack left way less stops h =
    let same = is_this_ending old left way.has_fuel less in
    let has = way.has_fuel in
    let within = way.left in
    let count = h.2 in (
      h.0 (once_entered old left) stops.0 ∙ ap (outcomes_with old.fuel old.roots old.outcomes.items) same,
      h.1 (once_entered old left) stops.1 ∙ ap (entries_with old.fuel old.roots old.outcomes.items old.spent) same,
      omega arith,
    )
ends_inside (Err e) old outcome stack left way less stops h = h

-- ---- slices

pub at_first : (r : Running) → IsUnderWay r → GoesOnWith (has_entered r + 0) r r
at_first r way = record { way = way; answer = refl; total = refl; entered = omega arith }

pub one_more : (first old new : Running) (n : ℕ) → GoesOnWith (has_entered first + n) first old → GoesOnWith (suc (has_entered old)) old new → GoesOnWith (has_entered first + (n + 1)) first new
one_more first old new n so_far next =
    let before = so_far.entered in
    let after = next.entered in
    record { way = next.way; answer = next.answer ∙ so_far.answer; total = next.total ∙ so_far.total; entered = omega arith }

-- before a node for which there is fuel the evaluation is not at its end
more_to_come : (r : Running) → IsUnderWay r → has_entered r < will_enter r
more_to_come r way =
    let pays = costs r.node.value r.stack r.left way.has_fuel in
    let within = way.left in
    omega arith

pub slice_more : (first now : Running) (units n : ℕ) → n ≡ units → GoesOnWith (has_entered first + n) first now → IsSound (State.Going now) × Answers (seen (State.Going first)) units More (seen (State.Going now))
slice_more first now units n all so_far =
    let below = more_to_come now so_far.way in
    let here = so_far.entered in
    let total = so_far.total in
    let end : has_entered now ≡ has_entered first + units = omega arith in
    (so_far.way, ((λ i. record { outcomes = so_far.answer i; total = total i; entered = end i; is_answered = false; has_failed = false }), omega arith))

pub slice_done : (first old : Running) (end : Finished) (units n : ℕ) → n < units → GoesOnWith (has_entered first + n) first old → Advances old (Over end) → IsSound (State.Answered end.entered) × Answers (seen (State.Going first)) units (Done end.outcomes) (seen (State.Answered end.entered))
slice_done first old end units n less so_far last =
    let here = so_far.entered in
    let total = so_far.total in
    let one = last.2 in
    let all : end.entered ≡ will_enter first = last.1 ∙ total in
    (tt, (last.0 ∙ so_far.answer, omega arith, λ i. record { outcomes = []; total = all i; entered = all i; is_answered = true; has_failed = false }))
