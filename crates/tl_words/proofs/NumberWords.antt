-- The numbers and the option of `gen` as clap reads them: just the words that are spelled are taken.
use Rattle.std.proofs.Common.{◌≡◌, ◌∙◌, ◌⊎◌, ◌&&◌, ◌||◌, ℕ, Bool, true, false, not, inl, inr, refl, sym, ap, subst, codes, List, [], ◌∷◌, ◌++◌, Option, Some, None}
use Rattle.std.specs.Prelude.{if◌then◌else◌}
use Rattle.std.specs.Str.{bytes_eq}
use Rattle.std.proofs.lemmas.Slice.Eq.{bytes_eq-Decides}
use Rattle.clap.specs.Lexer.{long_of}
use Rattle.clap.specs.Values.{reading_of}
use Rattle.clap.specs.Walk.{Row, Rule, Text, Walk, arg_by_long, first_of, idle, nothing_held, one_of, walked}
use Rattle.clap.specs.Simple.{App, Shape, built, is_simple, matches_of, new_app, new_rule, on_top, with_rule}
use Rattle.clap.specs.Faults.{fault_of, is_simple_and_free, long_fault, turn_fault}
use Rattle.clap.specs.declared.builder.action.ArgAction.TheVariants.{Set, SetTrue}
use Rattle.clap.specs.declared.builder.value_parser.ValueParser.TheVariants as vp
use Rattle.clap.specs.declared.parser.matches.ValueSource.TheVariants.{CommandLine}
use Rattle.clap.proofs.FaultLemmas.{leaf_fault}
use Rattle.clap.proofs.OnLiterals.{clap_on_literals}
use Rattle.tl_words.specs.Spells.{AreNumbers, run_flag}
use Rattle.tl_words.proofs.Longs.{long_is}
use Rattle.tl_words.proofs.Walking.{IsPlainMet, IsPlainText, IsTaken, NoDashes, dashes, first_passes, holding, plain_is_met, plain_turn, refused, rest_fault, rows_left, standing, taken_more, walked_by, word_passes}
use Rattle.tl_words.proofs.FlagWords.{flag_text}

abbrev pub number_rule : Text → Rule
number_rule id = record (new_rule id) { action = Some Set; required = true }

abbrev pub run_rule : Rule
run_rule = record (new_rule (codes "run")) { long = Some (codes "run"); action = Some SetTrue }

abbrev pub numbers_app : App
numbers_app = with_rule (with_rule (with_rule (on_top (λ s. record s { disable_help_flag = true }) (new_app (codes "tachyon"))) (number_rule (codes "count"))) (number_rule (codes "seed"))) run_rule

abbrev shape : Shape
shape = (built numbers_app).top

abbrev at : List Row → Option (Text × List Text) → ℕ → Walk
at rows pending position = standing (holding rows pending) idle position

abbrev one : Text → Text → Option (Text × List Text)
one id v = Some (id, v ∷ [])

abbrev run_row : Row
run_row = record { id = codes "run"; values = codes "true" ∷ []; count = None; source = Some CommandLine; reading = reading_of vp.Bool }

abbrev number_row : Text → Text → Row
number_row id v = record { id = id; values = v ∷ []; count = None; source = Some CommandLine; reading = reading_of vp.String }

abbrev count_row : Text → Row
count_row = number_row (codes "count")

abbrev seed_row : Text → Row
seed_row = number_row (codes "seed")

-- ---- one word

abbrev found_by : Bool → Option Rule
found_by run = if not false && (run || false) then arg_by_long shape.rules (codes "run") else None

-- only the option and what is met as no option pass
word_seen : (rows : List Row) (pending : Option (Text × List Text)) (position : ℕ) (y : Text) → bytes_eq y dashes ≡ false → turn_fault shape [] (at rows pending position) y ≡ []
    → (y ≡ run_flag) ⊎ IsPlainMet shape rows pending idle position y
word_seen rows pending position y dash e = elim (word_passes shape rows pending idle position y (λ x. refl) dash e) [
  | inl long ↦ inl (by_name long.name long.value long.long (bytes_eq (codes "run") long.name) refl long.passes)
  | inr none ↦ inr none
]
  where
    by_name : (name : Text) (value : Option Text) → long_of y ≡ Some (name, value) → (r : Bool) → bytes_eq (codes "run") name ≡ r
        → long_fault shape.rules false (found_by r) value (holding rows pending) ≡ [] → y ≡ run_flag
    by_name name None long true is f = long_is y name None long ∙ ap (λ n. 45 ∷ 45 ∷ (n ++ [])) (sym ((bytes_eq-Decides (codes "run") name).0 is))
    by_name name (Some v) long true is f = absurd (refused f)
    by_name name value long false is f = absurd (refused f)

-- ---- what passes is spelled

-- the words after the command are the numbers and the option, of which the rows tell
pub record IsRead (command : Text) (words : List Text) (rows : List Row) : Type 0 where
  pub count : Text
  pub seed : Text
  pub run : Bool
  pub spelled : AreNumbers command (command ∷ words) count seed run
  pub count_is : first_of (codes "count") rows ≡ Some count
  pub seed_is : first_of (codes "seed") rows ≡ Some seed
  pub flag : one_of (codes "run") rows ≡ Some (flag_text run)

-- how the words go on: by the option, or by a word that stands for a number
goes_on : (c : Text) (before : List Text → List Text) (rows : List Row) (pending : Option (Text × List Text)) (position : ℕ) (after : Text → Walk) (y : Text) (ys : List Text)
    → NoDashes (y ∷ ys) → rest_fault shape (at rows pending position) (y ∷ ys) ≡ []
    → (turn_fault shape [] (at rows pending position) run_flag ≡ [] → rest_fault shape (walked shape.rules [] (at rows pending position) run_flag) ys ≡ []
    → IsRead c (before (run_flag ∷ ys)) (rows_left shape (walked shape.rules [] (at rows pending position) run_flag) ys))
    → (IsPlainMet shape rows pending idle position y → walked shape.rules [] (at rows pending position) y ≡ after y)
    → (IsPlainMet shape rows pending idle position y → rest_fault shape (after y) ys ≡ [] → IsRead c (before (y ∷ ys)) (rows_left shape (after y) ys))
    → IsRead c (before (y ∷ ys)) (rows_left shape (at rows pending position) (y ∷ ys))
goes_on c before rows pending position after y ys none e by_flag walks by_number =
    let w : Walk = at rows pending position in
    let p = first_passes shape w y ys e in
    elim (word_seen rows pending position y none.0 p.0) [
      | inl r ↦ subst (λ v. IsRead c (before (v ∷ ys)) (rows_left shape (walked shape.rules [] w v) ys)) (sym r)
          (by_flag (subst (λ v. turn_fault shape [] w v ≡ []) r p.0) (subst (λ v. rest_fault shape (walked shape.rules [] w v) ys ≡ []) r p.1))
      | inr met ↦ subst (λ v. IsRead c (before (y ∷ ys)) (rows_left shape v ys)) (sym (walks met)) (by_number met (subst (λ v. rest_fault shape v ys ≡ []) (walks met) p.1))
    ]

-- no word passes after three
run_last : (c x y : Text) (ws : List Text) → NoDashes ws → rest_fault shape (at (count_row x ∷ seed_row y ∷ run_row ∷ []) None 3) ws ≡ []
    → IsRead c (x ∷ y ∷ run_flag ∷ ws) (rows_left shape (at (count_row x ∷ seed_row y ∷ run_row ∷ []) None 3) ws)
unfolding clap_on_literals
run_last c x y [] none e = record { count = x; seed = y; run = true; spelled = inr (inr refl); count_is = refl; seed_is = refl; flag = refl }
run_last c x y (z ∷ zs) none e = goes_on c (λ ws. x ∷ y ∷ run_flag ∷ ws) (count_row x ∷ seed_row y ∷ run_row ∷ []) None 3 (λ _. at [] None 1) z zs none e
    (λ f g. absurd (refused f)) (λ met. absurd (refused met.passes)) (λ met g. absurd (refused met.passes))

run_between : (c x y : Text) (ws : List Text) → NoDashes ws → rest_fault shape (at (count_row x ∷ run_row ∷ []) (one (codes "seed") y) 3) ws ≡ []
    → IsRead c (x ∷ run_flag ∷ y ∷ ws) (rows_left shape (at (count_row x ∷ run_row ∷ []) (one (codes "seed") y) 3) ws)
unfolding clap_on_literals
run_between c x y [] none e = record { count = x; seed = y; run = true; spelled = inr (inl refl); count_is = refl; seed_is = refl; flag = refl }
run_between c x y (z ∷ zs) none e = goes_on c (λ ws. x ∷ run_flag ∷ y ∷ ws) (count_row x ∷ run_row ∷ []) (one (codes "seed") y) 3 (λ _. at [] None 1) z zs none e
    (λ f g. absurd (refused f)) (λ met. absurd (refused met.passes)) (λ met g. absurd (refused met.passes))

run_first : (c x y : Text) (ws : List Text) → NoDashes ws → rest_fault shape (at (run_row ∷ count_row x ∷ []) (one (codes "seed") y) 3) ws ≡ []
    → IsRead c (run_flag ∷ x ∷ y ∷ ws) (rows_left shape (at (run_row ∷ count_row x ∷ []) (one (codes "seed") y) 3) ws)
unfolding clap_on_literals
run_first c x y [] none e = record { count = x; seed = y; run = true; spelled = inl refl; count_is = refl; seed_is = refl; flag = refl }
run_first c x y (z ∷ zs) none e = goes_on c (λ ws. run_flag ∷ x ∷ y ∷ ws) (run_row ∷ count_row x ∷ []) (one (codes "seed") y) 3 (λ _. at [] None 1) z zs none e
    (λ f g. absurd (refused f)) (λ met. absurd (refused met.passes)) (λ met g. absurd (refused met.passes))

two_numbers : (c x y : Text) (ws : List Text) → NoDashes ws → rest_fault shape (at (count_row x ∷ []) (one (codes "seed") y) 3) ws ≡ []
    → IsRead c (x ∷ y ∷ ws) (rows_left shape (at (count_row x ∷ []) (one (codes "seed") y) 3) ws)
unfolding clap_on_literals
two_numbers c x y [] none e = record { count = x; seed = y; run = false; spelled = refl; count_is = refl; seed_is = refl; flag = refl }
two_numbers c x y (z ∷ zs) none e = goes_on c (λ ws. x ∷ y ∷ ws) (count_row x ∷ []) (one (codes "seed") y) 3 (λ _. at [] None 1) z zs none e
    (λ f g. run_last c x y zs none.1 g) (λ met. absurd (refused met.passes)) (λ met g. absurd (refused met.passes))

number_and_run : (c x : Text) (ws : List Text) → NoDashes ws → rest_fault shape (at (count_row x ∷ run_row ∷ []) None 2) ws ≡ []
    → IsRead c (x ∷ run_flag ∷ ws) (rows_left shape (at (count_row x ∷ run_row ∷ []) None 2) ws)
unfolding clap_on_literals
number_and_run c x [] none e = absurd (refused e)
number_and_run c x (z ∷ zs) none e = goes_on c (λ ws. x ∷ run_flag ∷ ws) (count_row x ∷ run_row ∷ []) None 2 (λ y. at (count_row x ∷ run_row ∷ []) (one (codes "seed") y) 3) z zs none e
    (λ f g. absurd (refused f)) (λ met. walked_by shape (count_row x ∷ run_row ∷ []) None idle 2 z _ met.met) (λ met g. run_between c x z zs none.1 g)

run_and_number : (c x : Text) (ws : List Text) → NoDashes ws → rest_fault shape (at (run_row ∷ []) (one (codes "count") x) 2) ws ≡ []
    → IsRead c (run_flag ∷ x ∷ ws) (rows_left shape (at (run_row ∷ []) (one (codes "count") x) 2) ws)
unfolding clap_on_literals
run_and_number c x [] none e = absurd (refused e)
run_and_number c x (z ∷ zs) none e = goes_on c (λ ws. run_flag ∷ x ∷ ws) (run_row ∷ []) (one (codes "count") x) 2 (λ y. at (run_row ∷ count_row x ∷ []) (one (codes "seed") y) 3) z zs none e
    (λ f g. absurd (refused f)) (λ met. walked_by shape (run_row ∷ []) (one (codes "count") x) idle 2 z _ met.met) (λ met g. run_first c x z zs none.1 g)

one_number : (c x : Text) (ws : List Text) → NoDashes ws → rest_fault shape (at [] (one (codes "count") x) 2) ws ≡ [] → IsRead c (x ∷ ws) (rows_left shape (at [] (one (codes "count") x) 2) ws)
unfolding clap_on_literals
one_number c x [] none e = absurd (refused e)
one_number c x (z ∷ zs) none e = goes_on c (λ ws. x ∷ ws) [] (one (codes "count") x) 2 (λ y. at (count_row x ∷ []) (one (codes "seed") y) 3) z zs none e
    (λ f g. number_and_run c x zs none.1 g) (λ met. walked_by shape [] (one (codes "count") x) idle 2 z _ met.met) (λ met g. two_numbers c x z zs none.1 g)

run_alone : (c : Text) (ws : List Text) → NoDashes ws → rest_fault shape (at (run_row ∷ []) None 1) ws ≡ [] → IsRead c (run_flag ∷ ws) (rows_left shape (at (run_row ∷ []) None 1) ws)
unfolding clap_on_literals
run_alone c [] none e = absurd (refused e)
run_alone c (z ∷ zs) none e = goes_on c (λ ws. run_flag ∷ ws) (run_row ∷ []) None 1 (λ y. at (run_row ∷ []) (one (codes "count") y) 2) z zs none e
    (λ f g. absurd (refused f)) (λ met. walked_by shape (run_row ∷ []) None idle 1 z _ met.met) (λ met g. run_and_number c z zs none.1 g)

read_from : (c : Text) (ws : List Text) → NoDashes ws → rest_fault shape (at [] None 1) ws ≡ [] → IsRead c ws (rows_left shape (at [] None 1) ws)
unfolding clap_on_literals
read_from c [] none e = absurd (refused e)
read_from c (z ∷ zs) none e = goes_on c (λ ws. ws) [] None 1 (λ y. at [] (one (codes "count") y) 2) z zs none e
    (λ f g. run_alone c zs none.1 g) (λ met. walked_by shape [] None idle 1 z _ met.met) (λ met g. one_number c z zs none.1 g)

fault_is : (c : Text) (ws : List Text) → fault_of numbers_app (c ∷ ws) ≡ rest_fault shape (at [] None 1) ws
fault_is c ws = leaf_fault (built numbers_app) nothing_held ws refl

-- words that clap takes are two that stand for numbers and the option, and the matches tell of them
pub taken_is_spelled : (c : Text) (ws : List Text) → NoDashes ws → fault_of numbers_app (c ∷ ws) ≡ [] → IsRead c ws (matches_of numbers_app (c ∷ ws))
taken_is_spelled c ws none e = read_from c ws none (sym (fault_is c ws) ∙ e)

-- ---- what is spelled passes

-- clap takes the words, and the matches tell of these
pub record IsTold (words : List Text) (count seed : Text) (run : Bool) : Type 0 where
  pub fault : fault_of numbers_app words ≡ []
  pub count_is : first_of (codes "count") (matches_of numbers_app words) ≡ Some count
  pub seed_is : first_of (codes "seed") (matches_of numbers_app words) ≡ Some seed
  pub flag : one_of (codes "run") (matches_of numbers_app words) ≡ Some (flag_text run)

told : (c : Text) (ws : List Text) (rows : List Row) (count seed : Text) (run : Bool) → IsTaken shape (at [] None 1) ws rows → first_of (codes "count") rows ≡ Some count
    → first_of (codes "seed") rows ≡ Some seed → one_of (codes "run") rows ≡ Some (flag_text run) → IsTold (c ∷ ws) count seed run
told c ws rows count seed run taken count_is seed_is flag = record {
  fault = fault_is c ws ∙ taken.fault;
  count_is = ap (first_of (codes "count")) taken.found ∙ count_is;
  seed_is = ap (first_of (codes "seed")) taken.found ∙ seed_is;
  flag = ap (one_of (codes "run")) taken.found ∙ flag;
}

told_plain : (c x y : Text) → IsPlainText x → IsPlainText y → IsTold (c ∷ x ∷ y ∷ []) x y false
unfolding clap_on_literals
told_plain c x y first second = told c (x ∷ y ∷ []) (rows_left shape (at (count_row x ∷ []) (one (codes "seed") y) 3) []) x y false
    (taken_more shape (at [] None 1) (at [] (one (codes "count") x) 2) x (y ∷ []) _ (plain_turn shape [] None idle 1 x first) (walked_by shape [] None idle 1 x _ (plain_is_met shape [] None idle 1 x first))
    (taken_more shape (at [] (one (codes "count") x) 2) (at (count_row x ∷ []) (one (codes "seed") y) 3) y [] _ (plain_turn shape [] (one (codes "count") x) idle 2 y second)
    (walked_by shape [] (one (codes "count") x) idle 2 y _ (plain_is_met shape [] (one (codes "count") x) idle 2 y second)) (record { fault = refl; found = refl })))
    refl refl refl

told_run_last : (c x y : Text) → IsPlainText x → IsPlainText y → IsTold (c ∷ x ∷ y ∷ run_flag ∷ []) x y true
unfolding clap_on_literals
told_run_last c x y first second = told c (x ∷ y ∷ run_flag ∷ []) (rows_left shape (at (count_row x ∷ []) (one (codes "seed") y) 3) (run_flag ∷ [])) x y true
    (taken_more shape (at [] None 1) (at [] (one (codes "count") x) 2) x (y ∷ run_flag ∷ []) _ (plain_turn shape [] None idle 1 x first)
    (walked_by shape [] None idle 1 x _ (plain_is_met shape [] None idle 1 x first))
    (taken_more shape (at [] (one (codes "count") x) 2) (at (count_row x ∷ []) (one (codes "seed") y) 3) y (run_flag ∷ []) _ (plain_turn shape [] (one (codes "count") x) idle 2 y second)
    (walked_by shape [] (one (codes "count") x) idle 2 y _ (plain_is_met shape [] (one (codes "count") x) idle 2 y second)) (record { fault = refl; found = refl })))
    refl refl refl

told_run_between : (c x y : Text) → IsPlainText x → IsPlainText y → IsTold (c ∷ x ∷ run_flag ∷ y ∷ []) x y true
unfolding clap_on_literals
told_run_between c x y first second = told c (x ∷ run_flag ∷ y ∷ []) (rows_left shape (at (count_row x ∷ run_row ∷ []) (one (codes "seed") y) 3) []) x y true
    (taken_more shape (at [] None 1) (at [] (one (codes "count") x) 2) x (run_flag ∷ y ∷ []) _ (plain_turn shape [] None idle 1 x first)
    (walked_by shape [] None idle 1 x _ (plain_is_met shape [] None idle 1 x first))
    (taken_more shape (at [] (one (codes "count") x) 2) (at (count_row x ∷ run_row ∷ []) None 2) run_flag (y ∷ []) _ refl refl
    (taken_more shape (at (count_row x ∷ run_row ∷ []) None 2) (at (count_row x ∷ run_row ∷ []) (one (codes "seed") y) 3) y [] _ (plain_turn shape (count_row x ∷ run_row ∷ []) None idle 2 y second)
    (walked_by shape (count_row x ∷ run_row ∷ []) None idle 2 y _ (plain_is_met shape (count_row x ∷ run_row ∷ []) None idle 2 y second)) (record { fault = refl; found = refl }))))
    refl refl refl

told_run_first : (c x y : Text) → IsPlainText x → IsPlainText y → IsTold (c ∷ run_flag ∷ x ∷ y ∷ []) x y true
unfolding clap_on_literals
told_run_first c x y first second = told c (run_flag ∷ x ∷ y ∷ []) (rows_left shape (at (run_row ∷ count_row x ∷ []) (one (codes "seed") y) 3) []) x y true
    (taken_more shape (at [] None 1) (at (run_row ∷ []) None 1) run_flag (x ∷ y ∷ []) _ refl refl
    (taken_more shape (at (run_row ∷ []) None 1) (at (run_row ∷ []) (one (codes "count") x) 2) x (y ∷ []) _ (plain_turn shape (run_row ∷ []) None idle 1 x first)
    (walked_by shape (run_row ∷ []) None idle 1 x _ (plain_is_met shape (run_row ∷ []) None idle 1 x first))
    (taken_more shape (at (run_row ∷ []) (one (codes "count") x) 2) (at (run_row ∷ count_row x ∷ []) (one (codes "seed") y) 3) y [] _ (plain_turn shape (run_row ∷ []) (one (codes "count") x) idle 2 y second)
    (walked_by shape (run_row ∷ []) (one (codes "count") x) idle 2 y _ (plain_is_met shape (run_row ∷ []) (one (codes "count") x) idle 2 y second)) (record { fault = refl; found = refl }))))
    refl refl refl

-- the spelled words are taken, where the two look like no option
pub spelled_is_taken : (c : Text) (words : List Text) (count seed : Text) (run : Bool) → IsPlainText count → IsPlainText seed → AreNumbers c words count seed run → IsTold words count seed run
spelled_is_taken c words x y false first second is = subst (λ ws. IsTold ws x y false) (sym is) (told_plain c x y first second)
spelled_is_taken c words x y true first second (inl is) = subst (λ ws. IsTold ws x y true) (sym is) (told_run_first c x y first second)
spelled_is_taken c words x y true first second (inr (inl is)) = subst (λ ws. IsTold ws x y true) (sym is) (told_run_between c x y first second)
spelled_is_taken c words x y true first second (inr (inr is)) = subst (λ ws. IsTold ws x y true) (sym is) (told_run_last c x y first second)

-- the command is one of which clap's contracts say just what it takes
pub is_exact : (is_simple numbers_app ≡ true) × (is_simple_and_free numbers_app ≡ true)
is_exact = (refl, refl)
