-- How clap's walk over the words goes on, word by word, for a command with no subcommand and no
-- short option.
use Rattle.std.proofs.Common.{◌≡◌, ◌∙◌, ◌⊎◌, ℕ, Bool, false, inl, inr, refl, sym, ap, ap₂, length, List, [], ◌∷◌, Option, Some, None}
use Rattle.std.specs.Prelude.{if◌then◌else◌, slice_get, drop, encode_utf8}
use Rattle.std.specs.List.{fold}
use Rattle.std.specs.Option.{option_map_or}
use Rattle.std.specs.Str.{bytes_eq, chars}
use Rattle.clap.specs.Lexer.{long_of, short_of}
use Rattle.clap.specs.Kinds.{Kinds, or_else}
use Rattle.clap.specs.Walk.{Held, Row, Step, Text, Waiting, idle, option, positional, Walk, after_flag, after_step, arg_by_long, arg_by_short, bundle_met, bundle_step, finished, long_or_other, plain, plain_word, settled, short_or_plain, subcommand_met, subcommand_or_other, trailing, walked, word_met}
use Rattle.clap.specs.Simple.{Shape}
use Rattle.clap.specs.declared.error.kind.ErrorKind.{ErrorKind}
use Rattle.clap.specs.declared.error.kind.ErrorKind.TheVariants.{UnknownArgument}
use Rattle.clap.specs.Faults.{bundle_fault, bundle_step_fault, check_fault, defaults_fault, flag_word_fault, flags_fault, long_fault, other_fault, settle_fault, short_fault, step_fault, turn_fault, walk_fault}

abbrev pub dashes : Text
dashes = 45 ∷ 45 ∷ []

-- the walk before a word that is not trailing, where no subcommand was met
abbrev pub standing : Held → Waiting → ℕ → Walk
standing h waiting position = record { held = h; waiting = waiting; position = position; is_trailing = false; stopped = None }

abbrev pub holding : List Row → Option (Text × List Text) → Held
holding rows pending = record { rows = rows; pending = pending; skip = 0 }

-- ---- what is left to fail, and what is found in the end

abbrev pub end_fault : Shape → Held → Kinds
end_fault s h = or_else (settle_fault s.rules s.args_override_self h) (or_else (defaults_fault (settled s.rules h).rows s.rules) (check_fault s (finished s.rules h) false))

abbrev pub rest_fault : Shape → Walk → List Text → Kinds
rest_fault s w words = or_else (walk_fault s [] w words) (end_fault s (fold (walked s.rules []) w words).held)

abbrev pub rows_left : Shape → Walk → List Text → List Row
rows_left s w words = finished s.rules (fold (walked s.rules []) w words).held

pub refused : {k : ErrorKind} {ks : Kinds} → k ∷ ks ≡ [] → ⊥
refused e = cc

or_else-assoc : (a b c : Kinds) → or_else (or_else a b) c ≡ or_else a (or_else b c)
or_else-assoc [] b c = refl
or_else-assoc (k ∷ ks) b c = refl

pub both_empty : (a b : Kinds) → or_else a b ≡ [] → (a ≡ []) × (b ≡ [])
both_empty [] b e = (refl, e)
both_empty (k ∷ ks) b e = cc

rest_cons : (s : Shape) (w : Walk) (y : Text) (ys : List Text) → rest_fault s w (y ∷ ys) ≡ or_else (turn_fault s [] w y) (rest_fault s (walked s.rules [] w y) ys)
unfolding walk_fault
rest_cons s w y ys = or_else-assoc (turn_fault s [] w y) (walk_fault s [] (walked s.rules [] w y) ys) _

-- nothing fails at the end
pub end_passes : (s : Shape) (w : Walk) → rest_fault s w [] ≡ [] → end_fault s w.held ≡ []
unfolding walk_fault
end_passes s w e = e

pub end_settles : (s : Shape) (w : Walk) → rest_fault s w [] ≡ [] → settle_fault s.rules s.args_override_self w.held ≡ []
end_settles s w e =
    (both_empty (settle_fault s.rules s.args_override_self w.held) (or_else (defaults_fault (settled s.rules w.held).rows s.rules) (check_fault s (finished s.rules w.held) false))
    (end_passes s w e)).0

-- nothing fails: neither at the first word nor after it
pub first_passes : (s : Shape) (w : Walk) (y : Text) (ys : List Text) → rest_fault s w (y ∷ ys) ≡ [] → (turn_fault s [] w y ≡ []) × (rest_fault s (walked s.rules [] w y) ys ≡ [])
first_passes s w y ys e = both_empty _ _ (sym (rest_cons s w y ys) ∙ e)

-- from w on nothing fails, and the rows are found
pub record IsTaken (s : Shape) (w : Walk) (words : List Text) (rows : List Row) : Type 0 where
  pub fault : rest_fault s w words ≡ []
  pub found : rows_left s w words ≡ rows

pub taken_more : (s : Shape) (w after : Walk) (y : Text) (ys : List Text) (rows : List Row) → turn_fault s [] w y ≡ [] → walked s.rules [] w y ≡ after
    → IsTaken s after ys rows → IsTaken s w (y ∷ ys) rows
taken_more s w after y ys rows passes is taken = record {
  fault = rest_cons s w y ys ∙ ap₂ or_else passes (ap (λ v. rest_fault s v ys) is ∙ taken.fault);
  found = ap (λ v. rows_left s v ys) is ∙ taken.found;
}

-- ---- a word

-- no word is two hyphens alone
abbrev pub NoDashes : List Text → Type 0
NoDashes [] = Unit {0}
NoDashes (y ∷ ys) = (bytes_eq y dashes ≡ false) × NoDashes ys

-- the word looks like no option
pub record IsPlainText (y : Text) : Type 0 where
  pub dash : bytes_eq y dashes ≡ false
  pub long : long_of y ≡ None
  pub short : short_of y ≡ None

no_subcommand : (waiting : Waiting) (y : Text) → subcommand_met [] waiting y ≡ None
no_subcommand idle y = refl
no_subcommand (option id) y = refl
no_subcommand positional y = refl

module _ (s : Shape) (rows : List Row) (pending : Option (Text × List Text)) (waiting : Waiting) (position : ℕ) (y : Text) where
  abbrev h : Held
  h = holding rows pending

  -- what the word is met as, and what fails there, by how the word looks
  abbrev met_by : Bool → Option (Text × Option Text) → Held × Step
  met_by dash long = if dash then (h, trailing position) else long_or_other s.rules waiting y long h

  abbrev turn_by : Bool → Option (Text × Option Text) → Kinds
  turn_by dash long = or_else (if dash then [] else flag_word_fault s.rules s.args_override_self long y h) (step_fault s position (met_by dash long).0 (met_by dash long).1)

  turn_is : turn_fault s [] (standing h waiting position) y ≡ turn_by (bytes_eq y dashes) (long_of y)
  turn_is = ap (λ sub. or_else (other_fault s sub y h) (step_fault s position (subcommand_or_other s.rules sub waiting position y h).0 (subcommand_or_other s.rules sub waiting position y h).1))
      (no_subcommand waiting y)

  met_is : word_met s.rules [] false waiting position y h ≡ met_by (bytes_eq y dashes) (long_of y)
  met_is = ap (λ sub. subcommand_or_other s.rules sub waiting position y h) (no_subcommand waiting y)

  -- the same of a word that is not long, by what follows a hyphen in it
  abbrev turn_short : Option Text → Kinds
  turn_short short = or_else (option_map_or (λ flags. bundle_fault s.rules s.args_override_self flags h) short [])
      (step_fault s position (short_or_plain s.rules waiting y short h).0 (short_or_plain s.rules waiting y short h).1)

  abbrev plain_met : Held × Step
  plain_met = plain_word s.rules waiting y h

  -- the word is long, and nothing fails there
  pub record IsLongMet : Type 0 where
    pub name : Text
    pub value : Option Text
    pub long : long_of y ≡ Some (name, value)
    pub passes : long_fault s.rules s.args_override_self (arg_by_long s.rules name) value h ≡ []

  -- the word is met as no option, and nothing fails there
  pub record IsPlainMet : Type 0 where
    pub met : word_met s.rules [] false waiting position y h ≡ plain_met
    pub passes : step_fault s position plain_met.0 plain_met.1 ≡ []

  short_is_plain : ((x : ℕ) → arg_by_short s.rules x ≡ None) → (short : Option Text) → turn_short short ≡ [] → short_or_plain s.rules waiting y short h ≡ plain_met
  unfolding bundle_met flags_fault
  short_is_plain none None e = refl
  short_is_plain none (Some []) e = refl
  short_is_plain none (Some (x ∷ xs)) e = go (slice_get (chars (x ∷ xs)) 0) (both_empty _ _ e).0
    where
      go : (o : Option ℕ) → bundle_step_fault s.rules s.args_override_self o (x ∷ xs) 0 h (flags_fault s.rules s.args_override_self (length xs)) ≡ []
          → after_flag s.rules waiting y (bundle_step s.rules o (x ∷ xs) 0 plain h (bundle_met s.rules (length xs))).0 (bundle_step s.rules o (x ∷ xs) 0 plain h (bundle_met s.rules (length xs))).1 ≡ plain_met
      go None f = refl
      go (Some c) f =
          let refused : UnknownArgument ∷ [] ≡ [] = ap (λ found. short_fault s.rules s.args_override_self found (drop (length (encode_utf8 c)) (x ∷ xs)) h
          (flags_fault s.rules s.args_override_self (length xs) (drop (length (encode_utf8 c)) (x ∷ xs)) 0)) (sym (none c)) ∙ f in
          cc

  -- a word that passes is a long one, or is met as no option
  pub word_passes : ((x : ℕ) → arg_by_short s.rules x ≡ None) → bytes_eq y dashes ≡ false → turn_fault s [] (standing h waiting position) y ≡ [] → IsLongMet ⊎ IsPlainMet
  word_passes none dash e = go (long_of y) refl (sym (ap (λ b. turn_by b (long_of y)) dash) ∙ sym turn_is ∙ e)
    where
      go : (long : Option (Text × Option Text)) → long_of y ≡ long → turn_by false long ≡ [] → IsLongMet ⊎ IsPlainMet
      go (Some (name, value)) is f = inl (record { name = name; value = value; long = is; passes = (both_empty _ _ f).0 })
      go None is f =
          let same = short_is_plain none (short_of y) f in
          inr (record {
            met = met_is ∙ ap₂ met_by dash is ∙ same;
            passes = sym (ap (λ p. step_fault s position p.0 p.1) same) ∙ (both_empty _ _ f).1;
          })

  -- the walk after the word
  pub walked_by : (met : Held × Step) → word_met s.rules [] false waiting position y h ≡ met → walked s.rules [] (standing h waiting position) y ≡ after_step s.rules y (standing h waiting position) met.0 met.1
  unfolding walked
  walked_by met is = ap (λ p. after_step s.rules y (standing h waiting position) p.0 p.1) is

  -- a word with no hyphen at its front is met as no option
  pub plain_is_met : IsPlainText y → word_met s.rules [] false waiting position y h ≡ plain_met
  plain_is_met text = met_is ∙ ap₂ met_by text.dash text.long ∙ ap (λ o. short_or_plain s.rules waiting y o h) text.short

  pub plain_turn : IsPlainText y → turn_fault s [] (standing h waiting position) y ≡ step_fault s position plain_met.0 plain_met.1
  plain_turn text = turn_is ∙ ap₂ turn_by text.dash text.long ∙ ap turn_short text.short
