-- From clap's matches to what is said of the words.
use Rattle.std.proofs.Common.{◌≡◌, ◌≢◌, ◌∙◌, ◌<◌, ◌^◌, ◌||◌, ℕ, Bool, true, false, refl, sym, ap, subst, codes, List, [], ◌∷◌, Option, Some, None, IfSome, MatchOption}
use Rattle.std.specs.Prelude.{option_map}
use Rattle.std.specs.Fmt.{decimal}
use Rattle.std.specs.Str.{bytes_eq}
use Rattle.std.proofs.lemmas.Option.{MatchOption-at_some, MatchOption-at_none, same_Some}
use Rattle.clap.specs.Walk.{first_of, one_of, rows_of}
use Rattle.clap.specs.Matches.{first_value, found_of, one_text}
use Rattle.clap.specs.Simple.{App, HasMatchesOf, app_of, app_of_fields, is_simple, matches_of, on_top}
use Rattle.clap.specs.Faults.{fault_of, is_simple_and_free}
use Rattle.clap.specs.declared.builder.command.Command.{Command}
use Rattle.clap.specs.declared.builder.command.Command.TheViews.{out-Command}
use Rattle.clap.specs.declared.parser.matches.ArgMatches.{ArgMatches}
use Rattle.clap.proofs.WalkLemmas.{first_value-rows, one_text-rows}
use Rattle.tl_words.specs.Spells.{AreFlags, AreNumbers, Word, has_dashes}
use Rattle.tl_words.specs.Parts.{ReadsNumbers, TakesNumbers, TellsRun}
use Rattle.tl_words.specs.declared.generator.Numbers.{Numbers}
use Rattle.std.specs.Option.{IsSomeAnd, is_some}
use Rattle.tl_words.proofs.Digits.{number_is_plain}
use Rattle.tl_words.proofs.Walking.{NoDashes, dashes}
use Rattle.tl_words.proofs.FlagWords.{IsPlainIfThere, flag_text, flags_app}
use Rattle.tl_words.proofs.FlagWords as flags
use Rattle.tl_words.proofs.NumberWords.{numbers_app}
use Rattle.tl_words.proofs.NumberWords as numbers

pub disabled_app : (old new : Command) → out-Command new ≡ record (out-Command old) { disable_help_flag = true } → app_of new ≡ on_top (λ s. record s { disable_help_flag = true }) (app_of old)
disabled_app old new e = ap app_of_fields e

no_dashes : (words : List Word) → has_dashes words ≡ false → NoDashes words
no_dashes [] e = tt
no_dashes (w ∷ ws) e = go (bytes_eq w dashes) refl (λ h. no_dashes ws h) e
  where
    go : (b : Bool) → bytes_eq w dashes ≡ b → (has_dashes ws ≡ false → NoDashes ws) → (b || has_dashes ws) ≡ false → NoDashes (w ∷ ws)
    go true t rest h = cc
    go false t rest h = (t, rest h)

-- what was said of a command that clap takes exactly
abbrev pub Taken : App → List Word → Option ArgMatches → Type 0
Taken app words said = is_simple_and_free app ≡ true → MatchOption said (fault_of app words ≢ []) (λ _. fault_of app words ≡ [])

rows_are : (app known : App) (words : List Word) (said : Option ArgMatches) (m : ArgMatches) → app ≡ known → is_simple known ≡ true → IfSome said (HasMatchesOf app words) → said ≡ Some m
    → rows_of (found_of m) ≡ matches_of known words
rows_are app known words said m is simple h some =
    let here : HasMatchesOf app words m = subst (λ o. IfSome o (HasMatchesOf app words)) some h in
    let there : HasMatchesOf known words m = subst (λ a. HasMatchesOf a words m) is here in
    (there simple).0

fault_is : (app known : App) (words : List Word) (said : Option ArgMatches) (m : ArgMatches) → app ≡ known → is_simple_and_free known ≡ true → Taken app words said → said ≡ Some m → fault_of known words ≡ []
fault_is app known words said m is free taken some =
    let there : Taken known words said = subst (λ a. Taken a words said) is taken in
    MatchOption-at_some (fault_of known words ≢ []) (λ _. fault_of known words ≡ []) m some (there free)

fault_comes : (app known : App) (words : List Word) (said : Option ArgMatches) → app ≡ known → is_simple_and_free known ≡ true → Taken app words said → said ≡ None → fault_of known words ≢ []
fault_comes app known words said is free taken none =
    let there : Taken known words said = subst (λ a. Taken a words said) is taken in
    MatchOption-at_none (fault_of known words ≢ []) (λ _. fault_of known words ≡ []) none (there free)

-- a flag is what its text says
flag_is : (text : Option Word) (flag b : Bool) → text ≡ Some (flag_text b) → (text ≡ Some (codes "true") → flag ≡ true) → (text ≡ Some (codes "false") → flag ≡ false) → flag ≡ b
flag_is text flag true e set unset = set e
flag_is text flag false e set unset = unset e

module _ (app : App) (words : List Word) (said : Option ArgMatches) (m : ArgMatches) (flag : Bool) (text : Option Word) (is : app ≡ flags_app) (matches : IfSome said (HasMatchesOf app words))
    (taken : Taken app words said) (some : said ≡ Some m) (set : one_text (found_of m) (codes "journal") ≡ Some (codes "true") → flag ≡ true)
    (unset : one_text (found_of m) (codes "journal") ≡ Some (codes "false") → flag ≡ false) (value : text ≡ first_value (found_of m) (codes "crew")) where
  journal_is : (b : Bool) → one_of (codes "journal") (matches_of flags_app words) ≡ Some (flag_text b) → flag ≡ b
  journal_is b e = flag_is _ flag b (one_text-rows (found_of m) (codes "journal") ∙ ap (one_of (codes "journal")) (rows_are app flags_app words said m is flags.is_exact.0 matches some) ∙ e) set unset

  crew_is : (crew : Option Word) → first_of (codes "crew") (matches_of flags_app words) ≡ crew → text ≡ crew
  crew_is crew e = value ∙ first_value-rows (found_of m) (codes "crew") ∙ ap (first_of (codes "crew")) (rows_are app flags_app words said m is flags.is_exact.0 matches some) ∙ e

  pub flags_are_read : has_dashes words ≡ false → (command : Word) (rest : List Word) → words ≡ command ∷ rest → AreFlags command words flag text
  flags_are_read whole command rest at =
      let none = no_dashes (command ∷ rest) (subst (λ ws. has_dashes ws ≡ false) at whole) in
      let passes = fault_is app flags_app words said m is flags.is_exact.1 taken some in
      let found = flags.taken_is_spelled command rest none.1 (subst (λ ws. fault_of flags_app ws ≡ []) at passes) in
      let journal = journal_is found.journal (ap (λ ws. one_of (codes "journal") (matches_of flags_app ws)) at ∙ found.flag) in
      let crew = crew_is found.crew (ap (λ ws. first_of (codes "crew") (matches_of flags_app ws)) at ∙ found.value) in
      let here : AreFlags command words found.journal found.crew = subst (λ ws. AreFlags command ws found.journal found.crew) (sym at) found.spelled in
      subst (λ b. AreFlags command words b text) (sym journal) (subst (λ v. AreFlags command words found.journal v) (sym crew) here)

  pub flags_are_told : (journal : Bool) (crew : Option Word) → flags.IsTold words journal crew → (flag ≡ journal) × (text ≡ crew)
  flags_are_told journal crew t = (journal_is journal t.flag, crew_is crew t.value)

-- the value of the option, where it is a number, looks like no option
plain_if_there : (crew : Option ℕ) → IfSome crew (λ n. n < 2 ^ 64) → IsPlainIfThere (option_map decimal crew)
plain_if_there None small = tt
plain_if_there (Some n) small = number_is_plain n small

pub flags_spelled : (command : Word) (words : List Word) (journal : Bool) (crew : Option ℕ) → IfSome crew (λ n. n < 2 ^ 64) → AreFlags command words journal (option_map decimal crew)
    → flags.IsTold words journal (option_map decimal crew)
flags_spelled command words journal crew small are = flags.spelled_is_taken command words journal (option_map decimal crew) (plain_if_there crew small) are

-- spelled options are not refused
pub flags_not_refused : (app : App) (words : List Word) (said : Option ArgMatches) → app ≡ flags_app → Taken app words said → said ≡ None → (command : Word) (journal : Bool) (crew : Option ℕ)
    → IfSome crew (λ n. n < 2 ^ 64) → AreFlags command words journal (option_map decimal crew) → ⊥
flags_not_refused app words said is taken none command journal crew small are =
    fault_comes app flags_app words said is flags.is_exact.1 taken none (flags_spelled command words journal crew small are).fault

module _ (app : App) (words : List Word) (said : Option ArgMatches) (m : ArgMatches) (is : app ≡ numbers_app) (matches : IfSome said (HasMatchesOf app words))
    (taken : Taken app words said) (some : said ≡ Some m) where
  value_is : (id v : Word) (text : Option Word) → text ≡ first_value (found_of m) id → first_of id (matches_of numbers_app words) ≡ Some v → text ≡ Some v
  value_is id v text value e = value ∙ first_value-rows (found_of m) id ∙ ap (first_of id) (rows_are app numbers_app words said m is numbers.is_exact.0 matches some) ∙ e

  flag_run : (flag b : Bool) → (one_text (found_of m) (codes "run") ≡ Some (codes "true") → flag ≡ true) → (one_text (found_of m) (codes "run") ≡ Some (codes "false") → flag ≡ false)
      → one_of (codes "run") (matches_of numbers_app words) ≡ Some (flag_text b) → flag ≡ b
  flag_run flag b set unset e =
      flag_is _ flag b (one_text-rows (found_of m) (codes "run") ∙ ap (one_of (codes "run")) (rows_are app numbers_app words said m is numbers.is_exact.0 matches some) ∙ e) set unset

  pub numbers_are_read : (flag : Bool) (count seed : Word) → (one_text (found_of m) (codes "run") ≡ Some (codes "true") → flag ≡ true)
      → (one_text (found_of m) (codes "run") ≡ Some (codes "false") → flag ≡ false) → Some count ≡ first_value (found_of m) (codes "count") → Some seed ≡ first_value (found_of m) (codes "seed")
      → has_dashes words ≡ false → (command : Word) (rest : List Word) → words ≡ command ∷ rest → AreNumbers command words count seed flag
  numbers_are_read flag count seed set unset count_value seed_value whole command rest at =
      let none = no_dashes (command ∷ rest) (subst (λ ws. has_dashes ws ≡ false) at whole) in
      let passes = fault_is app numbers_app words said m is numbers.is_exact.1 taken some in
      let found = numbers.taken_is_spelled command rest none.1 (subst (λ ws. fault_of numbers_app ws ≡ []) at passes) in
      let run = flag_run flag found.run set unset (ap (λ ws. one_of (codes "run") (matches_of numbers_app ws)) at ∙ found.flag) in
      let first = value_is (codes "count") found.count (Some count) count_value (ap (λ ws. first_of (codes "count") (matches_of numbers_app ws)) at ∙ found.count_is) in
      let second = value_is (codes "seed") found.seed (Some seed) seed_value (ap (λ ws. first_of (codes "seed") (matches_of numbers_app ws)) at ∙ found.seed_is) in
      let here : AreNumbers command words found.count found.seed found.run = subst (λ ws. AreNumbers command ws found.count found.seed found.run) (sym at) found.spelled in
      subst (λ b. AreNumbers command words count seed b) (sym run) (subst (λ v. AreNumbers command words v seed found.run) (sym (same_Some count found.count first))
      (subst (λ v. AreNumbers command words found.count v found.run) (sym (same_Some seed found.seed second)) here))

-- what the matches have, as it is read of them
module _ (m : ArgMatches) (o : Option Numbers) (count_is : IfSome o (λ n. Some n.count.now ≡ first_value (found_of m) (codes "count")))
    (seed_is : IfSome o (λ n. Some n.seed.now ≡ first_value (found_of m) (codes "seed"))) (run_is : IfSome o (λ n. TellsRun m n.run)) where
  pub as_read : (app : App) (words : List Word) (said : Option ArgMatches) → app ≡ numbers_app → IfSome said (HasMatchesOf app words) → Taken app words said → said ≡ Some m
      → has_dashes words ≡ false → ReadsNumbers words o
  as_read app words said is matches taken some whole command rest at = go o count_is seed_is run_is
    where
      go : (p : Option Numbers) → IfSome p (λ n. Some n.count.now ≡ first_value (found_of m) (codes "count")) → IfSome p (λ n. Some n.seed.now ≡ first_value (found_of m) (codes "seed"))
          → IfSome p (λ n. TellsRun m n.run) → IfSome p (λ n. AreNumbers command words n.count.now n.seed.now n.run)
      go None first second flag = tt
      go (Some n) first second flag = numbers_are_read app words said m is matches taken some n.run n.count.now n.seed.now flag.0 flag.1 first second whole command rest at

  pub as_taken : (app : App) (words : List Word) (said : Option ArgMatches) → app ≡ numbers_app → IfSome said (HasMatchesOf app words) → Taken app words said → said ≡ Some m
      → (is_some (first_value (found_of m) (codes "count")) ≡ true → is_some (first_value (found_of m) (codes "seed")) ≡ true → is_some o ≡ true) → TakesNumbers words o
  as_taken app words said is matches taken some only command count seed run small little are =
      let told : numbers.IsTold words (decimal count) (decimal seed) run = numbers.spelled_is_taken command words (decimal count) (decimal seed) run (number_is_plain count small) (number_is_plain seed little) are in
      let first : first_value (found_of m) (codes "count") ≡ Some (decimal count) = value_is app words said m is matches taken some (codes "count") (decimal count) _ refl told.count_is in
      let second : first_value (found_of m) (codes "seed") ≡ Some (decimal seed) = value_is app words said m is matches taken some (codes "seed") (decimal seed) _ refl told.seed_is in
      go told first second o count_is seed_is run_is (only (ap is_some first) (ap is_some second))
    where
      go : numbers.IsTold words (decimal count) (decimal seed) run → first_value (found_of m) (codes "count") ≡ Some (decimal count) → first_value (found_of m) (codes "seed") ≡ Some (decimal seed)
          → (p : Option Numbers) → IfSome p (λ n. Some n.count.now ≡ first_value (found_of m) (codes "count")) → IfSome p (λ n. Some n.seed.now ≡ first_value (found_of m) (codes "seed"))
          → IfSome p (λ n. TellsRun m n.run) → is_some p ≡ true → IsSomeAnd p (λ n. (n.count.now ≡ decimal count) × (n.seed.now ≡ decimal seed) × (n.run ≡ run))
      go told first second None a b flag has = cc
      go told first second (Some n) a b flag has =
          (same_Some n.count.now (decimal count) (a ∙ first), same_Some n.seed.now (decimal seed) (b ∙ second), flag_run app words said m is matches taken some n.run run flag.0 flag.1 told.flag)

pub numbers_not_refused : (app : App) (words : List Word) (said : Option ArgMatches) → app ≡ numbers_app → Taken app words said → said ≡ None → (command : Word) (count seed : ℕ) (run : Bool)
    → count < 2 ^ 64 → seed < 2 ^ 64 → AreNumbers command words (decimal count) (decimal seed) run → ⊥
numbers_not_refused app words said is taken none command count seed run small little are =
    fault_comes app numbers_app words said is numbers.is_exact.1 taken none (numbers.spelled_is_taken command words (decimal count) (decimal seed) run (number_is_plain count small) (number_is_plain seed little) are).fault
