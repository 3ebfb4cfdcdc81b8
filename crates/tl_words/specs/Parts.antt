-- What is read of the words after a command.
use Rattle.std.specs.Prelude.{◌≡◌, ◌⊎◌, ℕ, ◌<◌, ◌≤◌, ◌^◌, Bool, true, false, List, ◌∷◌, codes}
use Rattle.std.specs.Prelude.{Option, Some, None, IfSome, option_map}
use Rattle.std.specs.Option.{IsSomeAnd}
use Rattle.std.specs.Borrow.{Bor}
use Rattle.std.specs.Fmt.{decimal}
use Rattle.clap.specs.Words.{found_of, one_text}
use Rattle.clap.specs.declared.parser.matches.ArgMatches.{ArgMatches}
use Rattle.tl_words.specs.Spells.{AreFlags, AreNumbers, Word}
use Rattle.tl_words.specs.declared.flags.Flags.{Flags}
use Rattle.tl_words.specs.declared.generator.Numbers.{Numbers}

abbrev pub text_of : Option (Bor Word) → Option Word
text_of = option_map (λ s. s.now)

-- what is said of the options stands in the words
abbrev pub ReadsFlags : List Word → Option Flags → Type 0
ReadsFlags words said = (command : Word) (rest : List Word) → words ≡ command ∷ rest
    → IfSome said (λ flags. AreFlags command words flags.journal (text_of flags.crew))

-- options whose value is a number are read
abbrev pub TakesFlags : List Word → Option Flags → Type 0
TakesFlags words said = (command : Word) (journal : Bool) (crew : Option ℕ)
    → IfSome crew (λ n. n < 2 ^ 64) → AreFlags command words journal (option_map decimal crew)
    → IsSomeAnd said (λ flags. (flags.journal ≡ journal)
    × (text_of flags.crew ≡ option_map decimal crew))

-- what is said of the two words and the option stands in the words
abbrev pub ReadsNumbers : List Word → Option Numbers → Type 0
ReadsNumbers words said = (command : Word) (rest : List Word) → words ≡ command ∷ rest
    → IfSome said (λ numbers.
    AreNumbers command words numbers.count.now numbers.seed.now numbers.run)

-- two numbers and the option are read
abbrev pub TakesNumbers : List Word → Option Numbers → Type 0
TakesNumbers words said = (command : Word) (count seed : ℕ) (run : Bool) → count < 2 ^ 64
    → seed < 2 ^ 64 → AreNumbers command words (decimal count) (decimal seed) run
    → IsSomeAnd said (λ numbers. (numbers.count.now ≡ decimal count)
    × (numbers.seed.now ≡ decimal seed) × (numbers.run ≡ run))

-- whether `--run` is there is told by the text that the matches have of it
abbrev pub TellsRun : ArgMatches → Bool → Type 0
TellsRun matches run =
    (one_text (found_of matches) (codes "run") ≡ Some (codes "true") → run ≡ true)
    × (one_text (found_of matches) (codes "run") ≡ Some (codes "false") → run ≡ false)

-- the value of `--crew`, or that there is none, asks for so many crew threads
abbrev pub AsksFor : Option Word → ℕ → Type 0
AsksFor value crew = (crew ≤ 8)
    × (((value ≡ None) × (crew ≡ 2)) ⊎ (value ≡ Some (decimal crew)))
