-- How each request is spelled as the words of the command line.
use Rattle.std.specs.Prelude.{◌≡◌, ◌⊎◌, ℕ, ◌<◌, ◌≤◌, ◌^◌, ◌↔◌, Bool, true, false, codes}
use Rattle.std.specs.Prelude.{List, [], ◌∷◌, ◌++◌, Option, Some, None}
use Rattle.std.specs.List.{list_any}
use Rattle.std.specs.Str.{bytes_eq}
use Rattle.std.specs.Fmt.{decimal}
use Rattle.tl_words.specs.declared.request.Request.{Request}
use Rattle.tl_words.specs.declared.request.Request.TheVariants.{Alone, Run, Generate, Check}
use Rattle.tl_words.specs.declared.request.Request.TheVariants.{Upgrade}

abbrev pub Word : Type 0
Word = List ℕ

abbrev pub journal_flag : Word
journal_flag = codes "--journal"

abbrev pub run_flag : Word
run_flag = codes "--run"

abbrev pub crew_flag : Word
crew_flag = codes "--crew"

-- `--crew` and its value in one word
abbrev pub crew_joined : Word → Word
crew_joined value = codes "--crew=" ++ value

-- some word is two hyphens alone
abbrev pub has_dashes : List Word → Bool
has_dashes words = list_any (λ word. bytes_eq word (codes "--")) words

-- the words are a command, then in either order `--journal` or not, and `--crew` with this value
-- or not
abbrev pub AreFlags : Word → List Word → Bool → Option Word → Type 0
AreFlags command words false None = words ≡ command ∷ []
AreFlags command words true None = words ≡ command ∷ journal_flag ∷ []
AreFlags command words false (Some crew) = (words ≡ command ∷ crew_flag ∷ crew ∷ [])
    ⊎ (words ≡ command ∷ crew_joined crew ∷ [])
AreFlags command words true (Some crew) = (words ≡ command ∷ journal_flag ∷ crew_flag ∷ crew ∷ [])
    ⊎ ((words ≡ command ∷ journal_flag ∷ crew_joined crew ∷ [])
    ⊎ ((words ≡ command ∷ crew_flag ∷ crew ∷ journal_flag ∷ [])
    ⊎ (words ≡ command ∷ crew_joined crew ∷ journal_flag ∷ [])))

-- the words are a command, then two others in this order, and `--run` or not
abbrev pub AreNumbers : Word → List Word → Word → Word → Bool → Type 0
AreNumbers command words count seed false = words ≡ command ∷ count ∷ seed ∷ []
AreNumbers command words count seed true = (words ≡ command ∷ run_flag ∷ count ∷ seed ∷ [])
    ⊎ ((words ≡ command ∷ count ∷ run_flag ∷ seed ∷ [])
    ⊎ (words ≡ command ∷ count ∷ seed ∷ run_flag ∷ []))

-- the words spell the request
abbrev pub Spells : List Word → Request → Type 0
Spells words (Alone journal) = AreFlags (codes "alone") words journal None
Spells words (Run crew journal) = (crew ≤ 8)
    × ((AreFlags (codes "run") words journal None × (crew ≡ 2))
    ⊎ AreFlags (codes "run") words journal (Some (decimal crew)))
Spells words (Generate count seed run) = (1 ≤ count) × (count ≤ 100000) × (seed < 2 ^ 64)
    × AreNumbers (codes "gen") words (decimal count) (decimal seed) run
Spells words Check = words ≡ codes "check" ∷ []
Spells words Upgrade = words ≡ codes "upgrade" ∷ []

-- the line that is printed where the words spell no request
abbrev pub refusal_line : List ℕ
refusal_line = codes "words" ++ 0x0A ∷ []

-- what is said is just what the words spell
abbrev pub IsExact : List Word → Option Request → Type 0
IsExact words said = (w : Request) → (said ≡ Some w) ↔ Spells words w
