-- The script: a header, and then lines that are skipped or say a client's command.
use Rattle.std.specs.Prelude.{ℕ, ◌≡◌, ◌+◌, ◌<◌, ◌≤◌, ◌⊎◌, Bool, true, false, ◌==◌, List, [], ◌∷◌, ◌++◌, length, codes, decimal, Result, Ok, Err}
use Rattle.tl_model.specs.declared.header.Header.{Header}
use Rattle.tl_model.specs.declared.header.OrderRule.{OrderRule}
use Rattle.tl_model.specs.declared.header.OrderRule.TheVariants.{Strict, Shares}
use Rattle.tl_model.specs.declared.header.Version.{Version}
use Rattle.tl_model.specs.declared.header.Version.TheVariants.{One, Two}
use Rattle.tl_script.specs.declared.bad_kind.BadKind.{BadKind}
use Rattle.tl_script.specs.declared.bad_kind.BadKind.TheVariants as bad
use Rattle.tl_script.specs.declared.script.Op.{Op}
use Rattle.tl_script.specs.declared.script.Line.{Line}
use Rattle.tl_script.specs.declared.script.Script.{Script}
use Rattle.tl_script.specs.declared.script.ScriptError.{ScriptError}
use Rattle.tl_script.specs.declared.script.ScriptError.TheVariants.{Bad, NoMemory}
use Rattle.tl_script.specs.Tokens.{a_verb, spaced}
use Rattle.tl_script.specs.Places.{client, client_limit, Refused}
use Rattle.tl_script.specs.Commands.{IsOp, verb_of, arguments_of}

-- ---- the header

abbrev pub line_limit : ℕ
line_limit = 65536

abbrev pub worker_limit : ℕ
worker_limit = 8

abbrev pub capacity_limit : ℕ
capacity_limit = 268435456

abbrev pub hot_limit : ℕ
hot_limit = 4294967295

pub record IsHeader (h : Header) : Type 0 where
  pub some_workers : 1 ≤ h.workers
  pub workers : h.workers ≤ worker_limit
  pub some_capacity : 1 ≤ h.capacity
  pub capacity : h.capacity ≤ capacity_limit
  pub some_hot : 1 ≤ h.hot
  pub hot : h.hot ≤ hot_limit

-- the words before the numbers
abbrev pub version_text : Version → List ℕ
version_text One = codes "tachyon 1"
version_text Two = codes "tachyon 2"

-- the words behind the numbers
abbrev pub order_text : Version → OrderRule → List ℕ
order_text One Strict = []
order_text One Shares = codes " shares"
order_text Two Strict = codes " order strict"
order_text Two Shares = codes " order shares"

abbrev pub header_text : Header → List ℕ
header_text h =
    version_text h.version ++ (codes " workers " ++ (decimal h.workers ++ (codes " capacity " ++ (decimal h.capacity
    ++ (codes " hot " ++ (decimal h.hot ++ order_text h.version h.order))))))

-- the line says the header
pub record HeaderSays (line : List ℕ) (h : Header) : Type 0 where
  pub header : IsHeader h
  pub spelled_so : line ≡ header_text h
  pub short : length line ≤ line_limit

-- ---- the other lines

abbrev pub is_skipped : List ℕ → Bool
is_skipped [] = true
is_skipped (byte ∷ bytes) = byte == 0x23

-- an empty line, or a comment
pub record IsSkipped (line : List ℕ) : Type 0 where
  pub skipped : is_skipped line ≡ true
  pub short : length line ≤ line_limit

-- the client, a space and the command
abbrev pub line_text : ℕ → Op → List ℕ
line_text c op = decimal c ++ spaced (a_verb (verb_of op) ∷ arguments_of op)

-- the line says this client's command
pub record LineSays (header : Header) (line : List ℕ) (c : ℕ) (op : Op) : Type 0 where
  pub client : c ≤ client_limit
  pub command : IsOp header op
  pub spelled_so : line ≡ line_text c op
  pub short : length line ≤ line_limit

-- line number n says what stands in the script's list
abbrev pub SaysEntry : Header → ℕ → List ℕ → Line → Type 0
SaysEntry header n line entry = (entry.number ≡ n) × LineSays header line entry.client entry.op

-- the lines from number n on are skipped, or say these commands in order
abbrev pub SayAll : Header → ℕ → List (List ℕ) → List Line → Type 0
SayAll header n [] [] = Unit {0}
SayAll header n [] (entry ∷ entries) = ⊥
SayAll header n (line ∷ lines) [] = IsSkipped line × SayAll header (n + 1) lines []
SayAll header n (line ∷ lines) (entry ∷ entries) =
    (IsSkipped line × SayAll header (n + 1) lines (entry ∷ entries)) ⊎ (SaysEntry header n line entry × SayAll header (n + 1) lines entries)

-- the lines are a script: the header, and then the commands
abbrev pub IsScript : List (List ℕ) → Header → List Line → Type 0
IsScript [] header entries = ⊥
IsScript (line ∷ lines) header entries = HeaderSays line header × SayAll header 2 lines entries

-- ---- refusals

abbrev pub IsTooLong : List ℕ → BadKind → Type 0
IsTooLong line kind = (line_limit < length line) × (kind ≡ bad.LineTooLong)

-- the line is refused as the first: it is too long, or says no header
abbrev pub RefusedHeader : List ℕ → BadKind → Type 0
RefusedHeader line kind = IsTooLong line kind ⊎ ((length line ≤ line_limit) × ((h : Header) → ¬ HeaderSays line h) × (kind ≡ bad.Header))

-- the line is refused as a later one: it is too long, or neither skipped nor without a wrong token; a space is read
-- before each token, so also before the client
abbrev pub RefusedLine : Header → List ℕ → BadKind → Type 0
RefusedLine header line kind = IsTooLong line kind ⊎ ((length line ≤ line_limit) × (is_skipped line ≡ false) × Refused (client header) (0x20 ∷ line) kind)

-- the line is skipped, or says a command
abbrev pub IsRight : Header → List ℕ → Type 0
IsRight header line = IsSkipped line ⊎ ((c : ℕ) × (op : Op) × LineSays header line c op)

-- of the lines from number n on, line `at` is the first that is refused, as this kind
abbrev pub IsFirstBad : Header → ℕ → List (List ℕ) → ℕ → BadKind → Type 0
IsFirstBad header n [] at how = ⊥
IsFirstBad header n (line ∷ lines) at kind =
    (RefusedLine header line kind × (at ≡ n)) ⊎ (IsRight header line × IsFirstBad header (n + 1) lines at kind)

-- line `at` is the first that is refused, as this kind; where there is no line, the header is missing
abbrev pub IsRefused : List (List ℕ) → ℕ → BadKind → Type 0
IsRefused [] at kind = (at ≡ 1) × (kind ≡ bad.Header)
IsRefused (line ∷ lines) at kind = (RefusedHeader line kind × (at ≡ 1)) ⊎ ((h : Header) × HeaderSays line h × IsFirstBad h 2 lines at kind)

-- why the lines from the second on are not read: the first that is refused, or want of memory
abbrev pub IsBadBody : Header → List (List ℕ) → ScriptError → Type 0
IsBadBody header lines (Bad at how) = IsFirstBad header 2 lines at how
IsBadBody header lines NoMemory = Unit {0}

-- why the lines are no script: the first refused one, or want of memory
abbrev pub IsBadScript : List (List ℕ) → ScriptError → Type 0
IsBadScript lines (Bad at how) = IsRefused lines at how
IsBadScript lines NoMemory = Unit {0}

-- the script is read, unless memory ran out
abbrev pub Reads : Result Script ScriptError → Header → List Line → Type 0
Reads (Ok script) header entries = (script.header ≡ header) × (script.lines.items ≡ entries)
Reads (Err (Bad at how)) header entries = ⊥
Reads (Err NoMemory) header entries = Unit {0}
