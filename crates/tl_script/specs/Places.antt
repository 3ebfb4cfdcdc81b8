-- The places of a line: what may stand at each, which place comes next, and how it is refused if something
-- else stands there.
use Rattle.std.specs.Prelude.{ℕ, suc, ◌+◌, ◌≡◌, ◌⊎◌, Bool, true, false, ◌&&◌, not, nat_le, nat_lt, ◌==◌, if◌then◌else◌, bytes_eq, List, [], ◌∷◌, ◌++◌, length, Option, Some, None}
use Rattle.std.specs.List.{list_any}
use Rattle.std.specs.Option.{is_some}
use Rattle.tl_text.specs.PathText.{IsPathText}
use Rattle.tl_lang.specs.declared.program.Program.{Program}
use Rattle.tl_lang.specs.Kinds.{refusal}
use Rattle.tl_kind.specs.Written.{IsProgram}
use Rattle.tl_model.specs.declared.header.Header.{Header}
use Rattle.tl_model.specs.declared.header.Version.{Version}
use Rattle.tl_model.specs.Limits.{input_limit, output_limit}
use Rattle.tl_script.specs.declared.bad_kind.BadKind.{BadKind}
use Rattle.tl_script.specs.declared.bad_kind.BadKind.TheVariants as bad
use Rattle.tl_script.specs.declared.word.Verb.{Verb}
use Rattle.tl_script.specs.declared.word.Verb.TheVariants as verb_is
use Rattle.tl_script.specs.declared.word.Mark.{Mark}
use Rattle.tl_script.specs.declared.word.Mark.TheVariants as mark_is
use Rattle.tl_script.specs.Words.{mark_text}
use Rattle.tl_script.specs.Tokens.{Token, a_verb, a_mark, a_number, a_path, a_text, a_program, Stands}

-- ---- limits

abbrev pub client_limit : ℕ
client_limit = 7

abbrev pub prio_limit : ℕ
prio_limit = 7

abbrev pub fuel_limit : ℕ
fuel_limit = 16777216

-- the greatest number of turns that one command asks for
abbrev pub count_limit : ℕ
count_limit = 1048576

-- the greatest number of bytes that a quoted text stands for
abbrev pub text_limit : ℕ
text_limit = 1048576

abbrev pub conf_limit : ℕ
conf_limit = 16

-- ---- places

pub data Place : Type 0 where
  -- the client, and a command under the header
  client : Header → Place
  -- the word of a command
  command : Header → Place
  -- a path, and then that place
  path_then : Place → Place
  -- a number of at least the first and below the second
  number_then : ℕ → ℕ → Place → Place
  -- a quoted text
  text_then : Place → Place
  -- `conf`, or `in`; these keys have stood
  settings : Version → List (List ℕ) → Place
  -- a key that is none of these
  key : Version → List (List ℕ) → Place
  -- a path, of which so many stand at most, or, once so many at least have, the word; so many have; and then that place
  paths_then : ℕ → ℕ → ℕ → Mark → (ℕ → Place) → Place
  -- a program of the version, of so many inputs and outputs
  program_then : Version → ℕ → ℕ → Place
  -- nothing more
  end : Place

abbrev pub outputs : Version → ℕ → Place
outputs version reads =
    paths_then (output_limit version) 1 0 mark_is.Run (program_then version reads)

abbrev pub inputs : Version → Place
inputs version = paths_then (input_limit version) 0 0 mark_is.Out (outputs version)

abbrev pub reading : Place
reading = number_then 0 (prio_limit + 1) (path_then end)

-- the place after the word of a command
abbrev pub after_verb : Header → Verb → Place
after_verb header verb_is.Put = path_then (text_then end)
after_verb header verb_is.Job =
    number_then 0 (prio_limit + 1) (number_then 1 (fuel_limit + 1) (settings header.version []))
after_verb header verb_is.Cat = reading
after_verb header verb_is.Sum = reading
after_verb header verb_is.Try = reading
after_verb header verb_is.Delete = path_then end
after_verb header verb_is.Mkdir = path_then end
after_verb header verb_is.Rename = path_then (path_then end)
after_verb header verb_is.Pin = path_then end
after_verb header verb_is.Unpin = path_then end
after_verb header verb_is.List = path_then end
after_verb header verb_is.Stat = path_then end
after_verb header verb_is.Free = path_then end
after_verb header verb_is.Lose = number_then 0 header.workers end
after_verb header verb_is.Work = number_then 0 header.workers (number_then 1 (count_limit + 1) end)

abbrev pub has_key : List (List ℕ) → List ℕ → Bool
has_key keys s = list_any (λ k. bytes_eq k s) keys

abbrev pub when : Bool → Place → Option Place
when fits place = if fits then Some place else None

-- a program of the version: it has no more outputs than a job may have
abbrev pub is_of : Version → Program → Bool
is_of version p = nat_le (length p.outputs) (output_limit version)

-- the place after a token, if the token may stand at this place
abbrev pub next : Place → Token → Option Place
next (client header) (a_number n) = when (nat_le n client_limit) (command header)
next (command header) (a_verb v) = Some (after_verb header v)
next (path_then place) (a_path p) = Some place
next (number_then low below place) (a_number n) = when (nat_le low n && nat_lt n below) place
next (text_then place) (a_text s) = when (nat_le (length s) text_limit) place
next (settings version keys) (a_mark mark_is.Conf) = when (nat_lt (length keys) conf_limit) (key version keys)
next (settings version keys) (a_mark mark_is.In) = Some (inputs version)
next (key version keys) (a_text s) =
    when (nat_le (length s) text_limit && not (has_key keys s))
    (text_then (settings version (keys ++ s ∷ [])))
next (paths_then limit least count word place) (a_path p) = when (nat_lt count limit) (paths_then limit least (suc count) word place)
next (paths_then limit least count word place) (a_mark m) = when (bytes_eq (mark_text m) (mark_text word) && nat_le least count) (place count)
next (program_then version reads makes) (a_program p) =
    when (is_of version p && not (is_some (refusal p reads makes))) end
next place token = None

-- ---- refusals

abbrev pub begins_with_slash : List ℕ → Bool
begins_with_slash [] = false
begins_with_slash (byte ∷ bytes) = byte == 0x2F

-- a token that begins as a path does, and is none
abbrev pub IsBadPath : List ℕ → Type 0
IsBadPath bytes = (begins_with_slash bytes ≡ true) × ((p : List (List ℕ)) (rest : List ℕ) → ¬ IsPathText bytes p rest)

abbrev pub IsSomeProgram : Version → List ℕ → Type 0
IsSomeProgram version bytes = (p : Program) × IsProgram bytes p × (is_of version p ≡ true)

-- how the place refuses what stands there
abbrev pub RefusedAs : Place → List ℕ → BadKind → Type 0
RefusedAs (client header) bytes kind = kind ≡ bad.Client
RefusedAs (command header) bytes kind = kind ≡ bad.Command
RefusedAs (path_then place) bytes kind = kind ≡ bad.Path
RefusedAs (paths_then limit least count word place) bytes kind = (IsBadPath bytes × (kind ≡ bad.Path)) ⊎ ((¬ IsBadPath bytes) × (kind ≡ bad.Argument))
RefusedAs (program_then version reads makes) bytes kind =
    (IsSomeProgram version bytes × (kind ≡ bad.Kinds))
    ⊎ ((¬ IsSomeProgram version bytes) × (kind ≡ bad.Program))
RefusedAs place bytes kind = kind ≡ bad.Argument

-- no token stands there that may
abbrev pub IsWrong : Place → List ℕ → Type 0
IsWrong place bytes = (token : Token) (rest : List ℕ) → Stands bytes token rest → next place token ≡ None

abbrev pub may_end : Place → Bool
may_end end = true
may_end place = false

-- a space, the token, and then the rest
abbrev pub Follows : List ℕ → Token → List ℕ → Type 0
Follows bytes token rest = (front : List ℕ) × (bytes ≡ 0x20 ∷ front) × Stands front token rest

-- from the place on the bytes, which are empty or begin with a space, are refused for the first wrong token
pub data Refused : Place → List ℕ → BadKind → Type 0 where
  -- a token is missing
  missing : {place : Place} {bytes : List ℕ} {kind : BadKind} → bytes ≡ [] → may_end place ≡ false → kind ≡ bad.Argument → Refused place bytes kind
  -- what stands there is wrong
  wrong : {place : Place} {bytes : List ℕ} {kind : BadKind} (front : List ℕ) → bytes ≡ 0x20 ∷ front → IsWrong place front → RefusedAs place front kind → Refused place bytes kind
  -- a token stands right, and what follows is refused
  later : {place after : Place} {bytes : List ℕ} {kind : BadKind} (token : Token) (rest : List ℕ) → Follows bytes token rest → next place token ≡ Some after → Refused after rest kind → Refused place bytes kind
