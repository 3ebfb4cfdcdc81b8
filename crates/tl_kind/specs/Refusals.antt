-- What is refused in a program's text, and where.
use Rattle.std.specs.Prelude.{◌≡◌, ◌≢◌, ◌⊎◌, ◌<◌, ◌≤◌, ℕ, suc, Bool, true, false, ◌&&◌, ◌||◌, nat_lt, nat_le, ◌==◌, if◌then◌else◌, List, [], ◌∷◌, ◌++◌, length, drop, codes, slice_get, Option, Some, None, is_some, Result, Ok, Err}
use Rattle.std.specs.List.{list_all}
use Rattle.tl_text.specs.Number.{IsNumber, BeginsWithNoDigit}
use Rattle.tl_text.specs.Signed.{IsSigned}
use Rattle.tl_text.specs.Quoted.{IsQuoted}
use Rattle.tl_text.specs.Place.{IsFirstBad}
use Rattle.tl_lang.specs.declared.expr.Expr.{Expr, out-Expr}
use Rattle.tl_kind.specs.declared.lang_error.LangErrorKind.{LangErrorKind}
use Rattle.tl_kind.specs.declared.lang_error.LangErrorKind.TheVariants.{End, Unexpected, UnknownForm, TooDeep, TooLong, BadNumber, BadQuote, Trailing, TooManyOutputs}
use Rattle.tl_kind.specs.declared.lang_error.LangError.{LangError}
use Rattle.tl_kind.specs.declared.lang_error.LangError.TheVariants.{Bad, NoMemory}
use Rattle.tl_lang.specs.declared.program.Program.{Program}
use Rattle.tl_kind.specs.declared.word.Word.{Word}
use Rattle.tl_kind.specs.declared.word.Word.TheVariants as word
use Rattle.tl_kind.specs.Words.{word_text}
use Rattle.tl_kind.specs.Written.{Part, an_expr, a_name, a_number, a_quote, Written, quote, signed, variable, with_parts, written, map_part, part_text, spelling, is_letter, fits, part_fits, program_text, output_limit}

abbrev pub lang_number : LangErrorKind → ℕ
lang_number End = 1
lang_number Unexpected = 2
lang_number UnknownForm = 3
lang_number TooDeep = 4
lang_number TooLong = 5
lang_number BadNumber = 6
lang_number BadQuote = 7
lang_number Trailing = 8
lang_number TooManyOutputs = 9

-- ---- what a form wants

-- what stands after `(`: `job` for the program, and the word of a form elsewhere
pub data Head : Type 0 where
  job : Head
  inner : Word → Head

-- what a part is
pub data Sort : Type 0 where
  expr : Sort
  name : Sort
  number : Sort
  quoted_text : Sort

abbrev pub sort_of : {A : Type 0} → Part A → Sort
sort_of (an_expr e) = expr
sort_of (a_name x) = name
sort_of (a_number n) = number
sort_of (a_quote s) = quoted_text

abbrev pub sorts : Word → List Sort
sorts word.Input = number ∷ []
sorts word.Key = quoted_text ∷ []
sorts (word.One w) = expr ∷ []
sorts (word.Two w) = expr ∷ expr ∷ []
sorts (word.Three w) = expr ∷ expr ∷ expr ∷ []
sorts (word.Binding w) = name ∷ expr ∷ expr ∷ []
sorts word.Fold = name ∷ name ∷ expr ∷ expr ∷ expr ∷ []
sorts word.List = []

-- the part that a form may have after so many
abbrev pub wants : Head → ℕ → Option Sort
wants job count = if nat_lt count output_limit then Some expr else None
wants (inner word.List) count = if nat_lt count 16 then Some expr else None
wants (inner w) count = slice_get (sorts w) count

-- a form may end after so many parts
abbrev pub may_end : Head → ℕ → Bool
may_end job count = nat_lt 0 count
may_end (inner word.List) count = true
may_end (inner w) count = count == length (sorts w)

-- ---- a byte that can't stand there

-- what is wrong where this byte must stand, if something is
abbrev pub missing : ℕ → List ℕ → Option LangErrorKind
missing wanted [] = Some End
missing wanted (byte ∷ bytes) = if byte == wanted then None else Some Unexpected

-- a space after the last part that is allowed
abbrev pub spare_part : Head → LangErrorKind
spare_part job = TooManyOutputs
spare_part (inner w) = Unexpected

-- what is wrong right after so many whole parts of a form, if something is: a space or `)` must stand there
abbrev pub wrong_after : Head → ℕ → List ℕ → Option LangErrorKind
wrong_after head count [] = Some End
wrong_after head count (byte ∷ bytes) =
    if byte == 0x20 then (if is_some (wants head count) then None else Some (spare_part head))
    else if byte == 0x29 then (if may_end head count then None else Some Unexpected)
    else Some Unexpected

abbrev pub is_digit : ℕ → Bool
is_digit byte = nat_le 0x30 byte && nat_le byte 0x39

abbrev pub begins_with_digit : List ℕ → Bool
begins_with_digit [] = false
begins_with_digit (byte ∷ bytes) = is_digit byte

abbrev pub begins_signed : List ℕ → Bool
begins_signed [] = false
begins_signed (byte ∷ bytes) = byte == 0x2D || is_digit byte

abbrev pub begins_quoted : List ℕ → Bool
begins_quoted [] = false
begins_quoted (byte ∷ bytes) = byte == 0x22

-- an expression that is no form begins with the byte
abbrev pub begins_plain : ℕ → Bool
begins_plain byte = byte == 0x22 || (byte == 0x2D || (is_digit byte || is_letter byte))

-- what is wrong with the first byte of a part, if something is, where so many parentheses may still open
abbrev pub wrong_first : Sort → ℕ → List ℕ → Option LangErrorKind
wrong_first sort room [] = Some End
wrong_first expr room (byte ∷ bytes) =
    if byte == 0x28 then (if room == 0 then Some TooDeep else None)
    else if begins_plain byte then None else Some Unexpected
wrong_first name room (byte ∷ bytes) = if is_letter byte then None else Some Unexpected
wrong_first number room (byte ∷ bytes) = if is_digit byte then None else Some Unexpected
wrong_first quoted_text room (byte ∷ bytes) = if byte == 0x22 then None else Some Unexpected

-- what is wrong with the first byte after `(`, if something is
abbrev pub wrong_word : List ℕ → Option LangErrorKind
wrong_word [] = Some End
wrong_word (byte ∷ bytes) = if is_letter byte then None else Some Unexpected

-- ---- parts that stand whole

abbrev pub BeginsWithNoLetter : List ℕ → Type 0
BeginsWithNoLetter [] = Unit {0}
BeginsWithNoLetter (byte ∷ bytes) = is_letter byte ≡ false

-- a name is as long as it can be
abbrev pub EndsName : List ℕ → List ℕ → Type 0
EndsName x rest = (length x ≡ 16) ⊎ BeginsWithNoLetter rest

abbrev pub EndsExpr : {A : Type 0} → Written A → List ℕ → Type 0
EndsExpr (quote s) rest = Unit {0}
EndsExpr (signed z) rest = BeginsWithNoDigit rest
EndsExpr (variable x) rest = EndsName x rest
EndsExpr (with_parts w parts) rest = Unit {0}

-- no more of the rest belongs to the part
abbrev pub EndsPart : Part Expr → List ℕ → Type 0
EndsPart (an_expr e) rest = EndsExpr (written (out-Expr e)) rest
EndsPart (a_name x) rest = EndsName x rest
EndsPart (a_number n) rest = BeginsWithNoDigit rest
EndsPart (a_quote s) rest = Unit {0}

-- the text is a part within the limits, where so many parentheses may open, and then the rest
pub record IsPart (room : ℕ) (text : List ℕ) (part : Part Expr) (rest : List ℕ) : Type 0 where
  pub spelled : text ≡ part_text (map_part spelling part) ++ rest
  pub within : part_fits room (map_part fits part) ≡ true
  pub ends : EndsPart part rest

-- ---- the rules

-- a place in a text: where a part begins, or after so many whole parts of a form
pub data Spot : Type 0 where
  part : Sort → ℕ → Spot
  after : Head → ℕ → ℕ → Spot

-- at this spot of a program the text is refused, where the rest begins; the last number of a spot is how many
-- parentheses may open there
pub data Refused : Spot → List ℕ → List ℕ → LangErrorKind → Type 0 where
  -- another byte must stand first, or the text ends there
  at_first : {sort : Sort} {room : ℕ} {text : List ℕ} {kind : LangErrorKind} → wrong_first sort room text ≡ Some kind → Refused (part sort room) text text kind
  -- a signed number has begun, and is no spelling
  in_signed : {room : ℕ} {text : List ℕ} (place : ℕ) → begins_signed text ≡ true → IsFirstBad IsSigned text place → Refused (part expr room) text (drop place text) BadNumber
  -- a number has begun, and is no spelling
  in_number : {room : ℕ} {text : List ℕ} (place : ℕ) → begins_with_digit text ≡ true → IsFirstBad (IsNumber 18446744073709551615) text place → Refused (part number room) text (drop place text) BadNumber
  -- a quoted text has begun, and is no spelling
  in_quoted : {sort : Sort} {room : ℕ} {text : List ℕ} (place : ℕ) → (sort ≡ expr) ⊎ (sort ≡ quoted_text) → begins_quoted text ≡ true → IsFirstBad IsQuoted text place → Refused (part sort room) text (drop place text) BadQuote
  -- no word stands after `(`
  no_word : {room : ℕ} {text : List ℕ} {kind : LangErrorKind} → wrong_word text ≡ Some kind → Refused (part expr (suc room)) (0x28 ∷ text) text kind
  -- the letters after `(` are no word of a form
  unknown_word : {room : ℕ} (letters rest : List ℕ) → 0 < length letters → list_all is_letter letters ≡ true → BeginsWithNoLetter rest → ((w : Word) → letters ≢ word_text w) → Refused (part expr (suc room)) (0x28 ∷ letters ++ rest) (letters ++ rest) UnknownForm
  -- a form is refused after its word
  after_word : {room : ℕ} (w : Word) {text rest : List ℕ} {kind : LangErrorKind} → BeginsWithNoLetter text → Refused (after (inner w) 0 room) text rest kind → Refused (part expr (suc room)) (0x28 ∷ word_text w ++ text) rest kind
  -- neither the next part nor the end of the form stands there
  at_once : {head : Head} {count room : ℕ} {text : List ℕ} {kind : LangErrorKind} → wrong_after head count text ≡ Some kind → Refused (after head count room) text text kind
  -- the next part is refused
  in_next : {head : Head} {count room : ℕ} (sort : Sort) {text rest : List ℕ} {kind : LangErrorKind} → wants head count ≡ Some sort → Refused (part sort room) text rest kind → Refused (after head count room) (0x20 ∷ text) rest kind
  -- the next part stands whole, and what follows it is refused
  after_next : {head : Head} {count room : ℕ} (next : Part Expr) {text more rest : List ℕ} {kind : LangErrorKind} → wants head count ≡ Some (sort_of next) → IsPart room text next more → Refused (after head (suc count) room) more rest kind → Refused (after head count room) (0x20 ∷ text) rest kind

-- the text before the rest is the whole spelling of a program but for the length, and bytes follow it
pub record IsWhole (text : List ℕ) (program : Program) (rest : List ℕ) : Type 0 where
  pub spelled : text ≡ program_text program ++ rest
  pub some : 1 ≤ length program.outputs
  pub few : length program.outputs ≤ output_limit
  pub within : list_all (λ e. fits e 31) program.outputs ≡ true

-- the text is refused, where the rest begins
pub data RefusedText : List ℕ → List ℕ → LangErrorKind → Type 0 where
  -- `(` must stand first
  no_form : {text : List ℕ} {kind : LangErrorKind} → missing 0x28 text ≡ Some kind → RefusedText text text kind
  -- no word stands after `(`
  no_job : {text : List ℕ} {kind : LangErrorKind} → wrong_word text ≡ Some kind → RefusedText (0x28 ∷ text) text kind
  -- the letters after `(` are not `job`
  other_word : (letters rest : List ℕ) → 0 < length letters → list_all is_letter letters ≡ true → BeginsWithNoLetter rest → letters ≢ codes "job" → RefusedText (0x28 ∷ letters ++ rest) (letters ++ rest) UnknownForm
  -- the outputs are refused
  in_outputs : {text rest : List ℕ} {kind : LangErrorKind} → BeginsWithNoLetter text → Refused (after job 0 31) text rest kind → RefusedText (0x28 ∷ codes "job" ++ text) rest kind
  -- bytes follow the program
  trailing : {text rest : List ℕ} (program : Program) → IsWhole text program rest → 0 < length rest → RefusedText text rest Trailing

-- the text is refused at this place for this reason; its length is tested first
abbrev pub IsRefusedAt : List ℕ → ℕ → LangErrorKind → Type 0
IsRefusedAt text at kind = ((4096 < length text) × (at ≡ 4096) × (kind ≡ TooLong)) ⊎ ((length text ≤ 4096) × (at ≤ length text) × RefusedText text (drop at text) kind)

-- the text is the whole spelling of a program but for the length
abbrev pub Spells : List ℕ → Program → List ℕ → Type 0
Spells text program rest = IsWhole text program [] × (rest ≡ [])

-- ---- the answers of `parse`

-- an error is a refusal, unless memory ran out
abbrev pub IsRefusal : List ℕ → LangError → Type 0
IsRefusal text (Bad at kind) = IsRefusedAt text at kind
IsRefusal text NoMemory = Unit {0}

-- the program is read, unless memory ran out
abbrev pub Reads : Result Program LangError → Program → Type 0
Reads (Ok found) program = found ≡ program
Reads (Err (Bad at kind)) program = ⊥
Reads (Err NoMemory) program = Unit {0}
