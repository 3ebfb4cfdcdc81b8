-- What the readers of the parts of a program say.
use Rattle.std.specs.Prelude.{◌≡◌, ◌⊎◌, ◌≤◌, ◌<◌, ℕ, true, ◌||◌, ◌==◌, if◌then◌else◌, List, [], ◌∷◌, ◌++◌, codes, map, length, take, drop, Some, IsSome}
use Rattle.std.specs.List.{list_all}
use Rattle.tl_text.specs.Quoted.{IsQuoted}
use Rattle.tl_text.specs.Place.{IsFirstBad}
use Rattle.tl_lang.specs.declared.expr.Expr.{Expr, out-Expr}
use Rattle.tl_kind.specs.declared.lang_error.LangErrorKind.{LangErrorKind}
use Rattle.tl_kind.specs.declared.lang_error.LangErrorKind.TheVariants.{End, Unexpected, BadQuote}
use Rattle.tl_kind.specs.declared.stop.Stop.{Stop}
use Rattle.tl_kind.specs.declared.stop.Stop.TheVariants as stop
use Rattle.tl_kind.specs.declared.begin.Begin.{Begin}
use Rattle.tl_kind.specs.declared.begin.Begin.TheVariants as begin
use Rattle.tl_kind.specs.declared.word.Word.{Word}
use Rattle.tl_kind.specs.Words.{word_text}
use Rattle.tl_kind.specs.Written.{Part, an_expr, with_parts, written, is_letter, is_name, output_limit}
use Rattle.tl_kind.specs.Refusals.{Sort, expr, wants, part, Head, is_digit, begins_quoted, missing, BeginsWithNoLetter, EndsName, IsPart, Refused}

-- the reader stops where the rest begins for this reason, or for want of memory
abbrev pub StopsAs : (List ℕ → LangErrorKind → Type 0) → List ℕ → Stop → Type 0
StopsAs R rest (stop.Refused kind) = R rest kind
StopsAs R rest stop.NoMemory = Unit {0}

abbrev pub Misses : ℕ → List ℕ → List ℕ → LangErrorKind → Type 0
Misses wanted text rest kind = (rest ≡ text) × (missing wanted text ≡ Some kind)

-- what an expression's first byte says of it
abbrev pub begin_of : List ℕ → Begin
begin_of [] = begin.Nothing
begin_of (byte ∷ bytes) =
    if byte == 0x22 then begin.Quote
    else if byte == 0x2D || is_digit byte then begin.Number
    else if is_letter byte then begin.Name
    else if byte == 0x28 then begin.Form
    else begin.Other

-- the text is a name, as long as it can be, and then the rest
pub record IsNamed (text x rest : List ℕ) : Type 0 where
  pub spelled : text ≡ x ++ rest
  pub name : is_name x ≡ true
  pub ends : EndsName x rest

-- the text is a word, all its letters, and then the rest
pub record IsWord (text : List ℕ) (w : Word) (rest : List ℕ) : Type 0 where
  pub spelled : text ≡ word_text w ++ rest
  pub ends : BeginsWithNoLetter rest

-- a space and the part, and then the rest
abbrev pub NextIs : ℕ → List ℕ → Part Expr → List ℕ → Type 0
NextIs room text next rest = (more : List ℕ) × (text ≡ 0x20 ∷ more) × IsPart room more next rest

-- a space is missing, or a part after it is refused
abbrev pub NextRefused : Sort → ℕ → List ℕ → List ℕ → LangErrorKind → Type 0
NextRefused sort room text rest kind = Misses 0x20 text rest kind ⊎ ((more : List ℕ) × (text ≡ 0x20 ∷ more) × Refused (part sort room) more rest kind)

-- these parts, each after a space, and `)`, and then the rest
abbrev pub AreParts : ℕ → List (Part Expr) → List ℕ → List ℕ → Type 0
AreParts room [] text rest = text ≡ 0x29 ∷ rest
AreParts room (next ∷ parts) text rest = (more : List ℕ) × NextIs room text next more × AreParts room parts more rest

-- the form of the word has parts, which stand so after the word
abbrev pub IsForm : ℕ → Word → List ℕ → Expr → List ℕ → Type 0
IsForm room w text e rest = (parts : List (Part Expr)) × (written (out-Expr e) ≡ with_parts w parts) × (length parts ≤ 16) × AreParts room parts text rest

-- a refusal where something else must stand first: the end of the text, or another byte
abbrev pub refused_first : List ℕ → Stop
refused_first [] = stop.Refused End
refused_first (byte ∷ bytes) = stop.Refused Unexpected

-- the front of the text, of so many bytes, are letters; it has as many as are asked for, or no letter follows
pub record AreLetters (text : List ℕ) (limit len : ℕ) : Type 0 where
  pub within : len ≤ length text
  pub few : len ≤ limit
  pub letters : list_all is_letter (take len text) ≡ true
  pub whole : (len ≡ limit) ⊎ BeginsWithNoLetter (drop len text)

-- a quoted text has begun, and is no spelling
abbrev pub InQuoted : List ℕ → List ℕ → LangErrorKind → Type 0
InQuoted text rest kind = (place : ℕ) × (begins_quoted text ≡ true) × IsFirstBad IsQuoted text place × (rest ≡ drop place text) × (kind ≡ BadQuote)

-- these expressions, each after a space, and then the rest
abbrev pub AreSeveral : ℕ → List Expr → List ℕ → List ℕ → Type 0
AreSeveral room [] text rest = text ≡ rest
AreSeveral room (e ∷ es) text rest = (more : List ℕ) × NextIs room text (an_expr e) more × AreSeveral room es more rest

-- as many expressions as stand there, up to the limit
pub record AreAll (room limit : ℕ) (text : List ℕ) (es : List Expr) (rest : List ℕ) : Type 0 where
  pub stand : AreSeveral room es text rest
  pub few : length es ≤ limit
  pub all : (length es ≡ limit) ⊎ IsSome (missing 0x20 rest)

-- the form takes so many expressions
abbrev pub TakesUpTo : Head → ℕ → Type 0
TakesUpTo head limit = (count : ℕ) → count < limit → wants head count ≡ Some expr

-- the text is `job`, all its letters, and then the rest
pub record IsJob (text rest : List ℕ) : Type 0 where
  pub spelled : text ≡ codes "job" ++ rest
  pub ends : BeginsWithNoLetter rest

-- the text is outputs as many as a program may have, each after a space, and `)`, and then the rest
pub record AreOutputs (text : List ℕ) (es : List Expr) (rest : List ℕ) : Type 0 where
  pub some : 1 ≤ length es
  pub few : length es ≤ output_limit
  pub stand : AreParts 31 (map an_expr es) text rest
