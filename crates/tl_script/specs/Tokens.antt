-- The tokens of a line.
use Rattle.std.specs.Prelude.{ℕ, ◌≡◌, List, [], ◌∷◌, ◌++◌, decimal}
use Rattle.tl_types.specs.Path.{spelled}
use Rattle.tl_text.specs.Number.{IsNumber}
use Rattle.tl_text.specs.Quoted.{quoted, IsQuoted}
use Rattle.tl_text.specs.PathText.{EndsToken, IsPathText}
use Rattle.tl_lang.specs.declared.program.Program.{Program}
use Rattle.tl_kind.specs.Written.{program_text, IsProgram}
use Rattle.tl_script.specs.declared.word.Verb.{Verb}
use Rattle.tl_script.specs.declared.word.Mark.{Mark}
use Rattle.tl_script.specs.Words.{verb_text, mark_text}

pub data Token : Type 0 where
  a_verb : Verb → Token
  a_mark : Mark → Token
  a_number : ℕ → Token
  a_path : List (List ℕ) → Token
  a_text : List ℕ → Token
  a_program : Program → Token

abbrev pub token_text : Token → List ℕ
token_text (a_verb v) = verb_text v
token_text (a_mark m) = mark_text m
token_text (a_number n) = decimal n
token_text (a_path p) = spelled p
token_text (a_text bytes) = quoted bytes
token_text (a_program p) = program_text p

-- a space before each token
abbrev pub spaced : List Token → List ℕ
spaced [] = []
spaced (token ∷ tokens) = 0x20 ∷ (token_text token ++ spaced tokens)

-- the token stands at the front of the bytes, up to a space or the end; a program is the rest of its line
abbrev pub Stands : List ℕ → Token → List ℕ → Type 0
Stands bytes (a_verb v) rest = (bytes ≡ verb_text v ++ rest) × EndsToken rest
Stands bytes (a_mark m) rest = (bytes ≡ mark_text m ++ rest) × EndsToken rest
Stands bytes (a_number n) rest = IsNumber 18446744073709551615 bytes n rest × EndsToken rest
Stands bytes (a_path p) rest = IsPathText bytes p rest
Stands bytes (a_text s) rest = IsQuoted bytes s rest × EndsToken rest
Stands bytes (a_program p) rest = IsProgram bytes p × (rest ≡ [])
