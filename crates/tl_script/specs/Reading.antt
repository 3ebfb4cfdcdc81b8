-- What the readers of the tokens of a line say.
use Rattle.std.specs.Prelude.{ℕ, ◌≡◌, ◌≤◌, true, List, [], ◌∷◌, map, length}
use Rattle.std.specs.List.{AllByRecursion}
use Rattle.std.specs.Global.{Vec}
use Rattle.tl_types.specs.Path.{IsPath}
use Rattle.tl_lang.specs.Conf.{Pair, is_conf}
use Rattle.tl_lang.specs.Checked.{CheckedProgram}
use Rattle.tl_lang.specs.Kinds.{KindsHold}
use Rattle.tl_kind.specs.Written.{IsWithin}
use Rattle.tl_model.specs.declared.header.Header.{Header}
use Rattle.tl_model.specs.declared.header.Version.{Version}
use Rattle.tl_model.specs.Limits.{input_limit, output_limit}
use Rattle.tl_script.specs.declared.bad_kind.BadKind.{BadKind}
use Rattle.tl_script.specs.declared.script.Op.{Op}
use Rattle.tl_script.specs.declared.script.ScriptError.{ScriptError}
use Rattle.tl_script.specs.declared.script.ScriptError.TheVariants.{Bad, NoMemory}
use Rattle.tl_script.specs.declared.stop.Stop.{Stop}
use Rattle.tl_script.specs.declared.stop.Stop.TheVariants as stop
use Rattle.tl_script.specs.declared.word.Verb.{Verb}
use Rattle.tl_script.specs.declared.word.Mark.TheVariants as mark_is
use Rattle.tl_script.specs.Tokens.{Token, a_mark, a_text, a_program, spaced}
use Rattle.tl_script.specs.Places.{Place, Follows, Refused}
use Rattle.tl_script.specs.Commands.{IsOp, verb_of, arguments_of, with_paths, AreBytes}

-- the reader stops for this kind of refusal, or for want of memory
abbrev pub StopsAs : (BadKind → Type 0) → Stop → Type 0
StopsAs R (stop.Refused kind) = R kind
StopsAs R stop.NoMemory = Unit {0}

-- after the word, the bytes are the arguments of the command
pub record AreArguments (header : Header) (v : Verb) (bytes : List ℕ) (op : Op) : Type 0 where
  pub command : IsOp header op
  pub word : verb_of op ≡ v
  pub spelled_so : bytes ≡ spaced (arguments_of op)

-- ---- a job

-- the keys of pairs that were read
abbrev pub keys_of : List (Vec ℕ × Vec ℕ) → List (List ℕ)
keys_of pairs = map (λ p. p.0.items) pairs

abbrev pub HaveBytes : List Pair → Type 0
HaveBytes = AllByRecursion (λ pair. AreBytes pair.0 × AreBytes pair.1)

-- the pairs make a configuration
pub record AreConf (pairs : List Pair) : Type 0 where
  pub conf : is_conf pairs ≡ true
  pub bytes : HaveBytes pairs

-- `conf`, the key and the value, and then the rest
abbrev pub IsPair : List ℕ → List ℕ → List ℕ → List ℕ → Type 0
IsPair bytes k v rest = (a b : List ℕ) × Follows bytes (a_mark mark_is.Conf) a × Follows a (a_text k) b × Follows b (a_text v) rest

-- what stands before the rest are these tokens, whatever more stands there
abbrev pub Precede : List ℕ → (List Token → List Token) → List ℕ → Type 0
Precede bytes tokens rest = (more : List Token) → rest ≡ spaced more → bytes ≡ spaced (tokens more)

-- what is refused at the later place in the rest is refused at this place
abbrev pub RefusedToo : Place → List ℕ → Place → List ℕ → Type 0
RefusedToo place bytes after rest = (kind : BadKind) → Refused after rest kind → Refused place bytes kind

-- the paths and the program, as many as the version allows
pub record AreFiles (version : Version) (inputs outputs : List (List (List ℕ)))
    (checked : CheckedProgram) : Type 0 where
  pub few_inputs : length inputs ≤ input_limit version
  pub input_paths : AllByRecursion IsPath inputs
  pub some_output : 1 ≤ length outputs
  pub few_outputs : length outputs ≤ output_limit version
  pub output_paths : AllByRecursion IsPath outputs
  pub program : IsWithin checked.program
  pub for_inputs : checked.inputs ≡ length inputs
  pub for_outputs : checked.outputs ≡ length outputs
  pub kinds : KindsHold checked.program checked.inputs checked.outputs

-- the tokens from the inputs on
abbrev pub file_tokens : List (List (List ℕ)) → List (List (List ℕ)) → CheckedProgram → List Token
file_tokens inputs outputs checked = with_paths inputs (a_mark mark_is.Out ∷ with_paths outputs (a_mark mark_is.Run ∷ a_program checked.program ∷ []))

-- ---- errors

-- the error of this line
abbrev pub error_at : ℕ → Stop → ScriptError
error_at line (stop.Refused kind) = Bad line kind
error_at line stop.NoMemory = NoMemory
