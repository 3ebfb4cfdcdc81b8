-- The commands, and the text of each.
use Rattle.std.specs.Prelude.{ℕ, ◌≡◌, ◌≤◌, ◌<◌, IsTrue, List, [], ◌∷◌, ◌++◌, length, Result, Ok, Err}
use Rattle.std.specs.List.{All, AllByRecursion}
use Rattle.tl_types.specs.Path.{IsPath}
use Rattle.tl_lang.specs.Conf.{Pair, is_conf}
use Rattle.tl_lang.specs.declared.job.JobSpecCore.{JobSpecCore}
use Rattle.tl_lang.specs.Kinds.{KindsHold}
use Rattle.tl_kind.specs.Written.{IsWithin}
use Rattle.tl_model.specs.declared.header.Header.{Header}
use Rattle.tl_model.specs.declared.header.Version.{Version}
use Rattle.tl_model.specs.Limits.{input_limit, output_limit}
use Rattle.tl_model.specs.declared.command.Form.{Form}
use Rattle.tl_model.specs.declared.command.Form.TheVariants as form
use Rattle.tl_script.specs.declared.script.Op.{Op}
use Rattle.tl_script.specs.declared.script.Op.TheVariants.{Put, Job, Read, Delete, Mkdir, Rename, Pin, Unpin, List as ListNames, Stat, Free, Lose, Work}
use Rattle.tl_script.specs.declared.script.ScriptError.{ScriptError}
use Rattle.tl_script.specs.declared.script.ScriptError.TheVariants.{Bad, NoMemory}
use Rattle.tl_script.specs.declared.word.Verb.{Verb}
use Rattle.tl_script.specs.declared.word.Verb.TheVariants as verb_is
use Rattle.tl_script.specs.declared.word.Mark.TheVariants as mark_is
use Rattle.tl_script.specs.Words.{verb_text}
use Rattle.tl_script.specs.Tokens.{Token, a_mark, a_number, a_path, a_text, a_program, spaced}
use Rattle.tl_script.specs.Places.{command, Refused, prio_limit, fuel_limit, count_limit, text_limit}

-- ---- how a command is written

abbrev pub verb_of_form : Form → Verb
verb_of_form form.Cat = verb_is.Cat
verb_of_form form.Sum = verb_is.Sum
verb_of_form form.Try = verb_is.Try

abbrev pub verb_of : Op → Verb
verb_of (Put at bytes) = verb_is.Put
verb_of (Job core prio inputs outputs) = verb_is.Job
verb_of (Read at prio form) = verb_of_form form
verb_of (Delete at) = verb_is.Delete
verb_of (Mkdir at) = verb_is.Mkdir
verb_of (Rename from to) = verb_is.Rename
verb_of (Pin at) = verb_is.Pin
verb_of (Unpin at) = verb_is.Unpin
verb_of (ListNames at) = verb_is.List
verb_of (Stat at) = verb_is.Stat
verb_of (Free at) = verb_is.Free
verb_of (Lose worker) = verb_is.Lose
verb_of (Work worker n) = verb_is.Work

-- `conf`, a key and a value for each pair, and then more
abbrev pub with_conf : List Pair → List Token → List Token
with_conf [] more = more
with_conf (pair ∷ pairs) more = a_mark mark_is.Conf ∷ a_text pair.0 ∷ a_text pair.1 ∷ with_conf pairs more

-- the paths, and then more
abbrev pub with_paths : List (List (List ℕ)) → List Token → List Token
with_paths [] more = more
with_paths (p ∷ paths) more = a_path p ∷ with_paths paths more

abbrev pub job_arguments : JobSpecCore → ℕ → List (List (List ℕ)) → List (List (List ℕ)) → List Token
job_arguments core prio inputs outputs =
    a_number prio ∷ a_number core.fuel ∷ with_conf core.conf
    (a_mark mark_is.In ∷ with_paths inputs (a_mark mark_is.Out ∷ with_paths outputs (a_mark mark_is.Run ∷ a_program core.program.program ∷ [])))

-- the tokens after the word
abbrev pub arguments_of : Op → List Token
arguments_of (Put at bytes) = a_path at ∷ a_text bytes ∷ []
arguments_of (Job core prio inputs outputs) = job_arguments core prio inputs outputs
arguments_of (Read at prio form) = a_number prio ∷ a_path at ∷ []
arguments_of (Delete at) = a_path at ∷ []
arguments_of (Mkdir at) = a_path at ∷ []
arguments_of (Rename from to) = a_path from ∷ a_path to ∷ []
arguments_of (Pin at) = a_path at ∷ []
arguments_of (Unpin at) = a_path at ∷ []
arguments_of (ListNames at) = a_path at ∷ []
arguments_of (Stat at) = a_path at ∷ []
arguments_of (Free at) = a_path at ∷ []
arguments_of (Lose worker) = a_number worker.0 ∷ []
arguments_of (Work worker n) = a_number worker.0 ∷ a_number n ∷ []

-- the one text of a command: its word and its arguments, with one space between two of them
abbrev pub op_text : Op → List ℕ
op_text op = verb_text (verb_of op) ++ spaced (arguments_of op)

-- ---- which commands there are

abbrev pub AreBytes : List ℕ → Type 0
AreBytes = All (λ byte. byte < 256)

-- bytes of a file
pub record IsText (bytes : List ℕ) : Type 0 where
  pub are_bytes : AreBytes bytes
  pub short : length bytes ≤ text_limit

-- a job within the limits of the version, whose program keeps the kind rules for its inputs and
-- outputs
pub record IsJob (version : Version) (core : JobSpecCore) (prio : ℕ)
    (inputs outputs : List (List (List ℕ))) : Type 0 where
  pub priority : prio ≤ prio_limit
  pub some_fuel : 1 ≤ core.fuel
  pub fuel : core.fuel ≤ fuel_limit
  pub conf : IsTrue (is_conf core.conf)
  pub conf_bytes : AllByRecursion (λ pair. AreBytes pair.0 × AreBytes pair.1) core.conf
  pub few_inputs : length inputs ≤ input_limit version
  pub input_paths : AllByRecursion IsPath inputs
  pub some_output : 1 ≤ length outputs
  pub few_outputs : length outputs ≤ output_limit version
  pub output_paths : AllByRecursion IsPath outputs
  pub program : IsWithin core.program.program
  pub for_inputs : core.program.inputs ≡ length inputs
  pub for_outputs : core.program.outputs ≡ length outputs
  pub kinds : KindsHold core.program.program core.program.inputs core.program.outputs

-- a command that a script of this header may have
abbrev pub IsOp : Header → Op → Type 0
IsOp header (Put at bytes) = IsPath at × IsText bytes
IsOp header (Job core prio inputs outputs) = IsJob header.version core prio inputs outputs
IsOp header (Read at prio form) = IsPath at × (prio ≤ prio_limit)
IsOp header (Delete at) = IsPath at
IsOp header (Mkdir at) = IsPath at
IsOp header (Rename from to) = IsPath from × IsPath to
IsOp header (Pin at) = IsPath at
IsOp header (Unpin at) = IsPath at
IsOp header (ListNames at) = IsPath at
IsOp header (Stat at) = IsPath at
IsOp header (Free at) = IsPath at
IsOp header (Lose worker) = worker.0 < header.workers
IsOp header (Work worker n) = (worker.0 < header.workers) × (1 ≤ n) × (n ≤ count_limit)

-- the bytes say the command
pub record Says (header : Header) (bytes : List ℕ) (op : Op) : Type 0 where
  pub command : IsOp header op
  pub spelled_so : bytes ≡ op_text op

-- the bytes are refused as a command; a space is read before each token, so also before the word
abbrev pub IsRefusedOp : Header → List ℕ → ScriptError → Type 0
IsRefusedOp header bytes (Bad line how) = (line ≡ 1) × Refused (command header) (0x20 ∷ bytes) how
IsRefusedOp header bytes NoMemory = Unit {0}

-- the command is read, unless memory ran out
abbrev pub ReadsOp : Result Op ScriptError → Op → Type 0
ReadsOp (Ok found) op = found ≡ op
ReadsOp (Err (Bad line how)) op = ⊥
ReadsOp (Err NoMemory) op = Unit {0}
