-- What a run of a script leaves, by its status.
use Rattle.std.specs.Prelude.{ℕ, ◌≡◌, ◌+◌, ◌≤◌, ◌⊎◌, String, List, [], ◌∷◌, ◌++◌, length, map, string_bytes, codes, decimal, Option, Some, None, IfSome}
use Rattle.std.specs.Global.{Global}
use Rattle.std.specs.Io.KnownBytes.{Appends}
use Rattle.tl_io.specs.Counts.{Rises}
use Rattle.tl_model.specs.declared.header.Header.{Header}
use Rattle.tl_script.specs.declared.bad_kind.BadKind.{BadKind}
use Rattle.tl_script.specs.declared.script.Line.{Line}
use Rattle.tl_script.specs.BadKinds.{bad_number}
use Rattle.tl_run.specs.declared.status.Status.{Status}
use Rattle.tl_run.specs.declared.status.Status.TheVariants.{Done, BadWords, BadScript, ReadFault, WriteFault, NoMemory, TooLong}
use Rattle.tl_run.specs.declared.alone.Stop.{Stop}
use Rattle.tl_run.specs.declared.alone.Stop.TheVariants as stop
use Rattle.tl_run.specs.Status.{code_of}
use Rattle.tl_script.specs.Lines.{lines_of}
use Rattle.tl_script.specs.Script.{IsScript, IsRefused}
use Rattle.tl_run.specs.Streams.{RisesBy, ReadsAll, HasMore, WritesFront}
use Rattle.tl_core.specs.State.{State}
use Rattle.tl_run.specs.Plays.{PlaysOut}

-- what is known of a source: the bytes left, where told, how many were given, and its faults
pub record Supply : Type 0 where
  pub left : Option (List ℕ)
  pub given : ℕ
  pub faults : ℕ

-- what is known of a sink: the bytes held, where told, and its faults
pub record Held : Type 0 where
  pub bytes : Option (List ℕ)
  pub faults : ℕ

-- the greatest length of an input
abbrev pub input_limit : ℕ
input_limit = 16777216

-- these bytes are the whole input, and were read to the end
pub record IsInput (before after : Supply) (bytes : List ℕ) : Type 0 where
  pub all : ReadsAll before.left after.left bytes
  pub count : RisesBy before.given after.given (length bytes)
  pub short : length bytes ≤ input_limit

abbrev pub refusal_text : ℕ → BadKind → List ℕ
refusal_text line kind = codes "script line " ++ (decimal line ++ (codes " kind " ++ (decimal (bad_number kind) ++ codes "\n")))

-- a cluster that a run keeps, or none
abbrev pub Kept : Type 0
Kept = Option (State (List ℕ))

-- the input spells a script; its lines were done on an empty cluster of its header, which is kept, and the text is what was
-- printed of them
pub record Plays (before after : Supply) (kept : State (List ℕ)) (text : List ℕ) : Type 0 where
  pub bytes : List ℕ
  pub lines : List Line
  pub input : IsInput before after bytes
  pub script : IsScript (lines_of bytes) kept.header lines
  pub played : PlaysOut kept.header lines kept.events text

-- the input spells no script, and the text names its first refused line
pub record Refuses (before after : Supply) (text : List ℕ) : Type 0 where
  pub bytes : List ℕ
  pub line : ℕ
  pub kind : BadKind
  pub input : IsInput before after bytes
  pub refused : IsRefused (lines_of bytes) line kind
  pub printed : text ≡ refusal_text line kind

-- the source failed
pub record FailsToRead (before after : Supply) (text : List ℕ) : Type 0 where
  pub faults : Rises before.faults after.faults
  pub printed : text ≡ codes "read fault\n"

-- the input is too long
pub record ReadsTooMuch (before after : Supply) (text : List ℕ) : Type 0 where
  pub more : HasMore input_limit before.left
  pub count : RisesBy before.given after.given (input_limit + 1)
  pub printed : text ≡ codes "input too long\n"

-- what is kept with a status: nothing where memory ran out
abbrev pub kept_with : Status → Kept → Kept
kept_with NoMemory kept = None
kept_with _ kept = kept

-- a run may answer with this status and this text, and keep this
abbrev pub Answers : Supply → Supply → Kept → Status → List ℕ → Type 0
Answers before after (Some kept) Done text = Plays before after kept text
Answers before after None BadScript text = Refuses before after text
Answers before after None ReadFault text = FailsToRead before after text
Answers before after None TooLong text = ReadsTooMuch before after text
Answers before after None NoMemory text = text ≡ []
Answers before after _ _ text = ⊥

-- the text was written whole
abbrev pub Wrote : Held → Held → List ℕ → Type 0
Wrote sink sink' text = Appends sink.bytes sink'.bytes text

-- a front of the text was written
abbrev pub WroteFront : Held → Held → List ℕ → Type 0
WroteFront sink sink' text = WritesFront sink.bytes sink'.bytes text

-- a front of what some answer would have written
pub record WroteFrontOfAnswer (before after : Supply) (kept : Kept) (sink sink' : Held) : Type 0 where
  pub status : Status
  pub text : List ℕ
  pub answer : Answers before after kept status text
  pub front : WroteFront sink sink' text

-- any status but want of memory says what the input was
abbrev pub SaysOfInput : Status → Type 0
SaysOfInput NoMemory = ⊥
SaysOfInput _ = Unit {0}

-- a front of what an answer about the input would have written; so a cluster is kept exactly where the input spells a script
pub record WroteFrontOfInput (before after : Supply) (kept : Kept) (sink sink' : Held) : Type 0 where
  pub status : Status
  pub text : List ℕ
  pub says : SaysOfInput status
  pub answer : Answers before after kept status text
  pub front : WroteFront sink sink' text

-- what some answer of this status would write was written whole
pub record WroteAnswer (before after : Supply) (kept : Kept) (sink sink' : Held) (status : Status) : Type 0 where
  pub text : List ℕ
  pub answer : Answers before after kept status text
  pub whole : Wrote sink sink' text

-- what a run leaves with this status; what was kept is let go where memory ran out in writing
abbrev pub Ends : Supply → Supply → Kept → Held → Held → Status → Type 0
Ends before after kept sink sink' WriteFault = Rises sink.faults sink'.faults × WroteFrontOfInput before after kept sink sink'
Ends before after kept sink sink' NoMemory = (kept ≡ None) × ((let_go : Kept) × WroteFrontOfAnswer before after let_go sink sink')
Ends before after kept sink sink' status = WroteAnswer before after kept sink sink' status

-- the status is one of a run, and the run left what it says
pub record EndsWith (before after : Supply) (kept : Kept) (sink sink' : Held) (code : ℕ) : Type 0 where
  pub status : Status
  pub code_is : code ≡ code_of status
  pub ends : Ends before after kept sink sink' status

-- no such script stands in the input, where told
abbrev pub IsNoScript : Supply → Type 0
IsNoScript before = IfSome before.left (λ bytes. (header : Header) (lines : List Line) → IsScript (lines_of bytes) header lines → ⊥)

-- why there is no transcript
abbrev pub StopsFor : Supply → Supply → Stop → Type 0
StopsFor before after (stop.BadScript line kind) = (bytes : List ℕ) × IsInput before after bytes × IsRefused (lines_of bytes) line kind
StopsFor before after stop.ReadFault = Rises before.faults after.faults
StopsFor before after stop.TooLong = HasMore input_limit before.left × RisesBy before.given after.given (input_limit + 1)
StopsFor before after stop.NoMemory = Unit {0}

-- how the writing of a text for a status ends: whole, or short for a fault of the sink or want of memory
abbrev pub Finishes : Held → Held → Status → List ℕ → Status → Type 0
Finishes sink sink' status text ended =
    ((ended ≡ status) × Wrote sink sink' text)
    ⊎ (((ended ≡ WriteFault) × Rises sink.faults sink'.faults × WroteFront sink sink' text)
    ⊎ ((ended ≡ NoMemory) × WroteFront sink sink' text))

-- the words that are known
abbrev pub IsAlone : List (String Global) → Type 0
IsAlone words = map string_bytes words ≡ codes "alone" ∷ []

-- words that are not known are refused, unless the sink fails or memory runs out
abbrev pub RefusesWords : Held → Held → ℕ → Type 0
RefusesWords sink sink' code = (status : Status) × (code ≡ code_of status) × Finishes sink sink' BadWords (codes "words\n") status
