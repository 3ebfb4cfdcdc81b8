-- What the lines of a script leave in the journal, and what is printed of them.
use Rattle.std.specs.Prelude.{◌≡◌, ◌≤◌, ◌%◌, ◌==◌, ℕ, zero, suc, true, List, [], ◌∷◌, ◌++◌, if◌then◌else◌, reverse, Ok}
use Rattle.tl_types.specs.declared.actor.Actor.{Actor}
use Rattle.tl_types.specs.declared.worker_id.WorkerId.{WorkerId}
use Rattle.tl_model.specs.declared.answer.Answer.{Answer}
use Rattle.tl_model.specs.declared.answer.Answer.TheVariants as answer
use Rattle.tl_model.specs.declared.command.Command.{Command}
use Rattle.tl_model.specs.declared.command.Command.TheVariants as command
use Rattle.tl_model.specs.declared.command.Form.{Form}
use Rattle.tl_model.specs.declared.command.Form.TheVariants as form
use Rattle.tl_model.specs.declared.event.Act.TheVariants as act
use Rattle.tl_model.specs.declared.header.Header.{Header}
use Rattle.tl_model.specs.declared.header.OrderRule.{OrderRule}
use Rattle.tl_model.specs.History.{calls_of, reply_after}
use Rattle.tl_model.specs.Rules.{holds, is_lawful}
use Rattle.tl_core.specs.State.{undropped_judge}
use Rattle.tl_client.specs.Pieces.{Events, told, IsSaid, IsPut, IsRead, IsTried, IsWorked}
use Rattle.tl_report.specs.Words.{transcript_line}
use Rattle.tl_script.specs.declared.script.Line.{Line}
use Rattle.tl_script.specs.declared.script.Op.{Op}
use Rattle.tl_script.specs.declared.script.Op.TheVariants.{Put, Job, Read, Delete, Mkdir, Rename, Pin, Unpin, List as ListNames, Stat, Free, Lose, Work}
use Rattle.tl_script.specs.Places.{client_limit}
use Rattle.tl_script.specs.Commands.{IsOp}

-- the actor of a client
abbrev pub client : ℕ → Actor
client c = record { 0 = c }

-- the worker on which a client's reads run what they need
abbrev pub worker_of : Header → ℕ → WorkerId
worker_of header c = record { 0 = c % header.workers }

-- a client's command, as a script of the header may have it
abbrev pub IsLine : Header → Line → Type 0
IsLine header line = (line.client ≤ client_limit) × IsOp header line.op

-- a read waits for its file, or tries once
abbrev pub IsReadAs : OrderRule → Events → Events → Actor → WorkerId → List (List ℕ) → ℕ → Form → Answer → Type 0
IsReadAs order before after actor worker path prio form.Cat said =
    IsRead order before after actor worker (command.Read path prio form.Cat) (reply_after (calls_of before) (command.Read path prio form.Cat)) said
IsReadAs order before after actor worker path prio form.Sum said =
    IsRead order before after actor worker (command.Read path prio form.Sum) (reply_after (calls_of before) (command.Read path prio form.Sum)) said
IsReadAs order before after actor worker path prio form.Try said =
    IsTried before after actor worker (command.Read path prio form.Try) (reply_after (calls_of before) (command.Read path prio form.Try)) said

-- what a client's command leaves in the journal, and what the client is answered
abbrev pub IsPiece : Header → Events → Events → ℕ → Op → Answer → Type 0
IsPiece header before after c (Put path text) said = IsPut before after (client c) path text said
IsPiece header before after c (Job core prio inputs outputs) said = IsSaid before after (client c) (command.Job core prio inputs outputs) said
IsPiece header before after c (Read path prio form) said = IsReadAs header.order before after (client c) (worker_of header c) path prio form said
IsPiece header before after c (Delete path) said = IsSaid before after (client c) (command.Delete path) said
IsPiece header before after c (Mkdir path) said = IsSaid before after (client c) (command.Mkdir path) said
IsPiece header before after c (Rename from to) said = IsSaid before after (client c) (command.Rename from to) said
IsPiece header before after c (Pin path) said = IsSaid before after (client c) (command.Pin path) said
IsPiece header before after c (Unpin path) said = IsSaid before after (client c) (command.Unpin path) said
IsPiece header before after c (ListNames path) said = IsSaid before after (client c) (command.List path) said
IsPiece header before after c (Stat path) said = IsSaid before after (client c) (command.Stat path) said
IsPiece header before after c (Free path) said = IsSaid before after (client c) (command.Free path) said
IsPiece header before after c (Lose lost) said =
    (said ≡ answer.Lost lost) × (after ≡ record { actor = client c; act = act.Lose lost } ∷ before)
IsPiece header before after c (Work at n) said = IsWorked header.order before after (client c) at n said

-- how the answer of a command is printed
abbrev pub form_of : Op → Form
form_of (Read path prio form) = form
form_of op = form.Cat

-- a printed line, and the client whose command it answers
pub record Printed : Type 0 where
  pub client : ℕ
  pub text : List ℕ

abbrev pub printed_of : Line → Answer → Printed
printed_of line said = record { client = line.client; text = transcript_line line.client (Ok said) (form_of line.op) }

-- these lines were done one after another, the last first, from an empty journal on; a line was printed of each, the first of
-- them first
abbrev pub Played : Header → List Line → Events → List Printed → Type 0
Played header [] events printed = (events ≡ []) × (printed ≡ [])
Played header (line ∷ earlier) events printed =
    (before : Events) × (others : List Printed) × (said : Answer) × Played header earlier before others
    × IsPiece header before events line.client line.op said × (printed ≡ others ++ (printed_of line said ∷ []))

-- the lines that were printed of a client, in their order
abbrev pub client_text : ℕ → List Printed → List ℕ
client_text client [] = []
client_text client (line ∷ later) = (if line.client == client then line.text else []) ++ client_text client later

-- the lines of the clients below a number, one client after another
abbrev pub texts_below : ℕ → List Printed → List ℕ
texts_below zero printed = []
texts_below (suc n) printed = texts_below n printed ++ client_text n printed

-- the lines in the order in which they are written: those of each client together, the clients in ascending order
abbrev pub transcript : List Printed → List ℕ
transcript printed = texts_below (suc client_limit) printed

-- the lines were done in order, and left a journal that is lawful, and legal but for what is said of drops; the text is what was
-- printed of them
pub record PlaysOut (header : Header) (lines : List Line) (events : Events) (text : List ℕ) : Type 0 where
  pub printed : List Printed
  pub played : Played header (reverse lines) events printed
  pub text_is : text ≡ transcript printed
  pub lawful : is_lawful header events ≡ true
  pub legal : holds (undropped_judge header) header (told events) ≡ true
