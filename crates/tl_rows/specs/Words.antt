-- Short words for writing journals.
use Rattle.std.specs.Prelude.{ℕ, List, [], ◌∷◌, length}
use Rattle.sha2.specs.Sha256.{sha256}
use Rattle.tl_types.specs.declared.digest.Digest.{Digest}
use Rattle.tl_types.specs.declared.file_id.FileId.{FileId}
use Rattle.tl_types.specs.declared.record_id.RecordId.{RecordId}
use Rattle.tl_types.specs.declared.worker_id.WorkerId.{WorkerId}
use Rattle.tl_lang.specs.declared.expr.Expr.{Expr, Text, Input, Cat}
use Rattle.tl_lang.specs.declared.job.JobSpecCore.{JobSpecCore}
use Rattle.tl_model.specs.declared.command.Command.{Command}
use Rattle.tl_model.specs.declared.command.Command.TheVariants as command
use Rattle.tl_model.specs.declared.command.Form.TheVariants as form
use Rattle.tl_model.specs.declared.header.Header.{Header}
use Rattle.tl_model.specs.declared.header.OrderRule.TheVariants.{Strict, Shares}
use Rattle.tl_model.specs.declared.header.Version.TheVariants.{One}
use Rattle.tl_model.specs.declared.reply.Reply.{Reply}
use Rattle.tl_model.specs.declared.reply.Reply.TheVariants as reply
use Rattle.tl_model.specs.declared.event.Act.{Act}
use Rattle.tl_model.specs.declared.event.Act.TheVariants as act
use Rattle.tl_model.specs.declared.event.Event.{Event}
use Rattle.tl_model.specs.Namespace.{PathOf}

abbrev pub id : ℕ → RecordId
id n = record { 0 = n }

abbrev pub file_of : ℕ → ℕ → FileId
file_of n k = record { rec = id n; out = k }

abbrev pub worker : ℕ → WorkerId
worker n = record { 0 = n }

abbrev pub header : ℕ → ℕ → ℕ → Header
header workers capacity hot =
    record { workers = workers; capacity = capacity; hot = hot; order = Strict; version = One }

-- the same where each priority gets its share of the claims
abbrev pub sharing : ℕ → ℕ → ℕ → Header
sharing workers capacity hot =
    record { workers = workers; capacity = capacity; hot = hot; order = Shares; version = One }

-- Journals are written over a digest, so that they can be judged by SHA-256 or by a digest that is quickly found.
abbrev pub DigestOf : Type 0
DigestOf = List ℕ → Digest

-- the text as its own digest
abbrev pub itself : DigestOf
itself text = record { 0 = text }

abbrev pub hashed : DigestOf
hashed text = record { 0 = sha256 text }

-- an event with a put's bytes as its ticket
abbrev pub Line : Type 0
Line = Event (List ℕ)

-- a path below `/` with one component
abbrev pub at : List ℕ → PathOf
at name = name ∷ []

abbrev pub by : ℕ → Act (List ℕ) → Line
by n act = record { actor = record { 0 = n }; act = act }

abbrev pub call : ℕ → Reply → Command (List ℕ) → Line
call n answer asked = by n (act.Call asked answer)

abbrev pub put : DigestOf → List ℕ → List ℕ → Command (List ℕ)
put digest name text = command.Put (at name) (length text) (digest text) text

-- a put that says this length of itself
abbrev pub put_of_length : ℕ → DigestOf → List ℕ → List ℕ → Command (List ℕ)
put_of_length len digest name text = command.Put (at name) len (digest text) text

abbrev pub core_of : List Expr → ℕ → ℕ → JobSpecCore
core_of outputs inputs fuel = record { program = record { program = record { outputs = outputs }; inputs = inputs; outputs = length outputs }; conf = []; fuel = fuel }

-- a job of this priority that makes the outputs, from the inputs, at the paths
abbrev pub job : ℕ → List Expr → List PathOf → List PathOf → Command (List ℕ)
job prio outputs inputs paths = command.Job (core_of outputs (length inputs) 10) prio inputs paths

-- the same with a configuration and this fuel
abbrev pub set_job : List (List ℕ × List ℕ) → ℕ → ℕ → List Expr → List PathOf → List PathOf → Command (List ℕ)
set_job conf fuel prio outputs inputs paths = command.Job (record { program = (core_of outputs (length inputs) fuel).program; conf = conf; fuel = fuel }) prio inputs paths

-- a program with one output, the one input and then the text
abbrev pub then_text : List ℕ → List Expr
then_text text = Cat (Input 0) (Text text) ∷ []

-- a program with one output, the text
abbrev pub only_text : List ℕ → List Expr
only_text text = Text text ∷ []

-- a program with one output, the first of two inputs and then the second
abbrev pub both_inputs : List Expr
both_inputs = Cat (Input 0) (Input 1) ∷ []

abbrev pub cat : ℕ → List ℕ → Command (List ℕ)
cat prio name = command.Read (at name) prio form.Cat

abbrev pub delete : List ℕ → Command (List ℕ)
delete name = command.Delete (at name)

abbrev pub pin : List ℕ → Command (List ℕ)
pin name = command.Pin (at name)

abbrev pub free : List ℕ → Command (List ℕ)
free name = command.Free (at name)

-- ---- events

abbrev pub claim : ℕ → ℕ → ℕ → Line
claim actor n made = by actor (act.Claim (worker n) (id made))

abbrev pub done : ℕ → ℕ → ℕ → Line
done actor n made = by actor (act.Done (worker n) (id made))

abbrev pub back : ℕ → ℕ → Line
back actor made = by actor (act.Back (id made))

abbrev pub lose : ℕ → ℕ → Line
lose actor n = by actor (act.Lose (worker n))

abbrev pub collect : ℕ → ℕ → Line
collect actor made = by actor (act.Collect (id made))

abbrev pub served : DigestOf → ℕ → FileId → List ℕ → Line
served digest actor f text = by actor (act.Served f (digest text))

abbrev pub saved : DigestOf → ℕ → FileId → List ℕ → Line
saved digest actor f text = by actor (act.Saved f (length text) (digest text))

-- a save that says this length of the file
abbrev pub saved_of_length : ℕ → DigestOf → ℕ → FileId → List ℕ → Line
saved_of_length len digest actor f text = by actor (act.Saved f len (digest text))

abbrev pub shut : ℕ → FileId → Line
shut actor f = by actor (act.Shut f)

abbrev pub save : ℕ → FileId → Line
save actor f = by actor (act.Save f)

abbrev pub unsave : ℕ → FileId → Line
unsave actor f = by actor (act.Unsave f)

abbrev pub load : ℕ → ℕ → FileId → Line
load actor n f = by actor (act.Load (worker n) f)

abbrev pub evict : ℕ → ℕ → FileId → Line
evict actor n f = by actor (act.Drop (worker n) f)

abbrev pub freed : ℕ → FileId → Line
freed actor f = by actor (act.Free f)

abbrev pub made : ℕ → Reply
made n = reply.Made (id n)

abbrev pub opened : ℕ → ℕ → Reply
opened n k = reply.Opened (file_of n k)
