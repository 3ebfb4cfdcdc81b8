-- The history in a past: its calls, the names that they leave, and the records that they add.
use Rattle.std.specs.Prelude.{ℕ, zero, suc, ◌+◌, nat_lt, Bool, true, false, ◌&&◌, List, [], ◌∷◌, ◌++◌, length, Option, Some, None, slice_get}
use Rattle.std.specs.List.{flat_map, list_any}
use Rattle.tl_types.specs.Same.{file_same, record_same}
use Rattle.tl_types.specs.declared.actor.Actor.{Actor}
use Rattle.tl_types.specs.declared.file_id.FileId.{FileId}
use Rattle.tl_types.specs.declared.record_id.RecordId.{RecordId}
use Rattle.tl_model.specs.declared.command.Command.{Command}
use Rattle.tl_model.specs.declared.command.Command.TheVariants.{Put, Job, Delete, Mkdir, Rename, Pin, Unpin}
use Rattle.tl_model.specs.declared.reply.Reply.{Reply}
use Rattle.tl_model.specs.declared.reply.Reply.TheVariants.{Made, Fine}
use Rattle.tl_model.specs.declared.record.Record.{Record}
use Rattle.tl_model.specs.declared.record.Record.TheVariants as kind
use Rattle.tl_model.specs.declared.event.Act.{Act}
use Rattle.tl_model.specs.declared.event.Act.TheVariants.{Call}
use Rattle.tl_model.specs.declared.event.Event.{Event}
use Rattle.tl_model.specs.Namespace.{PathOf, Node, dir, file, Names, no_names, node_at, with_name, without_name, with_outputs, with_moved, with_pinned}
use Rattle.tl_model.specs.Replies.{reply_to}
use Rattle.tl_model.specs.Past.{Past}

-- a call with its reply
pub record CallOf (T : Type 0) : Type 0 where
  pub actor : Actor
  pub command : Command T
  pub reply : Reply

-- the calls, the newest first
abbrev pub HistoryOf : Type 0 → Type 0
HistoryOf T = List (CallOf T)

abbrev pub with_call : {T : Type 0} → Actor → Act T → HistoryOf T → HistoryOf T
with_call actor (Call command reply) calls = record { actor = actor; command = command; reply = reply } ∷ calls
with_call actor _ calls = calls

abbrev pub calls_of : {T : Type 0} → List (Event T) → HistoryOf T
calls_of [] = []
calls_of (e ∷ past) = with_call e.actor e.act (calls_of past)

-- the names after a call that was answered so
abbrev pub names_after : {T : Type 0} → Reply → Command T → Names → Names
names_after (Made made) (Put path len digest ticket) names = with_name names path (file (record { rec = made; out = 0 }) false)
names_after (Made made) (Job core prio inputs outputs) names = with_outputs names made 0 outputs
names_after Fine (Delete path) names = without_name names path
names_after Fine (Mkdir path) names = with_name names path dir
names_after Fine (Rename from to) names = with_moved names from to
names_after Fine (Pin path) names = with_pinned names path true
names_after Fine (Unpin path) names = with_pinned names path false
names_after _ _ names = names

abbrev pub names_of : {T : Type 0} → HistoryOf T → Names
names_of [] = no_names
names_of (call ∷ calls) = names_after call.reply call.command (names_of calls)

-- what a node adds to a list of files
abbrev pub file_at : Option Node → List FileId → List FileId
file_at None files = files
file_at (Some dir) files = files
file_at (Some (file f pinned)) files = f ∷ files

-- the files that paths name
abbrev pub files_at : Names → List PathOf → List FileId
files_at names [] = []
files_at names (path ∷ paths) = file_at (node_at names path) (files_at names paths)

-- the record that a call adds, if it adds one
abbrev pub record_made : {T : Type 0} → Reply → Command T → Names → List Record
record_made (Made made) (Put path len digest ticket) names = kind.Put made ∷ []
record_made (Made made) (Job core prio inputs outputs) names = kind.Job made core prio (files_at names inputs) (length outputs) ∷ []
record_made _ _ names = []

-- the accepted puts and jobs, in order
abbrev pub records_of : {T : Type 0} → HistoryOf T → List Record
records_of [] = []
records_of (call ∷ calls) = records_of calls ++ record_made call.reply call.command (names_of calls)

-- the reply that the history determines
abbrev pub reply_after : {T : Type 0} → HistoryOf T → Command T → Reply
reply_after calls command = reply_to (names_of calls) (length (records_of calls)) command

-- ---- the same of a past

abbrev pub names : Past → Names
names past = names_of (calls_of past)

abbrev pub records : Past → List Record
records past = records_of (calls_of past)

abbrev pub record_at : Past → RecordId → Option Record
record_at past made = slice_get (records past) made.0

-- ---- records

abbrev pub id_of : Record → RecordId
id_of (kind.Put id) = id
id_of (kind.Job id core prio inputs outputs) = id

abbrev pub is_job : Record → Bool
is_job (kind.Put id) = false
is_job (kind.Job id core prio inputs outputs) = true

abbrev pub inputs_of : Record → List FileId
inputs_of (kind.Put id) = []
inputs_of (kind.Job id core prio inputs outputs) = inputs

abbrev pub output_count : Record → ℕ
output_count (kind.Put id) = 1
output_count (kind.Job id core prio inputs outputs) = outputs

-- the job's own priority
abbrev pub own_prio : Record → ℕ
own_prio (kind.Put id) = 0
own_prio (kind.Job id core prio inputs outputs) = prio

-- a record's outputs from number k on, n of them
abbrev pub files_from : RecordId → ℕ → ℕ → List FileId
files_from id k zero = []
files_from id k (suc n) = record { rec = id; out = k } ∷ files_from id (k + 1) n

abbrev pub outputs_of : Record → List FileId
outputs_of r = files_from (id_of r) 0 (output_count r)

-- all files, by record and then by output
abbrev pub files : Past → List FileId
files past = flat_map outputs_of (records past)

abbrev pub has_output : Option Record → ℕ → Bool
has_output None k = false
has_output (Some r) k = nat_lt k (output_count r)

-- whether the file is an output of the record of this number
abbrev pub is_output : Past → FileId → RecordId → Bool
is_output past f made = record_same f.rec made && has_output (record_at past made) f.out

abbrev pub has_input : FileId → Record → Bool
has_input f r = list_any (file_same f) (inputs_of r)

-- ---- names of files

abbrev pub is_file_node : FileId → Node → Bool
is_file_node f dir = false
is_file_node f (file g pinned) = file_same f g

abbrev pub is_pinned_node : FileId → Node → Bool
is_pinned_node f dir = false
is_pinned_node f (file g pinned) = file_same f g && pinned

abbrev pub is_named : Past → FileId → Bool
is_named past f = list_any (λ entry. is_file_node f entry.1) (names past)

abbrev pub is_pinned : Past → FileId → Bool
is_pinned past f = list_any (λ entry. is_pinned_node f entry.1) (names past)
