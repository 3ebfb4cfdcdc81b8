-- Which events a journal's text can show, and what it shows of them.
use Rattle.std.specs.Prelude.{ℕ, ◌≡◌, ◌<◌, ◌≤◌, ◌^◌, List, length, replicate}
use Rattle.std.specs.List.{AllByRecursion}
use Rattle.tl_types.specs.Path.{IsComponent}
use Rattle.tl_types.specs.Outcome.{digest_of}
use Rattle.tl_types.specs.declared.digest.Digest.{Digest}
use Rattle.tl_types.specs.declared.file_id.FileId.{FileId}
use Rattle.tl_types.specs.declared.outcome.Outcome.TheVariants.{Value}
use Rattle.tl_types.specs.declared.record_id.RecordId.{RecordId}
use Rattle.tl_types.specs.declared.worker_id.WorkerId.{WorkerId}
use Rattle.tl_model.specs.declared.command.Command.{Command}
use Rattle.tl_model.specs.declared.command.Command.TheVariants.{Put}
use Rattle.tl_model.specs.declared.event.Act.{Act}
use Rattle.tl_model.specs.declared.event.Act.TheVariants.{Call, Served, Shut, Claim, Done, Back, Lose, Free, Drop, Load, Save, Saved, Unsave, Collect}
use Rattle.tl_model.specs.declared.event.Event.{Event}
use Rattle.tl_model.specs.declared.header.Header.{Header}
use Rattle.tl_model.specs.declared.reply.Entry.{Entry}
use Rattle.tl_model.specs.declared.reply.Reply.{Reply}
use Rattle.tl_model.specs.declared.reply.Reply.TheVariants.{Made, Opened, Listed, Stated}
use Rattle.tl_model.specs.declared.reply.Status.TheVariants.{File, Dir}
use Rattle.tl_script.specs.Commands.{AreBytes, IsOp}
use Rattle.tl_script.specs.Script.{IsHeader}
use Rattle.tl_spelling.specs.Commands.{op_of}

-- ---- what can be shown

abbrev pub IsRecord : RecordId → Type 0
IsRecord made = made.0 < 2 ^ 32

abbrev pub IsWorker : WorkerId → Type 0
IsWorker worker = worker.0 < 256

abbrev pub IsFile : FileId → Type 0
IsFile file = IsRecord file.rec × (file.out < 256)

abbrev pub IsSum : Digest → Type 0
IsSum digest = AreBytes digest.0 × (length digest.0 ≡ 32)

-- a child's name is a component of a path
abbrev pub IsEntry : Entry → Type 0
IsEntry entry = IsComponent entry.name

abbrev pub IsReply : Reply → Type 0
IsReply (Made made) = IsRecord made
IsReply (Opened file) = IsFile file
IsReply (Listed entries) = AllByRecursion IsEntry entries × (length entries < 2 ^ 64)
IsReply (Stated (File file pinned)) = IsFile file
IsReply (Stated (Dir children)) = children < 2 ^ 64
IsReply reply = Unit {0}

abbrev pub IsAct : Header → Act (List ℕ) → Type 0
IsAct header (Call command reply) = IsReply reply × IsOp header (op_of command)
IsAct header (Served file digest) = IsFile file × IsSum digest
IsAct header (Shut file) = IsFile file
IsAct header (Claim worker made) = IsWorker worker × IsRecord made
IsAct header (Done worker made) = IsWorker worker × IsRecord made
IsAct header (Back made) = IsRecord made
IsAct header (Lose worker) = IsWorker worker
IsAct header (Free file) = IsFile file
IsAct header (Drop worker file) = IsWorker worker × IsFile file
IsAct header (Load worker file) = IsWorker worker × IsFile file
IsAct header (Save file) = IsFile file
IsAct header (Saved file size digest) = IsFile file
IsAct header (Unsave file) = IsFile file
IsAct header (Collect made) = IsRecord made

-- an event of a journal with this header
abbrev pub IsEvent : Header → Event (List ℕ) → Type 0
IsEvent header event = (event.actor.0 ≤ 15) × IsAct header event.act

-- a journal that a text can show
pub record IsJournal (header : Header) (events : List (Event (List ℕ))) : Type 0 where
  pub limits : IsHeader header
  pub count : length events < 2 ^ 64
  pub each : AllByRecursion (IsEvent header) events

-- ---- what is shown

-- a put's bytes stand for their length and digest
abbrev pub shown_command : Command (List ℕ) → Command (List ℕ)
shown_command (Put path len digest bytes) =
    Put path (length bytes) (record { 0 = digest_of (Value bytes) }) bytes
shown_command command = command

-- the size and the digest of what was saved are not shown; 0 and zeros stand in their place
abbrev pub shown_act : Act (List ℕ) → Act (List ℕ)
shown_act (Call command reply) = Call (shown_command command) reply
shown_act (Saved file size digest) = Saved file 0 (record { 0 = replicate 32 0 })
shown_act act = act

abbrev pub shown : Event (List ℕ) → Event (List ℕ)
shown event = record { actor = event.actor; act = shown_act event.act }
