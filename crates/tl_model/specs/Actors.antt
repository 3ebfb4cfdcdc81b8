-- What each actor has under way: an open read, claim or save.
use Rattle.std.specs.Prelude.{ℕ, Bool, false, ◌&&◌, List, [], ◌∷◌, map, filter, Option, Some, None, is_none, if◌then◌else◌}
use Rattle.std.specs.List.{list_any}
use Rattle.tl_types.specs.Same.{actor_same, file_same, record_same, worker_same}
use Rattle.tl_types.specs.declared.actor.Actor.{Actor}
use Rattle.tl_types.specs.declared.file_id.FileId.{FileId}
use Rattle.tl_types.specs.declared.record_id.RecordId.{RecordId}
use Rattle.tl_types.specs.declared.worker_id.WorkerId.{WorkerId}
use Rattle.tl_model.specs.declared.command.Command.{Command}
use Rattle.tl_model.specs.declared.command.Command.TheVariants.{Read}
use Rattle.tl_model.specs.declared.reply.Reply.{Reply}
use Rattle.tl_model.specs.declared.reply.Reply.TheVariants.{Opened}
use Rattle.tl_model.specs.declared.event.Act.{Act}
use Rattle.tl_model.specs.declared.event.Act.TheVariants.{Call, Served, Shut, Claim, Done, Back, Lose, Save, Saved, Unsave}
use Rattle.tl_model.specs.Past.{Past}

-- an actor's own part of the past
abbrev pub part_of : Actor → Past → Past
part_of actor past = filter (λ e. actor_same actor e.actor) past

-- a read that was opened: of this file, with this priority
pub record OpenRead : Type 0 where
  pub file : FileId
  pub prio : ℕ

-- a job that was claimed on a worker
pub record OpenClaim : Type 0 where
  pub worker : WorkerId
  pub made : RecordId

abbrev pub read_after_call : {T : Type 0} → Reply → Command T → Option OpenRead → Option OpenRead
read_after_call (Opened file) (Read path prio form) before = Some (record { file = file; prio = prio })
read_after_call _ _ before = before

abbrev pub read_after : Act (Unit {0}) → Option OpenRead → Option OpenRead
read_after (Call command reply) before = read_after_call reply command before
read_after (Served file digest) before = None
read_after (Shut file) before = None
read_after _ before = before

-- an actor's read is open from its Opened to its Served or Shut
abbrev pub open_read : Past → Actor → Option OpenRead
open_read [] actor = None
open_read (e ∷ past) actor = if actor_same actor e.actor then read_after e.act (open_read past actor) else open_read past actor

abbrev pub claim_after : Act (Unit {0}) → Option OpenClaim → Option OpenClaim
claim_after (Claim worker made) before = Some (record { worker = worker; made = made })
claim_after (Done worker made) before = None
claim_after (Back made) before = None
claim_after _ before = before

abbrev pub is_on : WorkerId → Option OpenClaim → Bool
is_on worker None = false
is_on worker (Some claim) = worker_same worker claim.worker

-- a worker's loss closes every claim on it
abbrev pub claim_after_loss : Act (Unit {0}) → Option OpenClaim → Option OpenClaim
claim_after_loss (Lose worker) before = if is_on worker before then None else before
claim_after_loss _ before = before

-- an actor's claim is open from its Claim to its Done or Back, or to a Lose of the worker
abbrev pub open_claim : Past → Actor → Option OpenClaim
open_claim [] actor = None
open_claim (e ∷ past) actor =
    claim_after_loss e.act (if actor_same actor e.actor then claim_after e.act (open_claim past actor) else open_claim past actor)

abbrev pub save_after : Act (Unit {0}) → Option FileId → Option FileId
save_after (Save file) before = Some file
save_after (Saved file size digest) before = None
save_after (Unsave file) before = None
save_after _ before = before

-- an actor's save is open from its Save to its Saved or Unsave
abbrev pub open_save : Past → Actor → Option FileId
open_save [] actor = None
open_save (e ∷ past) actor = if actor_same actor e.actor then save_after e.act (open_save past actor) else open_save past actor

-- ---- over all actors

abbrev pub actors : List Actor
actors = map (λ n. record { 0 = n }) (0 ∷ 1 ∷ 2 ∷ 3 ∷ 4 ∷ 5 ∷ 6 ∷ 7 ∷ 8 ∷ 9 ∷ 10 ∷ 11 ∷ 12 ∷ 13 ∷ 14 ∷ 15 ∷ [])

abbrev pub reads_file : FileId → Option OpenRead → Bool
reads_file f None = false
reads_file f (Some read) = file_same f read.file

-- a read on the file is open
abbrev pub is_read : Past → FileId → Bool
is_read past f = list_any (λ actor. reads_file f (open_read past actor)) actors

abbrev pub claims_record : RecordId → Option OpenClaim → Bool
claims_record made None = false
claims_record made (Some claim) = record_same made claim.made

-- a claim on the record is open
abbrev pub is_running : Past → RecordId → Bool
is_running past made = list_any (λ actor. claims_record made (open_claim past actor)) actors

abbrev pub saves_file : FileId → Option FileId → Bool
saves_file f None = false
saves_file f (Some g) = file_same f g

-- a save of the file is open
abbrev pub is_being_saved : Past → FileId → Bool
is_being_saved past f = list_any (λ actor. saves_file f (open_save past actor)) actors

-- the actor has nothing open
abbrev pub is_idle : Past → Actor → Bool
is_idle past actor = is_none (open_read past actor) && is_none (open_claim past actor) && is_none (open_save past actor)
