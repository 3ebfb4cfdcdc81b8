-- The turns of a desk: what each finds, answers and leaves.
use Rattle.std.specs.Prelude.{◌≡◌, ◌≢◌, ◌⊎◌, ◌≤◌, ◌<◌, ℕ, zero, suc, Bool, true, false, List, [], ◌∷◌, length, map, Option, Some, None, option_map}
use Rattle.std.specs.List.{AllByRecursion}
use Rattle.tl_types.specs.Block.{FileOutcome}
use Rattle.tl_types.specs.Outcome.{digest_of}
use Rattle.tl_types.specs.declared.actor.Actor.{Actor}
use Rattle.tl_types.specs.declared.digest.Digest.{Digest}
use Rattle.tl_types.specs.declared.file_id.FileId.{FileId}
use Rattle.tl_types.specs.declared.record_id.RecordId.{RecordId}
use Rattle.tl_types.specs.declared.worker_id.WorkerId.{WorkerId}
use Rattle.tl_model.specs.declared.command.Command.{Command}
use Rattle.tl_model.specs.declared.event.Act.{Act}
use Rattle.tl_model.specs.declared.event.Act.TheVariants.{Back, Claim, Collect, Done, Save}
use Rattle.tl_model.specs.declared.event.Event.{Event}
use Rattle.tl_model.specs.declared.record.Record.TheVariants as kind
use Rattle.tl_model.specs.declared.reply.Reply.{Reply}
use Rattle.tl_model.specs.Actors.{OpenRead, open_claim, open_read}
use Rattle.tl_model.specs.Checkpoints.{next_save}
use Rattle.tl_model.specs.History.{calls_of, outputs_of, record_at, reply_after}
use Rattle.tl_model.specs.Journal.{call_count}
use Rattle.tl_model.specs.Needs.{garbage}
use Rattle.tl_model.specs.Past.{events_with, without_tickets}
use Rattle.tl_model.specs.Plan.{next}
use Rattle.tl_model.specs.Residency.{is_available, is_resident, saved_as}
use Rattle.tl_model.specs.Values.{value}
use Rattle.tl_laws_drops.specs.Drops.{DropsFollow}
use Rattle.tl_cluster.specs.declared.look.Look.{Look}
use Rattle.tl_cluster.specs.declared.look.Look.TheVariants as look
use Rattle.tl_cluster.specs.declared.saving.SaveJob.{SaveJob}
use Rattle.tl_cluster.specs.declared.work.Feed.{Feed}
use Rattle.tl_cluster.specs.declared.work.Feed.TheVariants.{Have, Kept}
use Rattle.tl_cluster.specs.declared.work.Finish.{Finish}
use Rattle.tl_cluster.specs.declared.work.Finish.TheVariants as finish
use Rattle.tl_cluster.specs.declared.work.Work.{Work}
use Rattle.tl_cluster.specs.Called.{after_call}
use Rattle.tl_cluster.specs.Looks.{IsSavedOf, loading, serving}
use Rattle.tl_cluster.specs.Losses.{incarnation}
use Rattle.tl_cluster.specs.Saves.{saved_block}
use Rattle.tl_cluster.specs.Works.{file_of}
use Rattle.tl_desk.specs.Finds.{Finds, Post, Stays, Turns}

-- the events with one more of the actor
abbrev pub with_act : {T : Type 0} → Actor → Act T → List (Event T) → List (Event T)
with_act actor act events = record { actor = actor; act = act } ∷ events

-- a block of the file; where the bytes are told, it holds what the file does
abbrev pub IsBlockOf : {T : Type 0} → Bool → (T → List ℕ) → List (Event T) → FileId →
    FileOutcome → Type 0
IsBlockOf tells content events f block =
    (block.file ≡ f) × (tells ≡ true → block.outcome ≡ value (events_with content events) f)

-- ---- calls

-- a call answers its number in the history and the reply that the history determines, and is
-- recorded, with what follows it
abbrev pub Calls : {T : Type 0} → Bool → Actor → Command T → List (Event T) → List (Event T) →
    ℕ × Reply → Type 0
Calls whole actor command seen new answer =
    Turns whole actor seen new
    (λ found. (answer.0 ≡ call_count found)
    × (answer.1 ≡ reply_after (calls_of found) command))
    (after_call actor command answer.1)

-- ---- reads

-- the actor has a read open on the file
abbrev pub IsReading : {T : Type 0} → List (Event T) → Actor → FileId → Type 0
IsReading events actor f =
    (read : OpenRead) × (open_read (without_tickets events) actor ≡ Some read) × (read.file ≡ f)

-- the file was found in a memory, and this block of it served the read
abbrev pub ServesHeld : {T : Type 0} → Bool → Bool → (T → List ℕ) → Actor → FileId →
    List (Event T) → List (Event T) → FileOutcome → Type 0
ServesHeld whole tells content actor f seen new block =
    (digest : Digest) × (digest.0 ≡ digest_of block.outcome)
    × Turns whole actor seen new
    (λ found. (is_resident (without_tickets found) f ≡ true)
    × IsBlockOf tells content found f block)
    (serving actor block digest)

-- a look at the file of the actor's read: a block of it that was in a memory, which served the
-- read; else what is saved of it; else neither
abbrev pub Looks : {T : Type 0} → Bool → Bool → (T → List ℕ) → Actor → FileId →
    List (Event T) → List (Event T) → Look T → Type 0
Looks whole tells content actor f seen new (look.Have block) =
    ServesHeld whole tells content actor f seen new block
Looks whole tells content actor f seen new (look.Saved saved) =
    Stays whole actor seen new (λ found.
    (is_resident (without_tickets found) f ≡ false) × IsSavedOf tells content found f saved)
Looks whole tells content actor f seen new look.NotYet =
    Stays whole actor seen new (λ found. is_available (without_tickets found) f ≡ false)

-- the file was found saved and in no memory; this block of it came to the worker and served the
-- read
abbrev pub ServesLoaded : {T : Type 0} → Bool → Bool → (T → List ℕ) → Actor → WorkerId →
    List (Event T) → List (Event T) → FileOutcome → Type 0
ServesLoaded whole tells content actor worker seen new block =
    (digest : Digest) × (digest.0 ≡ digest_of block.outcome)
    × Turns whole actor seen new
    (λ found. (is_resident (without_tickets found) block.file ≡ false)
    × (is_available (without_tickets found) block.file ≡ true)
    × IsBlockOf tells content found block.file block)
    (λ found. serving actor block digest (loading actor worker block found))

-- a read for which this block was loaded: it is served by the block that a memory had by then, or
-- by this one, which came to the worker
abbrev pub Serves : {T : Type 0} → Bool → Bool → (T → List ℕ) → Actor → WorkerId → FileOutcome →
    List (Event T) → List (Event T) → FileOutcome → Type 0
Serves whole tells content actor worker block seen new answer =
    ServesHeld whole tells content actor block.file seen new answer
    ⊎ ((answer ≡ block) × ServesLoaded whole tells content actor worker seen new block)

-- the file was saved with the block's size and digest
abbrev pub IsSavedBlock : {T : Type 0} → List (Event T) → FileOutcome → Type 0
IsSavedBlock events block =
    saved_as (without_tickets events) block.file ≡ Some (saved_block block)

-- ---- jobs

-- a block of an input that was in a memory, or what is saved of it
abbrev pub IsFed : {T : Type 0} → Bool → (T → List ℕ) → List (Event T) → FileId → Feed T → Type 0
IsFed tells content events f (Have block) =
    (is_resident (without_tickets events) f ≡ true) × IsBlockOf tells content events f block
IsFed tells content events f (Kept g saved) =
    (g ≡ f) × (is_resident (without_tickets events) f ≡ false)
    × IsSavedOf tells content events f saved

-- one for each file, in order
abbrev pub AreFed : {T : Type 0} → Bool → (T → List ℕ) → List (Event T) → List FileId →
    List (Feed T) → Type 0
AreFed tells content events [] [] = Unit {0}
AreFed tells content events (f ∷ fs) (feed ∷ feeds) =
    IsFed tells content events f feed × AreFed tells content events fs feeds
AreFed tells content events _ _ = ⊥

-- The work is the job of the record that is next, for the actor on the worker. Its program keeps
-- the kind rules for the record's numbers of inputs and outputs, and there is a feed an input.
pub record IsNextWork {T : Type 0} (tells : Bool) (content : T → List ℕ) (post : Post)
    (worker : WorkerId) (work : Work T) (found : List (Event T)) : Type 0 where
  pub is_next : next post.header.order (without_tickets found) ≡ Some work.rec
  pub for_actor : work.actor ≡ post.actor
  pub on_worker : work.worker ≡ worker
  pub losses : work.incarnation ≡ incarnation found worker
  pub at_place : work.place ≡ length found
  pub prio : ℕ
  pub inputs : List FileId
  pub outputs : ℕ
  pub job : record_at (without_tickets found) work.rec
      ≡ Some (kind.Job work.rec work.core prio inputs outputs)
  pub takes : work.core.program.inputs ≡ length inputs
  pub makes : work.core.program.outputs ≡ outputs
  pub fed : AreFed tells content found inputs work.inputs.items

-- a claim takes up the job that is next, if one is
abbrev pub Claims : {T : Type 0} → Bool → Bool → (T → List ℕ) → Post → WorkerId →
    List (Event T) → List (Event T) → Option (Work T) → Type 0
Claims whole tells content post worker seen new None =
    Stays whole post.actor seen new (λ found.
    next post.header.order (without_tickets found) ≡ None)
Claims whole tells content post worker seen new (Some work) =
    Turns whole post.actor seen new (IsNextWork tells content post worker work)
    (with_act post.actor (Claim worker work.rec))

-- the worker was lost no less often than at the claim; and where no more often, the claim is open
pub record IsUnlessLost {T : Type 0} (events : List (Event T)) (work : Work T) : Type 0 where
  pub never_less : work.incarnation ≤ incarnation events work.worker
  pub still : incarnation events work.worker ≡ work.incarnation →
      open_claim (without_tickets events) work.actor
      ≡ Some (record { worker = work.worker; made = work.rec })

-- one block for each output of the record, in order
abbrev pub AreOutputs : {T : Type 0} → List (Event T) → RecordId → List FileOutcome → Type 0
AreOutputs events made blocks =
    option_map outputs_of (record_at (without_tickets events) made) ≡ Some (map file_of blocks)

-- each block is what its file holds, where the bytes are told
abbrev pub AreValues : {T : Type 0} → Bool → (T → List ℕ) → List (Event T) → List FileOutcome →
    Type 0
AreValues tells content events blocks =
    AllByRecursion
    (λ block. tells ≡ true → block.outcome ≡ value (events_with content events) block.file) blocks

-- a job is done where its worker was not lost since the claim; else nothing is
abbrev pub Finishes : {T : Type 0} → Bool → Work T → List (Event T) → List (Event T) → Finish →
    Type 0
Finishes whole work seen new finish.Installed =
    Turns whole work.actor seen new
    (λ found. incarnation found work.worker ≡ work.incarnation)
    (with_act work.actor (Done work.worker work.rec))
Finishes whole work seen new (finish.Void at_claim now) =
    (at_claim ≡ work.incarnation) × Stays whole work.actor seen new (λ found.
    (now ≡ incarnation found work.worker)
    × (incarnation found work.worker ≢ work.incarnation))

-- a job is given back where its worker was not lost since the claim; else nothing is done
abbrev pub GivesBack : {T : Type 0} → Bool → Work T → List (Event T) → List (Event T) → Type 0
GivesBack whole work seen new =
    Turns whole work.actor seen new
    (λ found. incarnation found work.worker ≡ work.incarnation)
    (with_act work.actor (Back work.rec))
    ⊎ Stays whole work.actor seen new
    (λ found. incarnation found work.worker ≢ work.incarnation)

-- ---- saves

-- the file that is saved next is taken up with a block of it, if there is one
abbrev pub Begins : {T : Type 0} → Bool → Bool → (T → List ℕ) → Post → List (Event T) →
    List (Event T) → Option SaveJob → Type 0
Begins whole tells content post seen new None =
    Stays whole post.actor seen new (λ found.
    next_save post.header (without_tickets found) ≡ None)
Begins whole tells content post seen new (Some job) =
    (job.actor ≡ post.actor) × Turns whole post.actor seen new (λ found.
    (next_save post.header (without_tickets found) ≡ Some job.block.file)
    × (job.place ≡ length found)
    × IsBlockOf tells content found job.block.file job.block)
    (with_act post.actor (Save job.block.file))

-- ---- collection

-- so many records were let go one after another, each the least that was kept and not needed
abbrev pub LetsGo : {T : Type 0} → Actor → ℕ → List (Event T) → List (Event T) → Type 0
LetsGo actor zero found new = new ≡ found
LetsGo {T} actor (suc k) found new =
    (mid : List (Event T)) × (made : RecordId) × LetsGo actor k found mid
    × (garbage (without_tickets mid) ≡ Some made)
    × DropsFollow actor (with_act actor (Collect made) mid) new

-- so many of the n were let go: fewer only where then no record is kept and not needed
pub record Collects {T : Type 0} (whole : Bool) (actor : Actor) (n : ℕ) (seen new : List (Event T))
    (k : ℕ) : Type 0 where
  pub found : List (Event T)
  pub finds : Finds whole actor seen found
  pub most : k ≤ n
  pub let_go : LetsGo actor k found new
  pub none_left : k < n → garbage (without_tickets new) ≡ None
