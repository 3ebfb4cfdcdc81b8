-- Reads: those that run what is next until their file is there, and those that look once.
use Rattle.std.specs.Prelude.{◌≡◌, ℕ, Bool, true, not, List, [], ◌∷◌, ◌++◌, map, if◌then◌else◌}
use Rattle.tl_types.specs.Block.{FileOutcome}
use Rattle.tl_types.specs.Outcome.{digest_of}
use Rattle.tl_types.specs.declared.digest.Digest.{Digest}
use Rattle.tl_types.specs.declared.file_id.FileId.{FileId}
use Rattle.tl_types.specs.declared.worker_id.WorkerId.{WorkerId}
use Rattle.tl_model.specs.declared.answer.Answer.{Answer}
use Rattle.tl_model.specs.declared.answer.Answer.TheVariants.{Said, Read, NotYet}
use Rattle.tl_model.specs.declared.command.Command.{Command}
use Rattle.tl_model.specs.declared.event.Act.{Act}
use Rattle.tl_model.specs.declared.event.Act.TheVariants.{Load, Served, Shut}
use Rattle.tl_model.specs.declared.reply.Reply.TheVariants.{Opened}
use Rattle.tl_model.specs.Past.{Past, events_with, without_tickets}
use Rattle.tl_model.specs.Residency.{is_available, is_resident}
use Rattle.tl_model.specs.Values.{value}
use Rattle.tl_pieces.specs.Setting.{Setting, Events, event_by}
use Rattle.tl_pieces.specs.Own.{Adds}
use Rattle.tl_pieces.specs.Moments.{Moment}
use Rattle.tl_pieces.specs.Runs.{Run, Ran, all_kept_up, but_last_kept_up}
use Rattle.tl_pieces.specs.Calls.{IsCalled, IsRefused}

-- neither in a memory nor saved
abbrev pub is_missing : FileId → Past → Bool
is_missing f past = not (is_available past f)

-- the Load of a file that is in no memory
abbrev pub load_of : {T : Type 0} → Past → WorkerId → FileId → List (Act T)
load_of past worker f = if is_resident past f then [] else Load worker f ∷ []

-- the Served of a file, and before it the Load to the actor's worker where the file was in no
-- memory, where they came after these events
abbrev pub served_of : {T : Type 0} → Setting T → FileId → Digest → Events T → Events T
served_of s f digest at =
    map (event_by s.actor) (Served f digest ∷ load_of (without_tickets at) s.worker f)

-- The actor's open read was served by the block: its file was in a memory or saved. The Served has
-- the block's digest; where told the block is what its file holds.
pub record IsServed {T : Type 0} (s : Setting T) (block : FileOutcome) (before after : Events T) :
    Type 0 where
  pub found_at : Events T
  pub digest : Digest
  pub found : Adds s [] before found_at
  pub there : is_available (without_tickets found_at) block.file ≡ true
  pub served : Adds s [] (served_of s block.file digest found_at ++ found_at) after
  pub of_block : digest.0 ≡ digest_of block.outcome
  pub told : s.tells ≡ true →
      block.outcome ≡ value (events_with s.content found_at) block.file

-- ---- a read that waits

-- The read was opened on the block's file. As long as this was missing, what was next was run on
-- the actor's worker. Then the read was served.
pub record IsReadOut {T : Type 0} (s : Setting T) (command : Command T) (number : ℕ)
    (block : FileOutcome) (before after : Events T) : Type 0 where
  pub opened_at : Events T
  pub ran_at : Events T
  pub runs : List Run
  pub opened : IsCalled s command number (Opened block.file) before opened_at
  pub ran : Ran s s.worker (is_missing block.file) runs opened_at ran_at
  pub kept_up : all_kept_up runs ≡ true
  pub served : IsServed s block ran_at after

abbrev pub IsRead : {T : Type 0} → Setting T → Command T → Events T → Events T → Answer → Type 0
IsRead s command before after (Said number reply) =
    IsRefused s command number reply before after
IsRead s command before after (Read number block) = IsReadOut s command number block before after
IsRead s command before after _ = ⊥

-- The read was opened, and given up: after runs as above, of which the last may have been given
-- back.
pub record IsReadGivenUp {T : Type 0} (s : Setting T) (command : Command T) (number : ℕ)
    (before after : Events T) : Type 0 where
  pub file : FileId
  pub opened_at : Events T
  pub ran_at : Events T
  pub runs : List Run
  pub opened : IsCalled s command number (Opened file) before opened_at
  pub ran : Ran s s.worker (is_missing file) runs opened_at ran_at
  pub kept_up : but_last_kept_up runs ≡ true
  pub shut : Adds s (event_by s.actor (Shut file) ∷ []) ran_at after

-- ---- a read that looks once

-- the read was opened on the block's file, and served
pub record IsTriedOut {T : Type 0} (s : Setting T) (command : Command T) (number : ℕ)
    (block : FileOutcome) (before after : Events T) : Type 0 where
  pub opened_at : Events T
  pub opened : IsCalled s command number (Opened block.file) before opened_at
  pub served : IsServed s block opened_at after

-- The read was opened on the file, and given up; between the two there was a moment at which the
-- file was missing.
pub record IsNotYet {T : Type 0} (s : Setting T) (command : Command T) (number : ℕ)
    (file : FileId) (before after : Events T) : Type 0 where
  pub opened_at : Events T
  pub opened : IsCalled s command number (Opened file) before opened_at
  pub missing : Moment s (is_missing file) opened_at after
  pub shut : Adds s (event_by s.actor (Shut file) ∷ []) opened_at after

abbrev pub IsTried : {T : Type 0} → Setting T → Command T → Events T → Events T → Answer → Type 0
IsTried s command before after (Said number reply) =
    IsRefused s command number reply before after
IsTried s command before after (Read number block) =
    IsTriedOut s command number block before after
IsTried s command before after (NotYet number file) =
    IsNotYet s command number file before after
IsTried s command before after _ = ⊥

-- the read was opened, and given up
pub record IsTryGivenUp {T : Type 0} (s : Setting T) (command : Command T) (number : ℕ)
    (before after : Events T) : Type 0 where
  pub file : FileId
  pub opened_at : Events T
  pub opened : IsCalled s command number (Opened file) before opened_at
  pub shut : Adds s (event_by s.actor (Shut file) ∷ []) opened_at after
