-- How a file is saved.
use Rattle.std.specs.Prelude.{◌≡◌, List, ◌∷◌, length, Option, Some, None}
use Rattle.tl_types.specs.Outcome.{digest_of, outcome_size}
use Rattle.tl_types.specs.Block.{FileOutcome}
use Rattle.tl_types.specs.declared.actor.Actor.{Actor}
use Rattle.tl_model.specs.declared.event.Act.TheVariants.{Save, Saved}
use Rattle.tl_model.specs.declared.event.Event.{Event}
use Rattle.tl_model.specs.Checkpoints.{next_save}
use Rattle.tl_model.specs.Residency.{SavedAs}
use Rattle.tl_cluster.specs.declared.saving.SaveJob.{SaveJob}
use Rattle.tl_cluster.specs.State.{State, held, past_of}
use Rattle.tl_cluster.specs.Turned.{Turned, as_held}

-- what a block is saved as
abbrev pub saved_block : FileOutcome → SavedAs
saved_block block =
    record { size = outcome_size block.outcome; digest = record { 0 = digest_of block.outcome } }

-- the first file that is to be saved is taken up with the block that is held of it, if there is one
abbrev pub Begun : {T : Type 0} → State T → State T → Actor → Option SaveJob → Type 0
Begun old new actor None = (next_save old.header (past_of old) ≡ None) × (new ≡ old)
Begun old new actor (Some job) =
    (next_save old.header (past_of old) ≡ Some job.block.file)
    × (held job.block.file old.workers ≡ Some job.block)
    × (job.actor ≡ actor)
    × (job.place ≡ length old.events)
    × Turned actor old (record { actor = actor; act = Save job.block.file } ∷ old.events)
    (as_held old) new

-- the events with a Saved of the block
abbrev pub saving : {T : Type 0} → SaveJob → List (Event T) → List (Event T)
saving job events =
    let known = saved_block job.block in
    record { actor = job.actor; act = Saved job.block.file known.size known.digest } ∷ events
