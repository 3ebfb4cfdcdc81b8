-- When nothing is under way.
use Rattle.std.specs.Prelude.{◌≡◌, Bool, true, false, None, if◌then◌else◌}
use Rattle.tl_types.specs.Same.{actor_same}
use Rattle.tl_types.specs.declared.actor.Actor.{Actor}
use Rattle.tl_model.specs.declared.command.Command.{Command}
use Rattle.tl_model.specs.declared.command.Command.TheVariants.{Read}
use Rattle.tl_model.specs.Past.{Past}
use Rattle.tl_model.specs.Actors.{open_read, open_claim, open_save}

-- nobody's claim is open, nor a save of this actor
abbrev pub NothingRuns : Past → Actor → Type 0
NothingRuns past actor = (open_save past actor ≡ None) × ((a : Actor) → open_claim past a ≡ None)

-- nor is a read of this actor
abbrev pub IsAtRest : Past → Actor → Type 0
IsAtRest past actor = (open_read past actor ≡ None) × NothingRuns past actor

-- nothing of anybody is open
abbrev pub AllAtRest : Past → Type 0
AllAtRest past = (a : Actor) → IsAtRest past a

-- the same reads are open
abbrev pub SameReads : Past → Past → Type 0
SameReads before after = (a : Actor) → open_read after a ≡ open_read before a

-- the same saves are open
abbrev pub SameSaves : Past → Past → Type 0
SameSaves before after = (a : Actor) → open_save after a ≡ open_save before a

-- each actor's reads and saves are as they were
abbrev pub SameOpen : Past → Past → Type 0
SameOpen before after = SameReads before after × SameSaves before after

-- the actor's read has ended, and the others' are as they were
abbrev pub ReadEnds : Past → Past → Actor → Type 0
ReadEnds before after actor = (a : Actor) → open_read after a ≡ (if actor_same a actor then None else open_read before a)

-- a command that may open a read
abbrev pub may_open : {T : Type 0} → Command T → Bool
may_open (Read path prio form) = true
may_open _ = false
