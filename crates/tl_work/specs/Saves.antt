-- How the file that is saved next is saved over a desk.
use Rattle.std.specs.Prelude.{◌≡◌, Bool, true, false, [], None}
use Rattle.tl_types.specs.declared.file_id.FileId.{FileId}
use Rattle.tl_types.specs.declared.outcome.Outcome.{Outcome}
use Rattle.tl_model.specs.Checkpoints.{next_save}
use Rattle.tl_model.specs.Past.{without_tickets}
use Rattle.tl_pieces.specs.Setting.{Setting, Events}
use Rattle.tl_pieces.specs.Own.{Adds}
use Rattle.tl_pieces.specs.Counts.{GivenUp, IsSave, Kept}
use Rattle.tl_work.specs.declared.error.WorkError.{WorkError}
use Rattle.tl_work.specs.declared.error.WorkError.TheVariants.{StoreFault, Damaged, NoMemory}

-- the file that was saved next was saved; or nothing was done, and none was to be saved
abbrev pub SavesNext : {T : Type 0} → Setting T → Events T → Events T → Bool → Type 0
SavesNext s before after false =
    Adds s [] before after × (next_save s.header (without_tickets after) ≡ None)
SavesNext s before after true =
    (f : FileId) × (outcome : Outcome)
    × IsSave s (record { file = f; end = Kept outcome }) before after

-- Why a save failed, and what it left: for a fault of the store it was given up; for want of memory
-- perhaps before it was begun; nothing is loaded.
abbrev pub SaveFails : {T : Type 0} → Setting T → Events T → Events T → WorkError → Type 0
SaveFails s before after StoreFault =
    (f : FileId) × IsSave s (record { file = f; end = GivenUp }) before after
SaveFails s before after (Damaged damage) = ⊥
SaveFails {T} s before after NoMemory = (mine : Events T) × Adds s mine before after

-- the fault is of no load
abbrev pub is_undamaged : WorkError → Type 0
is_undamaged (Damaged damage) = ⊥
is_undamaged _ = Unit {0}
