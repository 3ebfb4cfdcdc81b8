-- How slots stand for the accepted records of a past.
use Rattle.std.specs.Prelude.{◌≡◌, ℕ, Bool, true, false, List, [], ◌∷◌, ◌++◌, map, option_map, slice_get}
use Rattle.tl_model.specs.declared.event.Act.{Act}
use Rattle.tl_model.specs.declared.event.Act.TheVariants.{Call, Collect}
use Rattle.tl_model.specs.declared.record.Record.{Record}
use Rattle.tl_model.specs.Past.{Past}
use Rattle.tl_model.specs.History.{names, records, record_made}
use Rattle.tl_model.specs.Residency.{is_collected}
use Rattle.tl_lineage.specs.declared.slot.Slot.{Slot}
use Rattle.tl_lineage.specs.declared.slot.Slot.TheVariants.{Kept}
use Rattle.tl_lineage.specs.Slots.{left_of, with_removed}

-- a record's slot: the record, or what is left of it where it is gone
abbrev pub slot_of : Bool → Record → Slot
slot_of false r = Kept r
slot_of true r = left_of r

-- each slot is that of the record of its number, of which these numbers are gone
pub record StandFor (gone : ℕ → Bool) (rs : List Record) (slots : List Slot) : Type 0 where
  pub each : (n : ℕ) → slice_get slots n ≡ option_map (slot_of (gone n)) (slice_get rs n)

-- whether the record of a number was collected
abbrev pub is_gone : Past → ℕ → Bool
is_gone past n = is_collected past (record { 0 = n })

-- the slots are those of the accepted records, of which the collected ones are gone
abbrev pub Stand : Past → List Slot → Type 0
Stand past slots = StandFor (is_gone past) (records past) slots

-- the slots after an event: a call adds the record that it makes, and a Collect removes one
abbrev pub slots_after : Past → Act (Unit {0}) → List Slot → List Slot
slots_after past (Call command reply) slots = slots ++ map Kept (record_made reply command (names past))
slots_after past (Collect made) slots = with_removed made.0 slots
slots_after past _ slots = slots

-- the slots that the events of a past leave, from none
abbrev pub slots_of : Past → List Slot
slots_of [] = []
slots_of (e ∷ past) = slots_after past e.act (slots_of past)
