-- How what is kept stands for a past.
use Rattle.std.specs.Prelude.{◌≡◌, ℕ, ◌+◌, ◌*◌, ◌≤◌, false, List, [], ◌∷◌, map, Some}
use Rattle.tl_types.specs.declared.file_id.FileId.{FileId}
use Rattle.tl_model.specs.declared.event.Act.{Act}
use Rattle.tl_model.specs.declared.record.Record.{Record}
use Rattle.tl_model.specs.Past.{Past}
use Rattle.tl_model.specs.History.{id_of, inputs_of, outputs_of, own_prio, records}
use Rattle.tl_model.specs.Actors.{actors}
use Rattle.tl_model.specs.Residency.{is_saved, place, was_done}
use Rattle.tl_model.specs.Plan.{claims, claims_after}
use Rattle.tl_steps.specs.Steps.{seat_of}
use Rattle.tl_steps.specs.Within.{IsWithin}
use Rattle.tl_prio.specs.declared.kept.Kept.{Kept}
use Rattle.tl_prio.specs.declared.output.Output.{Output}
use Rattle.tl_prio.specs.Data.{HasClaims, OrderData, new_output}

-- ---- the past

abbrev pub output_in : Past → FileId → Output
output_in past f = record { file = f; place = place past f; is_saved = is_saved past f }

abbrev pub kept_in : Past → Record → Kept
kept_in past r = record {
  made = id_of r;
  inputs = inputs_of r;
  prio = own_prio r;
  was_done = was_done past (id_of r);
  outputs = map (output_in past) (outputs_of r);
}

-- The data have each accepted record with its own priority and whether it was done, each file with
-- where it is and whether it is saved, what each actor has open, and these counts of claims by
-- priority.
pub record StandsWith (claims : ℕ → ℕ) (order : OrderData) (past : Past) : Type 0 where
  pub records : order.records ≡ map (kept_in past) (records past)
  pub seats : order.seats ≡ map (seat_of past) actors
  pub turns : HasClaims order.turns claims
  pub within : IsWithin past

-- the data stand for a past
abbrev pub StandsFor : OrderData → Past → Type 0
StandsFor order past = StandsWith (claims past) order past

-- the data stand for a past, and where the act is a claim it is counted already
abbrev pub StandsBefore : Act (Unit {0}) → OrderData → Past → Type 0
StandsBefore act order past = StandsWith (λ p. claims_after past act p (claims past p)) order past

-- ---- room

-- a record as it is when it is accepted
abbrev pub kept_of : Record → Kept
kept_of r = record {
  made = id_of r;
  inputs = inputs_of r;
  prio = own_prio r;
  was_done = false;
  outputs = map new_output (outputs_of r);
}

-- there is a place for this record
abbrev pub HasRoom : OrderData → Record → Type 0
HasRoom order r = order.next ≡ Some (kept_of r)

abbrev pub HasRoomForAll : OrderData → List Record → Type 0
HasRoomForAll order [] = Unit {0}
HasRoomForAll order (r ∷ rs) = HasRoom order r

-- ---- shares

-- the first priority got no more of its share than the second, by `(claims + 1) / (priority + 1)`
abbrev pub GotNoMore : Past → ℕ → ℕ → Type 0
GotNoMore past q p = (claims past q + 1) * (p + 1) ≤ (claims past p + 1) * (q + 1)
