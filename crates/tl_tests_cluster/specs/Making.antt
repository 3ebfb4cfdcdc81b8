-- Records of one output, and turns that leave the history as it is.
use Rattle.std.specs.Prelude.{◌≡◌, [], ◌∷◌, Some, option_map, slice_get}
use Rattle.tl_types.specs.declared.record_id.RecordId.{RecordId}
use Rattle.tl_model.specs.History.{calls_of, outputs_of, records_of}
use Rattle.tl_cluster.specs.State.{State, past_of}

-- the record makes one file
abbrev pub MakesOne : {T : Type 0} → State T → RecordId → Type 0
MakesOne state made =
    option_map outputs_of (slice_get (records_of (calls_of (past_of state))) made.0)
    ≡ Some (record { rec = made; out = 0 } ∷ [])

-- no call was made
abbrev pub HasSameCalls : {T : Type 0} → State T → State T → Type 0
HasSameCalls old new = calls_of (past_of new) ≡ calls_of (past_of old)
