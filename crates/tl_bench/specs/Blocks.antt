-- What touches and puts leave in a worker's memory.
use Rattle.std.specs.Prelude.{ℕ, zero, suc, Bool, false, List, [], ◌∷◌}
use Rattle.std.specs.Option.{option_map_or}
use Rattle.tl_types.specs.declared.file_id.FileId.{FileId}
use Rattle.tl_store.specs.Contents.{Blocks, touched, victim}

-- the blocks after these files, the newest first, were used one after the other
abbrev pub touched_by : List FileId → Blocks → Blocks
touched_by [] blocks = blocks
touched_by (f ∷ before) blocks = touched f (touched_by before blocks)

-- the least recently used block goes to the front
abbrev pub renewed : Blocks → Blocks
renewed blocks = option_map_or (λ f. touched f blocks) (victim (λ _. false) blocks) blocks

-- it does so as often
abbrev pub renewed_by : ℕ → Blocks → Blocks
renewed_by zero blocks = blocks
renewed_by (suc n) blocks = renewed (renewed_by n blocks)
