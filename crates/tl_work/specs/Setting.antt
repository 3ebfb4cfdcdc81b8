-- Whose work it is.
use Rattle.std.specs.Prelude.{ℕ, Bool, List}
use Rattle.tl_types.specs.declared.worker_id.WorkerId.{WorkerId}
use Rattle.tl_desk.specs.Finds.{Post}
use Rattle.tl_pieces.specs.Setting.{Setting}

-- the holder of a desk, who works on the worker
abbrev pub setting : {T : Type 0} → Bool → Bool → (T → List ℕ) → Post → WorkerId → Setting T
setting whole tells content post worker = record {
  whole = whole;
  tells = tells;
  content = content;
  header = post.header;
  actor = post.actor;
  worker = worker;
}
