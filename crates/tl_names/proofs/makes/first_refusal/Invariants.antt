use Rattle.std.proofs.Common.{◌≡◌, drop}
use Rattle.tl_names.specs.Tables.{first_refusal}
use Rattle.tl_names.proofs.makes.first_refusal.Given as goal

abbrev pub invariant-loop-path : goal.invariant-loop-path
invariant-loop-path l = first_refusal l.dirs.slots (drop l.path-index l.paths) ≡ first_refusal l.dirs.slots l.paths
