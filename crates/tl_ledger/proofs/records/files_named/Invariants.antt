use Rattle.std.proofs.Common.{◌≡◌, ◌++◌, length}
use Rattle.tl_model.specs.Namespace.{Names as NameList}
use Rattle.tl_names.specs.Standing.{StandsFor}
use Rattle.tl_ledger.specs.Naming.{files_named}
use Rattle.tl_ledger.proofs.records.files_named.Given as goal

abbrev pub invariant-paths : goal.invariant-paths
invariant-paths l = (ns : NameList) → StandsFor l.fn.names.dirs ns → l.files.items ++ files_named ns l.rest ≡ files_named ns l.fn.paths

abbrev pub decreases-paths : goal.decreases-paths
decreases-paths l = length l.rest
