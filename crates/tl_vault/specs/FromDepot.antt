-- A depot's error as a load's.
use Rattle.tl_io.specs.declared.depot.DepotError.{DepotError}
use Rattle.tl_io.specs.declared.depot.DepotError.TheVariants.{Failed, NoMemory}
use Rattle.tl_vault.specs.declared.loading.LoadError.{LoadError}
use Rattle.tl_vault.specs.declared.loading.LoadError.TheVariants as answer

abbrev pub of_depot : DepotError → LoadError
of_depot Failed = answer.Fault
of_depot NoMemory = answer.NoMemory
