-- How faults below are told.
use Rattle.tl_io.specs.declared.depot.DepotError.{DepotError}
use Rattle.tl_io.specs.declared.depot.DepotError.TheVariants as depot
use Rattle.tl_vault.specs.declared.loading.LoadError.{LoadError}
use Rattle.tl_vault.specs.declared.loading.LoadError.TheVariants as load
use Rattle.tl_work.specs.declared.error.WorkError.{WorkError}
use Rattle.tl_work.specs.declared.error.WorkError.TheVariants.{StoreFault, Damaged, NoMemory}

abbrev pub of_load : LoadError → WorkError
of_load load.Fault = StoreFault
of_load (load.Damaged damage) = Damaged damage
of_load load.NoMemory = NoMemory

abbrev pub of_depot : DepotError → WorkError
of_depot depot.Failed = StoreFault
of_depot depot.NoMemory = NoMemory
