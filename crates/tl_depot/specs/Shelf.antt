-- What a depot in a folder goes by.
use Rattle.std.specs.Prelude.{ℕ, List, ◌∷◌, ◌++◌}
use Rattle.std.specs.Fmt.{decimal}
use Rattle.tl_io.specs.Counts.{more}
use Rattle.tl_io.specs.declared.depot.DepotError.{DepotError}
use Rattle.tl_io.specs.declared.depot.DepotError.TheVariants.{Failed, NoMemory}
use Rattle.tl_depot.specs.declared.folder_ticket.FolderTicket.{FolderTicket}

-- the folder's path, the handle, and the counts of saves and of faults
pub record Shelf : Type 0 where
  pub folder : List ℕ
  pub handle : ℕ
  pub saved : ℕ
  pub faults : ℕ

abbrev pub new_shelf : List ℕ → ℕ → Shelf
new_shelf folder handle = record { folder = folder; handle = handle; saved = 0; faults = 0 }

-- the ticket that the next save hands out
abbrev pub next_ticket : Shelf → FolderTicket
next_ticket shelf = record { handle = shelf.handle; counter = shelf.saved }

-- one save more, where the count isn't at its last value
abbrev pub with_save : Shelf → Shelf
with_save shelf = record shelf { saved = more shelf.saved 1 }

-- a fault is counted, and want of memory changes nothing
abbrev pub after_error : DepotError → Shelf → Shelf
after_error Failed shelf = record shelf { faults = more shelf.faults 1 }
after_error NoMemory shelf = shelf

-- where the file of a ticket is: the folder, `/`, the handle, `-` and the counter, in decimal
abbrev pub file_path : List ℕ → FolderTicket → List ℕ
file_path folder ticket = folder ++ (0x2F ∷ (decimal ticket.handle ++ (0x2D ∷ decimal ticket.counter)))
