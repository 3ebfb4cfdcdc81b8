-- What contracts see of a turn, of a seat and of a root.
use Rattle.std.specs.Prelude.{ℕ, Bool, List, []}
use Rattle.atomic_table.specs.Seated.{TableId}

-- which turn it is
abbrev pub TurnId : Type 0
TurnId = TableId

-- the name of no turn
abbrev pub no_turn : TurnId
no_turn = record { words = 0; slots = 0; views_name = 0; atom = 0; block = 0; offset = 0; slot_names = [] }

-- the turn that a seat was made for, its number, the log as it last saw it, the entries that it made, and whether it holds the turn
pub record SeatView (E : Type 0) : Type 0 where
  pub turn : TurnId
  pub number : ℕ
  pub seen : List E
  pub mine : List E
  pub holds : Bool

-- the turn that a root was made for, the log as it last saw it, how many seats it made, and the number of each seat that was joined with the entries that it made, the last one first
pub record RootView (E : Type 0) : Type 0 where
  pub turn : TurnId
  pub seen : List E
  pub made : ℕ
  pub joined : List (ℕ × List E)
