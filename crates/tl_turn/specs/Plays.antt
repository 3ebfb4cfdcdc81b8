-- What each step tells the seat that makes it.
use Rattle.std.specs.Prelude.{◌≡◌, ◌≢◌, ℕ, ◌+◌, ◌%◌, ◌^◌, ◌<◌, Bool, true, false, List, [], ◌∷◌, length, Option, Some, None}
use mathlib.Core.List.{IsSuffix}
use Rattle.atomic_table.specs.Table.{Me, rest}
use Rattle.atomic_table.specs.Seated.{TableId}
use Rattle.tl_turn.specs.Log.{entries_by, longer}
use Rattle.tl_turn.specs.declared.view.View.{View}
use Rattle.tl_turn.specs.declared.view.Role.{Role}
use Rattle.tl_turn.specs.declared.view.Role.TheVariants.{Spent, Root, Away, Waiting, Serving}

-- the root of a new turn
abbrev pub new_root : {E : Type 0} → View E
new_root = record { role = Root; number = 0; seen = []; mine = []; made = 0; joined = []; ours = []; theirs = [] }

-- a new seat with this number
abbrev pub new_seat : {E : Type 0} → ℕ → List E → View E
new_seat number seen = record { role = Away; number = number; seen = seen; mine = []; made = 0; joined = []; ours = []; theirs = [] }

-- a seat that was joined
abbrev pub spent : {E : Type 0} → View E
spent = record { role = Spent; number = 0; seen = []; mine = []; made = 0; joined = []; ours = []; theirs = [] }

abbrev pub ticket_of : Role → ℕ
ticket_of (Waiting ticket) = ticket
ticket_of (Serving ticket) = ticket
ticket_of _ = 0

-- whether a seat is at its turn
abbrev pub is_serving : Role → Bool
is_serving (Serving ticket) = true
is_serving _ = false

-- whether a seat waits for nothing
abbrev pub is_away : Role → Bool
is_away Away = true
is_away _ = false

-- between calls a seat waits for nothing and has nothing of the table's, or is at its turn and has left the slot empty
abbrev pub IsSeated : {S : Type 0} → Role → List (ℕ × Option S) → Type 0
IsSeated Away out = out ≡ []
IsSeated (Serving ticket) out = out ≡ (0, None) ∷ []
IsSeated _ out = ⊥

-- what a seat knows, and what of the slot it has out
abbrev pub Knowledge : Type 0 → Type 0 → Type 0
Knowledge S E = Me (Option S) (View E)

module _ {S E : Type 0} where
  -- it has a ticket, which it found
  abbrev pub drew : Knowledge S E → ℕ → Knowledge S E → Type 0
  drew m found n = (ticket : ℕ) × (n ≡ (record m.0 { role = Waiting ticket }, m.1)) × (found ≡ ticket % 2 ^ 64)

  -- it found how many entries it has seen
  abbrev pub learned : Knowledge S E → ℕ → Knowledge S E → Type 0
  learned m found n = (n ≡ m) × (found ≡ length m.0.seen)

  -- it waits for nothing, and the state is home
  abbrev pub passed : Knowledge S E → ℕ → Knowledge S E → Type 0
  passed m found n = n ≡ (record m.0 { role = Away }, rest m.1)

  -- what the root has seen ends with both logs that it put together
  abbrev pub told_both : Knowledge S E → ℕ → Knowledge S E → Type 0
  told_both m found n = (n ≡ m) × IsSuffix m.0.ours m.0.seen × IsSuffix m.0.theirs m.0.seen

  -- a seat has seen all that it made
  abbrev pub told_own : (E → ℕ) → Knowledge S E → ℕ → Knowledge S E → Type 0
  told_own maker m found n = (n ≡ m) × (entries_by maker m.0.number m.0.seen ≡ m.0.mine)

  -- the log of the state that the seat has out
  abbrev pub log_out : (S → List E) → List (ℕ × Option S) → List E
  log_out log_of ((slot, Some state) ∷ more) = log_of state
  log_out log_of _ = []

  module _ (maker : E → ℕ) (log_of : S → List E) where
    -- it came to its turn, has the state out and has seen its log
    abbrev pub Comes : Knowledge S E → Knowledge S E → Type 0
    Comes m n = (state : S) × (n ≡ (record m.0 { role = Serving (ticket_of m.0.role); seen = log_of state }, (0, Some state) ∷ m.1))
        × IsSuffix m.0.seen (log_of state) × (entries_by maker m.0.number (log_of state) ≡ m.0.mine) × (length (log_of state) < 2 ^ 64)

    -- it came to its turn where it found its ticket, and else nothing changed
    abbrev pub looked : Knowledge S E → ℕ → Knowledge S E → Type 0
    looked m found n = (found ≡ ticket_of m.0.role % 2 ^ 64 → Comes m n) × (found ≢ ticket_of m.0.role % 2 ^ 64 → n ≡ m)

    -- it has seen the log of the state that it has out
    abbrev pub extended : Knowledge S E → ℕ → Knowledge S E → Type 0
    extended m found n = n ≡ (record m.0 { seen = log_out log_of m.1; mine = entries_by maker m.0.number (log_out log_of m.1) }, m.1)

module _ {E : Type 0} where
  -- the root makes a seat
  abbrev pub with_seat_made : View E → View E
  with_seat_made v = record v { made = v.made + 1 }

  abbrev pub seat_made : View E → View E
  seat_made v = new_seat v.made v.seen

  -- the root takes in a seat
  abbrev pub with_seat_joined : View E → View E → View E
  with_seat_joined v w = record v { seen = longer v.seen w.seen; joined = (w.number, w.mine) ∷ v.joined; ours = v.seen; theirs = w.seen }

  -- the seat with a ticket, which is `word` where the words carry it
  abbrev pub IsWaiting : {S : Type 0} → View E → ℕ → Knowledge S E → Type 0
  IsWaiting v word n = (ticket : ℕ) × (n ≡ (record v { role = Waiting ticket }, [])) × (word ≡ ticket % 2 ^ 64)

  -- the seat with its turn's log, which has left the slot empty
  abbrev pub IsAtTurn : {S : Type 0} → View E → List E → Knowledge S E → Type 0
  IsAtTurn v log n = (ticket : ℕ) × (n ≡ (record v { role = Serving ticket; seen = log }, (0, None) ∷ []))

  -- the seat after its turn
  abbrev pub gone : View E → List E → List E → View E
  gone v log mine = record v { role = Away; seen = log; mine = mine }

-- three words and one slot
abbrev pub IsLock : TableId → Type 0
IsLock table = (table.words ≡ 3) × (table.slots ≡ 1)

-- a seat between calls
pub record IsSeat {S E : Type 0} (maker : E → ℕ) (number : ℕ) (m : Knowledge S E) : Type 0 where
  pub numbered : m.0.number ≡ number
  pub seated : IsSeated m.0.role m.1
  pub own : entries_by maker m.0.number m.0.seen ≡ m.0.mine

-- a root has nothing of the table's
abbrev pub IsRooted : {S E : Type 0} → ℕ → Knowledge S E → Type 0
IsRooted made m = (m.0.role ≡ Root) × (m.0.made ≡ made) × (m.1 ≡ [])
