-- The rule of the lock. Word 0 is the number of entries, word 1 the tickets drawn and word 2 the tickets served, and the one slot has the state.
-- Tickets have no upper bound here: the words carry them modulo 2^64.
use Rattle.std.specs.Prelude.{◌≡◌, ℕ, ◌+◌, ◌%◌, ◌^◌, ◌<◌, ◌≤◌, ◌⊎◌, Bool, true, false, List, [], ◌∷◌, length, All, Option, Some}
use mathlib.Core.Option as maybe
use mathlib.Core.List.{IsSuffix}
use lib.ListN.{get_elem?}
use Rattle.atomic_table.specs.Table.{State}
use Rattle.tl_turn.specs.Log.{entries_by}
use Rattle.tl_turn.specs.declared.view.View.{View}
use Rattle.tl_turn.specs.declared.view.Role.{Role}
use Rattle.tl_turn.specs.declared.view.Role.TheVariants.{Spent, Root, Away, Waiting, Serving}

-- What the words, the slot and the views stand for: the log, how many tickets were served and drawn, how many seats were made,
-- the view that holds each ticket, the view that has each seat's number (0, the root's, where the seat was joined), and whether a seat is at its turn
pub record Scene (E : Type 0) : Type 0 where
  pub log : List E
  pub served : ℕ
  pub drawn : ℕ
  pub made : ℕ
  pub holder : ℕ → ℕ
  pub place : ℕ → ℕ
  pub taken : Bool

module _ {E : Type 0} (maker : E → ℕ) (log : List E) (made : ℕ) (place : ℕ → ℕ) where
  -- a joined seat's number, and the entries that it made
  pub record IsJoined (seen : List E) (seat : ℕ × List E) : Type 0 where
    pub numbered : seat.0 < made
    pub placed : place seat.0 ≡ 0
    pub own : entries_by maker seat.0 log ≡ seat.1
    pub own_seen : entries_by maker seat.0 seen ≡ seat.1

  module _ (at : ℕ) where
    -- what a seat that was not joined knows: the log ends with what it has seen, and its entries are those that it made, all of which it has seen
    pub record KnowsOwn (number : ℕ) (seen mine : List E) : Type 0 where
      pub apart : 0 < at
      pub numbered : number < made
      pub placed : place number ≡ at
      pub suffix : IsSuffix seen log
      pub own : entries_by maker number log ≡ mine
      pub own_seen : entries_by maker number seen ≡ mine

    -- what the root knows
    pub record KnowsAll (v : View E) : Type 0 where
      pub first : at ≡ 0
      pub counted : v.made ≡ made
      pub suffix : IsSuffix v.seen log
      pub ours : IsSuffix v.ours v.seen
      pub theirs : IsSuffix v.theirs v.seen
      pub joined : All (IsJoined v.seen) v.joined

-- a ticket that is not served yet, and the view that holds it
pub record HasTicket (served drawn : ℕ) (holder : ℕ → ℕ) (at ticket : ℕ) : Type 0 where
  pub unserved : served ≤ ticket
  pub drawn_before : ticket < drawn
  pub held : holder ticket ≡ at

module _ {E : Type 0} (c : Scene E) (at : ℕ) where
  -- the state is home where this ticket comes to its turn
  abbrev pub Waits : ℕ → Type 0
  Waits ticket = HasTicket c.served c.drawn c.holder at ticket × (ticket ≡ c.served → c.taken ≡ false)

  -- at its turn the seat has seen the whole log
  abbrev pub Serves : ℕ → List E → Type 0
  Serves ticket seen = HasTicket c.served c.drawn c.holder at ticket × (ticket ≡ c.served) × (c.taken ≡ true) × (seen ≡ c.log)

module _ {E : Type 0} (maker : E → ℕ) (c : Scene E) (at : ℕ) where
  -- what each view knows, by its role
  abbrev pub Owns : View E → Type 0
  Owns v = KnowsOwn maker c.log c.made c.place at v.number v.seen v.mine

  abbrev pub Roots : View E → Type 0
  Roots = KnowsAll maker c.log c.made c.place at

  abbrev pub Fits : Role → View E → Type 0
  Fits Spent v = Unit {0}
  Fits Root v = Roots v
  Fits Away v = Owns v
  Fits (Waiting ticket) v = Owns v × Waits c at ticket
  Fits (Serving ticket) v = Owns v × Serves c at ticket v.seen

module _ {S E : Type 0} (log_of : S → List E) where
  -- where the state is: out with the seat at its turn, or home
  abbrev pub Home : Bool → List E → List (maybe.Option (Option S)) → Type 0
  Home true log homes = homes ≡ maybe.none ∷ []
  Home false log homes = (state : S) × (homes ≡ maybe.some (Some state) ∷ []) × (log_of state ≡ log)

-- the number stands in the list
abbrev pub IsAmong : {E : Type 0} → ℕ → List (ℕ × List E) → Type 0
IsAmong number [] = ⊥
IsAmong number (seat ∷ seats) = (seat.0 ≡ number) ⊎ IsAmong number seats

-- a view that stands for the seat of this number: its own, or the root's once it was joined
abbrev pub StandsFor : {E : Type 0} → ℕ → Role → View E → Type 0
StandsFor number Spent v = ⊥
StandsFor number Root v = IsAmong number v.joined
StandsFor number _ v = v.number ≡ number

-- some view stands for the seat of this number
abbrev pub IsThere : {E : Type 0} → ℕ → List (View E) → Type 0
IsThere {E} number views = (at : ℕ) × (v : View E) × (get_elem? views at ≡ maybe.some v) × StandsFor number v.role v

-- a view that has seen the whole log, and was not joined
abbrev pub HasSeen : {E : Type 0} → List E → Role → View E → Type 0
HasSeen log Spent v = ⊥
HasSeen log _ v = v.seen ≡ log

-- some view has
abbrev pub IsSeen : {E : Type 0} → List E → List (View E) → Type 0
IsSeen {E} log views = (at : ℕ) × (v : View E) × (get_elem? views at ≡ maybe.some v) × HasSeen log v.role v

-- the numbers of a list, added up
abbrev pub total : {A : Type 0} → (A → ℕ) → List A → ℕ
total f [] = 0
total f (x ∷ xs) = f x + total f xs

-- how many tickets a view with this role has, and for how many seats it stands
abbrev pub tickets_of : Role → ℕ
tickets_of (Waiting ticket) = 1
tickets_of (Serving ticket) = 1
tickets_of _ = 0

abbrev pub seats_of : Role → ℕ → ℕ
seats_of Spent joined = 0
seats_of Root joined = joined
seats_of _ joined = 1

module _ {E : Type 0} where
  abbrev pub tickets_in : View E → ℕ
  tickets_in v = tickets_of v.role

  abbrev pub seats_in : View E → ℕ
  seats_in v = seats_of v.role (length v.joined)

-- The rule. The words are those of the scene, and the log has fewer than 2^64 entries. At most 64 seats were made, and a number
-- that was not made has no entry. Each seat that was made has a view that stands for it, which makes as many views as seats, and
-- some view has seen the whole log. As many tickets wait as were drawn and not served, so that two tickets in the queue never look alike in a word.
pub record Kept {S E : Type 0} (maker : E → ℕ) (log_of : S → List E) (s : State (Option S) (View E)) : Type 0 where
  pub scene : Scene E
  pub words : s.words ≡ length scene.log ∷ scene.drawn % 2 ^ 64 ∷ scene.served % 2 ^ 64 ∷ []
  pub short : length scene.log < 2 ^ 64
  pub few : scene.made ≤ 64
  pub home : Home log_of scene.taken scene.log s.homes
  pub busy : scene.taken ≡ true → scene.served < scene.drawn
  pub unmade : (number : ℕ) → scene.made ≤ number → entries_by maker number scene.log ≡ []
  pub stands : (number : ℕ) → number < scene.made → IsThere number s.views
  pub longest : IsSeen scene.log s.views
  pub queue : total tickets_in s.views + scene.served ≡ scene.drawn
  pub seats : total seats_in s.views ≡ scene.made
  pub each : (at : ℕ) (v : View E) → get_elem? s.views at ≡ maybe.some v → Fits maker scene at v.role v
