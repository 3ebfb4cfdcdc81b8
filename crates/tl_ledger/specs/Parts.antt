-- What is kept beside a journal, and when it stands for the journal's past.
use Rattle.std.specs.Prelude.{◌≡◌, ◌+◌, ◌<◌, ◌^◌, ℕ, true, List, [], ◌∷◌, length}
use Rattle.std.specs.Prelude.{Option, Some, None, if◌then◌else◌}
use Rattle.tl_types.specs.declared.file_id.FileId.{FileId}
use Rattle.tl_model.specs.declared.event.Act.{Act}
use Rattle.tl_model.specs.declared.event.Event.{Event}
use Rattle.tl_model.specs.declared.header.Header.{Header}
use Rattle.tl_model.specs.declared.record.Record.{Record}
use Rattle.tl_model.specs.History.{id_of}
use Rattle.tl_model.specs.Past.{Past, event_with, without_tickets}
use Rattle.tl_model.specs.Replies.{record_limit}
use Rattle.tl_model.specs.Rules.{all_permitted, lawful_judge}
use Rattle.tl_lineage.specs.Slots.{Lineage}
use Rattle.tl_lineage.specs.Standing.{slots_of}
use Rattle.tl_plan.specs.Data.{PlanData}
use Rattle.tl_plan.specs.Standing as plans
use Rattle.tl_prio.specs.Data.{OrderData}
use Rattle.tl_prio.specs.Standing as orders
use Rattle.tl_edge.specs.Data.{EdgeData}
use Rattle.tl_edge.specs.Standing as edges
use Rattle.tl_gc.specs.Data.{GcData}
use Rattle.tl_gc.specs.Standing as gcs
use Rattle.tl_steps.specs.Steps.{UnnamesOnly, accepts, added}

-- which records are tasks and what is wanted, which record is next, the records, which file is
-- saved next, and which record may be let go
pub record PartsData : Type 0 where
  pub plan : PlanData
  pub order : OrderData
  pub graph : Lineage
  pub edge : EdgeData
  pub gc : GcData

-- the parts stand for a past of a journal of this header
pub record StandFor (header : Header) (parts : PartsData) (past : Past) : Type 0 where
  pub plan : plans.StandsFor parts.plan past
  pub order : orders.StandsFor parts.order past
  pub edge : edges.StandsFor header parts.edge past
  pub gc : gcs.StandsFor parts.gc past

-- there is a place for the record in each part
pub record HaveRoom (parts : PartsData) (r : Record) : Type 0 where
  pub plan : plans.HasRoom parts.plan r
  pub order : orders.HasRoom parts.order r
  pub graph : 0 < parts.graph.spare
  pub edge : edges.HasRoom parts.edge r
  pub gc : gcs.HasRoom parts.gc r

-- The event is permitted after events that are, with it they are fewer than 2^64, and this is the
-- file that it leaves without a name.
pub record MayFollow {T : Type 0} (header : Header) (events : List (Event T)) (event : Event T)
    (gone : Option FileId) : Type 0 where
  pub permitted : all_permitted lawful_judge header (event ∷ events) ≡ true
  pub few : length (event ∷ events) < 2 ^ 64
  pub unnames : UnnamesOnly (without_tickets events) (event_with (λ _. tt) event) gone

-- the record that an act adds is at hand, of this number and with places for it, where the act adds
-- one
abbrev pub IsAtHand : PartsData → ℕ → Act (Unit {0}) → Option Record → Type 0
IsAtHand parts count act rec = accepts act ≡ true →
    (r : Record) × (rec ≡ Some r) × HaveRoom parts r × ((id_of r).0 ≡ count)
    × (count < record_limit)

abbrev pub list_of : Option Record → List Record
list_of None = []
list_of (Some r) = r ∷ []

-- it is the record that the act adds
abbrev pub IsAdded : Past → Act (Unit {0}) → Option Record → Type 0
IsAdded past act rec = accepts act ≡ true → added past act ≡ list_of rec

abbrev pub count_after : ℕ → Act (Unit {0}) → ℕ
count_after count act = if accepts act then count + 1 else count

-- The parts follow a journal: the graph has its records, the order goes by its header's rule, and
-- where all its events are permitted the others stand for its past.
pub record FollowPast {T : Type 0} (parts : PartsData) (header : Header)
    (events : List (Event T)) : Type 0 where
  pub rule : parts.order.turns.rule ≡ header.order
  pub slots : parts.graph.slots ≡ slots_of (without_tickets events)
  pub stand : all_permitted lawful_judge header events ≡ true →
      StandFor header parts (without_tickets events)
