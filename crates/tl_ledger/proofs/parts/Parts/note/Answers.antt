use Rattle.std.proofs.Common.{◌<◌, ◌^◌, ℕ, sym, subst, List, length}
use Rattle.tl_model.specs.declared.record.Record.{Record}
use Rattle.tl_model.specs.Past.{act_with, event_with, without_tickets}
use Rattle.tl_plan.specs.Standing as plans
use Rattle.tl_prio.specs.Standing as orders
use Rattle.tl_edge.specs.Standing as edges
use Rattle.tl_gc.specs.Standing as gcs
use Rattle.tl_ledger.specs.Parts.{PartsData, StandFor}
use Rattle.tl_ledger.proofs.Added.{none-added}
use Rattle.tl_ledger.proofs.Slots.{fewer, map-length}
use Rattle.tl_ledger.proofs.parts.Parts.note.Goals as goal

pub returns-clause-stand : goal.returns-clause-stand
returns-clause-stand g c = λ header past stand follows.
    let old = subst (λ (parts : PartsData). StandFor header parts (without_tickets past)) (sym c.self.view_is) stand in
    let short : length (without_tickets past) < 2 ^ 64 =
    subst (λ (n : ℕ). n < 2 ^ 64) (sym (map-length (event_with (λ _. tt)) past)) (fewer c.args.event.now past follows.few) in
    let none = none-added (without_tickets past) (act_with (λ _. tt) c.args.event.now.act) c.requires in
    record {
      plan = c.note.ensures.stands header past old.plan
          (subst (λ (rs : List Record). plans.HasRoomForAll c.self.inside.plan rs) (sym none) tt) follows.permitted;
      order = c.note-2.ensures.stands header past (c.count_claim.ensures.stands (without_tickets past) old.plan old.order short)
          (subst (λ (rs : List Record). orders.HasRoomForAll c.count_claim.new.order rs) (sym none) tt) follows.permitted;
      edge = c.note-3.ensures.stands header past old.edge
          (subst (λ (rs : List Record). edges.HasRoomForAll c.self.inside.edge rs) (sym none) tt) follows.unnames follows.permitted follows.few;
      gc = c.note-4.ensures.stands header past old.gc
          (subst (λ (rs : List Record). gcs.HasRoomForAll c.self.inside.gc rs) (sym none) tt) follows.unnames follows.permitted;
    }
