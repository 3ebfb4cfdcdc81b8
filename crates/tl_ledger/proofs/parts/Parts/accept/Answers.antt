use Rattle.std.proofs.Common.{sym, subst, List}
use Rattle.tl_model.specs.declared.record.Record.{Record}
use Rattle.tl_model.specs.Past.{act_with, without_tickets}
use Rattle.tl_plan.specs.Standing as plans
use Rattle.tl_prio.specs.Standing as orders
use Rattle.tl_edge.specs.Standing as edges
use Rattle.tl_gc.specs.Standing as gcs
use Rattle.tl_ledger.specs.Parts.{HaveRoom, PartsData, StandFor}
use Rattle.tl_ledger.proofs.Added.{unclaimed}
use Rattle.tl_ledger.proofs.parts.Parts.accept.Goals as goal

pub returns-clause-stand : goal.returns-clause-stand
returns-clause-stand g c = λ header past stand added follows.
    let old = subst (λ (parts : PartsData). StandFor header parts (without_tickets past)) (sym c.self.view_is) stand in
    let room = subst (λ (parts : PartsData). HaveRoom parts c.args.rec) (sym c.self.view_is) c.requires.room in
    let plain = without_tickets past in
    record {
      plan = c.note.ensures.stands header past old.plan
          (subst (λ (rs : List Record). plans.HasRoomForAll c.self.inside.plan rs) (sym added) room.plan) follows.permitted;
      order = c.note-2.ensures.stands header past
          (unclaimed c.self.inside.order plain (act_with (λ _. tt) c.args.event.now.act) c.requires.call old.order)
          (subst (λ (rs : List Record). orders.HasRoomForAll c.self.inside.order rs) (sym added) room.order) follows.permitted;
      edge = c.note-3.ensures.stands header past old.edge
          (subst (λ (rs : List Record). edges.HasRoomForAll c.self.inside.edge rs) (sym added) room.edge) follows.unnames follows.permitted follows.few;
      gc = c.note-4.ensures.stands header past old.gc
          (subst (λ (rs : List Record). gcs.HasRoomForAll c.self.inside.gc rs) (sym added) room.gc) follows.unnames follows.permitted;
    }
