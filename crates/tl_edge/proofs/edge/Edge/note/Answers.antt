use Rattle.std.proofs.Common.{◌∷◌, subst, sym}
use Rattle.tl_model.specs.Past.{without_tickets}
use Rattle.tl_edge.specs.Data.{EdgeData}
use Rattle.tl_edge.specs.Standing.{StandsFor}
use Rattle.tl_edge.proofs.Noting.{noted}
use Rattle.tl_edge.proofs.edge.Edge.note.Goals as goal

pub returns-clause-stands : goal.returns-clause-stands
returns-clause-stands g c = λ header past stands room only permitted few.
    let event = c.args.event.now in
    subst (λ (edge : EdgeData). StandsFor header edge (without_tickets (event ∷ past))) (sym c.note_event.ensures)
    (noted header event past c.args.gone c.args.self.now stands room only permitted few)
