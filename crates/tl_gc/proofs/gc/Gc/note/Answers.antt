use Rattle.std.proofs.Common.{◌∷◌, subst, sym}
use Rattle.tl_model.specs.Past.{without_tickets}
use Rattle.tl_gc.specs.Data.{GcData}
use Rattle.tl_gc.specs.Standing.{StandsFor}
use Rattle.tl_gc.proofs.Noting.{noted}
use Rattle.tl_gc.proofs.gc.Gc.note.Goals as goal

pub returns-clause-stands : goal.returns-clause-stands
returns-clause-stands g c = λ header past stands room only permitted.
    let event = c.args.event.now in
    subst (λ (gc : GcData). StandsFor gc (without_tickets (event ∷ past))) (sym c.note_event.ensures)
    (noted header event past c.args.gone c.args.self.now stands room only permitted)
