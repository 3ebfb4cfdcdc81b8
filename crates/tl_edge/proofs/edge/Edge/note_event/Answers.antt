use Rattle.std.proofs.Common.{◌∙◌, ap}
use Rattle.tl_model.specs.Past.{event_with}
use Rattle.tl_edge.specs.Data.{edge_after}
use Rattle.tl_edge.proofs.edge.Edge.note_event.Goals as goal

pub returns : goal.returns
returns g c = c.note_all.ensures.after c.self.inside.hot ∙ ap (edge_after (event_with (λ _. tt) c.args.event.now) c.args.gone) c.self.view_is
