use Rattle.std.proofs.Common.{◌≡◌, true, sym, ap, ◌∙◌, subst}
use Rattle.tl_model.specs.Actors.{open_read}
use Rattle.tl_model.specs.Past.{without_tickets}
use Rattle.tl_model.specs.Rules.{is_lawful}
use Rattle.tl_cluster.specs.Stands.{PartsState}
use Rattle.tl_cluster.proofs.Steps.{lawful-permitted}
use Rattle.tl_cluster.proofs.parts.Parts.reading.Goals as goal

pub returns : goal.returns
returns g c =
    let ledger = c.self.inside.ledger in
    let lawful = subst (λ (p : PartsState _). is_lawful p.header p.events ≡ true) (sym c.self.view_is) c.requires in
    c.reading.ensures (lawful-permitted ledger.header ledger.events lawful)
    ∙ ap (λ (p : PartsState _). open_read (without_tickets p.events) c.args.actor) c.self.view_is
