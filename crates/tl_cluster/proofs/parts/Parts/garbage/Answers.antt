use Rattle.std.proofs.Common.{◌≡◌, true, sym, ap, ◌∙◌, subst}
use Rattle.tl_model.specs.Needs.{garbage}
use Rattle.tl_model.specs.Past.{without_tickets}
use Rattle.tl_model.specs.Rules.{is_lawful}
use Rattle.tl_cluster.specs.Stands.{PartsState}
use Rattle.tl_cluster.proofs.Steps.{lawful-permitted}
use Rattle.tl_cluster.proofs.parts.Parts.garbage.Goals as goal

pub returns-clause-least : goal.returns-clause-least
returns-clause-least g c =
    let ledger = c.self.inside.ledger in
    let lawful = subst (λ (p : PartsState _). is_lawful p.header p.events ≡ true) (sym c.self.view_is) c.requires.agrees.lawful in
    c.garbage.ensures.garbage (lawful-permitted ledger.header ledger.events lawful)
    ∙ ap (λ (p : PartsState _). garbage (without_tickets p.events)) c.self.view_is
