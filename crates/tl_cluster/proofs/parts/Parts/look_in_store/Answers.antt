use Rattle.std.proofs.Common.{◌≡◌, Option, ap, ◌∙◌, subst, sym}
use Rattle.std.specs.Option.{option_copied}
use Rattle.tl_model.specs.declared.saved.Saved.{Saved}
use Rattle.tl_model.specs.Past.{events_with, without_tickets}
use Rattle.tl_model.specs.Residency.{saved_as}
use Rattle.tl_model.specs.Values.{value}
use Rattle.tl_vault.specs.Vault.{saved_of}
use Rattle.tl_cluster.specs.Kept.{IsKept}
use Rattle.tl_cluster.specs.Stands.{PartsState}
use Rattle.tl_cluster.proofs.Carry.{if_ok}
use Rattle.tl_cluster.proofs.Looking.{in-store}
use Rattle.tl_cluster.proofs.parts.Parts.look_in_store.Goals as goal

pub returns : goal.returns
returns g c =
    let now : PartsState _ = c.args.self.now in
    let found : option_copied c.get.result ≡ saved_of c.args.file now.vault =
    c.get.ensures ∙ ap (λ (p : PartsState _). saved_of c.args.file p.vault) c.self.view_is in
    if_ok _ _ _ (λ look shows.
    in-store g.T.Ticket.tells g.T.Ticket.content now.events c.args.file (option_copied c.get.result) look c.requires.nowhere
    (subst (λ (o : Option (Saved _)). IsKept g.T.Ticket.tells g.T.Ticket.content (value (events_with g.T.Ticket.content now.events) c.args.file)
    (saved_as (without_tickets now.events) c.args.file) o) (sym found) (c.requires.stands.agrees.kept c.args.file))
    shows) c.look_at.ensures
