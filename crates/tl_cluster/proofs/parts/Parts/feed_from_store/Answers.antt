use Rattle.std.proofs.Common.{◌≡◌, ap, ◌∙◌, sym}
use Rattle.std.specs.Option.{option_copied}
use Rattle.tl_vault.specs.Vault.{saved_of}
use Rattle.tl_cluster.specs.Stands.{PartsState}
use Rattle.tl_cluster.proofs.Feeding.{fed-kept, kept-there}
use Rattle.tl_cluster.proofs.parts.Parts.feed_from_store.Goals as goal

pub unreachable-requires : goal.unreachable-requires
unreachable-requires g c =
    let now : PartsState _ = c.args.self.now in
    let found : option_copied c.get.result ≡ saved_of c.args.file now.vault =
    c.get.ensures ∙ ap (λ (p : PartsState _). saved_of c.args.file p.vault) c.self.view_is in
    kept-there g.T.Ticket.tells g.T.Ticket.content now c.args.file c.requires.stands c.requires.nowhere
    (sym found ∙ ap option_copied c.in-None.is) c.requires.available

pub returns : goal.returns
returns g c =
    let now : PartsState _ = c.args.self.now in
    let found : option_copied c.get.result ≡ saved_of c.args.file now.vault =
    c.get.ensures ∙ ap (λ (p : PartsState _). saved_of c.args.file p.vault) c.self.view_is in
    fed-kept g.T.Ticket.tells g.T.Ticket.content now c.args.file c.in-Some.saved.now c.in_ok-copy_saved-in-Some.field-0 c.requires.stands
    c.requires.nowhere (sym found ∙ ap option_copied c.in-Some.is) c.in_ok-copy_saved-in-Some.ensures
