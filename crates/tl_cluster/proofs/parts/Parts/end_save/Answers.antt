use Rattle.std.proofs.Common.{◌≡◌, ◌<◌, Some, if◌then◌else◌, ◌∷◌, sym, ap, ◌∙◌, subst}
use Rattle.tl_types.specs.Block.{FileOutcome}
use Rattle.tl_types.specs.Outcome.{digest_of, outcome_size}
use Rattle.tl_types.specs.Same.{file_same}
use Rattle.tl_types.specs.declared.file_id.FileId.{FileId}
use Rattle.tl_model.specs.declared.event.Act.TheVariants.{Saved}
use Rattle.tl_model.specs.Past.{without_tickets}
use Rattle.tl_fleet.specs.Workers.{held_count}
use Rattle.tl_vault.specs.Vault.{has_place, saved_of}
use Rattle.tl_cluster.specs.Main.{with_saved}
use Rattle.tl_cluster.specs.Stands.{Agrees, PartsState}
use Rattle.tl_cluster.proofs.Checkpointing.{room_to_end, saved, unkept}
use Rattle.tl_cluster.proofs.parts.Parts.end_save.Goals as goal

pub insert-requires-clause-room : goal.insert-requires-clause-room
insert-requires-clause-room g c =
    let block : FileOutcome = c.args.block.now in
    ap (λ (f : FileId). has_place f c.self.inside.vault) c.file-file.ensures
    ∙ ap (λ (p : PartsState _). has_place block.file p.vault) c.self.view_is
    ∙ c.requires.stands.agrees.places c.args.actor block.file c.requires.saving

pub insert-requires-clause-absent : goal.insert-requires-clause-absent
insert-requires-clause-absent g c =
    let block : FileOutcome = c.args.block.now in
    ap (λ (f : FileId). saved_of f c.self.inside.vault) c.file-file.ensures
    ∙ ap (λ (p : PartsState _). saved_of block.file p.vault) c.self.view_is
    ∙ unkept g.T.Ticket.tells g.T.Ticket.content c.args.self.now c.args.actor block.file c.requires.stands.agrees c.requires.saving

pub append-requires-clause-room : goal.append-requires-clause-room
append-requires-clause-room g c =
    let now : PartsState _ = c.args.self.now in
    let block : FileOutcome = c.args.block.now in
    subst (λ (p : PartsState _). 0 < p.spare) (sym c.self.view_is)
    (room_to_end (without_tickets now.events) c.args.actor block.file (held_count now.workers) now.spare c.requires.saving c.requires.actor
    c.requires.stands.agrees.room)

pub returns-clause-agrees : goal.returns-clause-agrees
returns-clause-agrees g c =
    let block : FileOutcome = c.args.block.now in
    let actor = c.args.actor in
    let file : c.file-file.result ≡ block.file = c.file-file.ensures in
    let size : c.size-size.result ≡ outcome_size block.outcome = c.size-size.ensures ∙ ap outcome_size c.outcome.ensures in
    let digest : c.digest.result ≡ record { 0 = digest_of block.outcome } = λ i. record { 0 = c.digest.ensures i } in
    let events : c.append.new.self.events
    ≡ record { actor = actor; act = Saved block.file (outcome_size block.outcome) (record { 0 = digest_of block.outcome }) } ∷ c.self.inside.ledger.events =
    c.append.ensures.events ∙ (λ i. record { actor = actor; act = Saved (file i) (size i) (digest i) } ∷ c.self.inside.ledger.events) in
    subst (Agrees g.T.Ticket.tells g.T.Ticket.content) (sym ((λ i. record {
      header = c.append.ensures.header i;
      events = events i;
      spare = c.append.ensures.spare i;
      workers = c.self.inside.fleet;
      vault = c.insert.new.self;
    }) ∙ ap (with_saved actor block c.insert.new.self) c.self.view_is))
    (saved g.T.Ticket.tells g.T.Ticket.content c.args.self.now actor block c.args.saved c.insert.new.self c.requires.stands c.requires.saving c.requires.actor
    c.requires.kept c.requires.value
    (λ h. c.insert.ensures.kept h ∙ ap (λ (f : FileId). if file_same h f then Some c.args.saved else saved_of h c.self.inside.vault) file
    ∙ ap (λ (p : PartsState _). if file_same h block.file then Some c.args.saved else saved_of h p.vault) c.self.view_is)
    (λ h. c.insert.ensures.places h ∙ ap (λ (p : PartsState _). has_place h p.vault) c.self.view_is))
