use Rattle.std.proofs.Common.{◌≡◌, Some, is_some, ap, ◌∙◌, sym, subst}
use Rattle.tl_types.specs.Block.{FileOutcome}
use Rattle.tl_types.specs.Outcome.{digest_of}
use Rattle.tl_types.specs.declared.file_id.FileId.{FileId}
use Rattle.tl_model.specs.Actors.{open_read}
use Rattle.tl_model.specs.Past.{without_tickets}
use Rattle.tl_cluster.specs.declared.look.Look.TheVariants as looked
use Rattle.tl_cluster.specs.Looks.{Looked}
use Rattle.tl_cluster.specs.Stands.{PartsState}
use Rattle.tl_cluster.specs.State.{State, past_of}
use Rattle.tl_cluster.specs.Turned.{Settled}
use Rattle.tl_cluster.proofs.Carry.{if_ok, value_of}
use Rattle.tl_cluster.proofs.Steps.{held-resident}
use Rattle.tl_cluster.proofs.Turning.{looked-have, looked-store, state_of}
use Rattle.tl_cluster.proofs.cluster.Cluster.look.Goals as goal

pub serve-requires-clause-reading : goal.serve-requires-clause-reading
serve-requires-clause-reading g c =
    let some = value_of (open_read (without_tickets c.self.inside.parts.events) c.args.actor)
    (ap (λ (s : State _). is_some (open_read (past_of s) c.args.actor)) c.self.view_is ∙ c.requires.reading) in
    (some.0, some.1, sym (c.file_read-file.ensures some.0 some.1))

pub look_in_store-requires-clause-nowhere : goal.look_in_store-requires-clause-nowhere
look_in_store-requires-clause-nowhere g c =
    sym (held-resident g.T.Ticket.tells g.T.Ticket.content c.self.inside.parts c.self.invariant.agrees c.file_read-file.result)
    ∙ ap is_some (sym c.in_ok-block.ensures ∙ c.in-None.is)

pub returns-in-Some-clause-ok : goal.returns-in-Some-clause-ok
returns-in-Some-clause-ok g c = λ read is.
    let parts = c.self.inside.parts in
    let after : State _ = state_of c.settle.new.self in
    let opened : open_read (without_tickets parts.events) c.args.actor ≡ Some read =
    ap (λ (s : State _). open_read (past_of s) c.args.actor) c.self.view_is ∙ is in
    let file : c.file_read-file.result ≡ read.file = c.file_read-file.ensures read opened in
    let settled = subst (λ (p : PartsState _). Settled c.args.actor p c.settle.new.self) c.serve.ensures.served c.settle.ensures.settled in
    subst (λ (s : State _). Looked g.T.Ticket.tells g.T.Ticket.content s after c.args.actor read.file (looked.Have c.in-Some.block)) c.self.view_is
    (subst (λ (f : FileId). Looked g.T.Ticket.tells g.T.Ticket.content (state_of parts) after c.args.actor f (looked.Have c.in-Some.block)) file
    (looked-have g.T.Ticket.tells g.T.Ticket.content parts c.settle.new.self c.args.actor c.file_read-file.result c.digest.result c.in-Some.block
    (sym c.in_ok-block.ensures ∙ c.in-Some.is)
    (c.digest.ensures ∙ ap (λ (b : FileOutcome). digest_of b.outcome) c.get.ensures) settled))

pub returns-in-None-clause-ok : goal.returns-in-None-clause-ok
returns-in-None-clause-ok g c = λ read is.
    let parts = c.self.inside.parts in
    let opened : open_read (without_tickets parts.events) c.args.actor ≡ Some read =
    ap (λ (s : State _). open_read (past_of s) c.args.actor) c.self.view_is ∙ is in
    let file : c.file_read-file.result ≡ read.file = c.file_read-file.ensures read opened in
    let nowhere = sym (held-resident g.T.Ticket.tells g.T.Ticket.content parts c.self.invariant.agrees c.file_read-file.result)
    ∙ ap is_some (sym c.in_ok-block.ensures ∙ c.in-None.is) in
    if_ok _ _ _ (λ look store.
    subst (λ (s : State _). Looked g.T.Ticket.tells g.T.Ticket.content s s c.args.actor read.file look) c.self.view_is
    (subst (λ (f : FileId). Looked g.T.Ticket.tells g.T.Ticket.content (state_of parts) (state_of parts) c.args.actor f look) file
    (looked-store g.T.Ticket.tells g.T.Ticket.content (state_of parts) c.args.actor c.file_read-file.result look nowhere store)))
    c.look_in_store.ensures
