use Rattle.std.proofs.Common.{◌≡◌, ◌<◌, is_some, ap, ◌∙◌, sym, subst}
use Rattle.tl_types.specs.Block.{FileOutcome}
use Rattle.tl_types.specs.Outcome.{digest_of}
use Rattle.tl_model.specs.Actors.{open_read}
use Rattle.tl_model.specs.Past.{without_tickets}
use Rattle.tl_model.specs.Residency.{is_resident}
use Rattle.tl_cluster.specs.Looks.{Loaded}
use Rattle.tl_cluster.specs.Stands.{PartsState}
use Rattle.tl_cluster.specs.State.{State, past_of}
use Rattle.tl_cluster.specs.Turned.{Settled}
use Rattle.tl_cluster.proofs.Brought.{loaded-brought, loaded-held}
use Rattle.tl_cluster.proofs.Carry.{value_of}
use Rattle.tl_cluster.proofs.Steps.{held-resident}
use Rattle.tl_cluster.proofs.Turning.{state_of}
use Rattle.tl_cluster.proofs.cluster.Cluster.loaded.Goals as goal

pub serve-requires-clause-reading : goal.serve-requires-clause-reading
serve-requires-clause-reading g c =
    let view = c.self.view_is in
    let some = value_of (open_read (without_tickets c.self.inside.parts.events) c.args.actor)
    (ap (λ (s : State _). is_some (open_read (past_of s) c.args.actor)) view ∙ c.requires.reading) in
    let file = c.requires.file some.0 (ap (λ (s : State _). open_read (past_of s) c.args.actor) (sym view) ∙ some.1) in
    (some.0, some.1, sym (c.file-file.ensures ∙ ap (λ (b : FileOutcome). b.file) c.get.ensures ∙ file))

pub load-requires-clause-reading : goal.load-requires-clause-reading
load-requires-clause-reading g c =
    let view = c.self.view_is in
    let some = value_of (open_read (without_tickets c.self.inside.parts.events) c.args.actor)
    (ap (λ (s : State _). is_some (open_read (past_of s) c.args.actor)) view ∙ c.requires.reading) in
    let file = c.requires.file some.0 (ap (λ (s : State _). open_read (past_of s) c.args.actor) (sym view) ∙ some.1) in
    (some.0, some.1, sym file)

pub load-requires-clause-nowhere : goal.load-requires-clause-nowhere
load-requires-clause-nowhere g c =
    let parts = c.self.inside.parts in
    let file : c.file-file.result ≡ c.args.block.file = c.file-file.ensures ∙ ap (λ (b : FileOutcome). b.file) c.get.ensures in
    ap (is_resident (without_tickets parts.events)) (sym file)
    ∙ sym (held-resident g.T.Ticket.tells g.T.Ticket.content parts c.self.invariant.agrees c.file-file.result)
    ∙ ap is_some (sym c.in_ok-held.ensures ∙ c.in-None.is)

pub returns-in-Some-clause-ok : goal.returns-in-Some-clause-ok
returns-in-Some-clause-ok g c =
    let parts = c.self.inside.parts in
    let after : State _ = state_of c.settle.new.self in
    let block : FileOutcome = c.args.block in
    let answer : FileOutcome = c.in-Some.held in
    let file : c.file-file.result ≡ block.file = c.file-file.ensures ∙ ap (λ (b : FileOutcome). b.file) c.get.ensures in
    let settled = subst (λ (p : PartsState _). Settled c.args.actor p c.settle.new.self) c.serve.ensures.served c.settle.ensures.settled in
    subst (λ (s : State _). Loaded s after c.args.actor c.args.worker block answer) c.self.view_is
    (loaded-held g.T.Ticket.tells g.T.Ticket.content parts c.settle.new.self c.args.actor c.args.worker block answer c.file-file.result c.digest.result
    c.self.invariant.agrees file (sym c.in_ok-held.ensures ∙ c.in-Some.is)
    (c.digest.ensures ∙ ap (λ (b : FileOutcome). digest_of b.outcome) c.get-in-Some.ensures) settled)

pub returns-in_ok-load-in-None-clause-ok : goal.returns-in_ok-load-in-None-clause-ok
returns-in_ok-load-in-None-clause-ok g c =
    let parts = c.self.inside.parts in
    let after : State _ = state_of c.settle-in-None.new.self in
    let block : FileOutcome = c.args.block in
    let answer : FileOutcome = c.in_ok-answer-in-None.answer in
    let file : c.file-file.result ≡ block.file = c.file-file.ensures ∙ ap (λ (b : FileOutcome). b.file) c.get.ensures in
    let nowhere = ap (is_resident (without_tickets parts.events)) (sym file)
    ∙ sym (held-resident g.T.Ticket.tells g.T.Ticket.content parts c.self.invariant.agrees c.file-file.result)
    ∙ ap is_some (sym c.in_ok-held.ensures ∙ c.in-None.is) in
    subst (λ (s : State _). Loaded s after c.args.actor c.args.worker block answer) c.self.view_is
    (loaded-brought g.T.Ticket.tells g.T.Ticket.content parts c.load.new.self c.settle-in-None.new.self c.args.actor c.args.worker block answer
    c.self.invariant.agrees (subst (λ (s : State _). c.args.worker.0 < s.header.workers) (sym c.self.view_is) c.requires.worker) nowhere
    c.in_ok-answer-in-None.ensures c.in_ok-load-in-None.ensures.loaded c.settle-in-None.ensures.settled)
