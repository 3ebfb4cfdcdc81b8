use Rattle.std.proofs.Common.{Some, is_some, sym, ap, ◌∙◌, subst}
use Rattle.tl_types.specs.Block.{FileOutcome}
use Rattle.tl_model.specs.Checkpoints.{next_save}
use Rattle.tl_model.specs.Past.{without_tickets}
use Rattle.tl_cluster.specs.Saves.{Begun}
use Rattle.tl_cluster.specs.Stands.{PartsState}
use Rattle.tl_cluster.specs.State.{State}
use Rattle.tl_cluster.specs.Turned.{Settled}
use Rattle.tl_cluster.proofs.Begun.{begun-turn, next-held}
use Rattle.tl_cluster.proofs.Turning.{state_of}
use Rattle.tl_cluster.proofs.cluster.Cluster.save_begin.Goals as goal

pub unreachable-requires : goal.unreachable-requires
unreachable-requires g c =
    let parts : PartsState _ = c.self.inside.parts in
    let next = sym c.in-Some.ensures in
    let there = next-held g.T.Ticket.tells g.T.Ticket.content parts c.in-Some.file c.self.invariant.agrees next in
    let gone = ap is_some (sym c.in_ok-block-in-Some.ensures ∙ c.in_default.is) in
    let no = sym there ∙ gone in
    absurd (cc)

pub begin_save-requires-clause-next : goal.begin_save-requires-clause-next
begin_save-requires-clause-next g c =
    let parts : PartsState _ = c.self.inside.parts in
    let next = sym c.in-Some.ensures in
    let ready = c.in_ok-ready_to_save-in-Some.ensures.ready in
    (λ i. next_save (ready.header i) (without_tickets (ready.events i))) ∙ next

pub returns-in_ok-ready_to_save-in-Some-clause-ok : goal.returns-in_ok-ready_to_save-in-Some-clause-ok
returns-in_ok-ready_to_save-in-Some-clause-ok g c =
    let parts : PartsState _ = c.self.inside.parts in
    let after : State _ = state_of c.settle.new.self in
    let next = sym c.in-Some.ensures in
    let block : FileOutcome = c.in-Some-2.block in
    let settled = subst (λ (p : PartsState _). Settled c.args.actor p c.settle.new.self) c.begin_save.ensures.begun c.settle.ensures.settled in
    let place = c.count-place.ensures in
    subst (λ (s : State _). Begun s after c.args.actor (Some (record { actor = c.args.actor; place = c.count-place.result; block = block }))) c.self.view_is
    (begun-turn g.T.Ticket.tells g.T.Ticket.content parts c.ready_to_save.new.self c.settle.new.self c.args.actor c.in-Some.file block c.count-place.result
    next (sym c.in_ok-block-in-Some.ensures ∙ c.in-Some-2.is) place c.in_ok-ready_to_save-in-Some.ensures.ready settled)
