use Rattle.std.proofs.Common.{◌≡◌, ◌∷◌, if◌then◌else◌, None, sym, ap, ◌∙◌, subst, ◌<◌}
use Rattle.tl_model.specs.declared.event.Act.TheVariants.{Lose}
use Rattle.tl_model.specs.Residency.{is_resident_on}
use Rattle.tl_core.specs.Answers.{past_of}
use Rattle.tl_core.specs.Residents.{held}
use Rattle.tl_core.specs.State.{State}
use Rattle.tl_core.proofs.Carry.{carried}
use Rattle.tl_core.proofs.Losing.{lost, held-lost}
use Rattle.tl_core.proofs.cluster.Cluster.lose.Goals as goal

pub invariant_of-self-2 : goal.invariant_of-self-2
invariant_of-self-2 g c =
    let known = subst (λ (s : State _). c.args.worker.0 < s.header.workers) (sym c.self.view_is) c.requires.worker in
    carried g.T.Ticket.tells g.T.Ticket.content _ _ _ _ _ _ _ _ (c.append.ensures.header ∙ c.in_ok-reserve.ensures.header)
    (c.append.ensures.events ∙ ap (λ es. record { actor = c.args.actor; act = Lose c.args.worker } ∷ es) c.in_ok-reserve.ensures.events)
    c.empty.ensures c.append.ensures.spare
    (lost g.T.Ticket.tells g.T.Ticket.content c.self.inside.journal.header c.self.inside.journal.events c.self.inside.residents.items c.self.inside.journal.spare
    c.reserve.new.self.spare c.args.actor c.args.worker c.self.invariant c.requires.actor known c.in_ok-reserve.ensures.room)

pub returns-clause-held : goal.returns-clause-held
returns-clause-held g c = λ f.
    subst (λ (s : State _). held f c.empty.new.residents.items ≡ (if is_resident_on (past_of s) f c.args.worker then None else held f s.residents)) c.self.view_is
    (ap (held f) c.empty.ensures
    ∙ held-lost g.T.Ticket.tells g.T.Ticket.content c.self.inside.journal.events c.self.inside.residents.items c.args.worker f c.self.invariant.blocks)
