use Rattle.std.proofs.Common.{◌≡◌, ◌<◌, ◌∷◌, true, List, length, reverse, Option, refl, sym, ap, ◌∙◌, subst}
use Rattle.tl_model.specs.declared.event.Act.TheVariants.{Claim}
use Rattle.tl_model.specs.declared.event.Event.{Event}
use Rattle.tl_model.specs.Journal.{Ledger}
use Rattle.tl_model.specs.History.{records}
use Rattle.tl_model.specs.Rules.{may_claim}
use Rattle.tl_laws.specs.Numbers.{Numbered}
use Rattle.tl_core.specs.declared.feeds.Taken.{Taken}
use Rattle.tl_core.specs.Answers.{past_of}
use Rattle.tl_core.specs.Claims.{incarnation}
use Rattle.tl_core.specs.Residents.{Residents}
use Rattle.tl_core.specs.State.{State}
use Rattle.tl_core.specs.Taken.{Supplies, TakesUp}
use Rattle.tl_core.proofs.Carry.{carried}
use Rattle.tl_core.proofs.Doing.{stands-numbered}
use Rattle.tl_core.proofs.Taking.{stands-supplies, claimed, claimed-work}
use Rattle.tl_core.proofs.cluster.Cluster.claim.Goals as goal

pub take_up-requires-clause-lawful : goal.take_up-requires-clause-lawful
take_up-requires-clause-lawful g c = c.self.invariant.lawful

pub take_up-requires-clause-supplies : goal.take_up-requires-clause-supplies
take_up-requires-clause-supplies g c =
    subst (λ (rs : Residents). Supplies c.self.inside.journal.events rs) (sym c.deref.ensures.value)
    (stands-supplies g.T.Ticket.tells g.T.Ticket.content c.self.inside.journal.header c.self.inside.journal.events c.self.inside.residents.items
    c.self.inside.journal.spare c.self.invariant)

pub invariant_of-self-in-Some : goal.invariant_of-self-in-Some
invariant_of-self-in-Some g c =
    let events = c.self.inside.journal.events in
    let residents = c.self.inside.residents.items in
    let known = subst (λ (s : State _). c.args.worker.0 < s.header.workers) (sym c.self.view_is) c.requires.worker in
    let idle = subst (λ (s : State _). may_claim (past_of s) c.args.actor ≡ true) (sym c.self.view_is) c.requires.idle in
    let takes = subst (λ (o : Option (Taken _)). TakesUp g.T.Ticket.content c.self.inside.journal.header events residents o) c.in-Some.is
    (subst (λ (rs : Residents). TakesUp g.T.Ticket.content c.self.inside.journal.header events rs c.in_ok-taken.field-0) c.deref.ensures.value
    c.in_ok-taken.ensures.taken) in
    let same = c.take_up.ensures.same in
    let numbers = stands-numbered g.T.Ticket.tells g.T.Ticket.content c.self.inside.journal.header events residents c.self.inside.journal.spare c.self.invariant in
    carried g.T.Ticket.tells g.T.Ticket.content _ _ _ _ _ _ _ _ (c.append.ensures.header ∙ c.in_ok-reserve-in-Some.ensures.header ∙ ap (λ (l : Ledger _). l.header) same)
    (c.append.ensures.events ∙ ap (λ es. record { actor = c.args.actor; act = Claim c.args.worker c.in-Some.taken.rec } ∷ es) (c.in_ok-reserve-in-Some.ensures.events ∙ ap (λ (l : Ledger _). l.events) same))
    refl c.append.ensures.spare
    (claimed g.T.Ticket.tells g.T.Ticket.content c.self.inside.journal.header events residents c.self.inside.journal.spare
    c.reserve.new.self.spare c.args.actor c.args.worker c.in-Some.taken.rec c.self.invariant numbers c.requires.actor known idle takes.0 c.in_ok-reserve-in-Some.ensures.room)

pub returns-in_ok-reserve-in-Some-clause-ok : goal.returns-in_ok-reserve-in-Some-clause-ok
returns-in_ok-reserve-in-Some-clause-ok g c =
    let events = c.self.inside.journal.events in
    let residents = c.self.inside.residents.items in
    let takes = subst (λ (o : Option (Taken _)). TakesUp g.T.Ticket.content c.self.inside.journal.header events residents o) c.in-Some.is
    (subst (λ (rs : Residents). TakesUp g.T.Ticket.content c.self.inside.journal.header events rs c.in_ok-taken.field-0) c.deref.ensures.value
    c.in_ok-taken.ensures.taken) in
    let same = c.take_up.ensures.same in
    let kept = c.in_ok-reserve-in-Some.ensures.events ∙ ap (λ (l : Ledger _). l.events) same in
    let seen = c.events.ensures ∙ kept in
    let lost = c.incarnation-incarnation.ensures.value ∙ ap (λ (es : List (Event _)). incarnation es c.args.worker) seen in
    let place = c.len-place.ensures ∙ ap length kept in
    claimed-work g.T.Ticket.tells g.T.Ticket.content c.self.inside.journal.header events residents c.self.inside.journal.spare c.args.self.now _
    c.args.actor c.args.worker c.in-Some.taken c.into_work.result c.self.view_is
    (λ i. record {
      header = (c.append.ensures.header ∙ c.in_ok-reserve-in-Some.ensures.header ∙ ap (λ (l : Ledger _). l.header) same) i;
      events = (c.append.ensures.events ∙ ap (λ es. record { actor = c.args.actor; act = Claim c.args.worker c.in-Some.taken.rec } ∷ es) kept) i;
      residents = residents;
    })
    c.self.invariant takes.0 takes.1
    (c.into_work.ensures ∙ (λ i. record { actor = c.args.actor; worker = c.args.worker; incarnation = lost i; place = place i; rec = c.in-Some.taken.rec; core = c.in-Some.taken.core; inputs = c.in-Some.taken.inputs }))
