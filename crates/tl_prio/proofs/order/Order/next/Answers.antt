use Rattle.std.proofs.Common.{◌∙◌, ap, option_map}
use Rattle.tl_prio.specs.declared.choice.Choice.{Choice}
use Rattle.tl_prio.proofs.Sharing.{next-shares}
use Rattle.tl_prio.proofs.Walking.{next-found, none-ready}
use Rattle.tl_prio.proofs.order.Order.next.Goals as goal

pub returns-clause-next : goal.returns-clause-next
returns-clause-next g c = λ past stands speaks.
    c.made_of.ensures
    ∙ ap (option_map (λ (choice : Choice). choice.made)) (c.found_choice-choice.ensures.found past speaks stands.turns)
    ∙ next-found c.args.self.now past stands

pub returns-clause-none : goal.returns-clause-none
returns-clause-none g c = λ past stands speaks.
    none-ready c.args.self.now.turns.rule past c.made_of.result
    (c.made_of.ensures
    ∙ ap (option_map (λ (choice : Choice). choice.made)) (c.found_choice-choice.ensures.found past speaks stands.turns)
    ∙ next-found c.args.self.now past stands)

pub returns-clause-shares : goal.returns-clause-shares
returns-clause-shares g c = λ past made other stands speaks shares is runs.
    next-shares past c.args.self.now.turns.rule c.made_of.result made other
    (c.made_of.ensures
    ∙ ap (option_map (λ (choice : Choice). choice.made)) (c.found_choice-choice.ensures.found past speaks stands.turns)
    ∙ next-found c.args.self.now past stands)
    shares is runs
