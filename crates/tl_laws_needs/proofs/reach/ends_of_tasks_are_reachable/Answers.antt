use Rattle.tl_model.specs.Past.{without_tickets}
use Rattle.tl_laws_needs.proofs.Makers.{whole-of}
use Rattle.tl_laws_needs.proofs.Reaching.{input-is-reached, listed-output-is-reached}
use Rattle.tl_laws_needs.proofs.reach.ends_of_tasks_are_reachable.Goals as goal

pub returns-clause-inputs : goal.returns-clause-inputs
returns-clause-inputs g c = λ judge header events h i r at live f reads. input-is-reached (without_tickets events) (whole-of judge header events h) i r at live f reads

pub returns-clause-outputs : goal.returns-clause-outputs
returns-clause-outputs g c = λ judge header events h i r at live f listed.
    listed-output-is-reached (without_tickets events) (whole-of judge header events h) i r at live f listed
