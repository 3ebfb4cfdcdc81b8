use Rattle.tl_model.specs.Past.{without_tickets}
use Rattle.tl_laws_needs.proofs.Makers.{whole-of}
use Rattle.tl_laws_needs.proofs.Reaching.{named-is-reached, read-is-reached}
use Rattle.tl_laws_needs.proofs.reach.asked_for_are_reachable.Goals as goal

pub returns-clause-named : goal.returns-clause-named
returns-clause-named g c = λ judge header events h f is. named-is-reached (without_tickets events) (whole-of judge header events h) f is

pub returns-clause-read : goal.returns-clause-read
returns-clause-read g c = λ judge header events h f is. read-is-reached (without_tickets events) (whole-of judge header events h) f is
