use Rattle.tl_model.specs.Past.{without_tickets}
use Rattle.tl_laws_needs.proofs.Makers.{whole-of}
use Rattle.tl_laws_needs.proofs.Reaching.{root-is-reached}
use Rattle.tl_laws_needs.proofs.reach.roots_are_reachable.Goals as goal

pub returns : goal.returns
returns g c = λ judge header events h f root. root-is-reached (without_tickets events) (whole-of judge header events h) f root
