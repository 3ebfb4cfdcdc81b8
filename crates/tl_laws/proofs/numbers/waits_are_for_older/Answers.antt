use Rattle.tl_model.specs.Past.{without_tickets}
use Rattle.tl_model.specs.History.{records}
use Rattle.tl_laws.specs.Order.{HasOlderInputs}
use Rattle.tl_laws.proofs.Order.{waits-older, all-get}
use Rattle.tl_laws.proofs.Ordered.{lawful-ordered}
use Rattle.tl_laws.proofs.numbers.waits_are_for_older.Goals as goal

pub returns : goal.returns
returns g c = λ header past lawful i reader maker at waits.
    waits-older (without_tickets past) reader maker
    (all-get HasOlderInputs (records (without_tickets past)) i reader (lawful-ordered header past lawful).older at) waits
