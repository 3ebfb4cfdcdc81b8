use Rattle.std.proofs.Common.{◌≡◌, true, subst}
use Rattle.tl_model.specs.Actors.{open_read}
use Rattle.tl_model.specs.Journal.{Ledger}
use Rattle.tl_model.specs.Past.{without_tickets}
use Rattle.tl_model.specs.Rules.{all_permitted, lawful_judge}
use Rattle.tl_ledger.proofs.Reading.{reading-is}
use Rattle.tl_ledger.proofs.ledger.Ledger.reading.Goals as goal

pub returns : goal.returns
returns g c =
    let journal = c.self.inside.journal in
    let past = without_tickets journal.events in
    subst (λ (l : Ledger _). all_permitted lawful_judge l.header l.events ≡ true → c.reading.result ≡ open_read (without_tickets l.events) c.args.actor)
    c.self.view_is (λ ok. reading-is journal.header journal.events c.args.actor c.reading.result ok
    (c.reading.ensures.known journal.header past (c.self.invariant.1.stand ok))
    (c.reading.ensures.unknown journal.header past (c.self.invariant.1.stand ok)))
