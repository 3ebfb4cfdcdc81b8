use Rattle.std.proofs.Common.{◌∙◌, ap}
use Rattle.tl_model.specs.History.{calls_of, names_of}
use Rattle.tl_model.specs.Journal.{Ledger}
use Rattle.tl_ledger.specs.Naming.{file_named}
use Rattle.tl_ledger.proofs.ledger.Ledger.file_named.Goals as goal

pub returns : goal.returns
returns g c =
    let names = names_of (calls_of c.self.inside.journal.events) in
    c.file_named.ensures names c.self.invariant.0.names.names
    ∙ ap (λ (l : Ledger _). file_named (names_of (calls_of l.events)) c.args.path.now) c.self.view_is
