use Rattle.std.proofs.Common.{Bool, false, Option, ap, ◌∙◌}
use Rattle.std.specs.Option.{unwrap_or}
use Rattle.tl_ledger.proofs.Pinned.{pinned-by-name}
use Rattle.tl_ledger.proofs.files.is_pinned.Goals as goal

pub returns : goal.returns
returns c = λ names count stand.
    c.unwrap_or.ensures ∙ ap (λ (pinned : Option Bool). unwrap_or pinned false) (c.pinned.ensures names count stand) ∙ pinned-by-name names c.args.file
