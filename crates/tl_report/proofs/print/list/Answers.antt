use Rattle.std.proofs.Common.{◌++◌, ◌∷◌, ap, sym, codes, length, decimal}
use Rattle.tl_report.proofs.Spacing.{spaced_names, two_steps}
use Rattle.tl_report.proofs.print.list.Goals as goal

pub returns-clause-ok : goal.returns-clause-ok
returns-clause-ok c =
    two_steps _ _ _ _ (codes "list" ++ 0x20 ∷ decimal (length c.args.entries.now)) _ _ c.in_ok-word_number.ensures.ok
    (sym (ap (λ rest. codes "list" ++ 0x20 ∷ rest) (spaced_names (decimal (length c.args.entries.now)) c.args.entries.now))) c.then_entries.ensures.ok
