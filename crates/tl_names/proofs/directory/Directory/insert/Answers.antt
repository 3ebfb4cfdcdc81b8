use Rattle.std.proofs.Common.{sym, ap, ◌∙◌}
use Rattle.std.specs.BTreeMap.{insert_entry}
use Rattle.std.specs.Cmp.Lexicographic.{slice_cmp}
use Rattle.std.specs.Map.{lookup}
use Rattle.std.specs.Ordering.{nat_cmp}
use Rattle.std.specs.Str.{bytes_eq}
use Rattle.tl_names.specs.Tables.{children_of}
use Rattle.tl_names.proofs.Entries.{children_insert, lookup_children}
use Rattle.tl_names.proofs.Results.{on_err}
use Rattle.tl_names.proofs.directory.Directory.insert.Goals as goal

pub returns-clause-ok : goal.returns-clause-ok
returns-clause-ok c =
    ap children_of c.in_ok-insert.ensures.entries
    ∙ children_insert c.args.name c.args.child c.self.inside.children.entries
    ∙ ap (λ names. insert_entry (slice_cmp nat_cmp) names c.args.name.items c.args.child) c.self.view_is

pub returns-in_err-insert-clause-absent : goal.returns-in_err-insert-clause-absent
returns-in_err-insert-clause-absent c =
    on_err c.from_residual.result
    (ap (lookup (bytes_eq c.args.name.items)) (sym c.self.view_is) ∙ sym (lookup_children c.args.name.items c.self.inside.children.entries) ∙ c.in_err-insert.ensures.absent)
