use Rattle.std.proofs.Common.{ap, ◌∙◌}
use Rattle.std.specs.Map.{lookup, remove_entry}
use Rattle.std.specs.Str.{bytes_eq}
use Rattle.tl_names.specs.Tables.{children_of}
use Rattle.tl_names.proofs.Entries.{children_remove, gone_from}
use Rattle.tl_names.proofs.directory.Directory.remove.Goals as goal

pub returns-clause-entries : goal.returns-clause-entries
returns-clause-entries c =
    ap children_of c.remove.ensures.entries
    ∙ children_remove c.args.name.now c.self.inside.children.entries
    ∙ ap (remove_entry (bytes_eq c.args.name.now)) c.self.view_is

pub returns-clause-gone : goal.returns-clause-gone
returns-clause-gone c =
    ap (lookup (bytes_eq c.args.name.now)) (ap children_of c.remove.ensures.entries ∙ children_remove c.args.name.now c.self.inside.children.entries)
    ∙ gone_from c.args.name.now c.self.inside.children.entries c.len-distinct.ensures.ordered
