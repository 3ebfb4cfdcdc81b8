use Rattle.std.proofs.Common.{ap, ◌∙◌}
use Rattle.std.specs.Map.{lookup}
use Rattle.std.specs.Str.{bytes_eq}
use Rattle.tl_names.proofs.Entries.{lookup_children}
use Rattle.tl_names.proofs.directory.Directory.get.Goals as goal

pub returns : goal.returns
returns c =
    c.copied.ensures ∙ c.get.ensures.value ∙ lookup_children c.args.name.now c.self.inside.children.entries
    ∙ ap (lookup (bytes_eq c.args.name.now)) c.self.view_is
