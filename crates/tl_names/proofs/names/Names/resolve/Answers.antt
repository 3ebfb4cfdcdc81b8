use Rattle.std.proofs.Common.{Ok, Err, sym, ap, ◌∙◌, subst}
use Rattle.tl_names.specs.declared.child.Child.TheVariants.{Dir, File}
use Rattle.tl_names.specs.Standing.{StandsFor}
use Rattle.tl_names.proofs.Begun.{resolved}
use Rattle.tl_names.proofs.names.Names.resolve.Goals as goal

pub returns-in-Ok-Dir : goal.returns-in-Ok-Dir
returns-in-Ok-Dir c = λ names stands.
    resolved c.self.inside.dirs.slots names (subst (λ t. StandsFor t.dirs names) (sym c.self.view_is) stands) c.args.path.now (Ok (Dir c.in-Ok-Dir.field-0-0))
    (sym c.in-Ok-Dir.ensures ∙ ap Ok c.in-Ok-Dir.field-0-is)

pub returns-in-Ok-File : goal.returns-in-Ok-File
returns-in-Ok-File c = λ names stands.
    resolved c.self.inside.dirs.slots names (subst (λ t. StandsFor t.dirs names) (sym c.self.view_is) stands) c.args.path.now (Ok (File c.in-Ok-File.file c.in-Ok-File.pinned))
    (sym c.in-Ok-File.ensures ∙ ap Ok c.in-Ok-File.field-0-is)

pub returns-in-Err : goal.returns-in-Err
returns-in-Err c = λ names stands.
    c.refused.ensures ∙ resolved c.self.inside.dirs.slots names (subst (λ t. StandsFor t.dirs names) (sym c.self.view_is) stands) c.args.path.now (Err c.in-Err.refusal) (sym c.in-Err.ensures)
