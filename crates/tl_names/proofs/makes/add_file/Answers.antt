use Rattle.std.proofs.Common.{false, ◌∙◌, ap}
use Rattle.std.specs.BTreeMap.{insert_entry}
use Rattle.std.specs.Cmp.Lexicographic.{slice_cmp}
use Rattle.std.specs.Map.{remove_entry}
use Rattle.std.specs.Ordering.{nat_cmp}
use Rattle.std.specs.Str.{bytes_eq}
use Rattle.slab.specs.Slab.{with_value}
use Rattle.tl_model.specs.Namespace.{last_part}
use Rattle.tl_names.specs.declared.child.Child.TheVariants.{File}
use Rattle.tl_names.specs.Tables.{children_at}
use Rattle.tl_names.proofs.Restored.{restored}
use Rattle.tl_names.proofs.makes.add_file.Goals as goal

pub returns-in-Err-clause-err : goal.returns-in-Err-clause-err
returns-in-Err-clause-err c = (
  c.unset_child.ensures.entries
      ∙ ap (λ name. with_value c.set_child.new.dirs c.args.d (remove_entry (bytes_eq name) (children_at c.set_child.new.dirs.slots c.args.d))) c.last_part.ensures
      ∙ restored c.args.dirs.now c.set_child.new.dirs c.args.d (last_part c.args.path.now) (File c.args.file false) c.requires.known c.requires.absent
      (c.in_ok-set_child.ensures.ok ∙ ap (λ name. with_value c.args.dirs.now c.args.d (insert_entry (slice_cmp nat_cmp) (children_at c.args.dirs.now.slots c.args.d) name (File c.args.file false))) c.in_ok-name.ensures),
  c.in-Err.ensures.err,
)
