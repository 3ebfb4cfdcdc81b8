use Rattle.std.proofs.Common.{◌∙◌, ap, refl, is_some}
use Rattle.tl_types.specs.Same.{file_same}
use Rattle.tl_store.specs.Contents.{has}
use Rattle.tl_store.proofs.Entries.{lookup_block}
use Rattle.tl_store.proofs.store.Store.contains.Goals as goal

pub returns : goal.returns
returns c = c.contains.ensures ∙ ap is_some (lookup_block file_same (λ a b. refl) c.args.f c.self.inside.entries.entries c.self.invariant.each) ∙ ap (λ s. has c.args.f s.blocks) c.self.view_is
