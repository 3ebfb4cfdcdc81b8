use Rattle.std.proofs.Common.{◌∙◌, ap, refl}
use Rattle.tl_types.specs.Same.{file_same}
use Rattle.tl_store.specs.Contents.{block_of}
use Rattle.tl_store.proofs.Entries.{lookup_block}
use Rattle.tl_store.proofs.store.Store.get.Goals as goal

pub returns : goal.returns
returns c = c.peek.ensures ∙ lookup_block file_same (λ a b. refl) c.args.f c.self.inside.entries.entries c.self.invariant.each ∙ ap (λ s. block_of c.args.f s.blocks) c.self.view_is
