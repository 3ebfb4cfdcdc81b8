use Rattle.std.proofs.Common.{◌∙◌, refl}
use Rattle.tl_types.specs.Same.{file_same}
use Rattle.tl_store.proofs.Entries.{lookup_block, removed, kept_removed, used_removed}
use Rattle.tl_store.proofs.store.take_entry.Goals as goal

pub returns-clause-removed : goal.returns-clause-removed
returns-clause-removed c = c.pop.ensures.value ∙ lookup_block file_same (λ a b. refl) c.args.f c.args.entries.now.entries c.requires.each

pub returns-clause-blocks : goal.returns-clause-blocks
returns-clause-blocks c = rw c.pop.ensures.entries (removed file_same (λ a b. refl) c.args.f c.args.entries.now.entries c.requires.each c.len-distinct.ensures.valid.0)

pub returns-clause-each : goal.returns-clause-each
returns-clause-each c = rw c.pop.ensures.entries (kept_removed file_same (λ a b. refl) c.args.f c.args.entries.now.entries c.requires.each)

pub returns-clause-used : goal.returns-clause-used
returns-clause-used c = rw (c.pop.ensures.entries, c.pop.ensures.value) (used_removed file_same (λ a b. refl) c.args.f c.args.entries.now.entries c.requires.each)
