use Rattle.std.proofs.Common.{refl}
use Rattle.tl_types.specs.Same.{file_same}
use Rattle.tl_store.proofs.Entries.{promoted_touched, kept_promoted, used_promoted}
use Rattle.tl_store.proofs.store.promote_entry.Goals as goal

pub returns-clause-blocks : goal.returns-clause-blocks
returns-clause-blocks c = rw c.promote.ensures.entries (promoted_touched file_same (λ a b. refl) c.args.f c.args.entries.now.entries c.requires.each c.len-distinct.ensures.valid.0)

pub returns-clause-each : goal.returns-clause-each
returns-clause-each c = rw c.promote.ensures.entries (kept_promoted file_same (λ a b. refl) c.args.f c.args.entries.now.entries c.requires.each)

pub returns-clause-used : goal.returns-clause-used
returns-clause-used c = rw c.promote.ensures.entries (used_promoted file_same (λ a b. refl) c.args.f c.args.entries.now.entries)
