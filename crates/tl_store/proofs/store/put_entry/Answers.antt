use Rattle.std.proofs.Common.{◌∙◌, ◌^◌, ◌<◌, ap, refl, sym, subst, length}
use Rattle.tl_types.specs.Outcome.{outcome_size}
use Rattle.tl_types.specs.Same.{file_same}
use Rattle.tl_store.specs.Contents.{block_size}
use Rattle.tl_store.specs.Kept.{EachKept}
use Rattle.tl_store.proofs.Entries.{put_new, fits}
use Rattle.tl_store.proofs.store.put_entry.Goals as goal

pub returns-in-Ok-clause-ok : goal.returns-in-Ok-clause-ok
returns-in-Ok-clause-ok c = ap (λ x. x.entries) c.in-Ok.ensures.entries ∙ put_new file_same (λ a b. refl) c.make_room.new.entries c.args.entries.now.entries c.file-file.result c.args.block (c.file-file.ensures ∙ ap (λ b. b.file) c.get.ensures) c.make_room.ensures.same c.requires.each c.requires.absent c.make_room.ensures.room

pub returns-in-Ok-clause-each : goal.returns-in-Ok-clause-each
returns-in-Ok-clause-each c = subst EachKept (sym (ap (λ x. x.entries) c.in-Ok.ensures.entries ∙ put_new file_same (λ a b. refl) c.make_room.new.entries c.args.entries.now.entries c.file-file.result c.args.block (c.file-file.ensures ∙ ap (λ b. b.file) c.get.ensures) c.make_room.ensures.same c.requires.each c.requires.absent c.make_room.ensures.room)) ((refl, subst (λ n. n < 2 ^ 64) (c.size-size.ensures ∙ ap outcome_size (c.outcome.ensures ∙ ap (λ b. b.outcome) c.get-2.ensures)) c.size-size.type_inv), c.requires.each)

pub returns-in-Ok-clause-fits : goal.returns-in-Ok-clause-fits
returns-in-Ok-clause-fits c =
    fits c.args.entries.now.entries (block_size c.args.block) c.requires.each (subst (λ es. length es < 2 ^ 63) c.make_room.ensures.same c.make_room.ensures.fits) (subst (λ n. n < 2 ^ 64) (c.size-size.ensures ∙ ap outcome_size (c.outcome.ensures ∙ ap (λ b. b.outcome) c.get-2.ensures)) c.size-size.type_inv)
