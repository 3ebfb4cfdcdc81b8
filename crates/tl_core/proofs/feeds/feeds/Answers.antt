use Rattle.std.proofs.Common.{List, ◌+◌, ◌++◌, ◌∷◌, [], reverse, take, sym, ap, ◌∙◌, subst}
use Rattle.std.proofs.lemmas.List.{take_more}
use Rattle.tl_types.specs.declared.file_id.FileId.{FileId}
use Rattle.tl_core.specs.declared.work.Feed.{Feed}
use Rattle.tl_core.specs.Taken.{AreFedBy}
use Rattle.tl_core.proofs.Taking.{fed-more}
use Rattle.tl_core.proofs.feeds.feeds.Goals as goal

pub loop-file-preserved : goal.loop-file-preserved
loop-file-preserved g c =
    let events = reverse c.args.events.now in
    let more = fed-more g.T.Ticket.content events c.args.residents.now (take c.loop-file.file-index c.args.files.now) c.loop-file.feeds.items
    _ c.in_ok-feed.field-0 c.loop-file.invariant c.in_ok-feed.ensures in
    let longer = subst (λ (fs : List FileId). AreFedBy g.T.Ticket.content events c.args.residents.now fs (c.loop-file.feeds.items ++ c.in_ok-feed.field-0 ∷ []))
    (sym (take_more c.args.files.now c.loop-file.file-index _ c.loop-file-test.true)) more in
    subst (λ (xs : List (Feed _)). AreFedBy g.T.Ticket.content events c.args.residents.now (take (c.loop-file.file-index + 1) c.args.files.now) xs) (sym c.in_ok-push.ensures.items) longer
