use Rattle.std.proofs.Common.{List, ◌+◌, ◌++◌, ◌∷◌, [], take, sym, subst}
use Rattle.std.proofs.lemmas.List.{take_more}
use Rattle.tl_types.specs.declared.file_id.FileId.{FileId}
use Rattle.tl_cluster.specs.declared.work.Feed.{Feed}
use Rattle.tl_cluster.specs.Jobs.{state_of}
use Rattle.tl_cluster.specs.Works.{AreFed}
use Rattle.tl_cluster.proofs.Feeding.{fed-more}
use Rattle.tl_cluster.proofs.parts.Parts.feeds.Goals as goal

pub loop-file-preserved : goal.loop-file-preserved
loop-file-preserved g c =
    let now = state_of c.args.self.now in
    let more = fed-more g.T.Ticket.tells g.T.Ticket.content now (take c.loop-file.file-index c.args.files.now) c.loop-file.feeds.items
    _ c.in_ok-feed.field-0 c.loop-file.invariant c.in_ok-feed.ensures in
    let longer = subst (λ (fs : List FileId). AreFed g.T.Ticket.tells g.T.Ticket.content now fs (c.loop-file.feeds.items ++ c.in_ok-feed.field-0 ∷ []))
    (sym (take_more c.args.files.now c.loop-file.file-index _ c.loop-file-test.true)) more in
    subst (λ (xs : List (Feed _)). AreFed g.T.Ticket.tells g.T.Ticket.content now (take (c.loop-file.file-index + 1) c.args.files.now) xs)
    (sym c.in_ok-push.ensures.items) longer
