use Rattle.tl_cluster.specs.Jobs.{state_of}
use Rattle.tl_cluster.proofs.LettingGo.{let-go-more, room-left}
use Rattle.tl_cluster.proofs.parts.Parts.collect_most.Goals as goal

pub loop-count-preserved : goal.loop-count-preserved
loop-count-preserved g c =
    let actor = c.args.actor in
    let count = c.loop-count.count in
    let before = c.loop-count.self in
    let kept = c.loop-count.invariant in
    let one = c.collect_one.ensures.more c.if-not-collect_one.false in
    record {
      stands = one.stands;
      gone = let-go-more actor count (state_of c.args.self.now) (state_of before) (state_of c.collect_one.new.self) kept.gone one.one;
      room = room-left g.T.Ticket.tells g.T.Ticket.content before c.collect_one.new.self actor c.args.n count c.loop-count-test.true one kept.room;
    }
