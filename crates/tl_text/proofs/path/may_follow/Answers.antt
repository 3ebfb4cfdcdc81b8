use Rattle.tl_text.proofs.Paths.{byte_answer}
use Rattle.tl_text.proofs.path.may_follow.Goals as goal

pub returns-else-text-place-eq47 : goal.returns-else-text-place-eq47
returns-else-text-place-eq47 c = byte_answer c.byte_may_follow.result c.args.count c.args.start c.args.place c.args.text.now c.requires.order c.requires.within c.if-text-place-eq47.false c.byte_may_follow.ensures
