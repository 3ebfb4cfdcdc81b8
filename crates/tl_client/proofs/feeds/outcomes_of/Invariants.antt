use Rattle.std.proofs.Common.{◌≡◌, map, take}
use Rattle.tl_client.specs.Feeds.{fed_outcome}
use Rattle.tl_client.proofs.feeds.outcomes_of.Given as goal

abbrev pub invariant-loop-feed : goal.invariant-loop-feed
invariant-loop-feed l = l.outcomes.items ≡ map fed_outcome (take l.feed-index l.feeds)
