use Rattle.std.proofs.Common.{◌≡◌, reverse, Some, refl, sym}
use Rattle.tl_core.specs.Puts.{kept_put, seen}
use Rattle.tl_core.proofs.feeds.feed.Goals as goal

pub returns-in_ok-saved_put-in-Some-kept_put : goal.returns-in_ok-saved_put-in-Some-kept_put
returns-in_ok-saved_put-in-Some-kept_put g c =
    let is : kept_put (reverse c.args.events.now) c.args.file ≡ Some (seen c.in-Some-kept_put.put) = sym c.in-Some-kept_put.ensures in (
      refl,
      sym c.in-None.ensures,
      (seen c.in-Some-kept_put.put, is, c.in_ok-saved_put-in-Some-kept_put.ensures),
    )
