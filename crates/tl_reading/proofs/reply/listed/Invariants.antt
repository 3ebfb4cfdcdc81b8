use Rattle.std.proofs.Common.{◌≡◌, ◌≤◌, ◌-◌, length}
use Rattle.std.specs.List.{AllByRecursion}
use Rattle.tl_spelling.specs.Shown.{IsEntry}
use Rattle.tl_reading.specs.Replies.{listed}
use Rattle.tl_reading.proofs.reply.listed.Given as goal

abbrev pub invariant-entries : goal.invariant-entries
invariant-entries l =
    (l.text ≡ listed l.entries.items l.rest) × AllByRecursion IsEntry l.entries.items × (length l.entries.items ≤ l.count)

abbrev pub decreases-entries : goal.decreases-entries
decreases-entries l = l.count - length l.entries.items
