use Rattle.std.proofs.Common.{arith, reverse}
use Rattle.std.proofs.lemmas.List.{length-reverse}
use Rattle.tl_model.proofs.Calls.{call_count-le, calls_small}
use Rattle.tl_model.proofs.journal.Journal.append.Goals as goal

pub overflow_add-calls : goal.overflow_add-calls
overflow_add-calls g c =
    let few = call_count-le (reverse c.self.inside.events.items) in
    let one = calls_small c.args.event.act in
    let same = length-reverse c.self.inside.events.items in
    let small = c.self.inside.events.small in
    omega (arith, c.self.invariant.0, c.self.invariant.1, c.calls_in.ensures)
