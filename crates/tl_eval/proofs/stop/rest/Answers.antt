use Rattle.std.proofs.Common.{◌≡◌, sym, ◌∙◌, ap}
use Rattle.tl_types.specs.declared.outcome.Outcome.TheVariants.{Fault}
use Rattle.tl_lang.specs.Fuel.{fault}
use Rattle.tl_lang.specs.Mean.{outcome_of, units_left}
use Rattle.tl_lang.specs.Value.{no_fuel}
use Rattle.tl_eval.specs.Frames.{next_ending}
use Rattle.tl_eval.proofs.Leading.{ends_short}
use Rattle.tl_eval.proofs.stop.rest.Goals as goal

pub returns-then-left-eq0 : goal.returns-then-left-eq0
returns-then-left-eq0 c =
    let short : next_ending c.args.next c.args.stack.now c.args.left ≡ fault no_fuel 0 = ends_short c.args.next c.args.stack.now c.in-Enter.node c.args.left c.in-Enter.is c.if-left-eq0.true in
    (ap Fault c.code.ensures ∙ sym (ap outcome_of short), ap units_left short ∙ sym c.if-left-eq0.true)
