use Rattle.std.proofs.Common.{sym, arith}
use Rattle.std.proofs.lemmas.Bool.{eqb-true}
use Rattle.std.proofs.lemmas.List.{nil_from_length}
use Rattle.tl_text.proofs.Numbers.{front_starts, front_goes_on, refused_first, refused_empty, refused_after_zero, refused_past_limit, stands_before, no_digit_at, not_a_digit}
use Rattle.tl_text.proofs.number.number_front.Goals as goal

pub loop-place-init : goal.loop-place-init
loop-place-init c = front_starts c.args.limit c.args.text.now

pub returns-then-place-eq0-clause-bad : goal.returns-then-place-eq0-clause-bad
returns-then-place-eq0-clause-bad c = refused_first c.args.limit c.args.text.now (omega arith) (omega arith) (rw c.if-place-eq0.true at (not_a_digit _ c.if-not-is_ascii_digit.ensures.cases))

pub returns-else-place-eq0-clause-found : goal.returns-else-place-eq0-clause-found
returns-else-place-eq0-clause-found c =
    (stands_before c.args.limit c.loop-place.number c.loop-place.place c.args.text.now (omega arith) (omega arith) c.loop-place.invariant (no_digit_at c.loop-place.place c.args.text.now c.loop-place-test.true (not_a_digit _ c.if-not-is_ascii_digit.ensures.cases))).0

pub returns-else-place-eq0-clause-length : goal.returns-else-place-eq0-clause-length
returns-else-place-eq0-clause-length c =
    (stands_before c.args.limit c.loop-place.number c.loop-place.place c.args.text.now (omega arith) (omega arith) c.loop-place.invariant (no_digit_at c.loop-place.place c.args.text.now c.loop-place-test.true (not_a_digit _ c.if-not-is_ascii_digit.ensures.cases))).1

pub returns-then-number-eq0-clause-bad : goal.returns-then-number-eq0-clause-bad
returns-then-number-eq0-clause-bad c =
    refused_after_zero c.args.limit c.loop-place.place c.args.text.now (omega arith) c.if-place-gt0.true c.loop-place-test.true c.if-not-is_ascii_digit.ensures.cases (rw (← c.if-number-eq0.true) c.loop-place.invariant)

pub returns-in-None-clause-bad : goal.returns-in-None-clause-bad
returns-in-None-clause-bad c =
    refused_past_limit c.args.limit c.loop-place.number c.loop-place.place c.args.text.now (omega arith) c.loop-place-test.true c.if-not-is_ascii_digit.ensures.cases c.loop-place.invariant (omega (arith, c.in-None.ensures))

pub loop-place-preserved : goal.loop-place-preserved
loop-place-preserved c =
    front_goes_on c.args.limit c.loop-place.number c.loop-place.place c.in-Some.next c.args.text.now (omega arith) c.loop-place-test.true c.if-not-is_ascii_digit.ensures.cases c.loop-place.invariant (λ pos. omega (arith, c.else-place-gt0.either)) c.in-Some.ensures.1 (omega (arith, c.in-Some.ensures.0, c.in-Some.ensures.1))

pub returns-then-is_empty-clause-bad : goal.returns-then-is_empty-clause-bad
returns-then-is_empty-clause-bad c = refused_empty c.args.limit c.args.text.now (omega arith) (nil_from_length c.args.text.now (eqb-true _ _ (sym c.if-is_empty.ensures)))
