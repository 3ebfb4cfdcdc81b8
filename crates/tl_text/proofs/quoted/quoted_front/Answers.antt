use Rattle.std.proofs.Common.{length, arith, sym}
use Rattle.std.proofs.lemmas.Bool.{eqb-true, eqb-false}
use Rattle.std.proofs.lemmas.List.{take_rest}
use Rattle.tl_text.proofs.Quotes.{open_starts, open_goes_on, refused_unopened, refused_unclosed, refused_item}
use Rattle.tl_text.proofs.quoted.quoted_front.Goals as goal

pub loop-place-init : goal.loop-place-init
loop-place-init c = rw (c.new-bytes.ensures.items) (open_starts c.args.text.now (omega (arith, eqb-false (length c.args.text.now) 0 (sym c.if-is_empty.ensures))) c.if-text-ne34.false)

pub returns-then-is_empty-clause-bad : goal.returns-then-is_empty-clause-bad
returns-then-is_empty-clause-bad c = refused_unopened c.args.text.now (λ lt. absurd (omega (arith, eqb-true (length c.args.text.now) 0 (sym c.if-is_empty.ensures))))

pub returns-then-text-ne34-clause-bad : goal.returns-then-text-ne34-clause-bad
returns-then-text-ne34-clause-bad c = refused_unopened c.args.text.now (λ lt. c.if-text-ne34.true)

pub returns-in-Err-clause-bad : goal.returns-in-Err-clause-bad
returns-in-Err-clause-bad c =
    refused_item c.loop-place.bytes.items c.loop-place.place c.in-Err.offset c.args.text.now c.loop-place.invariant c.loop-place-test.true c.if-text-place-eq34.false
    (rw (take_rest c.args.text.now c.loop-place.place) at c.in-Err.ensures.begins) (rw (take_rest c.args.text.now c.loop-place.place) at c.in-Err.ensures.bad)

pub loop-place-preserved : goal.loop-place-preserved
loop-place-preserved c =
    rw (c.in_ok-push-in-Ok.ensures.items)
    (open_goes_on c.loop-place.bytes.items c.loop-place.place c.in-Ok.byte c.in-Ok.len c.args.text.now c.loop-place.invariant (rw (take_rest c.args.text.now c.loop-place.place) at c.in-Ok.ensures.found) c.in-Ok.ensures.length)

pub returns-clause-bad : goal.returns-clause-bad
returns-clause-bad c = refused_unclosed c.loop-place.bytes.items c.loop-place.place c.args.text.now c.loop-place.invariant c.loop-place-test.false
