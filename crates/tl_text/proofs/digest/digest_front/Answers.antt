use Rattle.std.proofs.Common.{below_more, arith, refl, sym}
use Rattle.tl_text.proofs.Digests.{refused_digit, digest_stands}
use Rattle.std.proofs.lemmas.List.{length-take-le}
use Rattle.tl_text.proofs.digest.digest_front.Goals as goal

pub returns-in_default-clause-bad : goal.returns-in_default-clause-bad
returns-in_default-clause-bad c = refused_digit c.loop-place.place c.args.text.now c.loop-place-test.true c.loop-place.invariant.within c.loop-place.invariant.digits (λ n lt some e. c.in_default.ensures.none n lt some e)

pub loop-place-preserved : goal.loop-place-preserved
loop-place-preserved c = record {
  within = omega (arith, c.in-Some.ensures.some.1);
  digits = below_more _ _ c.loop-place.invariant.digits (c.in-Some.field-0, c.in-Some.ensures.some.0, c.in-Some.ensures.some.2);
}

pub slice_bounds-decode_to_slice-end : goal.slice_bounds-decode_to_slice-end
slice_bounds-decode_to_slice-end c = sym (length-take-le 64 c.args.text.now (omega (arith, c.loop-place.invariant.within)))

pub unwrap-requires : goal.unwrap-requires
unwrap-requires c =
    let stands = digest_stands c.args.text.now (omega (arith, c.loop-place.invariant.within)) (λ i lt. c.loop-place.invariant.digits i (omega arith)) in
    let decoded = rw (stands.2) at c.decode_to_slice.ensures.value in
    rw (decoded.0) refl

pub returns-clause-found : goal.returns-clause-found
returns-clause-found c =
    let stands = digest_stands c.args.text.now (omega (arith, c.loop-place.invariant.within)) (λ i lt. c.loop-place.invariant.digits i (omega arith)) in
    let decoded = rw (stands.2) at c.decode_to_slice.ensures.value in
    rw (decoded.1) stands.1
