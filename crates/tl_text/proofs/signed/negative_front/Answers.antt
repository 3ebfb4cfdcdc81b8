use Rattle.std.proofs.Common.{◌<◌, ◌≡◌, ◌-◌, suc, length, sym, ap, ◌∙◌, add-one, arith, w64}
use Rattle.std.specs.Fmt.{decimal}
use Rattle.std.proofs.lemmas.Int.{to_z-of_z}
use Rattle.std.proofs.lemmas.Bool.{eqb-true, eqb-false}
use Rattle.tl_text.proofs.SignedNumbers.{negative, refused_after_minus, refused_negative, above_zero}
use Rattle.tl_text.proofs.signed.negative_front.Goals as goal

pub returns-then-is_empty-clause-bad : goal.returns-then-is_empty-clause-bad
returns-then-is_empty-clause-bad c = refused_after_minus c.args.digits.now (λ lt. absurd (omega (arith, eqb-true (length c.args.digits.now) 0 (sym c.if-is_empty.ensures))))

pub returns-then-digits-eq48-clause-bad : goal.returns-then-digits-eq48-clause-bad
returns-then-digits-eq48-clause-bad c = refused_after_minus c.args.digits.now (λ lt. c.if-digits-eq48.true)

pub negated-requires-clause-above : goal.negated-requires-clause-above
negated-requires-clause-above c = above_zero 9223372036854775808 c.in-Ok.magnitude c.args.digits.now _ c.in-Ok.ensures.found c.if-digits-eq48.false

pub returns-in-Ok-clause-found : goal.returns-in-Ok-clause-found
returns-in-Ok-clause-found c =
    rw (to_z-of_z w64 c.negated.result (record { sfits = c.negated.type_inv }), c.negated.ensures)
    (negative c.args.digits.now _ c.in-Ok.magnitude (above_zero 9223372036854775808 c.in-Ok.magnitude c.args.digits.now _ c.in-Ok.ensures.found c.if-digits-eq48.false) c.in-Ok.ensures.found)

pub returns-in-Ok-clause-length : goal.returns-in-Ok-clause-length
returns-in-Ok-clause-length c =
    let some : 0 < c.in-Ok.magnitude = above_zero 9223372036854775808 c.in-Ok.magnitude c.args.digits.now _ c.in-Ok.ensures.found c.if-digits-eq48.false in
    let same : suc (c.in-Ok.magnitude - 1) ≡ c.in-Ok.magnitude = omega arith in
    rw (to_z-of_z w64 c.negated.result (record { sfits = c.negated.type_inv }), c.negated.ensures, add-one) (ap suc (c.in-Ok.ensures.length ∙ ap (λ k. length (decimal k)) (sym same)))

pub returns-in-Err-clause-bad : goal.returns-in-Err-clause-bad
returns-in-Err-clause-bad c = refused_negative c.args.digits.now c.in-Err.place (omega (arith, eqb-false (length c.args.digits.now) 0 (sym c.if-is_empty.ensures))) c.if-digits-eq48.false c.in-Err.ensures.bad
