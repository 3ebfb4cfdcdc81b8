use Rattle.std.proofs.Common.{◌+◌, ◌*◌, ◌≡◌, inl, inr, subst, sym, ◌∙◌, arith}
use Rattle.tl_text.specs.Quoted.{HasHexItem}
use Rattle.tl_text.proofs.HexDigits.{hex_digit_injective}
use Rattle.tl_text.proofs.Items.{begins_x, begins_low, refused_high, refused_low, hex_stands, length_long}
use Rattle.tl_text.proofs.quoted.hex_front.Goals as goal

pub returns-in_default-clause-begins : goal.returns-in_default-clause-begins
returns-in_default-clause-begins c = begins_x

pub returns-in_default-clause-bad : goal.returns-in_default-clause-bad
returns-in_default-clause-bad c = refused_high c.args.digits.now (λ lt h. c.in_default.ensures.none h.0 h.1 lt h.3)

pub returns-then-high-le6-clause-begins : goal.returns-then-high-le6-clause-begins
returns-then-high-le6-clause-begins c = begins_x

pub returns-then-high-le6-clause-bad : goal.returns-then-high-le6-clause-bad
returns-then-high-le6-clause-bad c =
    refused_high c.args.digits.now
    (λ lt h. let same : h.0 ≡ c.in-Some.high = hex_digit_injective h.0 c.in-Some.high h.1 c.in-Some.ensures.some.0 (h.3 ∙ sym c.in-Some.ensures.some.2) in omega (arith, h.2, same))

pub returns-in_default-digit_at-clause-begins : goal.returns-in_default-digit_at-clause-begins
returns-in_default-digit_at-clause-begins c = begins_low c.args.digits.now c.in-Some.high c.in-Some.ensures.some.0 (elim c.else-high-ge2.either [ inl p ↦ inr p.1 | inr low ↦ inl low ]) c.in-Some.ensures.some.1 c.in-Some.ensures.some.2

pub returns-in_default-digit_at-clause-bad : goal.returns-in_default-digit_at-clause-bad
returns-in_default-digit_at-clause-bad c =
    refused_low c.args.digits.now c.in-Some.high c.in-Some.ensures.some.0 (elim c.else-high-ge2.either [ inl p ↦ inr p.1 | inr low ↦ inl low ]) c.in-Some.ensures.some.1 c.in-Some.ensures.some.2 (λ lt h. c.in_default-digit_at.ensures.none h.0 h.1 lt h.3)

pub returns-then-has_hex_item-clause-found : goal.returns-then-has_hex_item-clause-found
returns-then-has_hex_item-clause-found c =
    hex_stands c.args.digits.now c.in-Some.high c.in-Some-digit_at.low c.in-Some.ensures.some.0 c.in-Some-digit_at.ensures.some.0 c.in-Some-digit_at.ensures.some.1 c.in-Some.ensures.some.2 c.in-Some-digit_at.ensures.some.2 c.if-has_hex_item.ensures

pub returns-then-has_hex_item-clause-length : goal.returns-then-has_hex_item-clause-length
returns-then-has_hex_item-clause-length c = length_long (c.in-Some.high * 16 + c.in-Some-digit_at.low) c.if-has_hex_item.ensures

pub returns-else-has_hex_item-clause-begins : goal.returns-else-has_hex_item-clause-begins
returns-else-has_hex_item-clause-begins c = begins_low c.args.digits.now c.in-Some.high c.in-Some.ensures.some.0 (elim c.else-high-ge2.either [ inl p ↦ inr p.1 | inr low ↦ inl low ]) c.in-Some.ensures.some.1 c.in-Some.ensures.some.2

pub returns-else-has_hex_item-clause-bad : goal.returns-else-has_hex_item-clause-bad
returns-else-has_hex_item-clause-bad c =
    refused_low c.args.digits.now c.in-Some.high c.in-Some.ensures.some.0 (elim c.else-high-ge2.either [ inl p ↦ inr p.1 | inr low ↦ inl low ]) c.in-Some.ensures.some.1 c.in-Some.ensures.some.2
    (λ lt h. let same : h.0 ≡ c.in-Some-digit_at.low = hex_digit_injective h.0 c.in-Some-digit_at.low h.1 c.in-Some-digit_at.ensures.some.0 (h.3 ∙ sym c.in-Some-digit_at.ensures.some.2) in
    c.if-has_hex_item.ensures (subst (λ n. HasHexItem (c.in-Some.high * 16 + n)) same h.2))
