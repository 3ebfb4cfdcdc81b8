use Rattle.std.proofs.Common.{◌<◌, ◌≡◌, [], ◌∷◌, ◌++◌, List, ℕ, length, get_or, sym, ap, subst, ◌∙◌, inl, inr, arith}
use Rattle.std.proofs.lemmas.Bool.{eqb-true, eqb-false, false≢true}
use Rattle.std.proofs.lemmas.List.{map_push, length-map}
use Rattle.tl_types.specs.Parts.{lists_of}
use Rattle.tl_text.specs.PathText.{MayFollow}
use Rattle.tl_text.proofs.Paths.{current, refused_unrooted, refused_byte, refused_end, starts_path, goes_on_by_byte, goes_on_by_slash, stands_at_last, not_at_root, token_has_slash, IsInPath}
use Rattle.tl_text.proofs.path.path_front.Goals as goal
use Rattle.tl_text.proofs.path.path_front.Goals.{then-text-place-eq47+in_ok-from_slice+in_ok-push, else-text-place-eq47}

pub returns-then-is_empty-clause-bad : goal.returns-then-is_empty-clause-bad
returns-then-is_empty-clause-bad c = refused_unrooted c.args.text.now (λ lt. absurd (omega (arith, eqb-true (length c.args.text.now) 0 (sym c.if-is_empty.ensures))))

pub returns-then-text-ne47-clause-bad : goal.returns-then-text-ne47-clause-bad
returns-then-text-ne47-clause-bad c = refused_unrooted c.args.text.now (λ lt. c.if-text-ne47.true)

pub loop-place-init : goal.loop-place-init
loop-place-init c = rw (c.new-parts.ensures.items) (starts_path c.args.text.now (omega (arith, eqb-false (length c.args.text.now) 0 (sym c.if-is_empty.ensures))) c.if-text-ne47.false)

pub returns-then-not-may_follow-clause-bad : goal.returns-then-not-may_follow-clause-bad
returns-then-not-may_follow-clause-bad c =
    let count : c.len.result ≡ length (lists_of c.loop-place.parts.items) = c.len.ensures ∙ c.loop-place.parts.ok.0 ∙ sym (length-map c.loop-place.parts.items (λ v. v.items)) in
    refused_byte (lists_of c.loop-place.parts.items) c.loop-place.start c.loop-place.place c.args.text.now c.loop-place.invariant (omega (arith, c.token_len-end.ensures.within)) (c.token_len-end.ensures.inside c.loop-place.place c.loop-place-test.true)
    (subst (λ n. MayFollow n (current c.loop-place.start c.loop-place.place c.args.text.now) c.loop-place.place (get_or c.args.text.now c.loop-place.place 0) → ⊥) count c.if-not-may_follow.ensures)

pub loop-place-preserved : goal.loop-place-preserved
loop-place-preserved c =
    let count : c.len.result ≡ length (lists_of c.loop-place.parts.items) = c.len.ensures ∙ c.loop-place.parts.ok.0 ∙ sym (length-map c.loop-place.parts.items (λ v. v.items)) in
    let may : MayFollow (length (lists_of c.loop-place.parts.items)) (current c.loop-place.start c.loop-place.place c.args.text.now) c.loop-place.place (get_or c.args.text.now c.loop-place.place 0) =
    subst (λ n. MayFollow n (current c.loop-place.start c.loop-place.place c.args.text.now) c.loop-place.place (get_or c.args.text.now c.loop-place.place 0)) count c.if-not-may_follow.ensures in
    let inside : c.loop-place.place < length c.args.text.now = omega (arith, c.token_len-end.ensures.within) in
    elim c.if-text-place-eq47.branch [
      | then-text-place-eq47+in_ok-from_slice+in_ok-push w ↦
          let pushed : lists_of c.if-text-place-eq47.parts.items ≡ lists_of c.loop-place.parts.items ++ current c.loop-place.start c.loop-place.place c.args.text.now ∷ [] =
          ap (λ v. lists_of v.items) w.parts-is ∙ ap lists_of w.in_ok-push.ensures.items ∙ map_push (λ v. v.items) c.loop-place.parts.items w.in_ok-from_slice.field-0 ∙ ap (λ (t : List ℕ). lists_of c.loop-place.parts.items ++ t ∷ []) w.in_ok-from_slice.ensures.items in
          rw (pushed, w.start-is) (goes_on_by_slash (lists_of c.loop-place.parts.items) c.loop-place.start c.loop-place.place c.args.text.now c.loop-place.invariant inside w.if-text-place-eq47.true may)
      | else-text-place-eq47 w ↦
          rw (w.parts-is, w.start-is) (goes_on_by_byte (lists_of c.loop-place.parts.items) c.loop-place.start c.loop-place.place c.args.text.now c.loop-place.invariant inside w.if-text-place-eq47.false may)
    ]

pub returns-then-not-is_component-clause-bad : goal.returns-then-not-is_component-clause-bad
returns-then-not-is_component-clause-bad c =
    let some : 0 < c.token_len-end.result = token_has_slash c.args.text.now c.token_len-end.result c.if-text-ne47.false c.token_len-end.ensures.ended (omega (arith, eqb-false (length c.args.text.now) 0 (sym c.if-is_empty.ensures))) in
    let here : c.loop-place.place ≡ c.token_len-end.result = omega (arith, c.loop-place.auto.place-end, c.loop-place.auto.place) in
    let whole = subst (λ n. IsInPath (lists_of c.loop-place.parts.items) c.loop-place.start n c.args.text.now) here c.loop-place.invariant in
    refused_end (lists_of c.loop-place.parts.items) c.loop-place.start c.token_len-end.result c.args.text.now whole c.token_len-end.ensures.ended
    (λ h. elim h [ inl root ↦ not_at_root (lists_of c.loop-place.parts.items) c.loop-place.start c.token_len-end.result c.args.text.now whole c.if-end-eq1.false root | inr component ↦ false≢true (c.if-not-is_component.ensures ∙ component) ])

pub unwrap-path-requires : goal.unwrap-path-requires
unwrap-path-requires c =
    let some : 0 < c.token_len-end.result = token_has_slash c.args.text.now c.token_len-end.result c.if-text-ne47.false c.token_len-end.ensures.ended (omega (arith, eqb-false (length c.args.text.now) 0 (sym c.if-is_empty.ensures))) in
    let here : c.loop-place.place ≡ c.token_len-end.result = omega (arith, c.loop-place.auto.place-end, c.loop-place.auto.place) in
    let whole = subst (λ n. IsInPath (lists_of c.loop-place.parts.items) c.loop-place.start n c.args.text.now) here c.loop-place.invariant in
    let stands = stands_at_last (lists_of c.loop-place.parts.items) c.loop-place.start c.token_len-end.result c.args.text.now whole (sym c.if-not-is_component.ensures) c.token_len-end.ensures.ended in
    let pushed : lists_of c.push-2.new.self.items ≡ lists_of c.loop-place.parts.items ++ current c.loop-place.start c.token_len-end.result c.args.text.now ∷ [] =
    ap lists_of c.in_ok-push-2.ensures.items ∙ map_push (λ v. v.items) c.loop-place.parts.items c.in_ok-from_slice-2.field-0 ∙ ap (λ (t : List ℕ). lists_of c.loop-place.parts.items ++ t ∷ []) c.in_ok-from_slice-2.ensures.items in
    c.new-2.ensures.valid.1 (rw pushed stands.0.path)

pub returns-clause-found : goal.returns-clause-found
returns-clause-found c =
    let some : 0 < c.token_len-end.result = token_has_slash c.args.text.now c.token_len-end.result c.if-text-ne47.false c.token_len-end.ensures.ended (omega (arith, eqb-false (length c.args.text.now) 0 (sym c.if-is_empty.ensures))) in
    let here : c.loop-place.place ≡ c.token_len-end.result = omega (arith, c.loop-place.auto.place-end, c.loop-place.auto.place) in
    let whole = subst (λ n. IsInPath (lists_of c.loop-place.parts.items) c.loop-place.start n c.args.text.now) here c.loop-place.invariant in
    let stands = stands_at_last (lists_of c.loop-place.parts.items) c.loop-place.start c.token_len-end.result c.args.text.now whole (sym c.if-not-is_component.ensures) c.token_len-end.ensures.ended in
    let pushed : lists_of c.push-2.new.self.items ≡ lists_of c.loop-place.parts.items ++ current c.loop-place.start c.token_len-end.result c.args.text.now ∷ [] =
    ap lists_of c.in_ok-push-2.ensures.items ∙ map_push (λ v. v.items) c.loop-place.parts.items c.in_ok-from_slice-2.field-0 ∙ ap (λ (t : List ℕ). lists_of c.loop-place.parts.items ++ t ∷ []) c.in_ok-from_slice-2.ensures.items in
    let value = rw (c.unwrap-path.ensures) at c.new-2.ensures.value in
    rw (value, pushed) stands.0

pub returns-clause-length : goal.returns-clause-length
returns-clause-length c =
    let some : 0 < c.token_len-end.result = token_has_slash c.args.text.now c.token_len-end.result c.if-text-ne47.false c.token_len-end.ensures.ended (omega (arith, eqb-false (length c.args.text.now) 0 (sym c.if-is_empty.ensures))) in
    let here : c.loop-place.place ≡ c.token_len-end.result = omega (arith, c.loop-place.auto.place-end, c.loop-place.auto.place) in
    let whole = subst (λ n. IsInPath (lists_of c.loop-place.parts.items) c.loop-place.start n c.args.text.now) here c.loop-place.invariant in
    let stands = stands_at_last (lists_of c.loop-place.parts.items) c.loop-place.start c.token_len-end.result c.args.text.now whole (sym c.if-not-is_component.ensures) c.token_len-end.ensures.ended in
    let pushed : lists_of c.push-2.new.self.items ≡ lists_of c.loop-place.parts.items ++ current c.loop-place.start c.token_len-end.result c.args.text.now ∷ [] =
    ap lists_of c.in_ok-push-2.ensures.items ∙ map_push (λ v. v.items) c.loop-place.parts.items c.in_ok-from_slice-2.field-0 ∙ ap (λ (t : List ℕ). lists_of c.loop-place.parts.items ++ t ∷ []) c.in_ok-from_slice-2.ensures.items in
    let value = rw (c.unwrap-path.ensures) at c.new-2.ensures.value in
    rw (value, pushed) stands.1
