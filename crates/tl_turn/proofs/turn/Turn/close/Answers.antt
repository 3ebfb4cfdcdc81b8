use Rattle.std.proofs.Common.{◌≡◌, ℕ, ◌≤◌, length, refl, sym, ap, ◌∙◌, subst}
use Rattle.std.specs.Prelude.{All}
use Rattle.tl_turn.specs.Log.{kept_of, entries_by}
use Rattle.tl_turn.proofs.Turns.{has_closed, has_all}
use Rattle.tl_turn.proofs.turn.Turn.close.Goals as goal

pub unwrap-requires : goal.unwrap-requires
unwrap-requires g c =
    let is = c.root.view_is in
    let rooted = c.root.invariant in
    let whole = ap (λ r. length r.joined) is ∙ c.requires.joined ∙ sym (ap (λ r. r.made) is) ∙ sym rooted.1 in
    let closed = has_closed g.S.Told.maker g.S.Told.log _ c.root.inside.pass.me.0 _ _ c.take-state.result rooted.0 whole c.close_with-closed.ensures.values.2 c.take-state.ensures.value in
    rw closed.1 refl

pub returns : goal.returns
returns g c =
    let is = c.root.view_is in
    let rooted = c.root.invariant in
    let whole = ap (λ r. length r.joined) is ∙ c.requires.joined ∙ sym (ap (λ r. r.made) is) ∙ sym rooted.1 in
    let closed = has_closed g.S.Told.maker g.S.Told.log _ c.root.inside.pass.me.0 _ _ c.take-state.result rooted.0 whole c.close_with-closed.ensures.values.2 c.take-state.ensures.value in
    let all = has_all g.S.Told.maker g.S.Told.log c.root.inside.pass.me.0 c.take-state.result c.unwrap.result closed c.unwrap.ensures in
    let log = g.S.Told.log c.unwrap.result in
    record {
      log = subst (λ r. log ≡ r.seen) is all.0;
      each = subst (λ r. All (λ seat. entries_by g.S.Told.maker seat.0 log ≡ seat.1) r.joined) is all.1;
      whole = subst (λ r. (number : ℕ) → entries_by g.S.Told.maker number log ≡ kept_of number r.joined) is all.2;
      others = λ number above. all.3 number (subst (λ n. n ≤ number) (sym (ap (λ r. r.made) is) ∙ sym rooted.1) above);
      room = all.4;
    }
