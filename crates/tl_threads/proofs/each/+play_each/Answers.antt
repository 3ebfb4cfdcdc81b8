use Rattle.std.proofs.Common.{◌≡◌, ap, sym, subst, ◌∙◌}
use Rattle.tl_threads.proofs.Lists.{both-grew}
use Rattle.tl_threads.proofs.each.+play_each.Goals.{in-Ok, in-Err}
use Rattle.tl_threads.proofs.each.+play_each.Goals as goal

pub returns-clause-plays : goal.returns-clause-plays
returns-clause-plays g t c =
    let R = g.P.Part.plays in
    let part = c.in-Some.part in
    let grew = both-grew R _ _ _ _ part _ c.in-Some.ensures.items c.push_reserved.ensures.items c.play_each.ensures.plays in
    elim c.match-started.branch [
      | in-Ok w ↦ (
          let is : w.in-Ok.thread.promise.0.value ≡ part = ap (λ p. p.0.value) w.in-Ok.ensures.ok ∙ c.of.ensures in
          let kept = subst (λ p. R p w.join.result) is w.join.ensures in
          grew (subst (λ out. R part out) (sym w.push_reserved-is) kept))
      | in-Err w ↦ (
          let kept = subst (λ f. R f.0 w.played.result) w.in-Err.ensures.err w.played.ensures in
          grew (subst (λ out. R part out) (sym w.push_reserved-is) kept))
    ]
