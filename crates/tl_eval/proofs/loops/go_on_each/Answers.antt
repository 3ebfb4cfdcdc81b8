use Rattle.std.proofs.Common.{◌≡◌, true, sym, ◌∙◌, subst, MatchBool, ◌++◌, ◌∷◌, []}
use Rattle.tl_eval.proofs.Leading.{each_goes_on}
use Rattle.tl_eval.proofs.loops.go_on_each.Goals as goal

pub returns : goal.returns
returns c =
    let fits : c.in_ok-fits.fits ≡ true = c.if-not-fits.false in
    let added = subst (λ b. MatchBool b (c.push.new.self ≡ c.args.results ++ c.in-Text.text ∷ []) (c.push.new.self ≡ c.args.results)) fits c.in_ok-fits.ensures.added in
    each_goes_on _ _ _ _ c.args.walk _ _ _ _ _ c.in-Text.is (sym c.in_ok-fits.ensures.fits ∙ fits) added c.in_ok-walk.ensures c.each.ensures
