use Rattle.std.proofs.Common.{◌≡◌, bytes_eq, drop}
use Rattle.std.specs.List.{list_any}
use Rattle.tl_lang.specs.Conf.{pairs_of}
use Rattle.tl_script.proofs.job.has_key.Given as goal

abbrev pub invariant-loop-pair : goal.invariant-loop-pair
invariant-loop-pair l =
    list_any (λ p. bytes_eq p.0 l.key) (pairs_of l.pairs) ≡ list_any (λ p. bytes_eq p.0 l.key) (pairs_of (drop l.pair-index l.pairs))
