use Rattle.std.proofs.Common.{◌≡◌, drop}
use Rattle.std.specs.List.{list_all}
use Rattle.tl_lang.specs.Conf.{pairs_of, is_short}
use Rattle.tl_lang.proofs.conf.are_short.Given as goal

abbrev pub invariant-loop-pair : goal.invariant-loop-pair
invariant-loop-pair l = list_all is_short (pairs_of l.pairs) ≡ list_all is_short (pairs_of (drop l.pair-index l.pairs))
