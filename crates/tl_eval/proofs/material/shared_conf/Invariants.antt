use Rattle.std.proofs.Common.{◌≡◌, map, take}
use Rattle.tl_lang.specs.Conf.{pairs_of}
use Rattle.tl_eval.specs.Materials.{entry_of}
use Rattle.tl_eval.proofs.material.shared_conf.Given as goal

abbrev pub invariant-loop-pair : goal.invariant-loop-pair
invariant-loop-pair l = map entry_of l.entries.items ≡ pairs_of (take l.pair-index l.pairs)
