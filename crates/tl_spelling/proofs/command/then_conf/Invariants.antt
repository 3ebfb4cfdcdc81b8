use Rattle.std.proofs.Common.{◌≡◌, ◌++◌, List, drop, length, take}
use Rattle.tl_lang.specs.Conf.{pairs_of}
use Rattle.tl_script.specs.Tokens.{Token, spaced}
use Rattle.tl_script.specs.Commands.{with_conf}
use Rattle.tl_spelling.proofs.command.then_conf.Given as goal

abbrev pub invariant-loop-pair : goal.invariant-loop-pair
invariant-loop-pair l = record {
  printed : (more : List Token) → l.out.items ++ spaced (with_conf (pairs_of (drop l.pair-index l.pairs)) more) ≡ l.fn.out.items ++ spaced (with_conf (pairs_of l.pairs) more);
  kept : take (length l.fn.out.items) l.out.items ≡ l.fn.out.items;
}
