use Rattle.std.proofs.Common.{◌≡◌, ◌++◌, List, drop, length, take}
use Rattle.tl_script.specs.Tokens.{Token, spaced}
use Rattle.tl_script.specs.Commands.{with_paths}
use Rattle.tl_spelling.proofs.command.then_paths.Given as goal

abbrev pub invariant-loop-path : goal.invariant-loop-path
invariant-loop-path l = record {
  printed : (more : List Token) → l.out.items ++ spaced (with_paths (drop l.path-index l.paths) more) ≡ l.fn.out.items ++ spaced (with_paths l.paths more);
  kept : take (length l.fn.out.items) l.out.items ≡ l.fn.out.items;
}
