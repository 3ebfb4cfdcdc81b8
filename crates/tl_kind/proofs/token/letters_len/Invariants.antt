use Rattle.std.proofs.Common.{◌≡◌, ◌≤◌, take, true}
use Rattle.std.specs.List.{list_all}
use Rattle.tl_kind.specs.Written.{is_letter}
use Rattle.tl_kind.proofs.token.letters_len.Given as goal

abbrev pub invariant-loop-place : goal.invariant-loop-place
invariant-loop-place l = record {
  few : l.place ≤ l.limit;
  letters : list_all is_letter (take l.place l.text) ≡ true;
}
