-- The numbers of refusals.
use Rattle.std.specs.Prelude.{ℕ}
use Rattle.tl_script.specs.declared.bad_kind.BadKind.{BadKind}
use Rattle.tl_script.specs.declared.bad_kind.BadKind.TheVariants as bad

abbrev pub bad_number : BadKind → ℕ
bad_number bad.Header = 1
bad_number bad.Client = 2
bad_number bad.Command = 3
bad_number bad.Argument = 4
bad_number bad.Path = 5
bad_number bad.Program = 6
bad_number bad.Kinds = 7
bad_number bad.LineTooLong = 8
