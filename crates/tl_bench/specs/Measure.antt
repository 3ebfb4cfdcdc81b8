-- What a measurement needs in order to run.
use Rattle.std.specs.Prelude.{◌≤◌}
use Rattle.tl_bench.specs.declared.measure.Measure.{Measure}
use Rattle.tl_bench.specs.declared.measure.Measure.TheVariants.{Script, Chain, Fold, Text, Names, Blocks, Folder, Small, Turns}

-- one turn has at most 64 seats
abbrev pub IsRunnable : Measure → Type 0
IsRunnable (Script lines) = Unit {0}
IsRunnable (Chain jobs) = Unit {0}
IsRunnable (Fold lines) = Unit {0}
IsRunnable (Text bytes) = bytes ≤ 1048576
IsRunnable (Names many) = many ≤ 131070
IsRunnable (Blocks blocks times) = 1 ≤ blocks
IsRunnable (Folder folder blocks) = Unit {0}
IsRunnable Small = Unit {0}
IsRunnable (Turns seats turns) = seats ≤ 64
