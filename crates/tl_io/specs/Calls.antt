-- The calls of an object in memory: those that are to fail, numbered from 1, and those made so far.
use Rattle.std.specs.Prelude.{ℕ, Bool, ◌==◌, List, if◌then◌else◌}
use Rattle.std.specs.List.{list_any}
use Rattle.tl_io.specs.Counts.{more}

-- the numbers of the calls that fail, how many calls were made, and how many of them failed
pub record CallLog : Type 0 where
  pub fails : List ℕ
  pub made : ℕ
  pub faults : ℕ

-- before the first call
abbrev pub no_calls : List ℕ → CallLog
no_calls fails = record { fails = fails; made = 0; faults = 0 }

-- whether this number is among them
abbrev pub is_among : ℕ → List ℕ → Bool
is_among number numbers = list_any (λ n. n == number) numbers

-- whether the next call fails
abbrev pub next_fails : CallLog → Bool
next_fails log = is_among (more log.made 1) log.fails

-- the log after the next call
abbrev pub after_call : CallLog → CallLog
after_call log = record {
  fails = log.fails;
  made = more log.made 1;
  faults = if next_fails log then more log.faults 1 else log.faults;
}
