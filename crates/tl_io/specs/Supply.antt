-- What a source in memory has to give.
use Rattle.std.specs.Prelude.{ℕ, List, length, drop, min}
use Rattle.tl_io.specs.Calls.{CallLog}
use Rattle.tl_io.specs.Counts.{more}

-- the bytes left, and how many were given
pub record Supply : Type 0 where
  pub left : List ℕ
  pub given : ℕ

-- how many bytes the next read of `room` bytes gives
abbrev pub next_len : Supply → ℕ → ℕ
next_len supply room = min room (length supply.left)

-- the supply after that read
abbrev pub after_read : Supply → ℕ → Supply
after_read supply room = record {
  left = drop (next_len supply room) supply.left;
  given = more supply.given (next_len supply room);
}

-- a supply, and the calls of its source
pub record LoggedSupply : Type 0 where
  pub supply : Supply
  pub log : CallLog

-- the bytes held, and the calls of their sink
pub record LoggedBytes : Type 0 where
  pub held : List ℕ
  pub log : CallLog
