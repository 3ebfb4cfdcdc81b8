-- Programs that meet the kind rules.
use Rattle.std.specs.Prelude.{ℕ}
use Rattle.tl_lang.specs.declared.program.Program.{Program}

-- a program with the numbers of inputs and outputs for which the kind rules hold of it
pub record CheckedProgram : Type 0 where
  pub program : Program
  pub inputs : ℕ
  pub outputs : ℕ
