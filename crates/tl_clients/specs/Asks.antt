-- What calls leave open.
use Rattle.std.specs.Prelude.{Bool, true, false}
use Rattle.tl_model.specs.declared.command.Command.{Command}
use Rattle.tl_model.specs.declared.command.Command.TheVariants.{Read}

-- a command that opens no read
abbrev pub asks_no_read : {T : Type 0} → Command T → Bool
asks_no_read (Read path prio form) = false
asks_no_read _ = true
