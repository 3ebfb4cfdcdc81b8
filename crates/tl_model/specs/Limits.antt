-- How many inputs and outputs a job may have, by the version of the language.
use Rattle.std.specs.Prelude.{ℕ}
use Rattle.tl_model.specs.declared.header.Version.{Version}
use Rattle.tl_model.specs.declared.header.Version.TheVariants.{One, Two}

abbrev pub input_limit : Version → ℕ
input_limit One = 16
input_limit Two = 64

abbrev pub output_limit : Version → ℕ
output_limit One = 8
output_limit Two = 64
