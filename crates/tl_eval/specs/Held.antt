-- The values and faults that the machine holds, as values and faults of the language.
use Rattle.std.specs.Prelude.{ℕ, Bool, Option, None, Some, Result, Ok, Err}
use Rattle.tl_eval.specs.declared.fault.Fault.{Fault}
use Rattle.tl_eval.specs.declared.fault.Fault.TheVariants.{NoMeaning, NoFuel, TooLong, Overflow, ZeroDivisor, BadNumber, OutOfRange, NoKey, InputFault}
use Rattle.tl_eval.specs.declared.value.Value.{Value}
use Rattle.tl_eval.specs.declared.value.Value.TheVariants.{Text, Number, List}
use Rattle.tl_lang.specs.Value as lang
use Rattle.tl_lang.specs.Numbers.{is_zero}
use Rattle.tl_lang.specs.Value.{Answer, no_meaning, no_fuel, too_long, overflow, zero_divisor, bad_number, out_of_range, no_key, input_fault}

abbrev pub code_of : Fault → ℕ
code_of NoMeaning = no_meaning
code_of NoFuel = no_fuel
code_of TooLong = too_long
code_of Overflow = overflow
code_of ZeroDivisor = zero_divisor
code_of BadNumber = bad_number
code_of OutOfRange = out_of_range
code_of NoKey = no_key
code_of InputFault = input_fault

abbrev pub meant : Value → lang.Value
meant (Text s) = lang.text s
meant (Number n) = lang.number n
meant (List ts) = lang.list ts

abbrev pub answered : Result Value Fault → Answer
answered (Ok v) = Ok (meant v)
answered (Err fault) = Err (code_of fault)

-- whether a number is 0
abbrev pub zero_test : lang.Value → Option Bool
zero_test (lang.text s) = None
zero_test (lang.number n) = Some (is_zero n)
zero_test (lang.list ts) = None
