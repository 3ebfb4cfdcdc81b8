-- The text of the summary's object.
use Rattle.std.proofs.Common.{◌≡◌, ℕ, List, false, refl, ap, ◌∙◌, IfOk, Result, Ok, Err, String, string_bytes}
use Rattle.serde_json.specs.Data.{Data, object}
use Rattle.serde_json.specs.Written.{compact_text, has_float}
use Rattle.serde_json.proofs.OnLiterals.{serde_json_on_literals}
use Rattle.tl_report.specs.declared.tally.Key.{Key}
use Rattle.tl_report.specs.Summary.{keys, members, object_text}

pub no_float : (count : Key → ℕ) → has_float (object (members count keys)) ≡ false
unfolding serde_json_on_literals
no_float count = refl

pub compact : (count : Key → ℕ) → compact_text (object (members count keys)) ≡ object_text count
unfolding serde_json_on_literals
compact count = refl

-- a text that is told of a value without floats is that of the whole which the value is
pub told_text : {Z E : Type 0} (result : Result (String Z) E) (seen whole : Data) (text : List ℕ) → seen ≡ whole → has_float whole ≡ false → compact_text whole ≡ text
    → IfOk result (λ s. has_float seen ≡ false → string_bytes s ≡ compact_text seen) → IfOk result (λ s. string_bytes s ≡ text)
told_text (Ok s) seen whole text same plain spelled told = told (ap has_float same ∙ plain) ∙ ap compact_text same ∙ spelled
told_text (Err e) seen whole text same plain spelled told = told
