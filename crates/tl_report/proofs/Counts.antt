-- A summary does not ask in which order the events stand.
use Rattle.std.proofs.Common.{◌≡◌, ℕ, List, ◌++◌, reverse, codes, cond, ap, sym, ◌∙◌, OnOk, Result, Ok, Err}
use Rattle.std.proofs.lemmas.List.Sorted.{sum_by-IsPermutation, IsPermutation-reverse}
use Rattle.tl_model.specs.declared.event.Event.{Event}
use Rattle.tl_report.specs.declared.tally.Key.{Key}
use Rattle.tl_report.specs.Summary.{counts, how_many, object_text, summary}

pub same_count : {T : Type 0} (key : Key) (events : List (Event T)) → how_many key (reverse events) ≡ how_many key events
same_count key events = sum_by-IsPermutation (λ event. cond (counts key event.act) 1 0) events (reverse events) (IsPermutation-reverse events)

pub same_summary : {T : Type 0} (events : List (Event T)) → summary (reverse events) ≡ summary events
same_summary events = ap (λ (count : Key → ℕ). object_text count ++ codes "\n") (λ i key. same_count key events i)

-- the object of the events in their order and a line feed are the summary of the journal
pub told_line : {T A E : Type 0} (result : Result A E) (old new text : List ℕ) (events past : List (Event T))
    → text ≡ object_text (λ key. how_many key events) → reverse events ≡ past → OnOk result (new ≡ old ++ (text ++ codes "\n")) → OnOk result (new ≡ old ++ summary past)
told_line (Ok a) old new text events past told newest_first line =
    line ∙ ap (λ (bytes : List ℕ). old ++ (bytes ++ codes "\n")) told ∙ ap (λ (bytes : List ℕ). old ++ bytes) (sym (same_summary events) ∙ ap summary newest_first)
told_line (Err e) old new text events past told newest_first line = line
