-- The numbers of broken kind rules.
use Rattle.std.specs.Prelude.{ℕ, List, ◌∷◌, [], map, Option, Some, None, Result, Ok, Err}
use Rattle.tl_lang.specs.declared.kind.Kind.TheVariants as kind
use Rattle.tl_lang.specs.Kinds.{Judged, and_then, takes, outputs_differ, unbound, wrong_kind, no_input}
use Rattle.tl_lang.specs.declared.kind.Kind.{Kind}
use Rattle.tl_kind.specs.declared.kind_error.KindErrorKind.{KindErrorKind}
use Rattle.tl_kind.specs.declared.kind_error.KindErrorKind.TheVariants.{Outputs, Unbound, WrongKind, NoInput}
use Rattle.tl_kind.specs.declared.kind_error.KindError.{KindError}

abbrev pub kind_number : KindErrorKind → ℕ
kind_number Outputs = outputs_differ
kind_number Unbound = unbound
kind_number WrongKind = wrong_kind
kind_number NoInput = no_input

-- an answer as the kind rules name it
abbrev pub judged : Result Kind KindError → Judged
judged (Ok k) = Ok k
judged (Err e) = Err (kind_number e.kind)

-- the number of the refusal, if it is one
abbrev pub refusal_of : {A : Type 0} → Result A KindError → Option ℕ
refusal_of (Ok c) = None
refusal_of (Err e) = Some (kind_number e.kind)

-- a list whose parts are texts
abbrev pub list_of : List Judged → Judged
list_of parts = takes (map (λ a. kind.Text) parts) kind.List parts

-- a list, a value to begin with, and a body that keeps the kind of the value so far
abbrev pub folded : Judged → Judged → (Kind → Judged) → Judged
folded m i a = and_then m (λ p. and_then i (λ k. takes (kind.List ∷ k ∷ []) k (Ok p ∷ a k ∷ [])))
