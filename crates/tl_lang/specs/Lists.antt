-- The forms on lists of texts.
use Rattle.std.specs.Prelude.{ℕ, ℤ, pos, negsuc, if◌then◌else◌, ◌==◌, List, [], ◌∷◌, ◌++◌, length, slice_get, ok_or, option_map, Ok, Err}
use Rattle.std.specs.List.{slice_split}
use Rattle.std.specs.Cmp.Lexicographic.{slice_cmp}
use Rattle.std.specs.Ordering.{nat_cmp, is_le}
use Rattle.tl_lang.specs.Value.{text, number, list, Answer, out_of_range, text_within, list_within}

abbrev pub without_empty_last : List (List ℕ) → List (List ℕ)
without_empty_last [] = []
without_empty_last ([] ∷ []) = []
without_empty_last (t ∷ ts) = t ∷ without_empty_last ts

-- the pieces between line feeds
abbrev pub lines : List ℕ → Answer
lines s = list_within (without_empty_last (slice_split (λ c. c == 10) s))

abbrev pub split : List ℕ → List ℕ → Answer
split s [] = Err out_of_range
split s (separator ∷ []) = list_within (slice_split (λ c. c == separator) s)
split s (b ∷ c ∷ more) = Err out_of_range

-- the texts with s between
abbrev pub joined : List ℕ → List (List ℕ) → List ℕ
joined s [] = []
joined s (t ∷ []) = t
joined s (t ∷ u ∷ ts) = t ++ (s ++ joined s (u ∷ ts))

abbrev pub join : List (List ℕ) → List ℕ → Answer
join ts s = text_within (joined s ts)

abbrev pub append : List (List ℕ) → List ℕ → Answer
append ts s = list_within (ts ++ s ∷ [])

abbrev pub at : List (List ℕ) → ℤ → Answer
at ts (pos i) = ok_or (option_map text (slice_get ts i)) out_of_range
at ts (negsuc i) = Err out_of_range

abbrev pub count : List (List ℕ) → Answer
count ts = Ok (number (pos (length ts)))

-- the text at its place among texts that ascend by bytes
abbrev pub put : List ℕ → List (List ℕ) → List (List ℕ)
put s [] = s ∷ []
put s (t ∷ ts) = if is_le (slice_cmp nat_cmp s t) then s ∷ t ∷ ts else t ∷ put s ts

-- the texts, ascending by bytes
abbrev pub sorted : List (List ℕ) → List (List ℕ)
sorted [] = []
sorted (t ∷ ts) = put t (sorted ts)

abbrev pub sort : List (List ℕ) → Answer
sort ts = Ok (list (sorted ts))
