-- A text that begins as a journal does with some lines does so with fewer.
use Rattle.std.proofs.Common.{◌≡◌, ℕ, zero, suc, ◌-◌, ◌<◌, ◌≤◌, List, [], ◌∷◌, ◌++◌, length, refl, ◌∙◌, ap, arith, append_assoc, inl, inr}
use Rattle.std.specs.List.{AllByRecursion}
use Rattle.std.proofs.lemmas.Bool.{cases_lt}
use Rattle.std.proofs.lemmas.List.Concat.{flat_map-append}
use Rattle.tl_spelling.specs.Journals.{line_of, spelled_journal}
use Rattle.tl_reading.specs.Journals.{Fits, IsFirstUnread, IsLine, lines_text}

-- so many of the lines, and the others
fewer : (count : ℕ) (lines : List (List ℕ)) → count ≤ length lines → AllByRecursion IsLine lines
    → (front back : List (List ℕ)) × (lines ≡ front ++ back) × (length front ≡ count) × AllByRecursion IsLine front
fewer zero lines few h = ([], lines, refl, refl, tt)
fewer (suc count) [] few h = absurd (omega (arith, few))
fewer (suc count) (line ∷ lines) few h =
    let rest = fewer count lines (omega (arith, few)) h.1 in
    (line ∷ rest.0, rest.1, ap (λ (all : List (List ℕ)). line ∷ all) rest.2, ap suc rest.3, (h.0, rest.4))

begins_less : (text rest : List ℕ) (lines front back : List (List ℕ)) → lines ≡ front ++ back → text ≡ lines_text lines ++ rest → text ≡ lines_text front ++ (lines_text back ++ rest)
begins_less text rest lines front back cut e =
    e ∙ ap (λ (all : List (List ℕ)). lines_text all ++ rest) cut
    ∙ ap (λ (bytes : List ℕ). bytes ++ rest) (flat_map-append line_of front back)
    ∙ append_assoc (lines_text front) (lines_text back) rest

fits_less : (count many : ℕ) (text : List ℕ) → count ≤ many → Fits many text → Fits count text
fits_less count many text few fits =
    let lines = fits.0 in
    let part = fewer count lines (let all = fits.1 in omega (arith, few, all)) fits.2 in
    let rest = fits.3 in
    let journal = fits.4 in (
      part.0,
      part.3,
      part.4,
      (lines_text part.1 ++ rest.0, begins_less text rest.0 lines part.0 part.1 part.2 rest.1),
      (
        journal.0,
        journal.1,
        journal.2,
        (lines_text part.1 ++ journal.3.0, begins_less (spelled_journal journal.0 journal.1) journal.3.0 lines part.0 part.1 part.2 journal.3.1),
      ),
    )

not_before : (text : List ℕ) (line other : ℕ) → IsFirstUnread text line → IsFirstUnread text other → line < other → ⊥
not_before text line other h k lt = h.not_with (fits_less line (other - 1) text (omega (arith, lt)) k.before)

pub one_unread : (text : List ℕ) (line other : ℕ) → IsFirstUnread text line → IsFirstUnread text other → line ≡ other
one_unread text line other h k =
    elim (cases_lt line other) [
      | inl lt ↦ absurd (not_before text line other h k lt)
      | inr high ↦ elim (cases_lt other line) [
        | inl lt ↦ absurd (not_before text other line k h lt)
        | inr low ↦ omega (arith, high, low)
      ]
    ]
