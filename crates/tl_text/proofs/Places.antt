-- How a refusal's place is shown.
use Rattle.std.proofs.Common.{◌≡◌, ℕ, ◌+◌, ◌-◌, ◌<◌, ◌≤◌, List, ◌++◌, length, take, drop, get_or, refl, sym, ◌∙◌, subst, arith}
use Rattle.std.proofs.lemmas.List.{take-append-drop, take_all, take_rest, take-append-le, take-take, get_or_append_left, get_or-take, length-take-le, length-append}
use Rattle.tl_text.specs.Place.{CanBegin, IsFirstBad, HasOneReading}

-- a text in which a spelling stands begins as each of its fronts does
pub begins_as_its_front : {V : Type 0} (R : List ℕ → V → List ℕ → Type 0) (text : List ℕ) (v : V) (rest : List ℕ) (n : ℕ) → R text v rest → CanBegin R (take n text)
begins_as_its_front R text v rest n h = (drop n text, v, rest, subst (λ t. R t v rest) (sym (take-append-drop n text)) h)

-- a byte that no spelling allows
pub refused_at_byte : {V : Type 0} (R : List ℕ → V → List ℕ → Type 0) (text : List ℕ) (place : ℕ) → place < length text → CanBegin R (take place text)
    → ((more : List ℕ) (v : V) (rest : List ℕ) → ¬ R (take (place + 1) text ++ more) v rest) → IsFirstBad R text place
refused_at_byte R text place lt before there = record {
  none = λ v rest h. let b = begins_as_its_front R text v rest (place + 1) h in there b.0 b.1 b.2 b.3;
  within = omega arith;
  before = before;
  there = λ _ b. there b.0 b.1 b.2 b.3;
}

-- the text ends where a spelling would go on
pub refused_at_end : {V : Type 0} (R : List ℕ → V → List ℕ → Type 0) (text : List ℕ) (place : ℕ) → place ≡ length text → CanBegin R text
    → ((v : V) (rest : List ℕ) → ¬ R text v rest) → IsFirstBad R text place
refused_at_end R text place e before none = record {
  none = none;
  within = omega arith;
  before = let full : length text ≤ place = omega arith in subst (λ t. CanBegin R t) (sym (take_all place text full)) before;
  there = λ lt. absurd (omega arith);
}

-- a refusal in the text from a place on, named by its place in the whole text
pub refusal_from : {V : Type 0} (R : List ℕ → V → List ℕ → Type 0) (text : List ℕ) (at offset : ℕ) → IsFirstBad R (take (length text - at) (drop at text)) offset → IsFirstBad R (drop at text) (at + offset - at)
refusal_from R text at offset h =
    let same : at + offset - at ≡ offset = omega arith in
    rw (same, ← take_rest text at) h

-- what was read is the one reading
pub only_reading : {V : Type 0} (R : List ℕ → V → List ℕ → Type 0) (size : V → ℕ) (text : List ℕ) (at len : ℕ) (v w : V) (rest others : List ℕ) → HasOneReading R
    → R (take (length text - at) (drop at text)) v rest → len ≡ size v → R (drop at text) w others → ◌≡◌ {A = V × ℕ} (v, at + len) (w, at + size w)
only_reading {V} R size text at len v w rest others one read fits stands =
    let same : v ≡ w = (one (drop at text) v w rest others (subst (λ t. R t v rest) (take_rest text at) read) stands).0 in
    let here : ◌≡◌ {A = V × ℕ} (v, at + len) (v, at + size v) = rw fits refl in
    let there : ◌≡◌ {A = V × ℕ} (v, at + size v) (w, at + size w) = rw same refl in
    here ∙ there

-- a byte that none may have at the place, or the text's end there
pub refused_by_byte : {V : Type 0} (R : List ℕ → V → List ℕ → Type 0) (Allowed : ℕ → Type 0) (text : List ℕ) (place : ℕ) → place ≤ length text → CanBegin R (take place text)
    → ((t : List ℕ) (v : V) (rest : List ℕ) → R t v rest → take place t ≡ take place text → (place < length t) × Allowed (get_or t place 0))
    → (place < length text → ¬ Allowed (get_or text place 0)) → IsFirstBad R text place
refused_by_byte R Allowed text place le before next wrong = record {
  none = λ v rest h. let n = next text v rest h refl in wrong n.0 n.1;
  within = le;
  before = before;
  there = λ lt b.
      let front : List ℕ = take (place + 1) text in
      let long : length (take (place + 1) text) ≡ place + 1 = length-take-le (place + 1) text (omega arith) in
      let same : take place (take (place + 1) text ++ b.0) ≡ take place text =
      take-append-le place (take (place + 1) text) b.0 (omega arith) ∙ take-take place (place + 1) text (omega arith) in
      let byte : get_or (take (place + 1) text ++ b.0) place 0 ≡ get_or text place 0 =
      get_or_append_left (take (place + 1) text) b.0 0 place (omega arith) ∙ get_or-take (place + 1) text place 0 (omega arith) in
      wrong lt (subst Allowed byte (next (take (place + 1) text ++ b.0) b.1 b.2 b.3 same).1);
}

-- a byte that none that agrees before has at the place
pub refused_here : {V : Type 0} (R : List ℕ → V → List ℕ → Type 0) (text : List ℕ) (place : ℕ) → place < length text → CanBegin R (take place text)
    → ((t : List ℕ) (v : V) (rest : List ℕ) → R t v rest → take place t ≡ take place text → place < length t → get_or t place 0 ≡ get_or text place 0 → ⊥) → IsFirstBad R text place
refused_here R text place lt before wrong = record {
  none = λ v rest h. wrong text v rest h refl lt refl;
  within = omega arith;
  before = before;
  there = λ _ b.
      let long : length (take (place + 1) text) ≡ place + 1 = length-take-le (place + 1) text (omega arith) in
      let same : take place (take (place + 1) text ++ b.0) ≡ take place text =
      take-append-le place (take (place + 1) text) b.0 (omega arith) ∙ take-take place (place + 1) text (omega arith) in
      let byte : get_or (take (place + 1) text ++ b.0) place 0 ≡ get_or text place 0 =
      get_or_append_left (take (place + 1) text) b.0 0 place (omega arith) ∙ get_or-take (place + 1) text place 0 (omega arith) in
      let size : length (take (place + 1) text ++ b.0) ≡ length (take (place + 1) text) + length b.0 = length-append (take (place + 1) text) b.0 in
      wrong (take (place + 1) text ++ b.0) b.1 b.2 b.3 same (omega arith) byte;
}
