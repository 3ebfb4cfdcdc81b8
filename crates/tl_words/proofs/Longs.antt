-- What a word that begins with two hyphens is, by its name and its value.
use Rattle.std.proofs.Common.{◌≡◌, ◌∙◌, ◌≢◌, ◌⊎◌, ◌==◌, ℕ, Bool, true, false, suc, zero, cond, inl, inr, refl, sym, ap, ap₂, arith, List, [], ◌∷◌, ◌++◌, Option, Some, None}
use Rattle.std.specs.Prelude.{option_and_then}
use Rattle.std.proofs.lemmas.Bool.Decides.{nat_tests}
use Rattle.clap.specs.Lexer.{strip_byte, name_and_value, long_of, long_of_rest}
use Rattle.clap.proofs.CutLemmas.{Lacks}
use Rattle.clap.proofs.LexerLemmas.{name_and_value-at, name_and_value-without}

abbrev pub value_text : Option (List ℕ) → List ℕ
value_text None = []
value_text (Some value) = 61 ∷ value

same : (x c : ℕ) → (x == c) ≡ true → x ≡ c
same x c e = grind (arith, nat_tests)

differs : (x c : ℕ) → (x == c) ≡ false → x ≢ c
differs x c e = grind (arith, nat_tests)

strip_is : (c : ℕ) (word rest : List ℕ) → strip_byte c word ≡ Some rest → word ≡ c ∷ rest
strip_is c [] rest e = cc
strip_is c (x ∷ xs) rest e = go (x == c) refl e
  where
    go : (b : Bool) → (x == c) ≡ b → cond b (Some xs) None ≡ Some rest → x ∷ xs ≡ c ∷ rest
    go true t h =
        let first : x ≡ c = same x c t in
        let others : xs ≡ rest = cc in
        ap₂ (λ y ys. y ∷ ys) first others
    go false t h = cc

lacks_more : (c x : ℕ) (xs : List ℕ) → x ≢ c → Lacks c xs → Lacks c (x ∷ xs)
lacks_more c x xs ne rest zero lt = ne
lacks_more c x xs ne rest (suc i) lt = rest i (omega arith)

-- where the first `=` stands
Cut : List ℕ → Type 0
Cut text = (name : List ℕ) × (value : Option (List ℕ)) × (text ≡ name ++ value_text value) × (name_and_value text ≡ (name, value))

Halves : List ℕ → Type 0
Halves text = Lacks 61 text ⊎ ((xs : List ℕ) × (ys : List ℕ) × (text ≡ xs ++ 61 ∷ ys) × Lacks 61 xs)

halves : (text : List ℕ) → Halves text
unfolding Halves
halves [] = inl (λ i lt. absurd (omega arith))
halves (x ∷ xs) = go (x == 61) refl (halves xs)
  where
    go : (b : Bool) → (x == 61) ≡ b → Halves xs → Halves (x ∷ xs)
    go true t h = inr ([], xs, ap (λ y. y ∷ xs) (same x 61 t), λ i lt. absurd (omega arith))
    go false t (inl h) = inl (lacks_more 61 x xs (differs x 61 t) h)
    go false t (inr h) = inr (x ∷ h.0, h.1, ap (λ ys. x ∷ ys) h.2, lacks_more 61 x h.0 (differs x 61 t) h.3)

append_nothing : (xs : List ℕ) → xs ≡ xs ++ []
append_nothing [] = refl
append_nothing (x ∷ xs) = ap (λ ys. x ∷ ys) (append_nothing xs)

cut_of : (text : List ℕ) → Halves text → Cut text
unfolding Cut Halves
cut_of text (inl h) = (text, None, append_nothing text, name_and_value-without text h)
cut_of text (inr h) = (h.0, Some h.1, h.2, ap name_and_value h.2 ∙ name_and_value-at h.0 h.1 h.3)

rest_is : (rest name : List ℕ) (value : Option (List ℕ)) → long_of_rest rest ≡ Some (name, value) → rest ≡ name ++ value_text value
unfolding Cut
rest_is [] name value e = cc
rest_is (x ∷ xs) name value e =
    let found = cut_of (x ∷ xs) (halves (x ∷ xs)) in
    let both : ◌≡◌ {A = List ℕ × Option (List ℕ)} (found.0, found.1) (name, value) = sym found.3 ∙ some_is e in
    found.2 ∙ ap (λ p. p.0 ++ value_text p.1) both
  where
    some_is : {X : Type 0} {a b : X} → Some a ≡ Some b → a ≡ b
    some_is e = cc

-- a long word is two hyphens, its name, and where it has a value `=` and the value
pub long_is : (word name : List ℕ) (value : Option (List ℕ)) → long_of word ≡ Some (name, value) → word ≡ 45 ∷ 45 ∷ (name ++ value_text value)
long_is word name value e = one (strip_byte 45 word) refl e
  where
    two : (first : List ℕ) (o : Option (List ℕ)) → strip_byte 45 first ≡ o → option_and_then long_of_rest o ≡ Some (name, value) → first ≡ 45 ∷ (name ++ value_text value)
    two first None s h = cc
    two first (Some rest) s h = strip_is 45 first rest s ∙ ap (λ r. 45 ∷ r) (rest_is rest name value h)

    one : (o : Option (List ℕ)) → strip_byte 45 word ≡ o → option_and_then long_of_rest (option_and_then (strip_byte 45) o) ≡ Some (name, value)
        → word ≡ 45 ∷ 45 ∷ (name ++ value_text value)
    one None s h = cc
    one (Some first) s h = strip_is 45 word first s ∙ ap (λ r. 45 ∷ r) (two first (strip_byte 45 first) refl h)
