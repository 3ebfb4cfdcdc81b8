-- Logs that grow, and the entries of one seat in them.
use Rattle.std.proofs.Common.{◌≡◌, ◌≢◌, ℕ, ◌≤◌, Bool, true, false, cond, eqb, ne_eqb, List, [], ◌∷◌, ◌++◌, length, refl, sym, ap, ◌∙◌, arith, length-append, append_assoc, ◌<◌, ⊎_elim, ◌⊎◌}
use Rattle.std.specs.Prelude.{filter, All, nat_lt}
use Rattle.std.proofs.lemmas.List.{nil_from_length}
use Rattle.std.proofs.lemmas.List.Elements.{All-nil, All-cons, All-head, All-tail, filter-append}
use Rattle.std.proofs.lemmas.Bool.Decides.{nat_tests}
use mathlib.Core.List.{IsSuffix}
use Rattle.tl_turn.specs.Law.{IsAmong}
use Rattle.tl_turn.specs.Log.{longer, kept_of, is_by, entries_by, IsAddedBy}

module _ {E : Type 0} where
  pub suffix_refl : (log : List E) → IsSuffix log log
  suffix_refl log = ([], refl)

  pub suffix_none : (log : List E) → IsSuffix [] log
  suffix_none [] = ([], refl)
  suffix_none (x ∷ xs) = let r = suffix_none xs in (x ∷ r.0, ap (λ (l : List E). x ∷ l) r.1)

  pub suffix_trans : (a b c : List E) → IsSuffix a b → IsSuffix b c → IsSuffix a c
  suffix_trans a b c h k = (k.0 ++ h.0, append_assoc k.0 h.0 a ∙ ap (λ (l : List E). k.0 ++ l) h.1 ∙ k.1)

  suffix_length : (a b : List E) → IsSuffix a b → length a ≤ length b
  suffix_length a b h = omega (arith, sym (length-append h.0 a) ∙ ap length h.1)

  -- of two ends of one log the shorter is an end of the longer
  shorter : (a b log r s : List E) → r ++ a ≡ log → s ++ b ≡ log → length a ≤ length b → IsSuffix a b
  shorter a b log [] s h k le = let e = sym (length-append s b) ∙ ap length k ∙ sym (ap length h) in let none : s ≡ [] = nil_from_length s (omega arith) in ([], h ∙ sym k ∙ ap (λ (l : List E). l ++ b) none)
  shorter a b log (x ∷ r) [] h k le = (x ∷ r, h ∙ sym k)
  shorter a b log (x ∷ r) (y ∷ s) h k le = let e : r ++ a ≡ s ++ b = cc in shorter a b (s ++ b) r s e refl le

  -- the longer of two ends of one log is an end of it, and ends with both
  pub ends_longer : (a b log : List E) → IsSuffix a log → IsSuffix b log → IsSuffix a (longer a b) × IsSuffix b (longer a b) × IsSuffix (longer a b) log
  ends_longer a b log h k = pick (nat_lt (length a) (length b)) refl
    where
      pick : (t : Bool) → nat_lt (length a) (length b) ≡ t → IsSuffix a (cond t b a) × IsSuffix b (cond t b a) × IsSuffix (cond t b a) log
      pick true e = let le : length a ≤ length b = grind (arith, nat_tests) in (shorter a b log h.0 k.0 h.1 k.1 le, suffix_refl b, k)
      pick false e = let le : length b ≤ length a = grind (arith, nat_tests) in (suffix_refl a, shorter b a log k.0 h.0 k.1 h.1 le, h)

  suffix_whole : (a b : List E) → IsSuffix a b → length b ≤ length a → a ≡ b
  suffix_whole a b h le = let e = sym (length-append h.0 a) ∙ ap length h.1 in let none : h.0 ≡ [] = nil_from_length h.0 (omega arith) in sym (ap (λ (l : List E). l ++ a) none) ∙ h.1

  -- where one of two ends of a log is all of it, so is the longer
  pub longer_all : (a b log : List E) → IsSuffix a log → IsSuffix b log → (a ≡ log) ⊎ (b ≡ log) → longer a b ≡ log
  longer_all a b log h k whole = let ends = ends_longer a b log h k in
      let le : length log ≤ length (longer a b) = ⊎_elim (λ (e : a ≡ log). let l = suffix_length a (longer a b) ends.0 in let n = ap length e in omega arith) (λ (e : b ≡ log). let l = suffix_length b (longer a b) ends.1 in let n = ap length e in omega arith) whole in
      suffix_whole (longer a b) log ends.2 le

  module _ (maker : E → ℕ) where
    -- an end of the log that ends with all of a seat's entries has them all
    pub own_between : (number : ℕ) (a b log : List E) → IsSuffix a b → IsSuffix b log → entries_by maker number a ≡ entries_by maker number log → entries_by maker number b ≡ entries_by maker number log
    own_between number a b log h k e =
        let f : List E → List E = entries_by maker number in
        let up : f log ≡ f k.0 ++ f b = sym (ap f k.1) ∙ filter-append (is_by maker number) k.0 b in
        let down : f b ≡ f h.0 ++ f a = sym (ap f h.1) ∙ filter-append (is_by maker number) h.0 a in
        let none : length (f k.0) ≡ 0 = omega (arith, ap length up ∙ length-append (f k.0) (f b), ap length down ∙ length-append (f h.0) (f a), ap length e) in
        sym (up ∙ ap (λ (l : List E). l ++ f b) (nil_from_length (f k.0) none))

    -- who has no entry in the log has none in an end of it
    pub none_before : (number : ℕ) (a log : List E) → IsSuffix a log → entries_by maker number log ≡ [] → entries_by maker number a ≡ []
    none_before number a log h e =
        let f : List E → List E = entries_by maker number in
        let up : f log ≡ f h.0 ++ f a = sym (ap f h.1) ∙ filter-append (is_by maker number) h.0 a in
        let none : length (f a) ≡ 0 = omega (arith, ap length up ∙ length-append (f h.0) (f a), ap length e) in
        nil_from_length (f a) none

    none_of_others : (number other : ℕ) (added : List E) → other ≢ number → All (λ entry. maker entry ≡ number) added → entries_by maker other added ≡ []
    none_of_others number other [] apart all = refl
    none_of_others number other (x ∷ xs) apart all =
        let no : eqb (maker x) other ≡ false = ne_eqb (maker x) other (λ e. apart (sym e ∙ All-head (λ (entry : E). maker entry ≡ number) x xs all)) in
        ap (λ (t : Bool). cond t (x ∷ filter (is_by maker other) xs) (filter (is_by maker other) xs)) no
        ∙ none_of_others number other xs apart (All-tail (λ (entry : E). maker entry ≡ number) x xs all)

    -- a turn that adds nothing, and one that adds one entry
    pub adds_none : (number : ℕ) (seen : List E) → IsAddedBy maker number seen seen
    adds_none number seen = ([], refl, All-nil (λ (entry : E). maker entry ≡ number))

    pub adds_one : (number : ℕ) (entry : E) (seen : List E) → maker entry ≡ number → IsAddedBy maker number seen (entry ∷ seen)
    adds_one number entry seen by = (entry ∷ [], refl, All-cons (λ (e : E). maker e ≡ number) entry [] by (All-nil (λ (e : E). maker e ≡ number)))

    -- what one seat adds are no entries of another
    pub others_stay : (number other : ℕ) (seen log : List E) → other ≢ number → IsAddedBy maker number seen log → entries_by maker other log ≡ entries_by maker other seen
    others_stay number other seen log apart (added, is, all) =
        ap (entries_by maker other) is ∙ filter-append (is_by maker other) added seen
        ∙ ap (λ (l : List E). l ++ entries_by maker other seen) (none_of_others number other added apart all)

    pub added_suffix : (number : ℕ) (seen log : List E) → IsAddedBy maker number seen log → IsSuffix seen log
    added_suffix number seen log (added, is, all) = (added, sym is)

    -- what the root keeps of each number
    pub kept_all : (number : ℕ) (log : List E) (joined : List (ℕ × List E)) → All (λ (seat : ℕ × List E). entries_by maker seat.0 log ≡ seat.1) joined → IsAmong number joined → entries_by maker number log ≡ kept_of number joined
    kept_all number log [] all among = absurd among
    kept_all number log (seat ∷ seats) all among =
        let P : ℕ × List E → Type 0 = λ (x : ℕ × List E). entries_by maker x.0 log ≡ x.1 in
        pick (eqb seat.0 number) refl (All-head P seat seats all) (λ x. kept_all number log seats (All-tail P seat seats all) x)
      where
        pick : (t : Bool) → eqb seat.0 number ≡ t → entries_by maker seat.0 log ≡ seat.1 → (IsAmong number seats → entries_by maker number log ≡ kept_of number seats) → entries_by maker number log ≡ cond t seat.1 (kept_of number seats)
        pick true e head later =
            let same : seat.0 ≡ number = grind (arith, nat_tests) in
            ap (λ (n : ℕ). entries_by maker n log) (sym same) ∙ head
        pick false e head later =
            let apart : seat.0 ≢ number = grind (arith, nat_tests) in
            later (⊎_elim (λ (same : seat.0 ≡ number). absurd (apart same)) (λ (x : IsAmong number seats). x) among)

    pub kept_none : (number made : ℕ) (joined : List (ℕ × List E)) → All (λ (seat : ℕ × List E). seat.0 < made) joined → made ≤ number → kept_of number joined ≡ []
    kept_none number made [] all above = refl
    kept_none number made (seat ∷ seats) all above =
        let P : ℕ × List E → Type 0 = λ (x : ℕ × List E). x.0 < made in
        let below : seat.0 < made = All-head P seat seats all in
        ap (λ (t : Bool). cond t seat.1 (kept_of number seats)) (ne_eqb seat.0 number (λ same. omega arith)) ∙ kept_none number made seats (All-tail P seat seats all) above
