use Rattle.std.proofs.Common.{◌≡◌, ℕ, List, [], ◌∷◌, ◌++◌, refl, ◌∙◌, sym, subst}
use Rattle.std.specs.List.{All, AllByRecursion}
use Rattle.std.proofs.lemmas.List.Elements.{recursion_from_All}
use Rattle.std.proofs.lemmas.List.{append_cancel_left}
use Rattle.tl_script.specs.Lines.{IsOther}

two_ways : (byte : ℕ) (a b x y : List ℕ) → AllByRecursion (IsOther byte) a → AllByRecursion (IsOther byte) x → a ++ byte ∷ b ≡ x ++ byte ∷ y → (a ≡ x) × (b ≡ y)
two_ways byte [] b [] y h k e = (refl, cc)
two_ways byte [] b (c ∷ x) y h k e = absurd (k.0 cc)
two_ways byte (c ∷ a) b [] y h k e = absurd (h.0 cc)
two_ways byte (c ∷ a) b (d ∷ x) y h k e =
    let rest : a ++ byte ∷ b ≡ x ++ byte ∷ y = cc in
    let parts = two_ways byte a b x y h.1 k.1 rest in
    let heads : c ≡ d = cc in
    (cc, parts.1)

-- a text is cut at the first of a byte in one way only
pub one_cut : (byte : ℕ) (a b x y : List ℕ) → All (IsOther byte) a → All (IsOther byte) x → a ++ byte ∷ b ≡ x ++ byte ∷ y → (a ≡ x) × (b ≡ y)
one_cut byte a b x y h k e = two_ways byte a b x y (recursion_from_All (IsOther byte) a h) (recursion_from_All (IsOther byte) x k) e

never : (byte : ℕ) (x y : List ℕ) → AllByRecursion (IsOther byte) (x ++ byte ∷ y) → ⊥
never byte [] y h = h.0 refl
never byte (c ∷ x) y h = never byte x y h.1

-- a text with the byte isn't one without
pub no_cut : (byte : ℕ) (text x y : List ℕ) → All (IsOther byte) text → text ≡ x ++ byte ∷ y → ⊥
no_cut byte text x y h e = never byte x y (recursion_from_All (IsOther byte) (x ++ byte ∷ y) (subst (All (IsOther byte)) e h))

-- the two parts of a text that begins so, is cut so, and goes on so
pub same_parts : (front gap : List ℕ) (byte : ℕ) (text a b x y : List ℕ) → All (IsOther byte) a → All (IsOther byte) x → text ≡ front ++ (a ++ byte ∷ (gap ++ b)) → text ≡ front ++ (x ++ byte ∷ (gap ++ y)) → (a ≡ x) × (b ≡ y)
same_parts front gap byte text a b x y h k e f =
    let rest = append_cancel_left front (a ++ byte ∷ (gap ++ b)) (x ++ byte ∷ (gap ++ y)) (sym e ∙ f) in
    let parts = one_cut byte a (gap ++ b) x (gap ++ y) h k rest in
    (parts.0, append_cancel_left gap b y parts.1)
