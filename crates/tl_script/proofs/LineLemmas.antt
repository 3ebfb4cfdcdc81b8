use Rattle.std.proofs.Common.{◌≡◌, ℕ, ◌<◌, List, [], ◌∷◌, ◌++◌, length, refl, eqb, false, arith}
use Rattle.std.specs.List.{AllByRecursion}
use Rattle.std.specs.Option.{MatchOption, IfSome, IfNone}
use Rattle.std.specs.Prelude.{Option, Some, None}
use Rattle.tl_script.specs.Lines.{lines_of, IsOther}

no_feed : (x : ℕ) → IsOther 10 x → eqb x 10 ≡ false
no_feed x h = grind arith

-- the first line ends at the first line feed
pub lines_of-at : (xs ys : List ℕ) → AllByRecursion (IsOther 10) xs → lines_of (xs ++ 10 ∷ ys) ≡ xs ∷ lines_of ys
lines_of-at [] ys h = refl
lines_of-at (x ∷ xs) ys h = rw (no_feed x h.0, lines_of-at xs ys h.1) refl

-- a text with no line feed is one line
pub lines_of-one : (xs : List ℕ) → 0 < length xs → AllByRecursion (IsOther 10) xs → lines_of xs ≡ xs ∷ []
lines_of-one [] l h = absurd (omega arith)
lines_of-one (x ∷ []) l h = rw (no_feed x h.0) refl
lines_of-one (x ∷ y ∷ ys) l h = rw (no_feed x h.0, lines_of-one (y ∷ ys) (omega arith) h.1) refl

-- the clauses of the two answers
pub some_of : {T : Type 0} (r : Option T) (P : Type 0) (Q : T → Type 0) → MatchOption r P Q → IfSome r Q
some_of None P Q h = tt
some_of (Some x) P Q h = h

pub none_of : {T : Type 0} (r : Option T) (P : Type 0) (Q : T → Type 0) → MatchOption r P Q → IfNone r P
none_of None P Q h = h
none_of (Some x) P Q h = tt
