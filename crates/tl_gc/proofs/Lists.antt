-- Lists of which single elements are set.
use Rattle.std.proofs.Common.{◌≡◌, ◌∙◌, ◌⊎◌, inl, inr, arith, ℕ, zero, suc, ◌+◌, ◌<◌, Bool, true, false, ◌&&◌, ◌||◌, List, [], ◌∷◌, drop, length, map, slice_get, slice_set, Some, refl, sym, ap}
use Rattle.std.specs.List.{list_any}
use Rattle.tl_steps.specs.Steps.{changed_at}

pub get-set : {A : Type 0} (xs : List A) (k : ℕ) (x : A) → k < length xs → slice_get (slice_set xs k x) k ≡ Some x
get-set [] k x less = absurd (omega arith)
get-set (y ∷ xs) zero x less = refl
get-set (y ∷ xs) (suc k) x less = get-set xs k x (omega arith)

pub get-set-other : {A : Type 0} (xs : List A) (k i : ℕ) (x : A) → (k ≡ i → ⊥) → slice_get (slice_set xs k x) i ≡ slice_get xs i
get-set-other [] zero i x other = refl
get-set-other [] (suc k) i x other = refl
get-set-other (y ∷ xs) zero zero x other = absurd (other refl)
get-set-other (y ∷ xs) zero (suc i) x other = refl
get-set-other (y ∷ xs) (suc k) zero x other = refl
get-set-other (y ∷ xs) (suc k) (suc i) x other = get-set-other xs k i x (λ e. other (ap suc e))

pub length-set : {A : Type 0} (xs : List A) (k : ℕ) (x : A) → length (slice_set xs k x) ≡ length xs
length-set [] zero x = refl
length-set [] (suc k) x = refl
length-set (y ∷ xs) zero x = refl
length-set (y ∷ xs) (suc k) x = ap suc (length-set xs k x)

pub length-changed : {A : Type 0} (xs : List A) (n : ℕ) (change : A → A) → length (changed_at n change xs) ≡ length xs
length-changed [] n change = refl
length-changed (x ∷ xs) zero change = refl
length-changed (x ∷ xs) (suc n) change = ap suc (length-changed xs n change)

pub get-changed : {A : Type 0} (xs : List A) (n : ℕ) (change : A → A) (x : A) → slice_get xs n ≡ Some x → slice_get (changed_at n change xs) n ≡ Some (change x)
get-changed [] n change x at = absurd (cc)
get-changed (y ∷ xs) zero change x at = let same : y ≡ x = cc in ap (λ z. Some (change z)) same
get-changed (y ∷ xs) (suc n) change x at = get-changed xs n change x at

pub get-changed-other : {A : Type 0} (xs : List A) (n i : ℕ) (change : A → A) → (n ≡ i → ⊥) → slice_get (changed_at n change xs) i ≡ slice_get xs i
get-changed-other [] n i change other = refl
get-changed-other (y ∷ xs) zero zero change other = absurd (other refl)
get-changed-other (y ∷ xs) zero (suc i) change other = refl
get-changed-other (y ∷ xs) (suc n) zero change other = refl
get-changed-other (y ∷ xs) (suc n) (suc i) change other = get-changed-other xs n i change (λ e. other (ap suc e))

-- a list that has at each place what a function makes of another's element there
pub map-at-each : {A B : Type 0} (f : A → B) (ys : List B) (xs : List A) → length ys ≡ length xs → ((i : ℕ) (x : A) → slice_get xs i ≡ Some x → slice_get ys i ≡ Some (f x)) → ys ≡ map f xs
map-at-each f [] [] long h = refl
map-at-each f [] (x ∷ xs) long h = absurd (omega arith)
map-at-each f (y ∷ ys) [] long h = absurd (omega arith)
map-at-each f (y ∷ ys) (x ∷ xs) long h =
    let first : Some y ≡ Some (f x) = h 0 x refl in
    let here : y ≡ f x = cc in
    λ i. here i ∷ map-at-each f ys xs (omega arith) (λ k z at. h (suc k) z at) i

pub length-map : {A B : Type 0} (f : A → B) (xs : List A) → length (map f xs) ≡ length xs
length-map f [] = refl
length-map f (x ∷ xs) = ap suc (length-map f xs)

pub get-some : {A : Type 0} (xs : List A) (n : ℕ) → n < length xs → (x : A) × (slice_get xs n ≡ Some x)
get-some [] n less = absurd (omega arith)
get-some (x ∷ xs) zero less = (x, refl)
get-some (x ∷ xs) (suc n) less = get-some xs n (omega arith)

pub drop-at : {A : Type 0} (xs : List A) (n : ℕ) (x : A) → slice_get xs n ≡ Some x → drop n xs ≡ x ∷ drop (suc n) xs
drop-at [] n x at = absurd (cc)
drop-at (y ∷ xs) zero x at = let same : y ≡ x = cc in ap (λ z. z ∷ xs) same
drop-at (y ∷ xs) (suc n) x at = drop-at xs n x at

pub drop-all : {A : Type 0} (xs : List A) (n : ℕ) → n ≡ length xs → drop n xs ≡ []
drop-all [] zero long = refl
drop-all [] (suc n) long = refl
drop-all (x ∷ xs) zero long = absurd (omega arith)
drop-all (x ∷ xs) (suc n) long = drop-all xs n (omega arith)

-- the first n of one list, and then those of another
abbrev pub over_first : {A : Type 0} → ℕ → List A → List A → List A
over_first zero xs ys = ys
over_first (suc n) [] ys = ys
over_first (suc n) (x ∷ xs) [] = []
over_first (suc n) (x ∷ xs) (y ∷ ys) = x ∷ over_first n xs ys

over-more : {A : Type 0} (xs ys : List A) (n : ℕ) (x : A) → length ys ≡ length xs → slice_get xs n ≡ Some x → slice_set (over_first n xs ys) n x ≡ over_first (suc n) xs ys
over-more [] ys n x long at = absurd (cc)
over-more (z ∷ xs) [] n x long at = absurd (omega arith)
over-more (z ∷ xs) (y ∷ ys) zero x long at = let same : x ≡ z = cc in ap (λ w. w ∷ ys) same
over-more (z ∷ xs) (y ∷ ys) (suc n) x long at = ap (λ ws. z ∷ ws) (over-more xs ys n x (omega arith) at)

pub over-next : {A : Type 0} (xs ys zs : List A) (n : ℕ) (x : A) → length ys ≡ length xs → slice_get xs n ≡ Some x → zs ≡ over_first n xs ys → slice_set zs n x ≡ over_first (n + 1) xs ys
over-next xs ys zs n x long at so_far =
    let next : suc n ≡ n + 1 = omega arith in
    ap (λ ws. slice_set ws n x) so_far ∙ over-more xs ys n x long at ∙ ap (λ k. over_first k xs ys) next

pub over-all : {A : Type 0} (xs ys : List A) (n : ℕ) → n ≡ length xs → length ys ≡ length xs → over_first n xs ys ≡ xs
over-all [] [] zero all long = refl
over-all [] (y ∷ ys) n all long = absurd (omega arith)
over-all [] [] (suc n) all long = absurd (omega arith)
over-all (x ∷ xs) ys zero all long = absurd (omega arith)
over-all (x ∷ xs) [] (suc n) all long = absurd (omega arith)
over-all (x ∷ xs) (y ∷ ys) (suc n) all long = ap (λ ws. x ∷ ws) (over-all xs ys n (omega arith) (omega arith))

pub same_or_not : (a b : ℕ) → (a ≡ b) ⊎ (a ≡ b → ⊥)
same_or_not zero zero = inl refl
same_or_not zero (suc b) = inr (λ e. absurd (omega arith))
same_or_not (suc a) zero = inr (λ e. absurd (omega arith))
same_or_not (suc a) (suc b) = elim (same_or_not a b) [ inl e ↦ inl (ap suc e) | inr other ↦ inr (λ e. other (omega arith)) ]

-- ---- tests of lists

or-middle : (a b c d : Bool) → ((a || b) || (c || d)) ≡ ((a || c) || (b || d))
or-middle true b c d = refl
or-middle false true true d = refl
or-middle false true false d = refl
or-middle false false c d = refl

pub any-or : {A : Type 0} (p q : A → Bool) (xs : List A) → (list_any p xs || list_any q xs) ≡ list_any (λ x. p x || q x) xs
any-or p q [] = refl
any-or p q (x ∷ xs) = or-middle (p x) (list_any p xs) (q x) (list_any q xs) ∙ ap (λ b. (p x || q x) || b) (any-or p q xs)

and-none : (b : Bool) → (b && false) ≡ false
and-none true = refl
and-none false = refl

pub any-none : {A : Type 0} (u : A → Bool) (xs : List A) → list_any (λ x. u x && false) xs ≡ false
any-none u [] = refl
any-none u (x ∷ xs) = ap (λ b. b || list_any (λ y. u y && false) xs) (and-none (u x)) ∙ any-none u xs

and-swap : (s u t : Bool) → ((s && u) || (u && t)) ≡ (u && (s || t))
and-swap true true t = refl
and-swap true false t = refl
and-swap false true t = refl
and-swap false false t = refl

-- one of the first has one of the second, or one of the second is had by one of the first
pub any-swap : {A B : Type 0} (s : A → B → Bool) (u : A → Bool) (xs : List A) (ys : List B) →
    list_any (λ y. list_any (λ x. s x y && u x) xs) ys ≡ list_any (λ x. u x && list_any (s x) ys) xs
any-swap s u xs [] = sym (any-none u xs)
any-swap s u xs (y ∷ ys) =
    ap (λ b. list_any (λ x. s x y && u x) xs || b) (any-swap s u xs ys)
    ∙ any-or (λ x. s x y && u x) (λ x. u x && list_any (s x) ys) xs
    ∙ (λ i. list_any (λ x. and-swap (s x y) (u x) (list_any (s x) ys) i) xs)
