-- A list of which one element changes after another, and the files of a record.
use Rattle.std.proofs.Common.{◌≡◌, ◌∙◌, arith, ℕ, zero, suc, ◌+◌, ◌<◌, ◌≤◌, Bool, ◌||◌, List, [], ◌∷◌, ◌++◌, length, map, slice_get, slice_set, slice_index_or, Some, None, refl, sym, ap}
use Rattle.std.specs.List.{list_any}
use Rattle.tl_types.specs.declared.file_id.FileId.{FileId}
use Rattle.tl_types.specs.declared.record_id.RecordId.{RecordId}
use Rattle.tl_model.specs.History.{files_from}
use Rattle.tl_steps.specs.Steps.{changed_at}

-- the first n have changed
abbrev pub changed_first : {A : Type 0} → ℕ → (A → A) → List A → List A
changed_first zero change xs = xs
changed_first (suc n) change [] = []
changed_first (suc n) change (x ∷ xs) = change x ∷ changed_first n change xs

one_more : {A : Type 0} (xs : List A) (n : ℕ) (d : A) (change : A → A) → n < length xs →
    slice_set (changed_first n change xs) n (change (slice_index_or (changed_first n change xs) n d)) ≡ changed_first (suc n) change xs
one_more [] zero d change l = refl
one_more [] (suc n) d change l = refl
one_more (x ∷ xs) zero d change l = refl
one_more (x ∷ xs) (suc n) d change l = ap (λ ys. change x ∷ ys) (one_more xs n d change (let h : n < length xs = omega arith in h))

-- the next one changes
pub changed_next : {A : Type 0} (all xs : List A) (n : ℕ) (d : A) (change : A → A) → xs ≡ changed_first n change all → n < length all →
    slice_set xs n (change (slice_index_or xs n d)) ≡ changed_first (n + 1) change all
changed_next all xs n d change same l =
    let next : suc n ≡ n + 1 = omega arith in
    ap (λ ys. slice_set ys n (change (slice_index_or ys n d))) same ∙ one_more all n d change l ∙ ap (λ k. changed_first k change all) next

pub changed_all : {A : Type 0} (xs : List A) (change : A → A) → changed_first (length xs) change xs ≡ map change xs
changed_all [] change = refl
changed_all (x ∷ xs) change = ap (λ ys. change x ∷ ys) (changed_all xs change)

-- one of them changes
pub set_changed : {A : Type 0} (xs : List A) (n : ℕ) (d : A) (change : A → A) → slice_set xs n (change (slice_index_or xs n d)) ≡ changed_at n change xs
set_changed [] zero d change = refl
set_changed [] (suc n) d change = refl
set_changed (x ∷ xs) zero d change = refl
set_changed (x ∷ xs) (suc n) d change = ap (λ ys. x ∷ ys) (set_changed xs n d change)

pub unchanged_past : {A : Type 0} (xs : List A) (n : ℕ) (change : A → A) → length xs ≤ n → xs ≡ changed_at n change xs
unchanged_past [] n change out = refl
unchanged_past (x ∷ xs) zero change out = absurd (omega arith)
unchanged_past (x ∷ xs) (suc n) change out = ap (λ ys. x ∷ ys) (unchanged_past xs n change (omega arith))

-- two functions that are the same on what stands in a list
pub map_same : {A B : Type 0} (f g : A → B) (xs : List A) → ((i : ℕ) (x : A) → slice_get xs i ≡ Some x → f x ≡ g x) → map f xs ≡ map g xs
map_same f g [] h = refl
map_same f g (x ∷ xs) h = λ i. h 0 x refl i ∷ map_same f g xs (λ k y at. h (suc k) y at) i

pub map_after : {A B C : Type 0} (f : A → B) (g : B → C) (xs : List A) → map g (map f xs) ≡ map (λ x. g (f x)) xs
map_after f g [] = refl
map_after f g (x ∷ xs) = ap (λ ys. g (f x) ∷ ys) (map_after f g xs)

pub map_append : {A B : Type 0} (f : A → B) (xs ys : List A) → map f (xs ++ ys) ≡ map f xs ++ map f ys
map_append f [] ys = refl
map_append f (x ∷ xs) ys = ap (λ zs. f x ∷ zs) (map_append f xs ys)

pub any_map : {A B : Type 0} (test : B → Bool) (f : A → B) (xs : List A) → list_any test (map f xs) ≡ list_any (λ x. test (f x)) xs
any_map test f [] = refl
any_map test f (x ∷ xs) = ap (λ b. test (f x) || b) (any_map test f xs)

pub get_map : {A B : Type 0} (f : A → B) (xs : List A) (i : ℕ) (x : A) → slice_get xs i ≡ Some x → slice_get (map f xs) i ≡ Some (f x)
get_map f [] i x at = absurd (cc)
get_map f (y ∷ xs) zero x at = let same : y ≡ x = cc in ap (λ z. Some (f z)) same
get_map f (y ∷ xs) (suc i) x at = get_map f xs i x at

pub get_map_none : {A B : Type 0} (f : A → B) (xs : List A) (i : ℕ) → slice_get xs i ≡ None → slice_get (map f xs) i ≡ None
get_map_none f [] i at = refl
get_map_none f (y ∷ xs) zero at = absurd (cc)
get_map_none f (y ∷ xs) (suc i) at = get_map_none f xs i at

-- one more output of a record
pub files_more : (id : RecordId) (k n t m : ℕ) → t ≡ n + 1 → m ≡ k + n → files_from id k t ≡ files_from id k n ++ record { rec = id; out = m } ∷ []
files_more id k n zero m more place = absurd (omega arith)
files_more id k zero (suc t) m more place =
    let none : t ≡ 0 = omega arith in
    let here : k ≡ m = omega arith in
    λ i. record { rec = id; out = here i } ∷ files_from id (k + 1) (none i)
files_more id k (suc n) (suc t) m more place =
    ap (λ fs. record { rec = id; out = k } ∷ fs) (files_more id (k + 1) n t m (omega arith) (omega arith))

-- one more of them is appended
pub files_pushed : {A : Type 0} (new : FileId → A) (id : RecordId) (n : ℕ) (items pushed : List A) (x : A) → pushed ≡ items ++ x ∷ [] → x ≡ new (record { rec = id; out = n }) →
    items ≡ map new (files_from id 0 n) → pushed ≡ map new (files_from id 0 (n + 1))
files_pushed new id n items pushed x is it so_far =
    is
    ∙ (λ i. so_far i ++ it i ∷ [])
    ∙ sym (map_append new (files_from id 0 n) (record { rec = id; out = n } ∷ []))
    ∙ ap (map new) (sym (files_more id 0 n (n + 1) n refl (omega arith)))
