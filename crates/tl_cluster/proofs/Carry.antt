-- What is the same on both sides of a test.
use Rattle.std.proofs.Common.{◌≡◌, Bool, true, false, if◌then◌else◌, Option, Some, None, IsSome, Result, Ok, Err, IfOk, OnOk, OnErr, refl}
use Rattle.std.specs.Result.{is_err}

pub same_either : {A : Type 0} (b : Bool) (a : A) → (if b then a else a) ≡ a
same_either true a = refl
same_either false a = refl

-- what is there unless b was there before
pub if-none : {A : Type 0} (b : Bool) (o : Option A) (a : A) → (if b then None else o) ≡ Some a → o ≡ Some a
if-none true o a is = absurd (cc)
if-none false o a is = is

-- the value that is there
pub value_of : {A : Type 0} (o : Option A) → IsSome o → (a : A) × (o ≡ Some a)
value_of None h = absurd (cc)
value_of (Some a) h = (a, refl)

pub if_ok : {A E : Type 0} (r : Result A E) (P Q : A → Type 0) → ((a : A) → P a → Q a) → IfOk r P → IfOk r Q
if_ok (Ok a) P Q f h = f a h
if_ok (Err e) P Q f h = h

pub ok_of : {A E : Type 0} (r : Result A E) (P : Type 0) → OnOk r P → is_err r ≡ false → P
ok_of (Ok a) P h is = h
ok_of (Err e) P h is = absurd (cc)

pub err_of : {A E : Type 0} (r : Result A E) (P : Type 0) → OnErr r P → is_err r ≡ true → P
err_of (Ok a) P h is = absurd (cc)
err_of (Err e) P h is = h
