-- Evaluations that use fuel: an ending is a result or a fault, with the units that are left.
use Rattle.std.specs.Prelude.{◌≡◌, ℕ, zero, suc, ◌-◌, if◌then◌else◌, nat_lt, Result, Ok, Err}
use Rattle.tl_lang.specs.Value.{no_fuel}

-- how an evaluation ends: with a result or with the number of a fault, and with the units of fuel that are left
pub data Ending (A : Type 0) : Type 0 where
  done : A → (left : ℕ) → Ending A
  fault : (number left : ℕ) → Ending A

-- an evaluation, from the units of fuel that it may use
abbrev pub Run : Type 0 → Type 0
Run A = ℕ → Ending A

-- entering costs one unit, before all else
abbrev pub enter : {A : Type 0} → Run A → Run A
enter run zero = fault no_fuel zero
enter run (suc fuel) = run fuel

abbrev pub give : {A : Type 0} → A → Run A
give a fuel = done a fuel

-- a result, or the number of a fault, at no cost
abbrev pub answer : {A : Type 0} → Result A ℕ → Run A
answer (Ok a) fuel = done a fuel
answer (Err k) fuel = fault k fuel

abbrev pub and_then : {A B : Type 0} → Ending A → (A → Run B) → Ending B
and_then (done a left) go = go a left
and_then (fault k left) go = fault k left

infixl 20 ◌>>=◌
-- one evaluation after another; a fault is the last
abbrev pub ◌>>=◌ : {A B : Type 0} → Run A → (A → Run B) → Run B
◌>>=◌ run go fuel = and_then (run fuel) go

-- an evaluation that enters so many expressions before it ends so, and stops for want of fuel where it has less
abbrev pub entering : {A : Type 0} → ℕ → Result A ℕ → Run A
entering entered end fuel = if nat_lt fuel entered then fault no_fuel 0 else answer end (fuel - entered)

-- whatever fuel it is given, the evaluation enters the same expressions to the same end, as far as the fuel lasts
pub record Enters {A : Type 0} (run : Run A) : Type 0 where
  pub entered : ℕ
  pub end : Result A ℕ
  pub is : (fuel : ℕ) → run fuel ≡ entering entered end fuel
