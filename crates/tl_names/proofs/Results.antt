-- What holds anyway holds of a refused answer.
use Rattle.std.proofs.Common.{◌≡◌, sym, true, false, Result, Ok, Err}
use Rattle.std.proofs.lemmas.Bool.{true≢false}
use Rattle.std.specs.Result.{IfOk, OnErr, OnOk, is_err}

pub on_err : {T E P : Type 0} (r : Result T E) → P → OnErr r P
on_err (Ok x) holds = tt
on_err (Err e) holds = holds

pub if_ok : {T E P : Type 0} (r : Result T E) → P → IfOk r (λ _. P)
if_ok (Ok x) holds = holds
if_ok (Err e) holds = tt

pub ok_holds : {T E P : Type 0} (r : Result T E) → is_err r ≡ false → OnOk r P → P
ok_holds (Ok x) is holds = holds
ok_holds (Err e) is holds = absurd (true≢false is)

pub err_holds : {T E P : Type 0} (r : Result T E) → is_err r ≡ true → OnErr r P → P
err_holds (Ok x) is holds = absurd (true≢false (sym is))
err_holds (Err e) is holds = holds
