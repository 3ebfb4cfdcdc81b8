-- Answers that say more of the same result.
use Rattle.std.proofs.Common.{◌≡◌, Result, Ok, Err, IfOk, IfErr, sym, subst}
use Rattle.std.specs.Result.{IsErrAnd}
use Rattle.std.proofs.lemmas.Result.{err_from_is_err_and}
use Rattle.tl_reading.specs.declared.stop.Stop.{Stop}
use Rattle.tl_reading.specs.declared.stop.Stop.TheVariants.{Unread, NoMemory}
use Rattle.tl_reading.specs.Stops.{StopsFor}

pub exit : {A : Type 0} (result : Result A Stop) (e : Stop) (Q : Stop → Type 0) → IsErrAnd result (λ y. y ≡ e) → Q e → IfErr result Q
exit result e Q h q = let p = err_from_is_err_and result h in subst (λ r. IfErr r Q) (sym p.1) (subst Q (sym p.2) q)

pub stop_more : (P Q : Type 0) (s : Stop) → (P → Q) → StopsFor P s → StopsFor Q s
stop_more P Q Unread more h = more h
stop_more P Q NoMemory more h = tt

pub err_more : {A : Type 0} (result : Result A Stop) (P Q : Type 0) → (P → Q) → IfErr result (StopsFor P) → IfErr result (StopsFor Q)
err_more (Ok a) P Q more h = tt
err_more (Err s) P Q more h = stop_more P Q s more h

pub ok_both : {A E : Type 0} (result : Result A E) (P Q R : A → Type 0) → ((a : A) → P a → Q a → R a) → IfOk result P → IfOk result Q → IfOk result R
ok_both (Ok a) P Q R more h k = more a h k
ok_both (Err e) P Q R more h k = tt
