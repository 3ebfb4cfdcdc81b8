-- The steps of a reader: a token that stands right, and what is refused behind it.
use Rattle.std.proofs.Common.{◌≡◌, ℕ, Bool, true, false, nat_le, nat_lt, ◌&&◌, ◌<◌, ◌≤◌, List, ◌∷◌, ◌++◌, Option, Some, None, Result, IfErr, refl, sym, ◌∙◌, ap, subst}
use Rattle.std.specs.Result.{IsErrAnd}
use Rattle.std.proofs.lemmas.Bool.{and_from, and_parts, le-leb, lt-ltb, leb-true, ltb-true}
use Rattle.std.proofs.lemmas.Result.{err_from_is_err_and}
use Rattle.tl_script.specs.declared.bad_kind.BadKind.{BadKind}
use Rattle.tl_script.specs.declared.stop.Stop.{Stop}
use Rattle.tl_script.specs.declared.stop.Stop.TheVariants as stop
use Rattle.tl_script.specs.Tokens.{Token, token_text, spaced}
use Rattle.tl_script.specs.Places.{Place, when, next, Follows, Refused, later}
use Rattle.tl_script.specs.Reading.{StopsAs, RefusedToo}
use Rattle.tl_script.proofs.OneToken.{text_of}

-- ---- exits

pub exit : {A : Type 0} (result : Result A Stop) (e : Stop) (Q : Stop → Type 0) → IsErrAnd result (λ y. y ≡ e) → Q e → IfErr result Q
exit result e Q h q = let p = err_from_is_err_and result h in subst (λ r. IfErr r Q) (sym p.1) (subst Q (sym p.2) q)

pub stops_more : (R Q : BadKind → Type 0) (s : Stop) → ((kind : BadKind) → R kind → Q kind) → StopsAs R s → StopsAs Q s
stops_more R Q (stop.Refused kind) more h = more kind h
stops_more R Q stop.NoMemory more h = tt

-- a token stands right, and what is refused behind it is refused here
pub stops_later : (place after : Place) (bytes : List ℕ) (token : Token) (rest : List ℕ) (s : Stop) → Follows bytes token rest → next place token ≡ Some after → StopsAs (Refused after rest) s → StopsAs (Refused place bytes) s
stops_later place after bytes token rest s f e h = stops_more (Refused after rest) (Refused place bytes) s (λ kind r. later token rest f e r) h

pub too_from : (place after : Place) (bytes : List ℕ) (token : Token) (rest : List ℕ) → Follows bytes token rest → next place token ≡ Some after → RefusedToo place bytes after rest
too_from place after bytes token rest f e kind r = later token rest f e r

pub too_on : (place mid after : Place) (bytes between rest : List ℕ) → RefusedToo place bytes mid between → RefusedToo mid between after rest → RefusedToo place bytes after rest
too_on place mid after bytes between rest g h kind r = g kind (h kind r)

-- ---- what is spelled

pub follows_spaced : (bytes : List ℕ) (token : Token) (rest : List ℕ) (tokens : List Token) → Follows bytes token rest → rest ≡ spaced tokens → bytes ≡ spaced (token ∷ tokens)
follows_spaced bytes token rest tokens f e =
    f.1 ∙ ap (λ (front : List ℕ). 0x20 ∷ front) (text_of f.0 token rest f.2 ∙ ap (λ (r : List ℕ). token_text token ++ r) e)

-- ---- what may stand

abbrev no_place : Option Place
no_place = None

pub when_true : (fits : Bool) (place : Place) → fits ≡ true → when fits place ≡ Some place
when_true true place e = refl
when_true false place e = absurd (cc)

pub when_not : (fits : Bool) (place : Place) → (fits ≡ true → ⊥) → when fits place ≡ None
when_not true place e = absurd (e refl)
when_not false place e = refl

pub when_some : (fits : Bool) (place after : Place) → when fits place ≡ Some after → fits ≡ true
when_some true place after e = refl
when_some false place after e = absurd (cc)

pub within : (low below n : ℕ) → low ≤ n → n < below → (nat_le low n && nat_lt n below) ≡ true
within low below n a b = and_from (nat_le low n) (nat_lt n below) (le-leb low n a) (lt-ltb n below b)

pub from_within : (low below n : ℕ) → (nat_le low n && nat_lt n below) ≡ true → (low ≤ n) × (n < below)
from_within low below n e = let both = and_parts (nat_le low n) (nat_lt n below) e in (leb-true low n both.0, ltb-true n below both.1)
