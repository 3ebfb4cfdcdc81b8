-- What came first and what came then came together.
use Rattle.std.proofs.Common.{◌≡◌, Bool, true, false, List, [], ◌∷◌, ◌++◌, filter, cond, refl, sym, ap, ◌∙◌, append_assoc}
use Rattle.std.proofs.lemmas.List.{append-nil}
use Rattle.std.specs.List.{list_all}
use Rattle.std.proofs.lemmas.Bool.{and_from, and_parts}
use Rattle.tl_pieces.specs.Setting.{Setting, Events}
use Rattle.tl_pieces.specs.Own.{Adds, is_by, is_own, own}

filter-step : {A : Type 0} (x : A) (xs ys zs : List A) (b : Bool) → xs ≡ ys ++ zs → cond b (x ∷ xs) xs ≡ cond b (x ∷ ys) ys ++ zs
filter-step x xs ys zs true e = ap (λ l. x ∷ l) e
filter-step x xs ys zs false e = e

pub filter-append : {A : Type 0} (test : A → Bool) (xs ys : List A) → filter test (xs ++ ys) ≡ filter test xs ++ filter test ys
filter-append test [] ys = refl
filter-append test (x ∷ xs) ys = filter-step x (filter test (xs ++ ys)) (filter test xs) (filter test ys) (test x) (filter-append test xs ys)

pub all-append : {A : Type 0} (test : A → Bool) (xs ys : List A) → list_all test xs ≡ true → list_all test ys ≡ true → list_all test (xs ++ ys) ≡ true
all-append test [] ys h k = k
all-append test (x ∷ xs) ys h k =
    let parts = and_parts (test x) (list_all test xs) h in and_from (test x) (list_all test (xs ++ ys)) parts.0 (all-append test xs ys parts.1 k)

pub added-none : {T : Type 0} (s : Setting T) (events : Events T) → Adds s [] events events
added-none s events = record { more = []; came = refl; own = refl; alone = λ h. refl }

pub added-both : {T : Type 0} (s : Setting T) (first then before between after : Events T) → Adds s first before between → Adds s then between after →
    Adds s (then ++ first) before after
added-both s first then before between after a b = record {
  more = b.more ++ a.more;
  came = b.came ∙ ap (λ es. b.more ++ es) a.came ∙ sym (append_assoc b.more a.more before);
  own = filter-append (is_own s.actor) b.more a.more ∙ ap (λ es. es ++ own s.actor a.more) b.own ∙ ap (λ es. then ++ es) a.own;
  alone = λ h. all-append (is_by s.actor) b.more a.more (b.alone h) (a.alone h);
}

-- others' events after what was added, and before it
pub added-on : {T : Type 0} (s : Setting T) (mine before between after : Events T) → Adds s mine before between → Adds s [] between after → Adds s mine before after
added-on s mine before between after a b = added-both s mine [] before between after a b

pub added-then : {T : Type 0} (s : Setting T) (mine before between after : Events T) → Adds s [] before between → Adds s mine between after → Adds s mine before after
added-then s mine before between after a b = record {
  more = b.more ++ a.more;
  came = b.came ∙ ap (λ es. b.more ++ es) a.came ∙ sym (append_assoc b.more a.more before);
  own = filter-append (is_own s.actor) b.more a.more ∙ ap (λ es. es ++ own s.actor a.more) b.own ∙ ap (λ es. mine ++ es) a.own ∙ append-nil mine;
  alone = λ h. all-append (is_by s.actor) b.more a.more (b.alone h) (a.alone h);
}

pub added-own : {T : Type 0} (s : Setting T) (mine before after : Events T) → Adds s mine before after → own s.actor after ≡ mine ++ own s.actor before
added-own s mine before after a = ap (own s.actor) a.came ∙ filter-append (is_own s.actor) a.more before ∙ ap (λ es. es ++ own s.actor before) a.own
