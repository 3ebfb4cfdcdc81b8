-- Under shares, who is next got no more of its share than any that is ready.
use Rattle.std.proofs.Common.{◌≡◌, ◌∙◌, arith, ℕ, ◌+◌, ◌*◌, ◌≤◌, nat_lt, Bool, true, false, ◌&&◌, ◌||◌, not, if◌then◌else◌, List, [], ◌∷◌, Option, Some, None, option_map, refl, sym, ap, subst, ltb-true, ltb-false, le_of_lt, le_refl}
use Rattle.std.specs.List.{AllByRecursion, list_any}
use Rattle.std.proofs.Math.Nat.{le_of_mul-le-mul_right, mul-le-mul_right}
use Rattle.tl_types.specs.declared.record_id.RecordId.{RecordId}
use Rattle.tl_types.specs.Same.{record_same-Decides}
use Rattle.tl_model.specs.declared.header.OrderRule.{OrderRule}
use Rattle.tl_model.specs.declared.header.OrderRule.TheVariants.{Shares}
use Rattle.tl_model.specs.declared.record.Record.{Record}
use Rattle.tl_model.specs.Past.{Past}
use Rattle.tl_model.specs.Tables.{better, first_by}
use Rattle.tl_model.specs.History.{id_of}
use Rattle.tl_model.specs.Plan.{claims, got_less, has_id, has_turn_before, is_ready, next, prio, prio_of, ready}
use Rattle.tl_laws.proofs.Next.{goes_before, next-first}
use Rattle.tl_prio.specs.Standing.{GotNoMore}

-- ---- fractions

-- products by the lower numbers, which are not 0, compare the fractions
cross : (a b c p q r : ℕ) → a * (q + 1) ≤ b * (p + 1) → b * (r + 1) ≤ c * (q + 1) → a * (r + 1) ≤ c * (p + 1)
cross a b c p q r ab bc =
    let one : a * (q + 1) * (r + 1) ≤ b * (p + 1) * (r + 1) = mul-le-mul_right (r + 1) ab in
    let two : b * (r + 1) * (p + 1) ≤ c * (q + 1) * (p + 1) = mul-le-mul_right (p + 1) bc in
    let whole : a * (r + 1) * (q + 1) ≤ c * (p + 1) * (q + 1) = omega arith in
    le_of_mul-le-mul_right {k = q + 1} whole (omega arith)

no-more-on : (past : Past) (p q r : ℕ) → GotNoMore past p q → GotNoMore past q r → GotNoMore past p r
no-more-on past p q r one two = cross (claims past p + 1) (claims past q + 1) (claims past r + 1) p q r one two

-- ---- turns

turn-yes : {Q : Type 0} (less more first : Bool) → (less ≡ true → Q) → (more ≡ false → Q) → (less || not more && first) ≡ true → Q
turn-yes true more first one two is = one refl
turn-yes false true first one two is = absurd (cc)
turn-yes false false first one two is = two refl

turn-no : {Q : Type 0} (less other : Bool) → (less ≡ false → Q) → (less || other) ≡ false → Q
turn-no true other one is = absurd (cc)
turn-no false other one is = one refl

before-yes : (past : Past) (p q : ℕ) → has_turn_before Shares past p q ≡ true → GotNoMore past p q
before-yes past p q is =
    turn-yes (got_less past p q) (got_less past q p) (nat_lt q p)
    (λ less. let h = ltb-true ((claims past p + 1) * (q + 1)) ((claims past q + 1) * (p + 1)) less in le_of_lt h)
    (λ more. ltb-false ((claims past q + 1) * (p + 1)) ((claims past p + 1) * (q + 1)) more) is

before-no : (past : Past) (p q : ℕ) → has_turn_before Shares past p q ≡ false → GotNoMore past q p
before-no past p q is =
    turn-no (got_less past p q) (not (got_less past q p) && nat_lt q p)
    (λ less. ltb-false ((claims past p + 1) * (q + 1)) ((claims past q + 1) * (p + 1)) less) is

-- ---- the first of some records

-- a record got no more of its share than each of these
abbrev AllGotMore : Past → Record → List Record → Type 0
AllGotMore past s rs = AllByRecursion (λ x. GotNoMore past (prio_of past s) (prio_of past x)) rs

all-on : (past : Past) (s t : Record) (rs : List Record) → GotNoMore past (prio_of past s) (prio_of past t) → AllGotMore past t rs → AllGotMore past s rs
all-on past s t [] h all = tt
all-on past s t (x ∷ rs) h all = (no-more-on past (prio_of past s) (prio_of past t) (prio_of past x) h all.0, all-on past s t rs h all.1)

better-least : (past : Past) (x t : Record) (rs : List Record) (b : Bool) → goes_before Shares past t x ≡ b → AllGotMore past t rs →
    AllGotMore past (if b then t else x) (x ∷ rs)
better-least past x t rs true is all = (before-yes past (prio_of past t) (prio_of past x) is, all)
better-least past x t rs false is all = (
  le_refl ((claims past (prio_of past x) + 1) * (prio_of past x + 1)),
  all-on past x t rs (before-no past (prio_of past t) (prio_of past x) is) all,
)

none-first : (past : Past) (rs : List Record) → first_by (goes_before Shares past) rs ≡ None → rs ≡ []
none-first past [] is = refl
none-first past (r ∷ rs) is = absurd (cc)

first-step : (past : Past) (x : Record) (rs : List Record) (o : Option Record) → (o ≡ None → rs ≡ []) → ((t : Record) → o ≡ Some t → AllGotMore past t rs) →
    AllGotMore past (better (goes_before Shares past) x o) (x ∷ rs)
first-step past x rs None none some = (
  le_refl ((claims past (prio_of past x) + 1) * (prio_of past x + 1)),
  subst (AllGotMore past x) (sym (none refl)) tt,
)
first-step past x rs (Some t) none some = better-least past x t rs (goes_before Shares past t x) refl (some t refl)

first-least : (past : Past) (rs : List Record) (s : Record) → first_by (goes_before Shares past) rs ≡ Some s → AllGotMore past s rs
first-least past [] s is = absurd (cc)
first-least past (x ∷ rs) s is =
    let same : better (goes_before Shares past) x (first_by (goes_before Shares past) rs) ≡ s = cc in
    subst (λ t. AllGotMore past t (x ∷ rs)) same
    (first-step past x rs (first_by (goes_before Shares past) rs) (none-first past rs) (first-least past rs))

-- ---- one of a number

pick : (P : Record → Type 0) (test : Record → Bool) (Q : Type 0) → ((x : Record) → test x ≡ true → P x → Q) → (x : Record) (rest b : Bool) → test x ≡ b → P x →
    (rest ≡ true → Q) → (b || rest) ≡ true → Q
pick P test Q found x rest true at has later is = found x at has
pick P test Q found x rest false at has later is = later is

pick-any : (P : Record → Type 0) (test : Record → Bool) (Q : Type 0) → ((x : Record) → test x ≡ true → P x → Q) → (rs : List Record) → AllByRecursion P rs →
    list_any test rs ≡ true → Q
pick-any P test Q found [] all is = absurd (cc)
pick-any P test Q found (x ∷ rs) all is = pick P test Q found x (list_any test rs) (test x) refl all.0 (pick-any P test Q found rs all.1) is

shares-of : (past : Past) (made other : RecordId) (o : Option Record) → first_by (goes_before Shares past) (ready past) ≡ o → option_map id_of o ≡ Some made →
    is_ready past other ≡ true → GotNoMore past (prio past made) (prio past other)
shares-of past made other None first is runs = absurd (cc)
shares-of past made other (Some s) first is runs =
    let same : id_of s ≡ made = cc in
    pick-any (λ x. GotNoMore past (prio_of past s) (prio_of past x)) (has_id other) (GotNoMore past (prio past made) (prio past other))
    (λ x at least. subst (λ id. GotNoMore past (prio past made) (prio past id)) (sym ((record_same-Decides other (id_of x)).0 at))
    (subst (λ id. GotNoMore past (prio past id) (prio_of past x)) same least))
    (ready past) (first-least past (ready past) s first) runs

-- under shares the record that is next got no more of its share than any that is ready
pub next-shares : (past : Past) (rule : OrderRule) (found : Option RecordId) (made other : RecordId) → found ≡ next rule past → rule ≡ Shares → found ≡ Some made →
    is_ready past other ≡ true → GotNoMore past (prio past made) (prio past other)
next-shares past rule found made other is shares some runs =
    shares-of past made other (first_by (goes_before Shares past) (ready past)) refl
    (sym (next-first Shares past) ∙ sym (ap (λ r. next r past) shares) ∙ sym is ∙ some) runs
