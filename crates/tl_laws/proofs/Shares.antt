-- Under shares what is next got no more of its share than anything else that is ready.
use Rattle.std.proofs.Common.{◌≡◌, ℕ, ◌+◌, ◌*◌, ◌<◌, ◌≤◌, nat_lt, Bool, true, false, ◌&&◌, ◌||◌, not, if◌then◌else◌, List, [], ◌∷◌, map, Option, Some, None, option_map, is_none, refl, sym, ap, ◌∙◌, subst, arith}
use Rattle.std.specs.List.{AllByRecursion, find, list_any}
use Rattle.std.proofs.lemmas.Bool.{and_parts, eqb-true, ltb-true, ltb-false}
use Rattle.std.proofs.Math.Nat.{mul_right_comm, mul-le-mul_right, le_of_mul-le-mul_right}
use Rattle.tl_types.specs.Same.{record_same-Decides}
use Rattle.tl_types.specs.declared.record_id.RecordId.{RecordId}
use Rattle.tl_types.specs.declared.worker_id.WorkerId.{WorkerId}
use Rattle.tl_model.specs.declared.event.Act.TheVariants.{Claim}
use Rattle.tl_model.specs.declared.event.Event.{Event}
use Rattle.tl_model.specs.declared.header.Header.{Header}
use Rattle.tl_model.specs.declared.header.OrderRule.TheVariants.{Shares}
use Rattle.tl_model.specs.declared.record.Record.{Record}
use Rattle.tl_model.specs.Past.{Past, without_tickets}
use Rattle.tl_model.specs.Tables.{better, first_by}
use Rattle.tl_model.specs.History.{id_of}
use Rattle.tl_model.specs.Plan.{has_id, ready, is_ready, prio, claims, got_less, has_turn_before, prio_of, level, has_prio, first_at, next}
use Rattle.tl_model.specs.Rules.{Judge, all_permitted, broken, is_known_worker, is_permitted, is_record, may_claim}
use Rattle.tl_laws.proofs.Permits.{permitted_of}
use Rattle.tl_laws.specs.Shares.{GotNoMore}

-- ---- fractions

-- a / p is no greater than b / q, and b / q than d / r
fraction-trans : (a b d p q r : ℕ) → 0 < q → a * q ≤ b * p → b * r ≤ d * q → a * r ≤ d * p
fraction-trans a b d p q r some first second =
    let one : a * q * r ≤ b * p * r = mul-le-mul_right r first in
    let two : b * r * p ≤ d * q * p = mul-le-mul_right p second in
    let left : a * r * q ≡ a * q * r = mul_right_comm a r q in
    let mid : b * p * r ≡ b * r * p = mul_right_comm b p r in
    let right : d * q * p ≡ d * p * q = mul_right_comm d q p in
    let all : a * r * q ≤ d * p * q = chain (a * r * q) (a * q * r) (b * p * r) (b * r * p) (d * q * p) (d * p * q) left one mid two right in
    le_of_mul-le-mul_right all some
  where
    chain : (s t u v w x : ℕ) → s ≡ t → t ≤ u → u ≡ v → v ≤ w → w ≡ x → s ≤ x
    chain s t u v w x st tu uv vw wx = omega arith

no-more-trans : (past : Past) (p q r : ℕ) → GotNoMore past p q → GotNoMore past q r → GotNoMore past p r
no-more-trans past p q r first second =
    fraction-trans (claims past p + 1) (claims past q + 1) (claims past r + 1) (p + 1) (q + 1) (r + 1) (omega arith) first second

no-more-self : (past : Past) (p : ℕ) → GotNoMore past p p
no-more-self past p = let n = (claims past p + 1) * (p + 1) in let le : n ≤ n = omega arith in le

-- ---- turns

weak-less : (a b : ℕ) → a < b → a ≤ b
weak-less a b h = omega arith

got-less-no-more : (past : Past) (p q : ℕ) → got_less past p q ≡ true → GotNoMore past p q
got-less-no-more past p q h =
    let a : ℕ = (claims past p + 1) * (q + 1) in
    let b : ℕ = (claims past q + 1) * (p + 1) in
    weak-less a b (ltb-true a b h)

not-less-no-more : (past : Past) (p q : ℕ) → got_less past q p ≡ false → GotNoMore past p q
not-less-no-more past p q h = ltb-false ((claims past q + 1) * (p + 1)) ((claims past p + 1) * (q + 1)) h

turn-by : (past : Past) (p q : ℕ) (a b c : Bool) → got_less past p q ≡ a → got_less past q p ≡ b → (a || not b && c) ≡ true → GotNoMore past p q
turn-by past p q true b c e f turn = got-less-no-more past p q e
turn-by past p q false true c e f turn = absurd (cc)
turn-by past p q false false c e f turn = not-less-no-more past p q f

-- what has its turn before another got no more of its share
turn-no-more : (past : Past) (p q : ℕ) → has_turn_before Shares past p q ≡ true → GotNoMore past p q
turn-no-more past p q turn = turn-by past p q (got_less past p q) (got_less past q p) (nat_lt q p) refl refl turn

no-turn-by : (past : Past) (p q : ℕ) (a b c : Bool) → got_less past p q ≡ a → (a || not b && c) ≡ false → GotNoMore past q p
no-turn-by past p q true b c e turn = absurd (cc)
no-turn-by past p q false b c e turn = not-less-no-more past q p e

-- and what has it not before the other, the other got no more of its own
no-turn-no-more : (past : Past) (p q : ℕ) → has_turn_before Shares past p q ≡ false → GotNoMore past q p
no-turn-no-more past p q turn = no-turn-by past p q (got_less past p q) (got_less past q p) (nat_lt q p) refl turn

-- ---- the first of all

better-no-more : (past : Past) (x s : ℕ) (b : Bool) → has_turn_before Shares past s x ≡ b →
    GotNoMore past (if b then s else x) x × GotNoMore past (if b then s else x) s
better-no-more past x s true e = (turn-no-more past s x e, no-more-self past s)
better-no-more past x s false e = (no-more-self past x, no-turn-no-more past s x e)

weaken : (past : Past) (p q : ℕ) (xs : List ℕ) → GotNoMore past p q → AllByRecursion (GotNoMore past q) xs → AllByRecursion (GotNoMore past p) xs
weaken past p q [] h all = tt
weaken past p q (x ∷ xs) h all = (no-more-trans past p q x h all.0, weaken past p q xs h all.1)

first-none : (before : ℕ → ℕ → Bool) (xs : List ℕ) → first_by before xs ≡ None → (P : ℕ → Type 0) → AllByRecursion P xs
first-none before [] none P = tt
first-none before (x ∷ xs) none P = absurd (cc)

first-step : (past : Past) (x p : ℕ) (xs : List ℕ) (o : Option ℕ) → first_by (has_turn_before Shares past) xs ≡ o →
    ((s : ℕ) → o ≡ Some s → AllByRecursion (GotNoMore past s) xs) → better (has_turn_before Shares past) x o ≡ p → AllByRecursion (GotNoMore past p) (x ∷ xs)
first-step past x p xs None e rest is =
    subst (λ p. AllByRecursion (GotNoMore past p) (x ∷ xs)) is (no-more-self past x, first-none (has_turn_before Shares past) xs e (GotNoMore past x))
first-step past x p xs (Some s) e rest is =
    let both = better-no-more past x s (has_turn_before Shares past s x) refl in
    subst (λ p. AllByRecursion (GotNoMore past p) (x ∷ xs)) is
    (both.0, weaken past (better (has_turn_before Shares past) x (Some s)) s xs both.1 (rest s refl))

some-is : {A : Type 0} (a b : A) → Some a ≡ Some b → a ≡ b
some-is a b is = cc

-- the priority that has its turn before all others got no more of its share than any
first-no-more : (past : Past) (xs : List ℕ) (p : ℕ) → first_by (has_turn_before Shares past) xs ≡ Some p → AllByRecursion (GotNoMore past p) xs
first-no-more past [] p is = absurd (cc)
first-no-more past (x ∷ xs) p is =
    first-step past x p xs (first_by (has_turn_before Shares past) xs) refl (λ s e. first-no-more past xs s e)
    (some-is (better (has_turn_before Shares past) x (first_by (has_turn_before Shares past) xs)) p is)

-- ---- what is next

any-by : (past : Past) (other : RecordId) (r : Record) (rs : List Record) (b : Bool) (P : ℕ → Type 0) → has_id other r ≡ b → P (prio_of past r) →
    (list_any (has_id other) rs ≡ true → P (prio past other)) → (b || list_any (has_id other) rs) ≡ true → P (prio past other)
any-by past other r rs true P e here later is = subst P (ap (prio past) (sym ((record_same-Decides other (id_of r)).0 e))) here
any-by past other r rs false P e here later is = later is

-- what holds of the priorities of some records holds of that of one of them
ready-holds : (past : Past) (other : RecordId) (rs : List Record) (P : ℕ → Type 0) → AllByRecursion P (map (prio_of past) rs) → list_any (has_id other) rs ≡ true →
    P (prio past other)
ready-holds past other [] P all is = absurd (cc)
ready-holds past other (r ∷ rs) P all is =
    any-by past other r rs (has_id other r) P refl all.0 (ready-holds past other rs P all.1) is

found-step : (past : Past) (p : ℕ) (x : Record) (rs : List Record) (b : Bool) (made : RecordId) → has_prio past p x ≡ b →
    (option_map id_of (find (has_prio past p) rs) ≡ Some made → prio past made ≡ p) →
    option_map id_of (if b then Some x else find (has_prio past p) rs) ≡ Some made → prio past made ≡ p
found-step past p x rs true made e rest is =
    let it : id_of x ≡ made = cc in
    ap (prio past) (sym it) ∙ eqb-true (prio_of past x) p e
found-step past p x rs false made e rest is = rest is

found-prio : (past : Past) (p : ℕ) (rs : List Record) (made : RecordId) → option_map id_of (find (has_prio past p) rs) ≡ Some made → prio past made ≡ p
found-prio past p [] made is = absurd (cc)
found-prio past p (x ∷ rs) made is = found-step past p x rs (has_prio past p x) made refl (found-prio past p rs made) is

next-at : (past : Past) (made other : RecordId) (o : Option ℕ) → level Shares past ≡ o → first_at past o ≡ Some made → is_ready past other ≡ true →
    GotNoMore past (prio past made) (prio past other)
next-at past made other None e is runs = absurd (cc)
next-at past made other (Some p) e is runs =
    subst (λ n. GotNoMore past n (prio past other)) (sym (found-prio past p (ready past) made is))
    (ready-holds past other (ready past) (GotNoMore past p) (first-no-more past (map (prio_of past) (ready past)) p e) runs)

-- under shares the priority of what is next got no more of its share than that of anything else that is ready
pub next-shares : (past : Past) (made other : RecordId) → next Shares past ≡ Some made → is_ready past other ≡ true →
    GotNoMore past (prio past made) (prio past other)
next-shares past made other is runs = next-at past made other (level Shares past) refl is runs

-- ---- journals

record-is : (o : Option RecordId) (made : RecordId) → is_record o made ≡ true → o ≡ Some made
record-is None made h = absurd (cc)
record-is (Some other) made h = ap Some ((record_same-Decides other made).0 h)

-- in a journal whose events are permitted each claim under shares is of such a record
pub claimed-shares : {T : Type 0} (judge : Judge T) (header : Header) (e : Event T) (past : List (Event T)) → all_permitted judge header (e ∷ past) ≡ true →
    header.order ≡ Shares → (worker : WorkerId) (made other : RecordId) → e.act ≡ Claim worker made → is_ready (without_tickets past) other ≡ true →
    GotNoMore (without_tickets past) (prio (without_tickets past) made) (prio (without_tickets past) other)
claimed-shares judge header e past ok order worker made other act runs =
    let before : Past = without_tickets past in
    let parts = and_parts (is_none (broken judge header past e)) (all_permitted judge header past) ok in
    let permitted : is_permitted judge header past before e.actor (Claim worker made) ≡ true =
    subst (λ act. is_permitted judge header past before e.actor act ≡ true) act (permitted_of judge header past e parts.0).1 in
    let chosen = (and_parts (is_known_worker header worker && may_claim before e.actor) (is_record (next header.order before) made) permitted).1 in
    next-shares before made other (ap (λ rule. next rule before) (sym order) ∙ record-is (next header.order before) made chosen) runs
