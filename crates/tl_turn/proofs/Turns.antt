-- The steps of a turn, one after another.
use Rattle.std.proofs.Common.{◌≡◌, ◌≢◌, ℕ, ◌+◌, ◌-◌, ◌%◌, ◌^◌, ◌<◌, ◌≤◌, true, false, true≢false, List, [], ◌∷◌, length, Option, Some, None, refl, sym, ap, ◌∙◌, subst, arith, length-append}
use Rattle.std.specs.Prelude.{All}
use mathlib.Core.Option.{some, some-injective}
use mathlib.Core.List.{IsSuffix}
use lib.ListN.{get_elem?}
use Rattle.atomic_table.specs.Table.{Allows, Final, Seen, rest}
use Rattle.tl_turn.specs.Log.{kept_of, entries_by, IsAddedBy}
use Rattle.tl_turn.specs.Law.{Kept}
use Rattle.tl_turn.specs.Plays.{Knowledge, is_away, is_serving, drew, looked, log_out, extended, passed, IsWaiting, IsAtTurn, IsSeated}
use Rattle.tl_turn.specs.declared.view.View.{View}
use Rattle.tl_turn.specs.declared.view.Role.{Role}
use Rattle.tl_turn.specs.declared.view.Role.TheVariants.{Spent, Root, Away, Waiting, Serving}
use Rattle.tl_turn.proofs.Keeps.{extends, passes, closes}

pub away_of : (role : Role) → is_away role ≡ true → role ≡ Away
away_of Spent e = absurd (true≢false (sym e))
away_of Root e = absurd (true≢false (sym e))
away_of Away e = refl
away_of (Waiting t) e = absurd (true≢false (sym e))
away_of (Serving t) e = absurd (true≢false (sym e))

pub serving_of : (role : Role) → is_serving role ≡ true → (ticket : ℕ) × (role ≡ Serving ticket)
serving_of Spent e = absurd (true≢false (sym e))
serving_of Root e = absurd (true≢false (sym e))
serving_of Away e = absurd (true≢false (sym e))
serving_of (Waiting t) e = absurd (true≢false (sym e))
serving_of (Serving t) e = (t, refl)

module _ {S : Type 0} where
  -- a seat that holds no turn waits for nothing, and one that does has left the slot empty
  pub seated_away : (role : Role) (out : List (ℕ × Option S)) → IsSeated role out → is_serving role ≡ false → (role ≡ Away) × (out ≡ [])
  seated_away Spent out h e = absurd h
  seated_away Root out h e = absurd h
  seated_away Away out h e = (refl, h)
  seated_away (Waiting t) out h e = absurd h
  seated_away (Serving t) out h e = absurd (true≢false e)

  pub seated_serving : (role : Role) (out : List (ℕ × Option S)) → IsSeated role out → is_serving role ≡ true → out ≡ (0, None) ∷ []
  seated_serving Spent out h e = absurd h
  seated_serving Root out h e = absurd h
  seated_serving Away out h e = absurd (true≢false (sym e))
  seated_serving (Waiting t) out h e = absurd h
  seated_serving (Serving t) out h e = h

  abbrev first_out : List (ℕ × Option S) → Option S → Option S
  first_out [] d = d
  first_out (x ∷ xs) d = x.1

  -- what an exchange hands out is what the slot had
  pub taken_out : (out : List (ℕ × Option S)) (old found : Option S) → out ≡ (0, old) ∷ [] → out ≡ (0, found) ∷ rest out → found ≡ old
  taken_out out old found is was = sym (ap (λ l. first_out l old) was) ∙ ap (λ l. first_out l old) is

  pub has_out : (out : List (ℕ × Option S)) (old : Option S) → out ≡ (0, old) ∷ [] → out ≡ (0, old) ∷ rest out
  has_out out old is = is ∙ ap (λ (l : List (ℕ × Option S)). (0, old) ∷ rest l) (sym is)

module _ {S E : Type 0} (maker : E → ℕ) (log_of : S → List E) where
  pub waits_first : (v : View E) (found : ℕ) (m n : Knowledge S E) → m.0 ≡ v → m.1 ≡ [] → drew m found n → IsWaiting v found n
  waits_first v found m n is none (ticket, e, w) = (ticket, e ∙ (λ k. (record (is k) { role = Waiting ticket }, none k)), w)

  pub waits_on : (v : View E) (word found : ℕ) (m n : Knowledge S E) → IsWaiting v word m → looked maker log_of m found n → found ≢ word → IsWaiting v word n
  waits_on v word found m n (ticket, e, w) look apart =
      subst (λ (x : Knowledge S E). looked maker log_of x found n → IsWaiting v word n) (sym e) (λ look. (ticket, look.1 (λ same. apart (same ∙ sym w)), w)) look

  -- what the seat at its turn knows and has
  abbrev pub HasCome : View E → Knowledge S E → Type 0
  HasCome v n = (state : S) × (ticket : ℕ) × (n ≡ (record v { role = Serving ticket; seen = log_of state }, (0, Some state) ∷ [])) × IsSuffix v.seen (log_of state) × (entries_by maker v.number (log_of state) ≡ v.mine) × (length (log_of state) < 2 ^ 64)

  pub has_come : (v : View E) (word found : ℕ) (m n : Knowledge S E) → IsWaiting v word m → looked maker log_of m found n → found ≡ word → HasCome v n
  has_come v word found m n (ticket, e, w) look same =
      subst (λ (x : Knowledge S E). looked maker log_of x found n → HasCome v n) (sym e) (λ look. let come = look.0 (same ∙ w) in (come.0, ticket, come.1, come.2, come.3, come.4)) look

  -- the exchange hands out the state, and leaves the slot empty
  pub found_state : (v : View E) (m : Knowledge S E) (found : Option S) → (come : HasCome v m) → m.1 ≡ (0, found) ∷ rest m.1 → found ≡ Some come.0
  found_state v m found come was = taken_out m.1 (Some come.0) found (ap (λ (x : Knowledge S E). x.1) come.2) was

  pub has_taken : (v : View E) (m n : Knowledge S E) (found : Option S) (state : S) → HasCome v m → m.1 ≡ (0, found) ∷ rest m.1 → n ≡ (m.0, (0, None) ∷ rest m.1) → found ≡ Some state
      → IsAtTurn v (log_of state) n × IsSuffix v.seen (log_of state) × (entries_by maker v.number (log_of state) ≡ v.mine) × (length (log_of state) < 2 ^ 64)
  has_taken v m n found state come was now is =
      let e : Some come.0 ≡ Some state = sym (found_state v m found come was) ∙ is in
      let same : come.0 ≡ state = cc in
      subst (λ (x : S). IsAtTurn v (log_of x) n × IsSuffix v.seen (log_of x) × (entries_by maker v.number (log_of x) ≡ v.mine) × (length (log_of x) < 2 ^ 64)) same
      ((come.1, now ∙ ap (λ (x : Knowledge S E). (x.0, (0, None) ∷ rest x.1)) come.2), come.3, come.4, come.5)

  added_length : (number : ℕ) (seen log : List E) → IsAddedBy maker number seen log → length seen ≤ length log
  added_length number seen log (added, is, all) = let e = ap length is ∙ length-append added seen in omega arith

  pub extends_from : (n id : ℕ) (m : Knowledge S E) (v : View E) (t k known : ℕ) (state : S) → m ≡ (v, (0, Some state) ∷ []) → v.role ≡ Serving t → IsAddedBy maker v.number v.seen (log_of state)
      → length (log_of state) < 2 ^ 64 → known ≡ length v.seen → k ≡ length (log_of state) - known → Allows (Kept maker log_of) n id m 0 (λ x. (x + k) % 2 ^ 64) (extended maker log_of m)
  extends_from n id m v t k known state e role added short seen more =
      let le = added_length v.number v.seen (log_of state) added in
      subst (λ (x : Knowledge S E). Allows (Kept maker log_of) n id x 0 (λ y. (y + k) % 2 ^ 64) (extended maker log_of x)) (sym e) (extends maker log_of n id (v, (0, Some state) ∷ []) t k state role refl added short (omega arith))

  pub passes_from : (n id : ℕ) (m : Knowledge S E) (v : View E) (t : ℕ) (state : S) (mine : List E) → m ≡ (record v { seen = log_of state; mine = mine }, (0, Some state) ∷ []) → v.role ≡ Serving t
      → Allows (Kept maker log_of) n id m 2 (λ x. (x + 1) % 2 ^ 64) (passed m)
  passes_from n id m v t state mine e role =
      subst (λ (x : Knowledge S E). Allows (Kept maker log_of) n id x 2 (λ y. (y + 1) % 2 ^ 64) (passed x)) (sym e) (passes maker log_of n id (record v { seen = log_of state; mine = mine }, (0, Some state) ∷ []) t state role refl refl)

  -- the seat has put the state back in the slot
  pub back_in : (v : View E) (out : List (ℕ × Option S)) (learnt n : Knowledge S E) (state : S) → out ≡ (0, None) ∷ [] → learnt ≡ (v, out) → n ≡ (learnt.0, (0, Some state) ∷ rest learnt.1) → n ≡ (v, (0, Some state) ∷ [])
  back_in v out learnt n state is same now = now ∙ ap (λ (x : Knowledge S E). (x.0, (0, Some state) ∷ rest x.1)) same ∙ ap (λ (x : List (ℕ × Option S)). (v, (0, Some state) ∷ rest x)) is

  -- it has seen the state's log
  pub has_extended : (v : View E) (m n : Knowledge S E) (found : ℕ) (state : S) → m ≡ (v, (0, Some state) ∷ []) → extended maker log_of m found n
      → n ≡ (record v { seen = log_of state; mine = entries_by maker v.number (log_of state) }, (0, Some state) ∷ [])
  has_extended v m n found state e now = now ∙ ap (λ (x : Knowledge S E). (record x.0 { seen = log_out log_of x.1; mine = entries_by maker x.0.number (log_out log_of x.1) }, x.1)) e

  -- what the root knows of the state that comes back
  abbrev pub HasAll : View E → S → Type 0
  HasAll v state = (log_of state ≡ v.seen) × All (λ (seat : ℕ × List E). entries_by maker seat.0 (log_of state) ≡ seat.1) v.joined × ((number : ℕ) → entries_by maker number (log_of state) ≡ kept_of number v.joined) × ((number : ℕ) → v.made ≤ number → entries_by maker number (log_of state) ≡ []) × (length (log_of state) < 2 ^ 64)

  pub has_closed : (id : ℕ) (v : View E) (ws : List ℕ) (xs : List (Option S)) (found : Option S) → v.role ≡ Root → length v.joined ≡ v.made → Final (Seen (Kept maker log_of) id v) ws xs → get_elem? xs 0 ≡ some found
      → (state : S) × (found ≡ Some state) × HasAll v state
  has_closed id v ws xs found is whole final at =
      let closed = closes maker log_of id v ws xs is whole final in
      (closed.0, some-injective found (Some closed.0) (sym at ∙ closed.1), (closed.2, closed.3, closed.4, closed.5, closed.6))

  pub has_all : (v : View E) (found : Option S) (result : S) → (state : S) × (found ≡ Some state) × HasAll v state → found ≡ Some result → HasAll v result
  has_all v found result closed is =
      let e : Some closed.0 ≡ Some result = sym closed.1 ∙ is in
      let same : closed.0 ≡ result = cc in
      subst (HasAll v) same closed.2
