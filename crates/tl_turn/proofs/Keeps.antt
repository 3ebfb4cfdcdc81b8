-- Each step keeps the rule.
use Rattle.std.proofs.Common.{◌≡◌, ◌≢◌, ℕ, zero, suc, ◌+◌, ◌%◌, ◌^◌, ◌<◌, ◌≤◌, Bool, true, false, true≢false, cond, eqb, eq-eqb, ne_eqb, List, [], ◌∷◌, length, get_or, set, Option, Some, refl, sym, ap, ◌∙◌, subst, arith, length-set, inl, inr, lt_of_not-le}
use Rattle.std.proofs.Math.Nat.{add-mod, mod-mod, mod-eq_of_lt}
use Rattle.std.proofs.lemmas.List.Elements.{All-nil, All-cons, All-weaker}
use Rattle.std.specs.Prelude.{All}
use mathlib.Core.Option as maybe
use mathlib.Core.Option.{some, none, some-injective, some-ne-none}
use mathlib.Core.List.{IsSuffix}
use mathlib.Core.Logic.{dite}
use native.Mathlib.Decide.{ℕ_discrete, dec_le}
use lib.ListN.{get_elem?}
use Rattle.atomic_table.specs.Table.{State, Act, keeps, takes, gives, Valid, carried_after, stepped, put_back, Allows, Splits, Joins, opening, Final, Seen}
use Rattle.atomic_table.proofs.Lists.{set_again, set_here, set_else, at_longer, at_last, one_turn}
use Rattle.tl_turn.specs.Log.{longer, kept_of, entries_by, IsAddedBy}
use Rattle.tl_turn.specs.Law.{Scene, IsJoined, HasTicket, Waits, Serves, Owns, Roots, Fits, Home, tickets_of, seats_of, tickets_in, seats_in, StandsFor, IsThere, HasSeen, IsSeen, Kept}
use Rattle.tl_turn.specs.Plays.{Knowledge, new_root, spent, ticket_of, log_out, drew, looked, learned, extended, passed, told_own, told_both, with_seat_made, seat_made, with_seat_joined}
use Rattle.tl_turn.specs.declared.view.View.{View}
use Rattle.tl_turn.specs.declared.view.Role.{Role}
use Rattle.tl_turn.specs.declared.view.Role.TheVariants.{Spent, Root, Away, Waiting, Serving}
use Rattle.tl_turn.proofs.Logs.{suffix_refl, suffix_trans, ends_longer, longer_all, own_between, none_before, others_stay, added_suffix, kept_all, kept_none}
use Rattle.tl_turn.proofs.Rows.{set_same, at_below, each_set, each_end, some_set, total_set, total_end, total_below, total_apart, total_two}

mod_more : (a n : ℕ) → (a % n + 1) % n ≡ (a + 1) % n
mod_more a n = add-mod (a % n) 1 n ∙ ap (λ (x : ℕ). (x + 1 % n) % n) (mod-mod a n) ∙ sym (add-mod a 1 n)

else_if : (k n a b : ℕ) → k ≢ n → cond (eqb k n) a b ≡ b
else_if k n a b apart = ap (λ (t : Bool). cond t a b) (ne_eqb k n apart)

here_if : (n a b : ℕ) → cond (eqb n n) a b ≡ a
here_if n a b = ap (λ (t : Bool). cond t a b) (eq-eqb n n refl)

is_false : (b : Bool) → (b ≡ true → ⊥) → b ≡ false
is_false true never = absurd (never refl)
is_false false never = refl

not_away : Away ≡ Root → ⊥
not_away e = cc

not_waiting : (t : ℕ) → Waiting t ≡ Root → ⊥
not_waiting t e = cc

not_serving : (t : ℕ) → Serving t ≡ Root → ⊥
not_serving t e = cc

module _ {S E : Type 0} (maker : E → ℕ) (log_of : S → List E) where
  abbrev Shelf : Type 0
  Shelf = State (Option S) (View E)

  abbrev Rule : Shelf → Type 0
  Rule = Kept maker log_of

  -- each view fits what changed, where what each kind of view knows does
  map_fits : (c d : Scene E) (at : ℕ) → ((v : View E) → Roots maker c at v → Roots maker d at v) → ((v : View E) → Owns maker c at v → Owns maker d at v)
      → ((t : ℕ) → Waits c at t → Waits d at t) → ((t : ℕ) (seen : List E) → Serves c at t seen → Serves d at t seen)
      → (role : Role) (v : View E) → Fits maker c at role v → Fits maker d at role v
  map_fits c d at all own waits serves Spent v x = tt
  map_fits c d at all own waits serves Root v x = all v x
  map_fits c d at all own waits serves Away v x = own v x
  map_fits c d at all own waits serves (Waiting t) v x = (own v x.0, waits t x.1)
  map_fits c d at all own waits serves (Serving t) v x = (own v x.0, serves t v.seen x.1)

  -- a step that changes nothing
  unchanged : (s : Shelf) (i id : ℕ) (out : List (ℕ × Option S)) (v : View E) → get_elem? s.views id ≡ some v → Rule s → Rule (stepped s i (get_or s.words i 0) id out v keeps)
  unchanged s i id out v at r =
      let p = sym (set_same s.words i) in
      let q = sym (set_again s.views id v at) in
      subst Rule (λ k. record { words = p k; homes = s.homes; views = q k }) r

  -- who stands for a seat still does, where one view changes
  there_set : (number : ℕ) (views : List (View E)) (id : ℕ) (v w : View E) → get_elem? views id ≡ some v → (StandsFor number v.role v → StandsFor number w.role w) → IsThere number views → IsThere number (set views id w)
  there_set number views id v w at step = some_set (λ (u : View E). StandsFor number u.role u) views id v w at step

  -- who has seen the log still has
  seen_set : (log : List E) (views : List (View E)) (id : ℕ) (v w : View E) (role : Role) → get_elem? views id ≡ some v → v.role ≡ role → (HasSeen log role v → HasSeen log w.role w) → IsSeen log views → IsSeen log (set views id w)
  seen_set log views id v w role at is step = some_set (λ (u : View E). HasSeen log u.role u) views id v w at (λ f. step (subst (λ (x : Role). HasSeen log x v) is f))

  -- the number of a seat stays
  same_number : (number : ℕ) (v w : View E) (role : Role) → v.role ≡ role → (StandsFor number role v → StandsFor number w.role w) → StandsFor number v.role v → StandsFor number w.role w
  same_number number v w role is step f = step (subst (λ (x : Role). StandsFor number x v) is f)

  -- a view has no more tickets than it stands for seats
  at_most : (v : View E) → tickets_in v ≤ seats_in v
  at_most v = by_role v.role
    where
      by_role : (role : Role) → tickets_of role ≤ seats_of role (length v.joined)
      by_role Spent = omega arith
      by_role Root = omega arith
      by_role Away = omega arith
      by_role (Waiting t) = omega arith
      by_role (Serving t) = omega arith

  few_wait : (s : Shelf) (r : Rule s) → r.scene.drawn ≤ r.scene.served + 64
  few_wait s r =
      let below = total_below tickets_in seats_in s.views at_most in
      let a = r.queue in
      let b = r.seats in
      let c = r.few in
      omega arith

  pub draws : (n id : ℕ) (m : Knowledge S E) → m.0.role ≡ Away → Allows Rule n id m 1 (λ k. (k + 1) % 2 ^ 64) (drew m)
  draws n id m is s r long at small =
      let c = r.scene in
      let own : Owns maker c id m.0 = subst (λ (role : Role). Fits maker c id role m.0) is (r.each id m.0 at) in
      let w : View E = record m.0 { role = Waiting c.drawn } in
      let holder' : ℕ → ℕ = λ t. cond (eqb t c.drawn) id (c.holder t) in
      let d : Scene E = record c { drawn = c.drawn + 1; holder = holder' } in
      let later = λ (j t : ℕ) (x : HasTicket c.served c.drawn c.holder j t). let l = x.drawn_before in let y : HasTicket c.served (c.drawn + 1) holder' j t = record { unserved = x.unserved; drawn_before = omega arith; held = else_if t c.drawn id (c.holder t) (λ same. omega arith) ∙ x.held } in y in (
        w,
        keeps,
        tt,
        record {
          scene = d;
          words = ap (λ (ws : List ℕ). set ws 1 ((get_or ws 1 0 + 1) % 2 ^ 64)) r.words ∙ ap (λ (k : ℕ). length c.log ∷ k ∷ c.served % 2 ^ 64 ∷ []) (mod_more c.drawn (2 ^ 64));
          short = r.short;
          few = r.few;
          home = r.home;
          busy = λ e. let b = r.busy e in omega arith;
          unmade = r.unmade;
          stands = λ number below. there_set number s.views id m.0 w at (same_number number m.0 w Away is (λ f. f)) (r.stands number below);
          longest = seen_set c.log s.views id m.0 w Away at is (λ f. f) r.longest;
          queue = let a = total_set tickets_in s.views id m.0 w at in let b = ap tickets_of is in let q = r.queue in omega arith;
          seats = let a = total_set seats_in s.views id m.0 w at in let b = ap (λ (role : Role). seats_of role (length m.0.joined)) is in let q = r.seats in omega arith;
          each = each_set (λ j u. Fits maker d j u.role u) s.views id w
              (λ j u apart e. map_fits c d j (λ v x. x) (λ v x. x) (λ t x. (later j t x.0, x.1)) (λ t seen x. (later j t x.0, x.1, x.2, x.3)) u.role u (r.each j u e))
              (own, (record { unserved = let q = r.queue in omega arith; drawn_before = omega arith; held = here_if c.drawn id (c.holder c.drawn) }, λ same. is_false c.taken (λ e. let b = r.busy e in omega arith)));
        },
        (c.drawn, refl, ap (λ (ws : List ℕ). get_or ws 1 0) r.words),
      )

  pub looks : (n id : ℕ) (m : Knowledge S E) (t : ℕ) → m.0.role ≡ Waiting t → Allows Rule n id m 2 (λ k. k) (looked maker log_of m)
  looks n id m t is s r long at small = dite (ℕ_discrete (get_or s.words 2 0) (ticket_of m.0.role % 2 ^ 64)) hits (λ miss. (m.0, keeps, tt, unchanged s 2 id m.1 m.0 at r, ((λ hit. absurd (miss hit)), λ _. refl)))
    where
      hits : get_or s.words 2 0 ≡ ticket_of m.0.role % 2 ^ 64
          → (w : View E) × (a : Act (Option S)) × Valid s.homes m.1 a × Rule (stepped s 2 (get_or s.words 2 0) id m.1 w a) × looked maker log_of m (get_or s.words 2 0) (w, carried_after m.1 a)
      hits hit =
          let c = r.scene in
          let mine : Fits maker c id (Waiting t) m.0 = subst (λ (role : Role). Fits maker c id role m.0) is (r.each id m.0 at) in
          let own : Owns maker c id m.0 = mine.0 in
          let ticket : HasTicket c.served c.drawn c.holder id t = mine.1.0 in
          let u = ticket.unserved in
          let b = ticket.drawn_before in
          let f = few_wait s r in
          let same : c.served % 2 ^ 64 ≡ t % 2 ^ 64 = sym (ap (λ (ws : List ℕ). get_or ws 2 0) r.words) ∙ hit ∙ ap (λ (role : Role). ticket_of role % 2 ^ 64) is in
          let now : c.served ≡ t = one_turn c.served t (2 ^ 64) u (omega arith) same in
          let home : Home log_of false c.log s.homes = subst (λ (x : Bool). Home log_of x c.log s.homes) (mine.1.1 (sym now)) r.home in
          let state = home.0 in
          let tick : ticket_of m.0.role ≡ t = ap ticket_of is in
          let w : View E = record m.0 { role = Serving (ticket_of m.0.role); seen = log_of state } in
          let d : Scene E = record c { taken = true } in
          let suffix : IsSuffix m.0.seen (log_of state) = subst (λ (l : List E). IsSuffix m.0.seen l) (sym home.2) own.suffix in
          let mine_all : entries_by maker m.0.number (log_of state) ≡ m.0.mine = ap (entries_by maker m.0.number) home.2 ∙ own.own in
          let ended : IsSuffix (log_of state) c.log = subst (λ (l : List E). IsSuffix (log_of state) l) home.2 (suffix_refl (log_of state)) in (
            w,
            takes 0 (Some state),
            ap (λ (hs : List (maybe.Option (Option S))). get_elem? hs 0) home.1,
            record {
              scene = d;
              words = ap (λ (ws : List ℕ). set ws 2 (get_or ws 2 0)) r.words;
              short = r.short;
              few = r.few;
              home = ap (λ (hs : List (maybe.Option (Option S))). set hs 0 none) home.1;
              busy = λ _. omega arith;
              unmade = r.unmade;
              stands = λ number below. there_set number s.views id m.0 w at (same_number number m.0 w (Waiting t) is (λ f. f)) (r.stands number below);
              longest = seen_set c.log s.views id m.0 w (Waiting t) at is (λ _. home.2) r.longest;
              queue = let a = total_set tickets_in s.views id m.0 w at in let e = ap tickets_of is in let q = r.queue in omega arith;
              seats = let a = total_set seats_in s.views id m.0 w at in let e = ap (λ (role : Role). seats_of role (length m.0.joined)) is in let q = r.seats in omega arith;
              each = each_set (λ j u. Fits maker d j u.role u) s.views id w
                  (λ j u apart e. map_fits c d j (λ v x. x) (λ v x. x)
                  (λ k x. (x.0, λ served. absurd (apart (sym x.0.held ∙ ap c.holder (served ∙ now) ∙ ticket.held))))
                  (λ k seen x. absurd (apart (sym x.0.held ∙ ap c.holder (x.1 ∙ now) ∙ ticket.held)))
                  u.role u (r.each j u e)) (
                    record { apart = own.apart; numbered = own.numbered; placed = own.placed; suffix = ended; own = own.own; own_seen = mine_all },
                    (subst (HasTicket c.served c.drawn c.holder id) (sym tick) ticket, tick ∙ sym now, refl, home.2),
                  );
            },
            ((λ _. (state, refl, suffix, mine_all, subst (λ (l : List E). length l < 2 ^ 64) (sym home.2) r.short)), λ miss. absurd (miss hit)),
          )

  pub learns : (n id : ℕ) (m : Knowledge S E) (t : ℕ) → m.0.role ≡ Serving t → Allows Rule n id m 0 (λ k. k) (learned m)
  learns n id m t is s r long at small =
      let c = r.scene in
      let mine : Fits maker c id (Serving t) m.0 = subst (λ (role : Role). Fits maker c id role m.0) is (r.each id m.0 at) in
      (m.0, keeps, tt, unchanged s 0 id m.1 m.0 at r, (refl, ap (λ (ws : List ℕ). get_or ws 0 0) r.words ∙ ap length (sym mine.1.3)))

  pub passes : (n id : ℕ) (m : Knowledge S E) (t : ℕ) (state : S) → m.0.role ≡ Serving t → m.1 ≡ (0, Some state) ∷ [] → m.0.seen ≡ log_of state
      → Allows Rule n id m 2 (λ k. (k + 1) % 2 ^ 64) (passed m)
  passes n id m t state is out all s r long at small =
      let c = r.scene in
      let mine : Fits maker c id (Serving t) m.0 = subst (λ (role : Role). Fits maker c id role m.0) is (r.each id m.0 at) in
      let own : Owns maker c id m.0 = mine.0 in
      let ticket : HasTicket c.served c.drawn c.holder id t = mine.1.0 in
      let b = ticket.drawn_before in
      let now : t ≡ c.served = mine.1.1 in
      let away : s.homes ≡ none ∷ [] = subst (λ (x : Bool). Home log_of x c.log s.homes) mine.1.2 r.home in
      let w : View E = record m.0 { role = Away } in
      let d : Scene E = record c { served = c.served + 1; taken = false } in (
        w,
        gives,
        tt,
        record {
          scene = d;
          words = ap (λ (ws : List ℕ). set ws 2 ((get_or ws 2 0 + 1) % 2 ^ 64)) r.words ∙ ap (λ (k : ℕ). length c.log ∷ c.drawn % 2 ^ 64 ∷ k ∷ []) (mod_more c.served (2 ^ 64));
          short = r.short;
          few = r.few;
          home = (state, ap (put_back s.homes) out ∙ ap (λ (hs : List (maybe.Option (Option S))). set hs 0 (some (Some state))) away, sym all ∙ mine.1.3);
          busy = λ e. absurd (true≢false (sym e));
          unmade = r.unmade;
          stands = λ number below. there_set number s.views id m.0 w at (same_number number m.0 w (Serving t) is (λ f. f)) (r.stands number below);
          longest = seen_set c.log s.views id m.0 w (Serving t) at is (λ f. f) r.longest;
          queue = let a = total_set tickets_in s.views id m.0 w at in let e = ap tickets_of is in let q = r.queue in omega arith;
          seats = let a = total_set seats_in s.views id m.0 w at in let e = ap (λ (role : Role). seats_of role (length m.0.joined)) is in let q = r.seats in omega arith;
          each = each_set (λ j u. Fits maker d j u.role u) s.views id w
              (λ j u apart e. map_fits c d j (λ v x. x) (λ v x. x)
              (λ k x. let later : k ≢ c.served = λ same. apart (sym x.0.held ∙ ap c.holder (same ∙ sym now) ∙ ticket.held) in let l = x.0.unserved in
              (record { unserved = omega arith; drawn_before = x.0.drawn_before; held = x.0.held }, λ _. refl))
              (λ k seen x. absurd (apart (sym x.0.held ∙ ap c.holder (x.1 ∙ sym now) ∙ ticket.held)))
              u.role u (r.each j u e))
              own;
        },
        refl,
      )

  pub extends : (n id : ℕ) (m : Knowledge S E) (t k : ℕ) (state : S) → m.0.role ≡ Serving t → m.1 ≡ (0, Some state) ∷ [] → IsAddedBy maker m.0.number m.0.seen (log_of state)
      → length (log_of state) < 2 ^ 64 → length m.0.seen + k ≡ length (log_of state) → Allows Rule n id m 0 (λ x. (x + k) % 2 ^ 64) (extended maker log_of m)
  extends n id m t k state is out added short more s r long at small =
      let c = r.scene in
      let mine : Fits maker c id (Serving t) m.0 = subst (λ (role : Role). Fits maker c id role m.0) is (r.each id m.0 at) in
      let own : Owns maker c id m.0 = mine.0 in
      let ticket : HasTicket c.served c.drawn c.holder id t = mine.1.0 in
      let log : List E = log_out log_of m.1 in
      let same : log ≡ log_of state = ap (log_out log_of) out in
      let grown : IsAddedBy maker m.0.number c.log log = subst (λ (l : List E). IsAddedBy maker m.0.number l log) mine.1.3 (subst (IsAddedBy maker m.0.number m.0.seen) (sym same) added) in
      let suffix : IsSuffix c.log log = added_suffix maker m.0.number c.log log grown in
      let stays = λ (other : ℕ) (apart : other ≢ m.0.number). others_stay maker m.0.number other c.log log apart grown in
      let fits : length log < 2 ^ 64 = subst (λ (l : List E). length l < 2 ^ 64) (sym same) short in
      let sum : length c.log + k ≡ length log = ap (λ (l : List E). length l + k) (sym mine.1.3) ∙ more ∙ sym (ap length same) in
      let word : (length c.log + k) % 2 ^ 64 ≡ length log = ap (λ (x : ℕ). x % 2 ^ 64) sum ∙ mod-eq_of_lt fits in
      let w : View E = record m.0 { seen = log; mine = entries_by maker m.0.number log } in
      let d : Scene E = record c { log = log } in (
        w,
        keeps,
        tt,
        record {
          scene = d;
          words = ap (λ (ws : List ℕ). set ws 0 ((get_or ws 0 0 + k) % 2 ^ 64)) r.words ∙ ap (λ (x : ℕ). x ∷ c.drawn % 2 ^ 64 ∷ c.served % 2 ^ 64 ∷ []) word;
          short = fits;
          few = r.few;
          home = subst (λ (x : Bool). Home log_of x log s.homes) (sym mine.1.2) (subst (λ (x : Bool). Home log_of x c.log s.homes) mine.1.2 r.home);
          busy = r.busy;
          unmade = λ other above. let b = own.numbered in stays other (λ e. omega arith) ∙ r.unmade other above;
          stands = λ number below. there_set number s.views id m.0 w at (same_number number m.0 w (Serving t) is (λ f. subst (λ (role : Role). StandsFor number role w) (sym is) f)) (r.stands number below);
          longest = (id, w, set_here s.views id w (at_below s.views id m.0 at), subst (λ (role : Role). HasSeen log role w) (sym is) refl);
          queue = let a = total_set tickets_in s.views id m.0 w at in let q = r.queue in omega arith;
          seats = let a = total_set seats_in s.views id m.0 w at in let q = r.seats in omega arith;
          each = each_set (λ j u. Fits maker d j u.role u) s.views id w
              (λ j u apart e. map_fits c d j
              (λ v x. record {
                first = x.first;
                counted = x.counted;
                suffix = suffix_trans v.seen c.log log x.suffix suffix;
                ours = x.ours;
                theirs = x.theirs;
                joined = All-weaker (IsJoined maker c.log c.made c.place v.seen) (IsJoined maker log c.made c.place v.seen)
                    (λ y z. record { numbered = z.numbered; placed = z.placed; own = stays y.0 (λ e. let a = own.apart in let b = sym (sym z.placed ∙ ap c.place e ∙ own.placed) in omega arith) ∙ z.own; own_seen = z.own_seen }) v.joined x.joined;
              })
              (λ v x. record { apart = x.apart; numbered = x.numbered; placed = x.placed; suffix = suffix_trans v.seen c.log log x.suffix suffix; own = stays v.number (λ e. apart (sym x.placed ∙ ap c.place e ∙ own.placed)) ∙ x.own; own_seen = x.own_seen })
              (λ i x. x)
              (λ i seen x. absurd (apart (sym x.0.held ∙ ap c.holder (x.1 ∙ sym mine.1.1) ∙ ticket.held)))
              u.role u (r.each j u e))
              (subst (λ (role : Role). Fits maker d id role w) (sym is)
              (record { apart = own.apart; numbered = own.numbered; placed = own.placed; suffix = suffix_refl log; own = refl; own_seen = refl }, (ticket, mine.1.1, mine.1.2, refl)));
        },
        refl,
      )

  -- a seat that waits for nothing has seen all that it made
  pub tells_own : (n id : ℕ) (m : Knowledge S E) → m.0.role ≡ Away → Allows Rule n id m 0 (λ k. k) (told_own maker m)
  tells_own n id m is s r long at small =
      let own : Owns maker r.scene id m.0 = subst (λ (role : Role). Fits maker r.scene id role m.0) is (r.each id m.0 at) in
      (m.0, keeps, tt, unchanged s 0 id m.1 m.0 at r, (refl, own.own_seen))

  pub tells_both : (n id : ℕ) (m : Knowledge S E) → m.0.role ≡ Root → Allows Rule n id m 0 (λ k. k) (told_both m)
  tells_both n id m is s r long at small =
      let all : Roots maker r.scene id m.0 = subst (λ (role : Role). Fits maker r.scene id role m.0) is (r.each id m.0 at) in
      (m.0, keeps, tt, unchanged s 0 id m.1 m.0 at r, (refl, all.ours, all.theirs))

  pub splits : (id : ℕ) (v : View E) → v.role ≡ Root → v.made < 64 → Splits Rule id v (with_seat_made v) (seat_made v)
  splits id v is room s r at =
      let c = r.scene in
      let all : Roots maker c id v = subst (λ (role : Role). Fits maker c id role v) is (r.each id v at) in
      let made : v.made ≡ c.made = all.counted in
      let vs : List (View E) = set s.views id (with_seat_made v) in
      let fresh : ℕ = length vs in
      let below = at_below s.views id v at in
      let long = length-set s.views id (with_seat_made v) in
      let place' : ℕ → ℕ = λ k. cond (eqb k c.made) fresh (c.place k) in
      let d : Scene E = record c { made = c.made + 1; place = place' } in
      let own_none : entries_by maker v.made c.log ≡ [] = ap (λ (k : ℕ). entries_by maker k c.log) made ∙ r.unmade c.made (omega arith) in
      record {
        scene = d;
        words = r.words;
        short = r.short;
        few = omega arith;
        home = r.home;
        busy = r.busy;
        unmade = λ other above. r.unmade other (omega arith);
        stands = λ number under. dite (ℕ_discrete number c.made)
            (λ same. (fresh, seat_made v, at_last vs (seat_made v) fresh refl, made ∙ sym same))
            (λ apart. let old = there_set number s.views id v (with_seat_made v) at (same_number number v (with_seat_made v) Root is (λ f. subst (λ (role : Role). StandsFor number role (with_seat_made v)) (sym is) f)) (r.stands number (omega arith)) in
            (old.0, old.1, at_longer vs (seat_made v ∷ []) old.0 old.1 old.2, old.3));
        longest = let old = seen_set c.log s.views id v (with_seat_made v) Root at is (λ f. subst (λ (role : Role). HasSeen c.log role (with_seat_made v)) (sym is) f) r.longest in
            (old.0, old.1, at_longer vs (seat_made v ∷ []) old.0 old.1 old.2, old.3);
        queue = let a = total_set tickets_in s.views id v (with_seat_made v) at in let b = total_end tickets_in vs (seat_made v) in let q = r.queue in omega arith;
        seats = let a = total_set seats_in s.views id v (with_seat_made v) at in let b = total_end seats_in vs (seat_made v) in let q = r.seats in omega arith;
        each = each_end (λ j u. Fits maker d j u.role u) vs (seat_made v)
            (each_set (λ j u. Fits maker d j u.role u) s.views id (with_seat_made v)
            (λ j u apart e. map_fits c d j
            (λ x y. absurd (apart (y.first ∙ sym all.first)))
            (λ x y. let b = y.numbered in record { apart = y.apart; numbered = omega arith; placed = else_if x.number c.made fresh (c.place x.number) (λ same. omega arith) ∙ y.placed; suffix = y.suffix; own = y.own; own_seen = y.own_seen })
            (λ t x. x)
            (λ t seen x. x)
            u.role u (r.each j u e))
            (subst (λ (role : Role). Fits maker d id role (with_seat_made v)) (sym is)
            (record {
              first = all.first;
              counted = omega arith;
              suffix = all.suffix;
              ours = all.ours;
              theirs = all.theirs;
              joined = All-weaker (IsJoined maker c.log c.made c.place v.seen) (IsJoined maker c.log (c.made + 1) place' v.seen)
                  (λ y z. let b = z.numbered in record { numbered = omega arith; placed = else_if y.0 c.made fresh (c.place y.0) (λ same. omega arith) ∙ z.placed; own = z.own; own_seen = z.own_seen }) v.joined all.joined;
            })))
            (record { apart = omega arith; numbered = omega arith; placed = ap place' made ∙ here_if c.made fresh (c.place c.made); suffix = all.suffix; own = own_none; own_seen = none_before maker v.made v.seen c.log all.suffix own_none });
      }

  pub joins : (id : ℕ) (v : View E) (other : ℕ) (w : View E) → v.role ≡ Root → w.role ≡ Away → Joins Rule id v other w (with_seat_joined v w) spent
  joins id v other w is away s r at apart there =
      let c = r.scene in
      let all : Roots maker c id v = subst (λ (role : Role). Fits maker c id role v) is (r.each id v at) in
      let both : View E = with_seat_joined v w in
      let vs : List (View E) = set s.views id both in
      let at' : get_elem? s.views other ≡ some w = sym (set_else s.views id other both apart) ∙ there in
      let own : Owns maker c other w = subst (λ (role : Role). Fits maker c other role w) away (r.each other w at') in
      let place' : ℕ → ℕ = λ k. cond (eqb k w.number) 0 (c.place k) in
      let d : Scene E = record c { place = place' } in
      let ends = ends_longer v.seen w.seen c.log all.suffix own.suffix in
      let seen : List E = longer v.seen w.seen in
      let grown : (a : List E) (number : ℕ) (mine : List E) → IsSuffix a seen → entries_by maker number c.log ≡ mine → entries_by maker number a ≡ mine → entries_by maker number seen ≡ mine =
      λ a number mine h e f. own_between maker number a seen c.log h ends.2 (f ∙ sym e) ∙ e in
      record {
        scene = d;
        words = r.words;
        short = r.short;
        few = r.few;
        home = r.home;
        busy = r.busy;
        unmade = r.unmade;
        stands = λ number under.
            let old = there_set number s.views id v both at (same_number number v both Root is (λ f. subst (λ (role : Role). StandsFor number role both) (sym is) (inr f))) (r.stands number under) in
            let here : get_elem? (set vs other spent) id ≡ some both = set_else vs other id spent (λ e. apart (sym e)) ∙ set_here s.views id both (at_below s.views id v at) in
            dite (ℕ_discrete old.0 other)
            (λ same.
            let was : old.1 ≡ w = some-injective old.1 w (sym old.2 ∙ ap (λ (k : ℕ). get_elem? vs k) same ∙ there) in
            let of_w : StandsFor number w.role w = subst (λ (x : View E). StandsFor number x.role x) was old.3 in
            let its : w.number ≡ number = subst (λ (role : Role). StandsFor number role w) away of_w in
            (id, both, here, subst (λ (role : Role). StandsFor number role both) (sym is) (inl its)))
            (λ far. (old.0, old.1, set_else vs other old.0 spent far ∙ old.2, old.3));
        longest =
            let old = seen_set c.log s.views id v both Root at is (λ f. subst (λ (role : Role). HasSeen c.log role both) (sym is) (longer_all v.seen w.seen c.log all.suffix own.suffix (inl f))) r.longest in
            let here : get_elem? (set vs other spent) id ≡ some both = set_else vs other id spent (λ e. apart (sym e)) ∙ set_here s.views id both (at_below s.views id v at) in
            dite (ℕ_discrete old.0 other)
            (λ same.
            let was : old.1 ≡ w = some-injective old.1 w (sym old.2 ∙ ap (λ (k : ℕ). get_elem? vs k) same ∙ there) in
            let of_w : HasSeen c.log w.role w = subst (λ (x : View E). HasSeen c.log x.role x) was old.3 in
            let its : w.seen ≡ c.log = subst (λ (role : Role). HasSeen c.log role w) away of_w in
            (id, both, here, subst (λ (role : Role). HasSeen c.log role both) (sym is) (longer_all v.seen w.seen c.log all.suffix own.suffix (inr its))))
            (λ far. (old.0, old.1, set_else vs other old.0 spent far ∙ old.2, old.3));
        queue = let a = total_set tickets_in s.views id v both at in let b = total_set tickets_in vs other w spent there in let e = ap tickets_of away in let q = r.queue in omega arith;
        seats = let a = total_set seats_in s.views id v both at in let b = total_set seats_in vs other w spent there in
            let e = ap (λ (role : Role). seats_of role (length w.joined)) away in let f = ap (λ (role : Role). seats_of role (length v.joined)) is in
            let g = ap (λ (role : Role). seats_of role (length both.joined)) is in let q = r.seats in omega arith;
        each = each_set (λ j u. Fits maker d j u.role u) vs other spent
            (λ j u far e. each_set (λ i x. i ≢ other → Fits maker d i x.role x) s.views id both
            (λ i x near e' far'. map_fits c d i
            (λ y z. absurd (near (z.first ∙ sym all.first)))
            (λ y z. record { apart = z.apart; numbered = z.numbered; placed = else_if y.number w.number 0 (c.place y.number) (λ same. far' (sym z.placed ∙ ap c.place same ∙ own.placed)) ∙ z.placed; suffix = z.suffix; own = z.own; own_seen = z.own_seen })
            (λ t y. y)
            (λ t l y. y)
            x.role x (r.each i x e'))
            (λ _. subst (λ (role : Role). Fits maker d id role both) (sym is)
            (record {
              first = all.first;
              counted = all.counted;
              suffix = ends.2;
              ours = ends.0;
              theirs = ends.1;
              joined = All-cons (IsJoined maker c.log c.made place' seen) (w.number, w.mine) v.joined
                  (record { numbered = own.numbered; placed = here_if w.number 0 (c.place w.number); own = own.own; own_seen = grown w.seen w.number w.mine ends.1 own.own own.own_seen })
                  (All-weaker (IsJoined maker c.log c.made c.place v.seen) (IsJoined maker c.log c.made place' seen)
                  (λ y z. record { numbered = z.numbered; placed = ap (cond (eqb y.0 w.number) 0) z.placed ∙ zeros (eqb y.0 w.number); own = z.own; own_seen = grown v.seen y.0 y.1 ends.0 z.own z.own_seen }) v.joined all.joined);
            }))
            j u e far)
            tt;
      }
    where
      zeros : (t : Bool) → ◌≡◌ {A = ℕ} (cond t 0 0) 0
      zeros true = refl
      zeros false = refl

  pub opens : (state : S) → log_of state ≡ [] → Rule (opening (0 ∷ 0 ∷ 0 ∷ []) (Some state ∷ []) new_root)
  opens state empty =
      let c : Scene E = record { log = []; served = 0; drawn = 0; made = 0; holder = λ _. 0; place = λ _. 0; taken = false } in record {
        scene = c;
        words = refl;
        short = omega arith;
        few = omega arith;
        home = (state, refl, empty);
        busy = λ e. absurd (true≢false (sym e));
        unmade = λ other above. refl;
        stands = λ number below. absurd (omega arith);
        longest = (0, new_root, refl, refl);
        queue = refl;
        seats = refl;
        each = one;
      }
    where
      one : (at : ℕ) (v : View E) → get_elem? (new_root ∷ []) at ≡ some v
          → Fits maker (record { log = []; served = 0; drawn = 0; made = 0; holder = λ _. 0; place = λ _. 0; taken = false }) at v.role v
      one zero v e = subst (λ (u : View E). Fits maker (record { log = []; served = 0; drawn = 0; made = 0; holder = λ _. 0; place = λ _. 0; taken = false }) 0 u.role u) (some-injective new_root v e)
          (record { first = refl; counted = refl; suffix = suffix_refl []; ours = suffix_refl []; theirs = suffix_refl []; joined = All-nil (IsJoined maker [] 0 (λ _. 0) []) })
      one (suc at) v e = absurd (some-ne-none v (sym e))

  -- where no seat is left, what some view knows or has is the root's
  root_alone : (Q : Role → View E → Type 0) → ((u : View E) → Q Spent u → ⊥) → (views : List (View E)) (id : ℕ) (v : View E) → v.role ≡ Root → get_elem? views id ≡ some v
      → ((j : ℕ) (u : View E) → get_elem? views j ≡ some u → u.role ≡ Root → j ≡ id) → ((j : ℕ) (u : View E) → get_elem? views j ≡ some u → seats_in u ≡ 1 → j ≢ id → ⊥)
      → (j : ℕ) × (u : View E) × (get_elem? views j ≡ some u) × Q u.role u → Q Root v
  root_alone Q never views id v is at rooted only (j, u, there, f) = by_role u.role refl f
    where
      same_view : j ≡ id → u ≡ v
      same_view same = some-injective u v (sym there ∙ ap (λ (k : ℕ). get_elem? views k) same ∙ at)

      is_root : j ≡ id → u.role ≡ Root
      is_root same = ap (λ (x : View E). x.role) (same_view same) ∙ is

      by_role : (role : Role) → u.role ≡ role → Q role u → Q Root v
      by_role Spent e f = absurd (never u f)
      by_role Root e f = subst (Q Root) (same_view (rooted j u there e)) f
      by_role Away e f = absurd (only j u there (ap (λ (role : Role). seats_of role (length u.joined)) e) (λ same. not_away (sym e ∙ is_root same)))
      by_role (Waiting t) e f = absurd (only j u there (ap (λ (role : Role). seats_of role (length u.joined)) e) (λ same. not_waiting t (sym e ∙ is_root same)))
      by_role (Serving t) e f = absurd (only j u there (ap (λ (role : Role). seats_of role (length u.joined)) e) (λ same. not_serving t (sym e ∙ is_root same)))

  pub closes : (id : ℕ) (v : View E) (ws : List ℕ) (xs : List (Option S)) → v.role ≡ Root → length v.joined ≡ v.made → Final (Seen Rule id v) ws xs
      → (state : S) × (get_elem? xs 0 ≡ some (Some state)) × (log_of state ≡ v.seen) × All (λ (seat : ℕ × List E). entries_by maker seat.0 (log_of state) ≡ seat.1) v.joined
      × ((number : ℕ) → entries_by maker number (log_of state) ≡ kept_of number v.joined) × ((number : ℕ) → v.made ≤ number → entries_by maker number (log_of state) ≡ []) × (length (log_of state) < 2 ^ 64)
  closes id v ws xs is whole (s, seen, words, homes, values) =
      let r : Rule s = seen.0 in
      let c = r.scene in
      let all : Roots maker c id v = subst (λ (role : Role). Fits maker c id role v) is (r.each id v seen.1) in
      let apart = total_apart tickets_in seats_in s.views id v at_most seen.1 in
      let a = ap tickets_of is in
      let b = ap (λ (role : Role). seats_of role (length v.joined)) is in
      let counted = all.counted in
      let queue = r.queue in
      let seats = r.seats in
      let none : c.drawn ≡ c.served = omega arith in
      let free : c.taken ≡ false = is_false c.taken (λ e. let x = r.busy e in omega arith) in
      let home : Home log_of false c.log s.homes = subst (λ (x : Bool). Home log_of x c.log s.homes) free r.home in
      let state = home.0 in
      let log = log_of state in
      let only : (j : ℕ) (u : View E) → get_elem? s.views j ≡ some u → seats_in u ≡ 1 → j ≢ id → ⊥ = λ j u at one far. let two = total_two seats_in s.views j id u v far at seen.1 in omega arith in
      let rooted : (j : ℕ) (u : View E) → get_elem? s.views j ≡ some u → u.role ≡ Root → j ≡ id = λ j u at root. let its : Roots maker c j u = subst (λ (role : Role). Fits maker c j role u) root (r.each j u at) in its.first ∙ sym all.first in
      let joined = All-weaker (IsJoined maker c.log c.made c.place v.seen) (λ (seat : ℕ × List E). entries_by maker seat.0 log ≡ seat.1) (λ y z. ap (entries_by maker y.0) home.2 ∙ z.own) v.joined all.joined in
      let numbered = All-weaker (IsJoined maker c.log c.made c.place v.seen) (λ (seat : ℕ × List E). seat.0 < c.made) (λ y z. z.numbered) v.joined all.joined in
      let others = λ (number : ℕ) (above : c.made ≤ number). ap (entries_by maker number) home.2 ∙ r.unmade number above in (
        state,
        values 0 (Some state) (ap (λ (hs : List (maybe.Option (Option S))). get_elem? hs 0) home.1),
        home.2 ∙ sym (root_alone (HasSeen c.log) (λ u f. f) s.views id v is seen.1 rooted only r.longest),
        joined,
        λ number. dite (dec_le c.made number)
            (λ above. others number above ∙ sym (kept_none maker number c.made v.joined numbered above))
            (λ below. kept_all maker number log v.joined joined (root_alone (StandsFor number) (λ u f. f) s.views id v is seen.1 rooted only (r.stands number (lt_of_not-le below)))),
        λ number above. others number (omega arith),
        subst (λ (l : List E). length l < 2 ^ 64) (sym home.2) r.short,
      )
