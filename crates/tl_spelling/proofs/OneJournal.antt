-- No text is two journals.
use Rattle.std.proofs.Common.{◌≡◌, ℕ, ◌<◌, ◌≤◌, ◌^◌, Bool, true, false, not, ◌==◌, List, [], ◌∷◌, ◌++◌, codes, decimal, drop, length, map, refl, sym, ◌∙◌, ap, subst, arith, append_assoc, append-nil}
use Rattle.std.specs.List.{AllByRecursion}
use Rattle.std.proofs.lemmas.Bool.{and_parts}
use Rattle.std.proofs.lemmas.List.{append_cancel_left}
use Rattle.tl_text.specs.Number.{BeginsWithNoDigit}
use Rattle.tl_text.proofs.Numbers.{none_without_digit}
use Rattle.tl_model.specs.declared.event.Event.{Event}
use Rattle.tl_model.specs.declared.header.Header.{Header}
use Rattle.tl_model.specs.declared.header.OrderRule.{OrderRule}
use Rattle.tl_model.specs.declared.header.OrderRule.TheVariants.{Strict, Shares}
use Rattle.tl_model.specs.declared.header.Version.{Version}
use Rattle.tl_model.specs.declared.header.Version.TheVariants.{One, Two}
use Rattle.tl_report.specs.Words as words
use Rattle.tl_script.specs.Script.{IsHeader, order_text}
use Rattle.tl_script.proofs.Headers.{behind, behind_capacity, behind_workers, behind_version, no_digit_capacity, no_digit_workers, no_digit_order, one_order}
use Rattle.tl_spelling.specs.Events.{act_words, event_text}
use Rattle.tl_spelling.specs.Journals.{end_text, event_lines, header_text, line_of, spelled_journal, version_word}
use Rattle.tl_spelling.specs.Shown.{IsEvent, IsJournal, shown}
use Rattle.tl_spelling.proofs.NoFeeds.{is_flat, flat_both, flat_decimal}
use Rattle.tl_spelling.proofs.FlatEvents.{flat_event, event_words}
use Rattle.tl_spelling.proofs.OneEvent.{one_event}

-- ---- the header

pub header_parts : (h : Header) → header_text h ≡ codes "journal " ++ (version_word h.version ++ behind_version h)
header_parts h =
    let order : List ℕ = order_text h.version h.order in
    let hot : List ℕ = codes " hot " ++ decimal h.hot in
    let capacity : List ℕ = codes " capacity " ++ (decimal h.capacity ++ hot) in
    let workers : List ℕ = codes " workers " ++ (decimal h.workers ++ capacity) in
    ap (λ (text : List ℕ). codes "journal " ++ text)
    (append_assoc (version_word h.version) workers order
    ∙ ap (λ (text : List ℕ). version_word h.version ++ (codes " workers " ++ text))
    (append_assoc (decimal h.workers) capacity order
    ∙ ap (λ (text : List ℕ). decimal h.workers ++ (codes " capacity " ++ text)) (append_assoc (decimal h.capacity) hot order)))

versions_differ : (x y : List ℕ) → codes "1" ++ x ≡ codes "2" ++ y → ⊥
versions_differ x y e = let heads : ◌≡◌ {A = ℕ} 49 50 = cc in omega (arith, heads)

pub one_version : (v u : Version) (x y : List ℕ) → version_word v ++ x ≡ version_word u ++ y → (v ≡ u) × (x ≡ y)
one_version One One x y e = (refl, append_cancel_left (codes "1") x y e)
one_version Two Two x y e = (refl, append_cancel_left (codes "2") x y e)
one_version One Two x y e = absurd (versions_differ x y e)
one_version Two One x y e = absurd (versions_differ y x (sym e))

same_header : (h k : Header) → IsHeader h → IsHeader k → header_text h ≡ header_text k → h ≡ k
same_header h k a b e =
    let front = append_cancel_left (codes "journal ") (version_word h.version ++ behind_version h) (version_word k.version ++ behind_version k) (sym (header_parts h) ∙ e ∙ header_parts k) in
    let v = one_version h.version k.version (behind_version h) (behind_version k) front in
    let w = behind (behind_version h) (codes " workers ") h.workers k.workers (behind_workers h) (behind_workers k) refl v.1 (omega (arith, a.workers)) (omega (arith, b.workers)) (no_digit_workers h) (no_digit_workers k) in
    let c = behind (behind_workers h) (codes " capacity ") h.capacity k.capacity (behind_capacity h) (behind_capacity k) refl w.1 (omega (arith, a.capacity)) (omega (arith, b.capacity)) (no_digit_capacity h) (no_digit_capacity k) in
    let t = behind (behind_capacity h) (codes " hot ") h.hot k.hot (order_text h.version h.order) (order_text k.version k.order) refl c.1 (omega (arith, a.hot)) (omega (arith, b.hot)) (no_digit_order h.version h.order) (no_digit_order k.version k.order) in
    let o = one_order h.version h.order k.order (t.1 ∙ ap (λ (v : Version). order_text v k.order) (sym v.0)) in
    λ j. record { workers = w.0 j; capacity = c.0 j; hot = t.0 j; order = o j; version = v.0 j }

flat_version : (v : Version) → is_flat (version_word v) ≡ true
flat_version One = refl
flat_version Two = refl

flat_order : (v : Version) (o : OrderRule) → is_flat (order_text v o) ≡ true
flat_order One Strict = refl
flat_order One Shares = refl
flat_order Two Strict = refl
flat_order Two Shares = refl

flat_header : (h : Header) → IsHeader h → is_flat (header_text h) ≡ true
flat_header h a =
    ap is_flat (header_parts h)
    ∙ (flat_both (version_word h.version) (behind_version h) (flat_version h.version)
    (flat_both (decimal h.workers) (behind_workers h) (flat_decimal h.workers (omega (arith, a.workers)))
    (flat_both (decimal h.capacity) (behind_capacity h) (flat_decimal h.capacity (omega (arith, a.capacity)))
    (flat_both (decimal h.hot) (order_text h.version h.order) (flat_decimal h.hot (omega (arith, a.hot))) (flat_order h.version h.order)))))

-- ---- lines

feed_is_flat : (b : ℕ) → not (b == 10) ≡ true → b ≡ 10 → ⊥
feed_is_flat b h e = let no : ◌≡◌ {A = Bool} false true = ap (λ (c : ℕ). not (c == 10)) (sym e) ∙ h in cc

-- a text is cut at its first line feed in one way only
cut_line : (a b x y : List ℕ) → is_flat a ≡ true → is_flat b ≡ true → a ++ 10 ∷ x ≡ b ++ 10 ∷ y → (a ≡ b) × (x ≡ y)
cut_line [] [] x y h k e = (refl, cc)
cut_line [] (c ∷ b) x y h k e = let head : c ≡ 10 = cc in absurd (feed_is_flat c (and_parts (not (c == 10)) (is_flat b) k).0 head)
cut_line (c ∷ a) [] x y h k e = let head : c ≡ 10 = cc in absurd (feed_is_flat c (and_parts (not (c == 10)) (is_flat a) h).0 head)
cut_line (c ∷ a) (d ∷ b) x y h k e =
    let heads : c ≡ d = cc in
    let tails : a ++ 10 ∷ x ≡ b ++ 10 ∷ y = cc in
    let rest = cut_line a b x y (and_parts (not (c == 10)) (is_flat a) h).1 (and_parts (not (d == 10)) (is_flat b) k).1 tails in
    (λ j. heads j ∷ rest.0 j, rest.1)

one_line : (a b x y : List ℕ) → is_flat a ≡ true → is_flat b ≡ true → line_of a ++ x ≡ line_of b ++ y → (a ≡ b) × (x ≡ y)
one_line a b x y h k e = cut_line a b x y h k (sym (append_assoc a (codes "\n") x) ∙ e ∙ append_assoc b (codes "\n") y)

no_line : (a x : List ℕ) → line_of a ++ x ≡ [] → ⊥
no_line [] x e = cc
no_line (c ∷ a) x e = cc

flat_end : (n : ℕ) → n < 2 ^ 64 → is_flat (words.spaced (codes "end" ∷ decimal n ∷ [])) ≡ true
flat_end n small = flat_decimal n small

no_digit_at_end : (rest : List ℕ) → BeginsWithNoDigit (codes "end" ++ rest)
no_digit_at_end rest = λ d. omega (arith, d.0, d.1)

no_digit_at_space : (rest : List ℕ) → BeginsWithNoDigit (0x20 ∷ rest)
no_digit_at_space rest = λ d. omega (arith, d.0, d.1)

-- the last line of version 2 is no event
end_is_no_event : (header : Header) (e : Event (List ℕ)) (n : ℕ) → IsEvent header e → words.spaced (codes "end" ∷ decimal n ∷ []) ≡ event_text e → ⊥
end_is_no_event header e n h same =
    none_without_digit 18446744073709551615 e.actor.0 (codes "end" ++ 0x20 ∷ decimal n) (0x20 ∷ words.spaced (act_words e.act)) (omega arith) (no_digit_at_end (0x20 ∷ decimal n))
    (record { spelled = same ∙ event_words (decimal e.actor.0) e.act; small = omega (arith, h.0); whole = no_digit_at_space (words.spaced (act_words e.act)) })

-- ---- the events

no_more : (header : Header) (version : Version) (m n : ℕ) (e : Event (List ℕ)) (rest : List ℕ) → m < 2 ^ 64 → IsEvent header e → end_text version m ≡ line_of (event_text e) ++ rest → ⊥
no_more header One m n e rest small h same = no_line (event_text e) rest (sym same)
no_more header Two m n e rest small h same =
    let closing : List ℕ = words.spaced (codes "end" ∷ decimal m ∷ []) in
    let lines = one_line closing (event_text e) [] rest (flat_end m small) (flat_event header e h) (append-nil (line_of closing) ∙ same) in
    end_is_no_event header e m h lines.0

one_list : (header : Header) (version : Version) (m n : ℕ) (es fs : List (Event (List ℕ))) → header.workers < 2 ^ 8 → m < 2 ^ 64 → n < 2 ^ 64
    → AllByRecursion (IsEvent header) es → AllByRecursion (IsEvent header) fs → event_lines es ++ end_text version m ≡ event_lines fs ++ end_text version n → map shown es ≡ map shown fs
one_list header version m n [] [] small lm ln h k same = refl
one_list header version m n [] (f ∷ fs) small lm ln h k same =
    absurd (no_more header version m n f (event_lines fs ++ end_text version n) lm k.0 (same ∙ append_assoc (line_of (event_text f)) (event_lines fs) (end_text version n)))
one_list header version m n (e ∷ es) [] small lm ln h k same =
    absurd (no_more header version n m e (event_lines es ++ end_text version m) ln h.0 (sym same ∙ append_assoc (line_of (event_text e)) (event_lines es) (end_text version m)))
one_list header version m n (e ∷ es) (f ∷ fs) small lm ln h k same =
    let flat : line_of (event_text e) ++ (event_lines es ++ end_text version m) ≡ line_of (event_text f) ++ (event_lines fs ++ end_text version n) =
    sym (append_assoc (line_of (event_text e)) (event_lines es) (end_text version m)) ∙ same ∙ append_assoc (line_of (event_text f)) (event_lines fs) (end_text version n) in
    let lines = one_line (event_text e) (event_text f) (event_lines es ++ end_text version m) (event_lines fs ++ end_text version n) (flat_event header e h.0) (flat_event header f k.0) flat in
    let first = one_event header e f small h.0 k.0 lines.0 in
    let rest = one_list header version m n es fs small lm ln h.1 k.1 lines.1 in
    λ j. first j ∷ rest j

pub one_journal : (h k : Header) (es fs : List (Event (List ℕ))) → IsJournal h es → IsJournal k fs → spelled_journal h es ≡ spelled_journal k fs → (h ≡ k) × (map shown es ≡ map shown fs)
one_journal h k es fs a b same =
    let heads = one_line (header_text h) (header_text k) (event_lines es ++ end_text h.version (length es)) (event_lines fs ++ end_text k.version (length fs)) (flat_header h a.limits) (flat_header k b.limits) same in
    let header = same_header h k a.limits b.limits heads.0 in
    let others : AllByRecursion (IsEvent h) fs = subst (λ (it : Header). AllByRecursion (IsEvent it) fs) (sym header) b.each in
    let bodies : event_lines es ++ end_text h.version (length es) ≡ event_lines fs ++ end_text h.version (length fs) =
    heads.1 ∙ ap (λ (it : Header). event_lines fs ++ end_text it.version (length fs)) (sym header) in
    (header, one_list h h.version (length es) (length fs) es fs (omega (arith, a.limits.workers)) a.count b.count a.each others bodies)
