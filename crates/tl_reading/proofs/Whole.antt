-- A journal's text: the header's line, the lines of the events, and the end.
use Rattle.std.proofs.Common.{◌≡◌, ◌≢◌, ℕ, suc, ◌+◌, ◌<◌, ◌^◌, true, List, [], ◌∷◌, ◌++◌, codes, decimal, length, map, refl, sym, ◌∙◌, ap, subst, arith, append_assoc, append-nil}
use Rattle.std.specs.List.{AllByRecursion}
use Rattle.std.proofs.lemmas.List.{append_cancel_left}
use Rattle.tl_text.specs.Number.{BeginsWithNoDigit}
use Rattle.tl_text.proofs.Numbers.{none_without_digit}
use Rattle.tl_model.specs.declared.event.Event.{Event}
use Rattle.tl_model.specs.declared.header.Header.{Header}
use Rattle.tl_model.specs.declared.header.OrderRule.{OrderRule}
use Rattle.tl_model.specs.declared.header.OrderRule.TheVariants.{Strict, Shares}
use Rattle.tl_model.specs.declared.header.Version.{Version}
use Rattle.tl_model.specs.declared.header.Version.TheVariants.{One, Two}
use Rattle.tl_script.specs.Script.{IsHeader, order_text}
use Rattle.tl_script.proofs.Headers.{behind_capacity, behind_version, behind_workers}
use Rattle.tl_spelling.specs.Events.{event_text}
use Rattle.tl_spelling.specs.Journals.{end_text, event_lines, header_text, line_of, spelled_journal, version_word}
use Rattle.tl_spelling.specs.Shown.{IsEvent, IsJournal}
use Rattle.tl_spelling.proofs.Cuts.{no_digit_at_space}
use Rattle.tl_spelling.proofs.FlatEvents.{flat_event}
use Rattle.tl_spelling.proofs.NoFeeds.{flat_both, flat_decimal, is_flat}
use Rattle.tl_spelling.proofs.OneJournal.{header_parts, one_journal, one_version}
use Rattle.tl_reading.specs.Acts.{about, deed_of, deed_text}
use Rattle.tl_reading.specs.Journals.{BeginJournal, IsFirstUnread, IsLine, end_lines, lines_text}
use Rattle.tl_reading.proofs.EventParts.{event_parts}
use Rattle.tl_reading.proofs.Fronts.{cut_at, cut_feed, first_unread, line_and, line_from, no_feed_line, some_line}

-- no event's line stands first
abbrev pub NoEvent : Header → List ℕ → Type 0
NoEvent header text = (event : Event (List ℕ)) (rest : List ℕ) → IsEvent header event → text ≢ line_of (event_text event) ++ rest

-- ---- each line is one

flat_version : (v : Version) → is_flat (version_word v) ≡ true
flat_version One = refl
flat_version Two = refl

flat_order : (v : Version) (o : OrderRule) → is_flat (order_text v o) ≡ true
flat_order One Strict = refl
flat_order One Shares = refl
flat_order Two Strict = refl
flat_order Two Shares = refl

flat_header : (h : Header) → IsHeader h → is_flat (header_text h) ≡ true
flat_header h a =
    ap is_flat (header_parts h)
    ∙ (flat_both (version_word h.version) (behind_version h) (flat_version h.version)
    (flat_both (decimal h.workers) (behind_workers h) (flat_decimal h.workers (omega (arith, a.workers)))
    (flat_both (decimal h.capacity) (behind_capacity h) (flat_decimal h.capacity (omega (arith, a.capacity)))
    (flat_both (decimal h.hot) (order_text h.version h.order) (flat_decimal h.hot (omega (arith, a.hot))) (flat_order h.version h.order)))))

pub header_line : (h : Header) → IsHeader h → IsLine (header_text h)
header_line h a = line_from (header_text h) (flat_header h a)

pub event_line : (header : Header) (event : Event (List ℕ)) → IsEvent header event → IsLine (event_text event)
event_line header event h = line_from (event_text event) (flat_event header event h)

abbrev pub end_words : ℕ → List ℕ
end_words count = codes "end " ++ decimal count

end_line : (count : ℕ) → count < 2 ^ 64 → IsLine (end_words count)
end_line count small = line_from (end_words count) (flat_decimal count small)

-- the lines that end a journal
abbrev pub ends : Version → ℕ → List (List ℕ)
ends One count = []
ends Two count = end_words count ∷ []

ends_text : (v : Version) (count : ℕ) → lines_text (ends v count) ≡ end_text v count
ends_text One count = refl
ends_text Two count = append-nil (line_of (end_words count))

so_many_end : (v : Version) (count : ℕ) → length (ends v count) ≡ end_lines v
so_many_end One count = refl
so_many_end Two count = refl

each_end : (v : Version) (count : ℕ) → count < 2 ^ 64 → AllByRecursion IsLine (ends v count)
each_end One count small = tt
each_end Two count small = (end_line count small, tt)

-- ---- the header

same_header : (h k : Header) → IsHeader h → IsHeader k → header_text h ≡ header_text k → h ≡ k
same_header h k a b e =
    let front = append_cancel_left (codes "journal ") (version_word h.version ++ behind_version h) (version_word k.version ++ behind_version k) (sym (header_parts h) ∙ e ∙ header_parts k) in
    let version : h.version ≡ k.version = (one_version h.version k.version (behind_version h) (behind_version k) front).0 in
    (one_journal h k [] [] (record { limits = a; count = omega arith; each = tt }) (record { limits = b; count = omega arith; each = tt })
    (λ i. line_of (e i) ++ ([] ++ end_text (version i) 0))).0

-- ---- the end is no event

no_digit_at_end : (rest : List ℕ) → BeginsWithNoDigit (codes "end " ++ rest)
no_digit_at_end rest = λ d. omega (arith, d.0, d.1)

event_and : (event : Event (List ℕ)) (rest : List ℕ) → line_of (event_text event) ++ rest ≡ decimal event.actor.0 ++ 0x20 ∷ ((deed_text (deed_of event.act) ++ 0x20 ∷ about event.act) ++ 10 ∷ rest)
event_and event rest =
    line_and (event_text event) rest ∙ ap (λ (text : List ℕ). text ++ 10 ∷ rest) (event_parts event)
    ∙ append_assoc (decimal event.actor.0) (0x20 ∷ (deed_text (deed_of event.act) ++ 0x20 ∷ about event.act)) (10 ∷ rest)

no_event_at_end : (header : Header) (x : List ℕ) (event : Event (List ℕ)) (rest : List ℕ) → IsEvent header event → codes "end " ++ x ≡ line_of (event_text event) ++ rest → ⊥
no_event_at_end header x event rest h e =
    none_without_digit 18446744073709551615 event.actor.0 (codes "end " ++ x) (0x20 ∷ ((deed_text (deed_of event.act) ++ 0x20 ∷ about event.act) ++ 10 ∷ rest)) (omega arith) (no_digit_at_end x)
    (record { spelled = e ∙ event_and event rest; small = omega (arith, h.0); whole = no_digit_at_space ((deed_text (deed_of event.act) ++ 0x20 ∷ about event.act) ++ 10 ∷ rest) })

no_event_in_end : (header : Header) (v : Version) (count : ℕ) (event : Event (List ℕ)) (rest : List ℕ) → IsEvent header event → end_text v count ≡ line_of (event_text event) ++ rest → ⊥
no_event_in_end header One count event rest h e = some_line (event_text event) rest (sym e)
no_event_in_end header Two count event rest h e = no_event_at_end header (decimal count ++ codes "\n") event rest h e

-- ---- what stands behind the events

ends_there : (header : Header) (v : Version) (count : ℕ) (events others : List (Event (List ℕ))) (rest : List ℕ) → AllByRecursion (IsEvent header) events → AllByRecursion (IsEvent header) others
    → event_lines others ++ end_text v count ≡ event_lines events ++ rest → NoEvent header rest → (length others ≡ length events) × (rest ≡ end_text v count)
ends_there header v count [] [] rest h k e none = (refl, sym e)
ends_there header v count [] (f ∷ others) rest h k e none =
    absurd (none f (event_lines others ++ end_text v count) k.0 (sym e ∙ append_assoc (line_of (event_text f)) (event_lines others) (end_text v count)))
ends_there header v count (d ∷ events) [] rest h k e none =
    absurd (no_event_in_end header v count d (event_lines events ++ rest) h.0 (e ∙ append_assoc (line_of (event_text d)) (event_lines events) rest))
ends_there header v count (d ∷ events) (f ∷ others) rest h k e none =
    let cut = cut_feed (event_text f) (event_text d) (event_lines others ++ end_text v count) (event_lines events ++ rest) (event_line header f k.0) (event_line header d h.0)
    (sym (append_assoc (line_of (event_text f)) (event_lines others) (end_text v count)) ∙ e ∙ append_assoc (line_of (event_text d)) (event_lines events) rest) in
    let later = ends_there header v count events others rest h.1 k.1 cut.1 none in
    (ap suc later.0, later.1)

-- a journal that begins with the lines of another's events, and goes on with no event, ends there
pub journal_ends : (h other : Header) (events others : List (Event (List ℕ))) (rest : List ℕ) → IsHeader h → AllByRecursion (IsEvent h) events → IsJournal other others
    → spelled_journal other others ≡ line_of (header_text h) ++ (event_lines events ++ rest) → NoEvent h rest → rest ≡ end_text h.version (length events)
journal_ends h other events others rest a each journal e none =
    let heads = cut_feed (header_text other) (header_text h) (event_lines others ++ end_text other.version (length others)) (event_lines events ++ rest) (header_line other journal.limits) (header_line h a) e in
    let header : other ≡ h = same_header other h journal.limits a heads.0 in
    let all : AllByRecursion (IsEvent h) others = subst (λ (it : Header). AllByRecursion (IsEvent it) others) header journal.each in
    let bodies : event_lines others ++ end_text h.version (length others) ≡ event_lines events ++ rest =
    ap (λ (it : Header). event_lines others ++ end_text it.version (length others)) (sym header) ∙ heads.1 in
    let both = ends_there h h.version (length others) events others rest each all bodies none in
    both.1 ∙ ap (λ (count : ℕ). end_text h.version count) both.0

-- ---- the lines of a journal

abbrev journal_lines : Header → List (Event (List ℕ)) → List (List ℕ) → List (List ℕ)
journal_lines header events tail = header_text header ∷ (map event_text events ++ tail)

events_are : (events : List (Event (List ℕ))) (tail : List (List ℕ)) (rest : List ℕ) → lines_text (map event_text events ++ tail) ++ rest ≡ event_lines events ++ (lines_text tail ++ rest)
events_are [] tail rest = refl
events_are (event ∷ events) tail rest =
    append_assoc (line_of (event_text event)) (lines_text (map event_text events ++ tail)) rest
    ∙ ap (λ (text : List ℕ). line_of (event_text event) ++ text) (events_are events tail rest)
    ∙ sym (append_assoc (line_of (event_text event)) (event_lines events) (lines_text tail ++ rest))

lines_are : (header : Header) (events : List (Event (List ℕ))) (tail : List (List ℕ)) (rest : List ℕ) → lines_text (journal_lines header events tail) ++ rest ≡ line_of (header_text header) ++ (event_lines events ++ (lines_text tail ++ rest))
lines_are header events tail rest =
    append_assoc (line_of (header_text header)) (lines_text (map event_text events ++ tail)) rest
    ∙ ap (λ (text : List ℕ). line_of (header_text header) ++ text) (events_are events tail rest)

each_event : (header : Header) (events : List (Event (List ℕ))) (tail : List (List ℕ)) → AllByRecursion (IsEvent header) events → AllByRecursion IsLine tail → AllByRecursion IsLine (map event_text events ++ tail)
each_event header [] tail h k = k
each_event header (event ∷ events) tail h k = (event_line header event h.0, each_event header events tail h.1 k)

how_many : (events : List (Event (List ℕ))) (tail : List (List ℕ)) → length (map event_text events ++ tail) ≡ length events + length tail
how_many [] tail = omega arith
how_many (event ∷ events) tail = let later = how_many events tail in omega (arith, later)

begun : (header : Header) (events : List (Event (List ℕ))) (tail : List (List ℕ)) (more : List ℕ) → IsJournal header events → end_text header.version (length events) ≡ lines_text tail ++ more → BeginJournal (journal_lines header events tail)
begun header events tail more journal e =
    (header, events, journal, (more, ap (λ (text : List ℕ). line_of (header_text header) ++ (event_lines events ++ text)) e ∙ sym (lines_are header events tail more)))

-- ---- lines that are in no journal

some_header : Header
some_header = record { workers = 1; capacity = 1; hot = 1; order = Strict; version = One }

some_journal : IsJournal some_header []
unfolding some_header
some_journal = record {
  limits = record { some_workers = omega arith; workers = omega arith; some_capacity = omega arith; capacity = omega arith; some_hot = omega arith; hot = omega arith };
  count = omega arith;
  each = tt;
}

none_begun : BeginJournal []
none_begun = (some_header, [], some_journal, (spelled_journal some_header [], refl))

pub no_first_line : (text : List ℕ) → IsLine text → IsFirstUnread text 1
no_first_line text is =
    first_unread text [] text 1 refl tt refl none_begun
    (λ header events s. no_feed_line text (header_text header) (event_lines events ++ end_text header.version (length events)) is s.spelled_so)
    (λ next after more header events line at journal e. no_feed_line text next after is at)

pub no_header : (text first rest : List ℕ) → IsLine first → text ≡ first ++ 10 ∷ rest → ((h : Header) → IsHeader h → first ≢ header_text h) → IsFirstUnread text 1
no_header text first rest is said none =
    first_unread text [] text 1 refl tt refl none_begun
    (λ header events s.
    none header s.journal.limits
    (cut_at first (header_text header) rest (event_lines events ++ end_text header.version (length events)) is (header_line header s.journal.limits) (sym said ∙ s.spelled_so)).0)
    (λ next after more header events line at journal e.
    none header journal.limits
    ((cut_at first next rest after is line (sym said ∙ at)).0
    ∙ sym (cut_feed (header_text header) next (event_lines events ++ end_text header.version (length events)) more (header_line header journal.limits) line e).0))

same_line_no_event : (header : Header) (next after more : List ℕ) → IsLine next → NoEvent header (line_of next ++ after) → NoEvent header (line_of next ++ more)
same_line_no_event header next after more line none event rest h e =
    none event after h (ap (λ (text : List ℕ). line_of text ++ after) (cut_feed next (event_text event) more rest line (event_line header event h) e).0)

end_is_line : (v : Version) (count : ℕ) (next more : List ℕ) → count < 2 ^ 64 → IsLine next → line_of next ++ more ≡ end_text v count → end_text v count ≡ line_of next
end_is_line One count next more small line e = absurd (some_line next more e)
end_is_line Two count next more small line e =
    ap line_of (sym (cut_feed next (end_words count) more [] line (end_line count small) (e ∙ sym (append-nil (line_of (end_words count))))).0)

pub no_end : (text rest : List ℕ) (h : Header) (events : List (Event (List ℕ))) (line : ℕ) → IsJournal h events → text ≡ line_of (header_text h) ++ (event_lines events ++ rest) → NoEvent h rest
    → ((more : List ℕ) → rest ≢ end_text h.version (length events) ++ more) → line ≡ length events + 2 → IsFirstUnread text line
no_end text rest h events line journal said none bare n =
    first_unread text (journal_lines h events []) rest line (let many = how_many events [] in omega (arith, n, many))
    (header_line h journal.limits, each_event h events [] journal.each tt) (said ∙ sym (lines_are h events [] rest))
    (begun h events [] (end_text h.version (length events)) journal refl)
    (λ other others s.
    bare [] (journal_ends h other events others rest journal.limits journal.each s.journal (sym s.spelled_so ∙ said) none ∙ sym (append-nil (end_text h.version (length events)))))
    (λ next after more other others is at j e.
    let ended = journal_ends h other events others (line_of next ++ more) journal.limits journal.each j (e ∙ lines_are h events [] (line_of next ++ more))
    (same_line_no_event h next after more is (subst (NoEvent h) at none)) in
    bare after (at ∙ ap (λ (text : List ℕ). text ++ after) (sym (end_is_line h.version (length events) next more journal.count is ended))))

still_no_event : (header : Header) (v : Version) (count : ℕ) (next after more : List ℕ) → IsLine next → NoEvent header (end_text v count ++ (line_of next ++ after)) → NoEvent header (end_text v count ++ (line_of next ++ more))
still_no_event header One count next after more line none event rest h e = same_line_no_event header next after more line none event rest h e
still_no_event header Two count next after more line none event rest h e =
    no_event_at_end header (decimal count ++ (codes "\n" ++ (line_of next ++ more))) event rest h
    (ap (λ (text : List ℕ). codes "end " ++ text) (sym (append_assoc (decimal count) (codes "\n") (line_of next ++ more))) ∙ e)

pub behind_end : (text rest : List ℕ) (h : Header) (events : List (Event (List ℕ))) (line : ℕ) → IsJournal h events
    → text ≡ line_of (header_text h) ++ (event_lines events ++ (end_text h.version (length events) ++ rest)) → NoEvent h (end_text h.version (length events) ++ rest)
    → rest ≢ [] → line ≡ length events + 2 + end_lines h.version → IsFirstUnread text line
behind_end text rest h events line journal said none some n =
    let tail = ends h.version (length events) in
    let end : List ℕ = end_text h.version (length events) in
    let same : lines_text tail ≡ end = ends_text h.version (length events) in
    first_unread text (journal_lines h events tail) rest line (let many = how_many events tail in let last = so_many_end h.version (length events) in omega (arith, n, many, last))
    (header_line h journal.limits, each_event h events tail journal.each (each_end h.version (length events) journal.count))
    (said ∙ ap (λ (text : List ℕ). line_of (header_text h) ++ (event_lines events ++ (text ++ rest))) (sym same) ∙ sym (lines_are h events tail rest))
    (begun h events tail [] journal (sym same ∙ sym (append-nil (lines_text tail))))
    (λ other others s.
    some (append_cancel_left end rest [] (journal_ends h other events others (end ++ rest) journal.limits journal.each s.journal (sym s.spelled_so ∙ said) none ∙ sym (append-nil end))))
    (λ next after more other others is at j e.
    let ended : end ++ (line_of next ++ more) ≡ end = journal_ends h other events others (end ++ (line_of next ++ more)) journal.limits journal.each j
    (e ∙ lines_are h events tail (line_of next ++ more) ∙ ap (λ (text : List ℕ). line_of (header_text h) ++ (event_lines events ++ (text ++ (line_of next ++ more)))) same)
    (still_no_event h h.version (length events) next after more is (subst (λ (later : List ℕ). NoEvent h (end ++ later)) at none)) in
    some_line next more (append_cancel_left end (line_of next ++ more) [] (ended ∙ sym (append-nil end))))
