-- The events that were read so far, the newest first.
use Rattle.std.proofs.Common.{◌≡◌, ◌≢◌, ℕ, ◌+◌, ◌<◌, ◌^◌, List, [], ◌∷◌, ◌++◌, codes, decimal, length, map, reverse, Result, Ok, Err, IfOk, IfErr, sym, ◌∙◌, ap, subst, arith, append-nil}
use Rattle.std.specs.List.{AllByRecursion}
use Rattle.std.proofs.lemmas.List.{append_cancel_left, length-reverse}
use Rattle.tl_model.specs.declared.event.Event.{Event}
use Rattle.tl_model.specs.declared.header.Header.{Header}
use Rattle.tl_model.specs.Journal.{Ledger}
use Rattle.tl_text.specs.Number.{BeginsWithNoDigit}
use Rattle.tl_spelling.specs.Events.{event_text}
use Rattle.tl_script.specs.Script.{IsHeader}
use Rattle.tl_spelling.specs.Journals.{end_text, event_lines, header_text, line_of}
use Rattle.tl_spelling.specs.Shown.{IsEvent, IsJournal, shown}
use Rattle.tl_spelling.proofs.Cuts.{cut_number}
use Rattle.tl_spelling.proofs.OneJournal.{one_journal}
use Rattle.tl_reading.specs.declared.journal.ReadError.{ReadError}
use Rattle.tl_reading.specs.declared.journal.ReadError.TheVariants.{Unread, NoMemory}
use Rattle.tl_reading.specs.Journals.{IsFirstUnread, IsLine, IsUnread, ReadsJournal, Spells, end_lines}
use Rattle.tl_reading.proofs.Fronts.{cut_at, line_and, no_feed_line}
use Rattle.tl_reading.proofs.Whole.{NoEvent, behind_end, end_words, event_line, no_end}

pub record HasRead (header : Header) (text : List ℕ) (events : List (Event (List ℕ))) (rest : List ℕ) : Type 0 where
  pub each : AllByRecursion (IsEvent header) (reverse events)
  pub shown : map shown (reverse events) ≡ reverse events
  pub found : text ≡ event_lines (reverse events) ++ rest

pub no_line : (header : Header) (rest : List ℕ) → IsLine rest → NoEvent header rest
no_line header rest is event more h e = no_feed_line rest (event_text event) more is e

pub no_event : (header : Header) (rest line later : List ℕ) → IsLine line → rest ≡ line ++ 10 ∷ later → ((event : Event (List ℕ)) → IsEvent header event → line ≢ event_text event) → NoEvent header rest
no_event header rest line later is at none event more h e = none event h (cut_at line (event_text event) later more is (event_line header event h) (sym at ∙ e)).0

-- ---- the end

no_digit_at_feed : (rest : List ℕ) → BeginsWithNoDigit (10 ∷ rest)
no_digit_at_feed rest = λ d. omega (arith, d.0, d.1)

pub same_count : (m n : ℕ) (text said x y : List ℕ) → m < 2 ^ 64 → n < 2 ^ 64 → text ≡ codes "end " ++ said → said ≡ decimal m ++ 10 ∷ x → text ≡ line_of (end_words n) ++ y → m ≡ n
same_count m n text said x y small small' e f g =
    let right : text ≡ codes "end " ++ (decimal n ++ 10 ∷ y) = g ∙ line_and (end_words n) y in
    (cut_number m n (10 ∷ x) (10 ∷ y) (omega (arith, small)) (omega (arith, small')) (no_digit_at_feed x) (no_digit_at_feed y) (sym f ∙ append_cancel_left (codes "end ") said (decimal n ++ 10 ∷ y) (sym e ∙ right))).0

-- ---- what was read of a text

-- the text is the header's line, the lines of all events that stand behind it, and then the rest
pub record HasEvents (text : List ℕ) (h : Header) (events : List (Event (List ℕ))) (count : ℕ) (rest : List ℕ) : Type 0 where
  pub journal : IsJournal h events
  pub said : text ≡ line_of (header_text h) ++ (event_lines events ++ rest)
  pub none : NoEvent h rest
  pub many : count ≡ length events

pub has_events : (text first behind rest : List ℕ) (h : Header) (events : List (Event (List ℕ))) (count : ℕ) → text ≡ first ++ 10 ∷ behind → IsHeader h × (first ≡ header_text h) → count ≡ length events → count < 2 ^ 64
    → AllByRecursion (IsEvent h) (reverse events) → behind ≡ event_lines (reverse events) ++ rest → NoEvent h rest → HasEvents text h (reverse events) count rest
has_events text first behind rest h events count said header many small each found none =
    let same = length-reverse events in
    record {
      journal = record { limits = header.0; count = omega (arith, same, many, small); each = each };
      said = said ∙ (λ i. header.1 i ++ 10 ∷ found i) ∙ sym (line_and (header_text h) (event_lines (reverse events) ++ rest));
      none = none;
      many = many ∙ sym same;
    }

pub no_end_there : (text : List ℕ) (h : Header) (events : List (Event (List ℕ))) (count : ℕ) (rest : List ℕ) → HasEvents text h events count rest → ((more : List ℕ) → rest ≢ end_text h.version count ++ more) → IsFirstUnread text (count + 2)
no_end_there text h events count rest front none =
    no_end text rest h events (count + 2) front.journal front.said front.none
    (λ more e. none more (e ∙ ap (λ (n : ℕ). end_text h.version n ++ more) (sym front.many))) (ap (λ (n : ℕ). n + 2) front.many)

pub more_there : (text : List ℕ) (h : Header) (events : List (Event (List ℕ))) (count : ℕ) (rest more : List ℕ) (last : ℕ) → HasEvents text h events count rest → rest ≡ end_text h.version count ++ more → more ≢ [] → last ≡ end_lines h.version → IsFirstUnread text (count + 2 + last)
more_there text h events count rest more last front at some is =
    let there : rest ≡ end_text h.version (length events) ++ more = at ∙ ap (λ (n : ℕ). end_text h.version n ++ more) front.many in
    behind_end text more h events (count + 2 + last) front.journal (front.said ∙ ap (λ (text : List ℕ). line_of (header_text h) ++ (event_lines events ++ text)) there)
    (subst (NoEvent h) there front.none) some (let many = front.many in omega (arith, many, is))

pub all_there : (text : List ℕ) (h other : Header) (events : List (Event (List ℕ))) (count : ℕ) (rest more : List ℕ) → other ≡ h → HasEvents text h events count rest → rest ≡ end_text h.version count ++ more → more ≡ [] → Spells text other events
all_there text h other events count rest more same front at none =
    subst (λ (it : Header). Spells text it events) (sym same)
    (record {
      journal = front.journal;
      spelled_so =
          front.said
          ∙ ap (λ (text : List ℕ). line_of (header_text h) ++ (event_lines events ++ text))
          (at ∙ ap (λ (text : List ℕ). end_text h.version count ++ text) none ∙ append-nil (end_text h.version count) ∙ ap (λ (n : ℕ). end_text h.version n) front.many);
    })

-- ---- the answer

pub reads_only : (text : List ℕ) (result : Result (Ledger (List ℕ)) ReadError) → IfOk result (λ journal. Spells text journal.header (reverse journal.events)) → IfOk result (λ journal. map shown (reverse journal.events) ≡ reverse journal.events)
    → IfErr result (IsUnread text) → (header : Header) (events : List (Event (List ℕ))) → Spells text header events → ReadsJournal result header events
reads_only text (Ok journal) h k e header events s =
    let one = one_journal journal.header header (reverse journal.events) events h.journal s.journal (sym h.spelled_so ∙ s.spelled_so) in
    (one.0, sym k ∙ one.1)
reads_only text (Err (Unread line)) h k e header events s = e.none header events s
reads_only text (Err NoMemory) h k e header events s = tt
