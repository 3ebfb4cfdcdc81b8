-- Lines of a text, and the first that is in no journal.
use Rattle.std.proofs.Common.{◌≡◌, ◌≢◌, ℕ, ◌+◌, ◌-◌, Bool, true, false, not, ◌==◌, List, [], ◌∷◌, ◌++◌, codes, length, refl, sym, ◌∙◌, ap, arith, append_assoc, append-nil}
use Rattle.std.specs.List.{AllByRecursion}
use Rattle.std.proofs.lemmas.Bool.{and_parts}
use Rattle.std.proofs.lemmas.List.Elements.{All-from_recursion}
use Rattle.tl_model.specs.declared.event.Event.{Event}
use Rattle.tl_model.specs.declared.header.Header.{Header}
use Rattle.tl_script.specs.Lines.{IsOther}
use Rattle.tl_script.proofs.Splits.{no_cut, one_cut}
use Rattle.tl_spelling.specs.Journals.{line_of, spelled_journal}
use Rattle.tl_spelling.specs.Shown.{IsJournal}
use Rattle.tl_spelling.proofs.NoFeeds.{is_flat}
use Rattle.tl_reading.specs.Journals.{BeginJournal, IsFirstUnread, IsLine, Spells, lines_text}

-- ---- one line

other_byte : (b : ℕ) → not (b == 10) ≡ true → b ≢ 10
other_byte b h e = let no : ◌≡◌ {A = Bool} false true = ap (λ (c : ℕ). not (c == 10)) (sym e) ∙ h in cc

others : (text : List ℕ) → is_flat text ≡ true → AllByRecursion (IsOther 10) text
others [] h = tt
others (b ∷ bs) h = let both = and_parts (not (b == 10)) (is_flat bs) h in (other_byte b both.0, others bs both.1)

pub line_from : (text : List ℕ) → is_flat text ≡ true → IsLine text
line_from text h = All-from_recursion (IsOther 10) text (others text h)

pub line_and : (line rest : List ℕ) → line_of line ++ rest ≡ line ++ 10 ∷ rest
line_and line rest = append_assoc line (codes "\n") rest

pub cut_feed : (a b x y : List ℕ) → IsLine a → IsLine b → line_of a ++ x ≡ line_of b ++ y → (a ≡ b) × (x ≡ y)
cut_feed a b x y h k e = one_cut 10 a x b y h k (sym (line_and a x) ∙ e ∙ line_and b y)

pub cut_at : (a b x y : List ℕ) → IsLine a → IsLine b → a ++ 10 ∷ x ≡ line_of b ++ y → (a ≡ b) × (x ≡ y)
cut_at a b x y h k e = one_cut 10 a x b y h k (e ∙ line_and b y)

pub no_feed_line : (text line rest : List ℕ) → IsLine text → text ≡ line_of line ++ rest → ⊥
no_feed_line text line rest h e = no_cut 10 text line rest h (e ∙ line_and line rest)

pub some_line : (line rest : List ℕ) → line_of line ++ rest ≡ [] → ⊥
some_line [] rest e = cc
some_line (c ∷ line) rest e = cc

-- ---- several lines

pub lines_push : (known : List (List ℕ)) (line more : List ℕ) → lines_text (known ++ line ∷ []) ++ more ≡ lines_text known ++ (line_of line ++ more)
lines_push [] line more = ap (λ (text : List ℕ). text ++ more) (append-nil (line_of line))
lines_push (first ∷ known) line more =
    append_assoc (line_of first) (lines_text (known ++ line ∷ [])) more
    ∙ ap (λ (text : List ℕ). line_of first ++ text) (lines_push known line more)
    ∙ sym (append_assoc (line_of first) (lines_text known) (line_of line ++ more))

-- a text that begins with known lines, and with one line more than these, begins with them and a line
pub one_more_line : (known lines : List (List ℕ)) (rest more : List ℕ) → AllByRecursion IsLine known → AllByRecursion IsLine lines → length lines ≡ length known + 1 → lines_text known ++ rest ≡ lines_text lines ++ more
    → (line : List ℕ) × IsLine line × (lines ≡ known ++ line ∷ []) × (rest ≡ line_of line ++ more)
one_more_line [] [] rest more h k n e = absurd (omega (arith, n))
one_more_line [] (line ∷ []) rest more h k n e = (line, k.0, refl, e ∙ ap (λ (text : List ℕ). text ++ more) (append-nil (line_of line)))
one_more_line [] (line ∷ next ∷ lines) rest more h k n e = absurd (omega (arith, n))
one_more_line (first ∷ known) [] rest more h k n e = absurd (omega (arith, n))
one_more_line (first ∷ known) (line ∷ lines) rest more h k n e =
    let cut = cut_feed first line (lines_text known ++ rest) (lines_text lines ++ more) h.0 k.0
    (sym (append_assoc (line_of first) (lines_text known) rest) ∙ e ∙ append_assoc (line_of line) (lines_text lines) more) in
    let later = one_more_line known lines rest more h.1 k.1 (omega (arith, n)) cut.1 in
    (later.0, later.1, λ i. sym cut.0 i ∷ later.2 i, later.3)

-- ---- the first line that is in no journal

pub first_unread : (text : List ℕ) (known : List (List ℕ)) (rest : List ℕ) (line : ℕ) → line ≡ length known + 1 → AllByRecursion IsLine known → text ≡ lines_text known ++ rest → BeginJournal known
    → ((header : Header) (events : List (Event (List ℕ))) → ¬ Spells text header events)
    → ((next after more : List ℕ) (header : Header) (events : List (Event (List ℕ))) → IsLine next → rest ≡ line_of next ++ after → IsJournal header events → spelled_journal header events ≡ lines_text known ++ (line_of next ++ more) → ⊥)
    → IsFirstUnread text line
first_unread text known rest line n each said first none wrong =
    let before : length known ≡ line - 1 = omega (arith, n) in
    record {
      counted = omega (arith, n);
      none = none;
      before = (known, before, each, (rest, said), first);
      not_with = λ fits.
          let lines = fits.0 in
          let one = one_more_line known lines rest fits.3.0 each fits.2 (fits.1 ∙ n) (sym said ∙ fits.3.1) in
          let journal = fits.4 in
          wrong one.0 fits.3.0 journal.3.0 journal.0 journal.1 one.1 one.3 journal.2
          (journal.3.1 ∙ ap (λ (all : List (List ℕ)). lines_text all ++ journal.3.0) one.2 ∙ lines_push known one.0 journal.3.0);
    }
