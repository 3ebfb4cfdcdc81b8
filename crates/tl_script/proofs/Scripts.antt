-- A script is said in one way, and is not refused; a text is refused in one way.
use Rattle.std.proofs.Common.{◌≡◌, ℕ, ◌+◌, ◌<◌, ◌^◌, Bool, true, false, ◌==◌, List, [], ◌∷◌, ◌++◌, length, codes, Result, Ok, Err, refl, sym, ◌∙◌, ap, subst, inl, inr, arith}
use Rattle.std.specs.Prelude.{IfOk, IfErr}
use Rattle.std.proofs.lemmas.Bool.{le-leb, eqb-true}
use Rattle.std.proofs.lemmas.List.{append-nil}
use Rattle.tl_kind.specs.Refusals.{begins_with_digit}
use Rattle.tl_kind.proofs.Readings.{number_begins}
use Rattle.tl_model.specs.declared.header.Header.{Header}
use Rattle.tl_model.specs.declared.header.Version.{Version}
use Rattle.tl_script.specs.declared.bad_kind.BadKind.{BadKind}
use Rattle.tl_script.specs.declared.script.Op.{Op}
use Rattle.tl_script.specs.declared.script.Line.{Line}
use Rattle.tl_script.specs.declared.script.Script.{Script}
use Rattle.tl_script.specs.declared.script.ScriptError.{ScriptError}
use Rattle.tl_script.specs.declared.script.ScriptError.TheVariants.{Bad, NoMemory}
use Rattle.tl_script.specs.Lines.{lines_of}
use Rattle.tl_script.specs.Tokens.{a_number, Stands}
use Rattle.tl_script.specs.Places.{client, command, client_limit}
use Rattle.tl_script.specs.Script.{order_text, HeaderSays, is_skipped, IsSkipped, LineSays, SaysEntry, SayAll, IsScript, RefusedHeader, RefusedLine, IsRight, IsFirstBad, IsRefused, IsBadScript, Reads}
use Rattle.tl_script.proofs.OneToken.{other_byte}
use Rattle.tl_script.proofs.Steps.{when_true}
use Rattle.tl_script.proofs.Sayings.{tokens_of, Stand, Walks, stand, say_op, walks_op}
use Rattle.tl_script.proofs.Headers.{behind, no_digit_workers, no_digit_capacity, no_digit_order, behind_version, behind_workers, behind_capacity, one_version, one_order}
use Rattle.tl_script.proofs.Unique.{never, one_kind_stands, one_tokens, same_op}

-- ---- a line

line_stands : (header : Header) (line : List ℕ) (c : ℕ) (op : Op) → header.workers < 2 ^ 8 → LineSays header line c op → Stand (0x20 ∷ line) (a_number c ∷ tokens_of op)
line_stands header line c op w h =
    subst (λ (l : List ℕ). Stand (0x20 ∷ l) (a_number c ∷ tokens_of op)) (sym h.spelled_so) (stand (a_number c ∷ tokens_of op) (omega (arith, h.client), say_op header op w h.command))

line_walks : (header : Header) (line : List ℕ) (c : ℕ) (op : Op) → LineSays header line c op → Walks (client header) (a_number c ∷ tokens_of op)
line_walks header line c op h = (command header, when_true _ (command header) (le-leb c client_limit h.client), walks_op header op h.command)

not_both : (b : Bool) → b ≡ true → b ≡ false → ⊥
not_both b e f = cc

digit_not_skipped : (line : List ℕ) → begins_with_digit line ≡ true → is_skipped line ≡ true → ⊥
digit_not_skipped [] e f = not_both false e refl
digit_not_skipped (b ∷ bs) e f = not_both (b == 0x23) f (other_byte b 0x23 e refl)

front_is : (line front : List ℕ) → ◌≡◌ {A = List ℕ} (0x20 ∷ line) (0x20 ∷ front) → front ≡ line
front_is line front e = cc

not_skipped : (header : Header) (line : List ℕ) (c : ℕ) (op : Op) → header.workers < 2 ^ 8 → LineSays header line c op → is_skipped line ≡ true → ⊥
not_skipped header line c op w h skipped =
    let stands = line_stands header line c op w h in
    let number = subst (λ (l : List ℕ). Stands l (a_number c) stands.0) (front_is line stands.1.0 stands.1.1) stands.1.2 in
    digit_not_skipped line (number_begins 18446744073709551615 c line stands.0 (omega arith) number.0) skipped

-- no line is right and refused
right_not_refused : (header : Header) (line : List ℕ) (kind : BadKind) → header.workers < 2 ^ 8 → IsRight header line → RefusedLine header line kind → ⊥
right_not_refused header line kind w (inl skipped) (inl long) = omega (arith, skipped.short, long.0)
right_not_refused header line kind w (inl skipped) (inr refused) = not_both (is_skipped line) skipped.skipped refused.1
right_not_refused header line kind w (inr says) (inl long) = omega (arith, says.2.short, long.0)
right_not_refused header line kind w (inr says) (inr refused) =
    never refused.2 (a_number says.0 ∷ tokens_of says.1) (line_stands header line says.0 says.1 w says.2) (line_walks header line says.0 says.1 says.2)

-- a line says one command
one_entry : (header : Header) (n : ℕ) (line : List ℕ) (a b : Line) → header.workers < 2 ^ 8 → SaysEntry header n line a → SaysEntry header n line b → a ≡ b
one_entry header n line a b w h k =
    let tokens : a_number a.client ∷ tokens_of a.op ≡ a_number b.client ∷ tokens_of b.op =
    one_tokens (0x20 ∷ line) (a_number a.client ∷ tokens_of a.op) (a_number b.client ∷ tokens_of b.op) (line_stands header line a.client a.op w h.1) (line_stands header line b.client b.op w k.1) in
    let clients : a.client ≡ b.client = cc in
    let rest : tokens_of a.op ≡ tokens_of b.op = cc in
    let ops = same_op header a.op b.op h.1.command k.1.command rest in
    let numbers = h.0 ∙ sym k.0 in
    λ j. record { number = numbers j; client = clients j; op = ops j }

-- ---- the lines behind the header

one_list : (header : Header) (n : ℕ) (lines : List (List ℕ)) (entries others : List Line) → header.workers < 2 ^ 8 → SayAll header n lines entries → SayAll header n lines others → entries ≡ others
one_list header n [] [] [] w h k = refl
one_list header n [] [] (b ∷ bs) w h k = absurd k
one_list header n [] (a ∷ as_) others w h k = absurd h
one_list header n (line ∷ lines) [] [] w h k = refl
one_list header n (line ∷ lines) [] (b ∷ bs) w h (inl k) = one_list header (n + 1) lines [] (b ∷ bs) w h.1 k.1
one_list header n (line ∷ lines) [] (b ∷ bs) w h (inr k) = absurd (not_skipped header line b.client b.op w k.0.1 h.0.skipped)
one_list header n (line ∷ lines) (a ∷ as_) [] w (inl h) k = one_list header (n + 1) lines (a ∷ as_) [] w h.1 k.1
one_list header n (line ∷ lines) (a ∷ as_) [] w (inr h) k = absurd (not_skipped header line a.client a.op w h.0.1 k.0.skipped)
one_list header n (line ∷ lines) (a ∷ as_) (b ∷ bs) w (inl h) (inl k) = one_list header (n + 1) lines (a ∷ as_) (b ∷ bs) w h.1 k.1
one_list header n (line ∷ lines) (a ∷ as_) (b ∷ bs) w (inl h) (inr k) = absurd (not_skipped header line b.client b.op w k.0.1 h.0.skipped)
one_list header n (line ∷ lines) (a ∷ as_) (b ∷ bs) w (inr h) (inl k) = absurd (not_skipped header line a.client a.op w h.0.1 k.0.skipped)
one_list header n (line ∷ lines) (a ∷ as_) (b ∷ bs) w (inr h) (inr k) =
    let first = one_entry header n line a b w h.0 k.0 in
    let later = one_list header (n + 1) lines as_ bs w h.1 k.1 in
    λ j. first j ∷ later j

none_bad : (header : Header) (n : ℕ) (lines : List (List ℕ)) (entries : List Line) (at : ℕ) (kind : BadKind) → header.workers < 2 ^ 8 → SayAll header n lines entries → IsFirstBad header n lines at kind → ⊥
none_bad header n [] entries at kind w h bad = bad
none_bad header n (line ∷ lines) [] at kind w h (inl here) = right_not_refused header line kind w (inl h.0) here.0
none_bad header n (line ∷ lines) [] at kind w h (inr later) = none_bad header (n + 1) lines [] at kind w h.1 later.1
none_bad header n (line ∷ lines) (a ∷ as_) at kind w (inl h) (inl here) = right_not_refused header line kind w (inl h.0) here.0
none_bad header n (line ∷ lines) (a ∷ as_) at kind w (inl h) (inr later) = none_bad header (n + 1) lines (a ∷ as_) at kind w h.1 later.1
none_bad header n (line ∷ lines) (a ∷ as_) at kind w (inr h) (inl here) = right_not_refused header line kind w (inr (a.client, a.op, h.0.1)) here.0
none_bad header n (line ∷ lines) (a ∷ as_) at kind w (inr h) (inr later) = none_bad header (n + 1) lines as_ at kind w h.1 later.1

-- a line is refused as one kind
one_line_kind : (header : Header) (line : List ℕ) (kind other : BadKind) → RefusedLine header line kind → RefusedLine header line other → kind ≡ other
one_line_kind header line kind other (inl a) (inl b) = a.1 ∙ sym b.1
one_line_kind header line kind other (inl a) (inr b) = absurd (omega (arith, a.0, b.0))
one_line_kind header line kind other (inr a) (inl b) = absurd (omega (arith, a.0, b.0))
one_line_kind header line kind other (inr a) (inr b) = one_kind_stands a.2 other b.2

one_first : (header : Header) (n : ℕ) (lines : List (List ℕ)) (at at' : ℕ) (kind kind' : BadKind) → header.workers < 2 ^ 8 → IsFirstBad header n lines at kind → IsFirstBad header n lines at' kind' → (at ≡ at') × (kind ≡ kind')
one_first header n [] at at' kind kind' w h k = absurd h
one_first header n (line ∷ lines) at at' kind kind' w (inl h) (inl k) = (h.1 ∙ sym k.1, one_line_kind header line kind kind' h.0 k.0)
one_first header n (line ∷ lines) at at' kind kind' w (inl h) (inr k) = absurd (right_not_refused header line kind w k.0 h.0)
one_first header n (line ∷ lines) at at' kind kind' w (inr h) (inl k) = absurd (right_not_refused header line kind' w h.0 k.0)
one_first header n (line ∷ lines) at at' kind kind' w (inr h) (inr k) = one_first header (n + 1) lines at at' kind kind' w h.1 k.1

-- ---- the header

narrow : (line : List ℕ) (h : Header) → HeaderSays line h → h.workers < 2 ^ 8
narrow line h says = omega (arith, says.header.workers)

one_header : (line : List ℕ) (h k : Header) → HeaderSays line h → HeaderSays line k → h ≡ k
one_header line h k a b =
    let v = one_version line h.version k.version (behind_version h) (behind_version k) a.spelled_so b.spelled_so in
    let w = behind (behind_version h) (codes " workers ") h.workers k.workers (behind_workers h) (behind_workers k) refl v.1 (omega (arith, a.header.workers)) (omega (arith, b.header.workers)) (no_digit_workers h) (no_digit_workers k) in
    let c = behind (behind_workers h) (codes " capacity ") h.capacity k.capacity (behind_capacity h) (behind_capacity k) refl w.1 (omega (arith, a.header.capacity)) (omega (arith, b.header.capacity)) (no_digit_capacity h) (no_digit_capacity k) in
    let t = behind (behind_capacity h) (codes " hot ") h.hot k.hot (order_text h.version h.order) (order_text k.version k.order) refl c.1 (omega (arith, a.header.hot)) (omega (arith, b.header.hot)) (no_digit_order h.version h.order) (no_digit_order k.version k.order) in
    let o = one_order h.version h.order k.order (t.1 ∙ ap (λ (v : Version). order_text v k.order) (sym v.0)) in
    λ j. record { workers = w.0 j; capacity = c.0 j; hot = t.0 j; order = o j; version = v.0 j }

one_header_kind : (line : List ℕ) (kind other : BadKind) → RefusedHeader line kind → RefusedHeader line other → kind ≡ other
one_header_kind line kind other (inl a) (inl b) = a.1 ∙ sym b.1
one_header_kind line kind other (inl a) (inr b) = absurd (omega (arith, a.0, b.0))
one_header_kind line kind other (inr a) (inl b) = absurd (omega (arith, a.0, b.0))
one_header_kind line kind other (inr a) (inr b) = a.2 ∙ sym b.2

header_not_refused : (line : List ℕ) (h : Header) (kind : BadKind) → HeaderSays line h → RefusedHeader line kind → ⊥
header_not_refused line h kind says (inl long) = omega (arith, says.short, long.0)
header_not_refused line h kind says (inr none) = none.1 h says

-- ---- scripts

-- no text is two scripts
pub same_script : (lines : List (List ℕ)) (header header' : Header) (entries entries' : List Line) → IsScript lines header entries → IsScript lines header' entries' → (header ≡ header') × (entries ≡ entries')
same_script [] header header' entries entries' h k = absurd h
same_script (line ∷ lines) header header' entries entries' h k =
    let same = one_header line header header' h.0 k.0 in
    (same, one_list header' 2 lines entries entries' (narrow line header' k.0) (subst (λ (x : Header). SayAll x 2 lines entries) same h.1) k.1)

-- no script is refused
pub never_refused : (lines : List (List ℕ)) (header : Header) (entries : List Line) (at : ℕ) (kind : BadKind) → IsScript lines header entries → IsRefused lines at kind → ⊥
never_refused [] header entries at kind script refused = script
never_refused (line ∷ lines) header entries at kind script (inl here) = header_not_refused line header kind script.0 here.0
never_refused (line ∷ lines) header entries at kind script (inr later) =
    let same = one_header line later.0 header later.1 script.0 in
    none_bad header 2 lines entries at kind (narrow line header script.0) script.1 (subst (λ (x : Header). IsFirstBad x 2 lines at kind) same later.2)

-- a text is refused at one line, as one kind
pub same_refusal : (lines : List (List ℕ)) (at at' : ℕ) (kind kind' : BadKind) → IsRefused lines at kind → IsRefused lines at' kind' → (at ≡ at') × (kind ≡ kind')
same_refusal [] at at' kind kind' h k = (h.0 ∙ sym k.0, h.1 ∙ sym k.1)
same_refusal (line ∷ lines) at at' kind kind' (inl h) (inl k) = (h.1 ∙ sym k.1, one_header_kind line kind kind' h.0 k.0)
same_refusal (line ∷ lines) at at' kind kind' (inl h) (inr k) = absurd (header_not_refused line k.0 kind k.1 h.0)
same_refusal (line ∷ lines) at at' kind kind' (inr h) (inl k) = absurd (header_not_refused line h.0 kind' h.1 k.0)
same_refusal (line ∷ lines) at at' kind kind' (inr h) (inr k) =
    let same = one_header line k.0 h.0 k.1 h.1 in
    one_first h.0 2 lines at at' kind kind' (narrow line h.0 h.1) h.2 (subst (λ (x : Header). IsFirstBad x 2 lines at' kind') same k.2)

-- the one script is read
pub reads_script : (lines : List (List ℕ)) (r : Result Script ScriptError) → IfOk r (λ script. IsScript lines script.header script.lines.items) → IfErr r (IsBadScript lines) → (header : Header) (entries : List Line) → IsScript lines header entries → Reads r header entries
reads_script lines (Ok script) read refused header entries h = same_script lines script.header header script.lines.items entries read h
reads_script lines (Err (Bad at how)) read refused header entries h = never_refused lines header entries at how h refused
reads_script lines (Err NoMemory) read refused header entries h = tt

-- ---- reading the lines in order

pub skip_first : (header : Header) (n : ℕ) (line : List ℕ) (lines : List (List ℕ)) (entries : List Line) → IsSkipped line → SayAll header (n + 1) lines entries → SayAll header n (line ∷ lines) entries
skip_first header n line lines [] skipped h = (skipped, h)
skip_first header n line lines (a ∷ as_) skipped h = inl (skipped, h)

-- once nothing is left, all lines are said
pub said_at_end : (header : Header) (n : ℕ) (text rest : List ℕ) (entries : List Line) → (length rest == 0) ≡ true → ((more : List Line) → SayAll header n (lines_of rest) more → SayAll header 2 (lines_of text) (entries ++ more)) → SayAll header 2 (lines_of text) entries
said_at_end header n text [] entries e read = subst (SayAll header 2 (lines_of text)) (append-nil entries) (read [] tt)
said_at_end header n text (b ∷ bs) entries e read = let none = eqb-true (length (b ∷ bs)) 0 e in absurd (omega arith)
