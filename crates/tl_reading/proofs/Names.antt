-- The names of a listing, each before a space.
use Rattle.std.proofs.Common.{◌≡◌, ◌≢◌, ℕ, ◌<◌, Bool, true, false, not, ◌==◌, if◌then◌else◌, List, [], ◌∷◌, ◌++◌, codes, length, refl, sym, ◌∙◌, ap, arith}
use Rattle.std.specs.List.{All, AllByRecursion, list_all}
use Rattle.std.proofs.lemmas.Bool.{and_parts}
use Rattle.std.proofs.lemmas.List.Elements.{All-from_recursion}
use Rattle.tl_types.specs.Path.{is_component_byte}
use Rattle.tl_text.proofs.Components.{component_has}
use Rattle.tl_model.specs.declared.reply.Entry.{Entry}
use Rattle.tl_report.specs.Words.{entry_word}
use Rattle.tl_script.specs.Lines.{IsOther}
use Rattle.tl_script.proofs.WordTables.{no_space}
use Rattle.tl_spelling.specs.Shown.{IsEntry}
use Rattle.tl_spelling.proofs.Cuts.{tail_of}
use Rattle.tl_spelling.proofs.OneReply.{one_name}
use Rattle.tl_reading.specs.Replies.{listed}

-- ---- no space

other_byte : (b : ℕ) → not (b == 0x20) ≡ true → b ≢ 0x20
other_byte b h e = let no : ◌≡◌ {A = Bool} false true = ap (λ (c : ℕ). not (c == 0x20)) (sym e) ∙ h in cc

others : (word : List ℕ) → no_space word ≡ true → AllByRecursion (IsOther 32) word
others [] h = tt
others (b ∷ bs) h = let both = and_parts (not (b == 0x20)) (no_space bs) h in (other_byte b both.0, others bs both.1)

pub without_space : (word : List ℕ) → no_space word ≡ true → All (IsOther 32) word
without_space word h = All-from_recursion (IsOther 32) word (others word h)

component_other : (b : ℕ) → is_component_byte b ≡ true → b ≢ 32
component_other b h e = let no : ◌≡◌ {A = Bool} false true = ap is_component_byte (sym e) ∙ h in cc

component_others : (bytes more : List ℕ) → list_all is_component_byte bytes ≡ true → AllByRecursion (IsOther 32) more → AllByRecursion (IsOther 32) (bytes ++ more)
component_others [] more h k = k
component_others (b ∷ bytes) more h k =
    let both = and_parts (is_component_byte b) (list_all is_component_byte bytes) h in
    (component_other b both.0, component_others bytes more both.1 k)

ending_others : (dir : Bool) → AllByRecursion (IsOther 32) (if dir then codes "/" else [])
ending_others true = (λ (e : ◌≡◌ {A = ℕ} 47 32). omega (arith, e), tt)
ending_others false = tt

pub entry_without_space : (entry : Entry) → IsEntry entry → All (IsOther 32) (entry_word entry)
entry_without_space entry h =
    All-from_recursion (IsOther 32) (entry_word entry)
    (component_others entry.name (if entry.dir then codes "/" else []) (component_has entry.name h).bytes (ending_others entry.dir))

-- ---- several

pub listed-push : (entries : List Entry) (entry : Entry) (rest : List ℕ) → listed (entries ++ entry ∷ []) rest ≡ listed entries (entry_word entry ++ 0x20 ∷ rest)
listed-push [] entry rest = refl
listed-push (first ∷ entries) entry rest = ap (λ (more : List ℕ). entry_word first ++ 0x20 ∷ more) (listed-push entries entry rest)

pub entries-push : (entries : List Entry) (entry : Entry) → AllByRecursion IsEntry entries → IsEntry entry → AllByRecursion IsEntry (entries ++ entry ∷ [])
entries-push [] entry h k = (k, tt)
entries-push (first ∷ entries) entry h k = (h.0, entries-push entries entry h.1 k)

-- where fewer names than all were read, one more stands there
pub one_more : (entries : List Entry) (rest : List ℕ) (all : List Entry) (more : List ℕ) → AllByRecursion IsEntry entries → AllByRecursion IsEntry all → length entries < length all
    → listed entries rest ≡ listed all more → (entry : Entry) × (later : List ℕ) × IsEntry entry × (rest ≡ entry_word entry ++ 0x20 ∷ later)
one_more [] rest [] more h k lt e = absurd (omega (arith, lt))
one_more [] rest (next ∷ all) more h k lt e = (next, listed all more, k.0, e)
one_more (first ∷ entries) rest [] more h k lt e = absurd (omega (arith, lt))
one_more (first ∷ entries) rest (next ∷ all) more h k lt e =
    let one = one_name first next (listed entries rest) (listed all more) h.0 k.0 e in
    one_more entries rest all more h.1 k.1 (omega (arith, lt)) (tail_of 0x20 0x20 (listed entries rest) (listed all more) one.1)
