-- Where tokens are refused.
use Rattle.std.proofs.Common.{◌≡◌, ◌≢◌, ◌⊎◌, ◌<◌, ◌≤◌, ℕ, suc, ◌-◌, Bool, true, false, if◌then◌else◌, List, [], ◌∷◌, length, take, drop, Some, None, refl, sym, ap, subst, inl, inr, arith, length-append}
use Rattle.std.specs.List.{flat_map}
use Rattle.std.proofs.lemmas.Grind.{common_steps}
use Rattle.std.proofs.lemmas.List.{take-append-drop, drop_all}
use Rattle.tl_text.specs.declared.error.TextKind.{TextKind}
use Rattle.tl_text.specs.declared.error.TextError.TheVariants.{Bad}
use Rattle.tl_text.specs.Refusal.{IsRefusal}
use Rattle.tl_text.specs.Number.{IsNumber}
use Rattle.tl_text.specs.Signed.{IsSigned}
use Rattle.tl_text.specs.Quoted.{IsQuoted, item, quoted}
use Rattle.tl_text.specs.Place.{IsFirstBad}
use Rattle.tl_kind.specs.declared.lang_error.LangErrorKind.{LangErrorKind}
use Rattle.tl_kind.specs.declared.lang_error.LangErrorKind.TheVariants.{Unexpected, UnknownForm, BadNumber, BadQuote}
use Rattle.tl_kind.specs.declared.stop.Stop.{Stop}
use Rattle.tl_kind.specs.declared.stop.Stop.TheVariants as stop
use Rattle.tl_kind.specs.declared.word.Word.{Word}
use Rattle.tl_kind.specs.Words.{word_text}
use Rattle.tl_kind.specs.Refusals.{Sort, expr, number, quoted_text, part, begins_with_digit, begins_signed, begins_quoted, BeginsWithNoLetter, Refused, at_first, in_signed, in_number, in_quoted, no_word, unknown_word}
use Rattle.tl_kind.specs.Reading.{StopsAs, AreLetters, refused_first, InQuoted}

-- ---- at the first byte

no_first_word : (text : List ℕ) (room : ℕ) → (0 ≡ length text) ⊎ BeginsWithNoLetter text → StopsAs (Refused (part expr (suc room)) (40 ∷ text)) text (refused_first text)
no_first_word [] room h = no_word refl
no_first_word (byte ∷ bytes) room (inl e) = absurd (omega arith)
no_first_word (byte ∷ bytes) room (inr e) = no_word (ap (λ (b : Bool). if b then None else Some Unexpected) e)

pub refused_no_word : (text : List ℕ) (s : Stop) (len limit : ℕ) → limit ≡ length text → AreLetters text limit len → len ≡ 0 → s ≡ refused_first text → (room : ℕ) → StopsAs (Refused (part expr (suc room)) (40 ∷ text)) text s
refused_no_word text s len limit all are none is room =
    let here : (0 ≡ length text) ⊎ BeginsWithNoLetter text = elim are.whole [
      | inl e ↦ inl (omega arith)
      | inr e ↦ inr (subst (λ n. BeginsWithNoLetter (drop n text)) none e)
    ] in
    subst (λ s. StopsAs (Refused (part expr (suc room)) (40 ∷ text)) text s) (sym is) (no_first_word text room here)

pub refused_unknown : (text : List ℕ) (len limit : ℕ) → limit ≡ length text → AreLetters text limit len → len ≢ 0 → ((w : Word) → take len text ≢ word_text w) → (room : ℕ) → Refused (part expr (suc room)) (40 ∷ text) text UnknownForm
refused_unknown text len limit all are some none room =
    let there : BeginsWithNoLetter (drop len text) = elim are.whole [
      | inl e ↦ let past : length text ≤ len = omega arith in subst BeginsWithNoLetter (sym (drop_all len text past)) tt
      | inr e ↦ e
    ] in
    let size : 0 < length (take len text) = grind (arith, are, common_steps) in
    subst (λ t. Refused (part expr (suc room)) (40 ∷ t) t UnknownForm) (take-append-drop len text) (unknown_word (take len text) (drop len text) size are.letters there none)

no_first_digit : (text : List ℕ) (room : ℕ) → begins_with_digit text ≡ false → StopsAs (Refused (part number room) text) text (refused_first text)
no_first_digit [] room e = at_first refl
no_first_digit (byte ∷ bytes) room e = at_first (ap (λ (b : Bool). if b then None else Some Unexpected) e)

pub refused_no_digit : (text : List ℕ) (s : Stop) → begins_with_digit text ≡ false → s ≡ refused_first text → (room : ℕ) → StopsAs (Refused (part number room) text) text s
refused_no_digit text s e is room = subst (λ s. StopsAs (Refused (part number room) text) text s) (sym is) (no_first_digit text room e)

no_first_quote : (text : List ℕ) (room : ℕ) → begins_quoted text ≡ false → StopsAs (Refused (part quoted_text room) text) text (refused_first text)
no_first_quote [] room e = at_first refl
no_first_quote (byte ∷ bytes) room e = at_first (ap (λ (b : Bool). if b then None else Some Unexpected) e)

pub refused_no_quote : (text : List ℕ) (s : Stop) → begins_quoted text ≡ false → s ≡ refused_first text → (room : ℕ) → StopsAs (Refused (part quoted_text room) text) text s
refused_no_quote text s e is room = subst (λ s. StopsAs (Refused (part quoted_text room) text) text s) (sym is) (no_first_quote text room e)

-- ---- in a token

first_bad : {V : Type 0} (R : List ℕ → V → List ℕ → Type 0) (text : List ℕ) (at : ℕ) → IsFirstBad R (drop 0 text) (at - 0) → IsFirstBad R text at
first_bad R text at h = let same : at - 0 ≡ at = omega arith in subst (λ n. IsFirstBad R text n) same h

pub refused_number : (text rest : List ℕ) (s : Stop) (at : ℕ) (kind : TextKind) → begins_with_digit text ≡ true → IsRefusal (IsNumber 18446744073709551615) TextKind.BadNumber text 0 (Bad at kind) → s ≡ stop.Refused BadNumber → rest ≡ drop at text → (room : ℕ) → StopsAs (Refused (part number room) text) rest s
refused_number text rest s at kind begun bad is there room =
    subst (λ s. StopsAs (Refused (part number room) text) rest s) (sym is)
    (subst (λ r. Refused (part number room) text r BadNumber) (sym there) (in_number at begun (first_bad (IsNumber 18446744073709551615) text at bad.2)))

pub refused_signed : (text rest : List ℕ) (s : Stop) (at : ℕ) (kind : TextKind) → begins_signed text ≡ true → IsRefusal IsSigned TextKind.BadNumber text 0 (Bad at kind) → s ≡ stop.Refused BadNumber → rest ≡ drop at text → (room : ℕ) → StopsAs (Refused (part expr room) text) rest s
refused_signed text rest s at kind begun bad is there room =
    subst (λ s. StopsAs (Refused (part expr room) text) rest s) (sym is)
    (subst (λ r. Refused (part expr room) text r BadNumber) (sym there) (in_signed at begun (first_bad IsSigned text at bad.2)))

pub refused_quoted : (text rest : List ℕ) (s : Stop) (at : ℕ) (kind : TextKind) → begins_quoted text ≡ true → IsRefusal IsQuoted TextKind.BadQuote text 0 (Bad at kind) → s ≡ stop.Refused BadQuote → rest ≡ drop at text → StopsAs (InQuoted text) rest s
refused_quoted text rest s at kind begun bad is there =
    subst (λ s. StopsAs (InQuoted text) rest s) (sym is) (at, begun, first_bad IsQuoted text at bad.2, there, refl)

in_quoted_part : (text rest : List ℕ) (kind : LangErrorKind) (sort : Sort) (room : ℕ) → (sort ≡ expr) ⊎ (sort ≡ quoted_text) → InQuoted text rest kind → Refused (part sort room) text rest kind
in_quoted_part text rest kind sort room of h =
    subst (λ r. Refused (part sort room) text r kind) (sym h.3) (subst (λ k. Refused (part sort room) text (drop h.0 text) k) (sym h.4) (in_quoted h.0 of h.1 h.2))

-- ---- the exit of a reader

pub stops_more : (R Q : List ℕ → LangErrorKind → Type 0) (rest : List ℕ) (s : Stop) → ((kind : LangErrorKind) → R rest kind → Q rest kind) → StopsAs R rest s → StopsAs Q rest s
stops_more R Q rest (stop.Refused kind) more h = more kind h
stops_more R Q rest stop.NoMemory more h = tt

pub stops_in_quoted : (text rest : List ℕ) (s : Stop) (sort : Sort) (room : ℕ) → (sort ≡ expr) ⊎ (sort ≡ quoted_text) → StopsAs (InQuoted text) rest s → StopsAs (Refused (part sort room) text) rest s
stops_in_quoted text rest s sort room of h = stops_more (InQuoted text) (Refused (part sort room) text) rest s (λ kind. in_quoted_part text rest kind sort room of) h

-- ---- a quoted text is no longer than its spelling

pub length-item : (byte : ℕ) → 1 ≤ length (item byte)
length-item byte = grind (arith, common_steps)

length-items : (bytes : List ℕ) → length bytes ≤ length (flat_map item bytes)
length-items [] = omega arith
length-items (byte ∷ bytes) = omega (arith, length-item byte, length-items bytes, length-append (item byte) (flat_map item bytes))

pub length-quoted : (text bytes rest : List ℕ) → IsQuoted text bytes rest → length bytes ≤ length text
length-quoted text bytes rest h =
    omega (arith, ap length h.spelled, length-append (quoted bytes) rest, length-append (flat_map item bytes) (34 ∷ []), length-items bytes)
