-- What is wrong at each place.
use Rattle.std.proofs.Common.{◌≡◌, ◌⊎◌, ℕ, suc, Bool, true, false, not, nat_le, nat_lt, ◌&&◌, ◌<◌, ◌≤◌, List, [], ◌∷◌, ◌++◌, length, Option, Some, None, bytes_eq, if◌then◌else◌, refl, sym, ◌∙◌, ap, subst, inl, inr, arith}
use Rattle.std.specs.Option.{is_some}
use Rattle.std.proofs.lemmas.Bool.{and_parts, le-leb, leb-true, ltb-true, not-true}
use Rattle.tl_text.specs.PathText.{EndsToken, IsPathText}
use Rattle.tl_lang.specs.declared.program.Program.{Program}
use Rattle.tl_lang.specs.Kinds.{refusal}
use Rattle.tl_kind.specs.Written.{IsProgram}
use Rattle.tl_kind.proofs.Never.{one_program_stands}
use Rattle.tl_model.specs.declared.header.Header.{Header}
use Rattle.tl_model.specs.declared.header.Version.{Version}
use Rattle.tl_model.specs.Limits.{output_limit}
use Rattle.tl_script.specs.declared.bad_kind.BadKind.TheVariants as bad
use Rattle.tl_script.specs.declared.stop.Stop.{Stop}
use Rattle.tl_script.specs.declared.stop.Stop.TheVariants as stop
use Rattle.tl_script.specs.declared.word.Verb.{Verb}
use Rattle.tl_script.specs.declared.word.Mark.{Mark}
use Rattle.tl_script.specs.declared.word.Mark.TheVariants as mark_is
use Rattle.tl_script.specs.Words.{mark_text}
use Rattle.tl_script.specs.Tokens.{Token, a_verb, a_mark, a_number, a_path, a_text, a_program, Stands}
use Rattle.tl_script.specs.Places.{Place, client, command, path_then, number_then, text_then, settings, key, paths_then, program_then, end, is_of, next, has_key, begins_with_slash, IsBadPath, IsWrong, Follows, Refused, missing, wrong, client_limit, text_limit, conf_limit}
use Rattle.tl_script.specs.Reading.{StopsAs}
use Rattle.tl_script.proofs.WordTables.{same_bytes, same_mark}
use Rattle.tl_script.proofs.OneToken.{one_token}
use Rattle.tl_script.proofs.Steps.{when_not, from_within}

-- ---- the end

none_at_end : (t : Token) → next end t ≡ None
none_at_end (a_verb v) = refl
none_at_end (a_mark m) = refl
none_at_end (a_number n) = refl
none_at_end (a_path p) = refl
none_at_end (a_text s) = refl
none_at_end (a_program p) = refl

pub refused_spare : (bytes : List ℕ) → EndsToken bytes → (bytes ≡ [] → ⊥) → Refused end bytes bad.Argument
refused_spare [] ended some = absurd (some refl)
refused_spare (b ∷ bs) ended some = wrong bs (ap (λ (x : ℕ). x ∷ bs) ended) (λ token rest h. none_at_end token) refl

-- ---- the client and the word

pub wrong_client : (header : Header) (bytes : List ℕ) → ((n : ℕ) (rest : List ℕ) → n ≤ client_limit → ¬ Stands bytes (a_number n) rest) → IsWrong (client header) bytes
wrong_client header bytes none (a_verb v) rest h = refl
wrong_client header bytes none (a_mark m) rest h = refl
wrong_client header bytes none (a_number n) rest h = when_not (nat_le n client_limit) (command header) (λ fits. none n rest (leb-true n client_limit fits) h)
wrong_client header bytes none (a_path p) rest h = refl
wrong_client header bytes none (a_text s) rest h = refl
wrong_client header bytes none (a_program p) rest h = refl

pub wrong_command : (header : Header) (bytes : List ℕ) → ((v : Verb) (rest : List ℕ) → ¬ Stands bytes (a_verb v) rest) → IsWrong (command header) bytes
wrong_command header bytes none (a_verb v) rest h = absurd (none v rest h)
wrong_command header bytes none (a_mark m) rest h = refl
wrong_command header bytes none (a_number n) rest h = refl
wrong_command header bytes none (a_path p) rest h = refl
wrong_command header bytes none (a_text s) rest h = refl
wrong_command header bytes none (a_program p) rest h = refl

-- ---- single arguments

pub wrong_path : (after : Place) (bytes : List ℕ) → ((p : List (List ℕ)) (rest : List ℕ) → ¬ Stands bytes (a_path p) rest) → IsWrong (path_then after) bytes
wrong_path after bytes none (a_verb v) rest h = refl
wrong_path after bytes none (a_mark m) rest h = refl
wrong_path after bytes none (a_number n) rest h = refl
wrong_path after bytes none (a_path p) rest h = absurd (none p rest h)
wrong_path after bytes none (a_text s) rest h = refl
wrong_path after bytes none (a_program p) rest h = refl

pub wrong_number : (low below : ℕ) (after : Place) (bytes : List ℕ) → ((n : ℕ) (rest : List ℕ) → low ≤ n → n < below → ¬ Stands bytes (a_number n) rest) → IsWrong (number_then low below after) bytes
wrong_number low below after bytes none (a_verb v) rest h = refl
wrong_number low below after bytes none (a_mark m) rest h = refl
wrong_number low below after bytes none (a_number n) rest h =
    when_not (nat_le low n && nat_lt n below) after (λ fits. let both = from_within low below n fits in none n rest both.0 both.1 h)
wrong_number low below after bytes none (a_path p) rest h = refl
wrong_number low below after bytes none (a_text s) rest h = refl
wrong_number low below after bytes none (a_program p) rest h = refl

pub wrong_text : (after : Place) (bytes : List ℕ) → ((s : List ℕ) (rest : List ℕ) → length s ≤ text_limit → ¬ Stands bytes (a_text s) rest) → IsWrong (text_then after) bytes
wrong_text after bytes none (a_verb v) rest h = refl
wrong_text after bytes none (a_mark m) rest h = refl
wrong_text after bytes none (a_number n) rest h = refl
wrong_text after bytes none (a_path p) rest h = refl
wrong_text after bytes none (a_text s) rest h = when_not (nat_le (length s) text_limit) after (λ fits. none s rest (leb-true (length s) text_limit fits) h)
wrong_text after bytes none (a_program p) rest h = refl

-- ---- a configuration

pub wrong_key : (version : Version) (keys : List (List ℕ)) (bytes : List ℕ) → ((s : List ℕ) (rest : List ℕ) → length s ≤ text_limit → has_key keys s ≡ false → ¬ Stands bytes (a_text s) rest) → IsWrong (key version keys) bytes
wrong_key version keys bytes none (a_verb v) rest h = refl
wrong_key version keys bytes none (a_mark m) rest h = refl
wrong_key version keys bytes none (a_number n) rest h = refl
wrong_key version keys bytes none (a_path p) rest h = refl
wrong_key version keys bytes none (a_text s) rest h =
    when_not (nat_le (length s) text_limit && not (has_key keys s)) (text_then (settings version (keys ++ s ∷ [])))
    (λ fits. let both = and_parts (nat_le (length s) text_limit) (not (has_key keys s)) fits in none s rest (leb-true (length s) text_limit both.0) (not-true (has_key keys s) both.1) h)
wrong_key version keys bytes none (a_program p) rest h = refl

pub wrong_setting : (version : Version) (keys : List (List ℕ)) (bytes : List ℕ) → ((rest : List ℕ) → ¬ Stands bytes (a_mark mark_is.In) rest) → ((rest : List ℕ) → length keys < conf_limit → ¬ Stands bytes (a_mark mark_is.Conf) rest) → IsWrong (settings version keys) bytes
wrong_setting version keys bytes no_in no_conf (a_verb v) rest h = refl
wrong_setting version keys bytes no_in no_conf (a_mark mark_is.Conf) rest h = when_not (nat_lt (length keys) conf_limit) (key version keys) (λ fits. no_conf rest (ltb-true (length keys) conf_limit fits) h)
wrong_setting version keys bytes no_in no_conf (a_mark mark_is.In) rest h = absurd (no_in rest h)
wrong_setting version keys bytes no_in no_conf (a_mark mark_is.Out) rest h = refl
wrong_setting version keys bytes no_in no_conf (a_mark mark_is.Run) rest h = refl
wrong_setting version keys bytes no_in no_conf (a_number n) rest h = refl
wrong_setting version keys bytes no_in no_conf (a_path p) rest h = refl
wrong_setting version keys bytes no_in no_conf (a_text s) rest h = refl
wrong_setting version keys bytes no_in no_conf (a_program p) rest h = refl

-- where `in` does not stand, and `conf` does not or none may
pub refused_setting : (version : Version) (keys : List (List ℕ)) (bytes : List ℕ) → EndsToken bytes → ((rest : List ℕ) → ¬ Follows bytes (a_mark mark_is.In) rest) → ((rest : List ℕ) → length keys < conf_limit → ¬ Follows bytes (a_mark mark_is.Conf) rest) → Refused (settings version keys) bytes bad.Argument
refused_setting version keys [] ended no_in no_conf = missing refl refl refl
refused_setting version keys (b ∷ bs) ended no_in no_conf =
    let e : b ∷ bs ≡ 0x20 ∷ bs = ap (λ (x : ℕ). x ∷ bs) ended in
    wrong bs e (wrong_setting version keys bs (λ rest h. no_in rest (bs, e, h)) (λ rest few h. no_conf rest few (bs, e, h))) refl

-- ---- lists of paths

pub wrong_listed : (limit least count : ℕ) (word : Mark) (after : ℕ → Place) (bytes : List ℕ) → ((p : List (List ℕ)) (rest : List ℕ) → count < limit → ¬ Stands bytes (a_path p) rest)
    → ((rest : List ℕ) → least ≤ count → ¬ Stands bytes (a_mark word) rest) → IsWrong (paths_then limit least count word after) bytes
wrong_listed limit least count word after bytes no_path no_mark (a_verb v) rest h = refl
wrong_listed limit least count word after bytes no_path no_mark (a_mark m) rest h =
    when_not (bytes_eq (mark_text m) (mark_text word) && nat_le least count) (after count)
    (λ fits.
    let both = and_parts (bytes_eq (mark_text m) (mark_text word)) (nat_le least count) fits in
    let same = same_mark m word (same_bytes (mark_text m) (mark_text word) both.0) in
    no_mark rest (leb-true least count both.1) (subst (λ (w : Mark). Stands bytes (a_mark w) rest) same h))
wrong_listed limit least count word after bytes no_path no_mark (a_number n) rest h = refl
wrong_listed limit least count word after bytes no_path no_mark (a_path p) rest h =
    when_not (nat_lt count limit) (paths_then limit least (suc count) word after) (λ fits. no_path p rest (ltb-true count limit fits) h)
wrong_listed limit least count word after bytes no_path no_mark (a_text s) rest h = refl
wrong_listed limit least count word after bytes no_path no_mark (a_program p) rest h = refl

slash_kind : (slash : Bool) (bytes : List ℕ) → slash ≡ begins_with_slash bytes → ((p : List (List ℕ)) (rest : List ℕ) → ¬ IsPathText bytes p rest)
    → (IsBadPath bytes × ((if slash then bad.Path else bad.Argument) ≡ bad.Path)) ⊎ ((¬ IsBadPath bytes) × ((if slash then bad.Path else bad.Argument) ≡ bad.Argument))
slash_kind true bytes e none = inl ((sym e, none), refl)
slash_kind false bytes e none = inr (λ h. let no : ◌≡◌ {A = Bool} false true = e ∙ h.0 in absurd (cc), refl)

-- where neither a path nor the word stands
pub refused_unlisted : (limit least count : ℕ) (word : Mark) (after : ℕ → Place) (bytes front : List ℕ) (s : Stop) → bytes ≡ 0x20 ∷ front → ((p : List (List ℕ)) (rest : List ℕ) → ¬ Stands front (a_path p) rest)
    → ((rest : List ℕ) → ¬ Follows bytes (a_mark word) rest) → s ≡ stop.Refused (if begins_with_slash front then bad.Path else bad.Argument) → StopsAs (Refused (paths_then limit least count word after) bytes) s
refused_unlisted limit least count word after bytes front s e no_path no_mark is =
    subst (StopsAs (Refused (paths_then limit least count word after) bytes)) (sym is)
    (wrong front e (wrong_listed limit least count word after front (λ p rest room h. no_path p rest h) (λ rest enough h. no_mark rest (front, e, h)))
    (slash_kind (begins_with_slash front) front refl no_path))

-- where a path stands, and none may
pub refused_full : (limit least count : ℕ) (word : Mark) (after : ℕ → Place) (bytes : List ℕ) (p : List (List ℕ)) (rest : List ℕ) → Follows bytes (a_path p) rest → limit ≤ count → ((rest : List ℕ) → ¬ Follows bytes (a_mark word) rest)
    → Refused (paths_then limit least count word after) bytes bad.Argument
refused_full limit least count word after bytes p rest f full no_mark =
    wrong f.0 f.1 (wrong_listed limit least count word after f.0 (λ q more room h. omega arith) (λ more enough h. no_mark more (f.0, f.1, h))) (inr (λ h. h.1 p rest f.2, refl))

mark_no_slash : (m : Mark) (bytes rest : List ℕ) → Stands bytes (a_mark m) rest → begins_with_slash bytes ≡ false
mark_no_slash mark_is.Conf bytes rest h = ap begins_with_slash h.0
mark_no_slash mark_is.In bytes rest h = ap begins_with_slash h.0
mark_no_slash mark_is.Out bytes rest h = ap begins_with_slash h.0
mark_no_slash mark_is.Run bytes rest h = ap begins_with_slash h.0

not_both : (b : Bool) → b ≡ true → b ≡ false → ⊥
not_both b e f = cc

-- where the word stands, and too few paths before it
pub refused_few : (limit least count : ℕ) (word : Mark) (after : ℕ → Place) (bytes rest : List ℕ) → Follows bytes (a_mark word) rest → count < least → Refused (paths_then limit least count word after) bytes bad.Argument
refused_few limit least count word after bytes rest f few =
    let no_path : (p : List (List ℕ)) (more : List ℕ) → ¬ Stands f.0 (a_path p) more = λ p more h. apart p (one_token f.0 (a_mark word) (a_path p) rest more f.2 h).0 in
    wrong f.0 f.1 (wrong_listed limit least count word after f.0 (λ p more room h. no_path p more h) (λ more enough h. omega arith))
    (inr (λ h. not_both (begins_with_slash f.0) h.0 (mark_no_slash word f.0 rest f.2), refl))
  where
    apart : (p : List (List ℕ)) → a_mark word ≡ a_path p → ⊥
    apart p e = cc

-- ---- programs

pub wrong_program : (version : Version) (reads makes : ℕ) (bytes : List ℕ)
    → ((p : Program) (rest : List ℕ) → is_of version p ≡ true → refusal p reads makes ≡ None → ¬ Stands bytes (a_program p) rest) → IsWrong (program_then version reads makes) bytes
wrong_program version reads makes bytes none (a_verb v) rest h = refl
wrong_program version reads makes bytes none (a_mark m) rest h = refl
wrong_program version reads makes bytes none (a_number n) rest h = refl
wrong_program version reads makes bytes none (a_path p) rest h = refl
wrong_program version reads makes bytes none (a_text s) rest h = refl
wrong_program version reads makes bytes none (a_program p) rest h =
    when_not (is_of version p && not (is_some (refusal p reads makes))) end
    (λ fits. let both = and_parts (is_of version p) (not (is_some (refusal p reads makes))) fits in none p rest both.0 (no_refusal (refusal p reads makes) both.1) h)
  where
    no_refusal : (o : Option ℕ) → not (is_some o) ≡ true → o ≡ None
    no_refusal None e = refl
    no_refusal (Some n) e = absurd (cc)

none_and_some : (o : Option ℕ) (n : ℕ) → o ≡ None → Some n ≡ o → ⊥
none_and_some o n e f = let no : Some n ≡ None = f ∙ e in absurd (cc)

-- where a program stands that breaks the kind rules
pub refused_kinds : (version : Version) (reads makes : ℕ) (bytes : List ℕ) (p : Program) (n : ℕ) → Follows bytes (a_program p) [] → length p.outputs ≤ output_limit version → Some n ≡ refusal p reads makes → Refused (program_then version reads makes) bytes bad.Kinds
refused_kinds version reads makes bytes p n f few broken =
    wrong f.0 f.1
    (wrong_program version reads makes f.0
    (λ q rest of kept h.
    let same : a_program q ≡ a_program p = (one_token f.0 (a_program q) (a_program p) rest [] h f.2).0 in
    let program : q ≡ p = cc in
    none_and_some (refusal p reads makes) n (ap (λ (x : Program). refusal x reads makes) (sym program) ∙ kept) broken))
    (inl ((p, f.2.0, le-leb (length p.outputs) (output_limit version) few), refl))

-- where a program stands that has more outputs than the version allows
pub refused_many : (version : Version) (reads makes : ℕ) (bytes front : List ℕ) (p : Program) → bytes ≡ 0x20 ∷ front → IsProgram front p → output_limit version < length p.outputs → Refused (program_then version reads makes) bytes bad.Program
refused_many version reads makes bytes front p e is many =
    wrong front e (wrong_program version reads makes front (λ q rest of kept h. too_many q of h.0)) (inr (λ h. too_many h.0 h.2 h.1, refl))
  where
    too_many : (q : Program) → is_of version q ≡ true → IsProgram front q → ⊥
    too_many q of other =
        let same : length q.outputs ≡ length p.outputs = ap (λ (x : Program). length x.outputs) (one_program_stands front q p other is) in
        omega (arith, same, many, leb-true (length q.outputs) (output_limit version) of)

-- where a key stands that has stood
pub refused_repeated : (version : Version) (keys : List (List ℕ)) (bytes k rest : List ℕ) → Follows bytes (a_text k) rest → has_key keys k ≡ true → Refused (key version keys) bytes bad.Argument
refused_repeated version keys bytes k rest f has =
    wrong f.0 f.1
    (wrong_key version keys f.0
    (λ s more short fresh h.
    let same : a_text s ≡ a_text k = (one_token f.0 (a_text s) (a_text k) more rest h f.2).0 in
    let texts : s ≡ k = cc in
    not_both (has_key keys k) has (ap (has_key keys) (sym texts) ∙ fresh))) refl
