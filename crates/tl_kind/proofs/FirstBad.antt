-- A refusal's place is that of the first byte that no program allows.
use Rattle.std.proofs.Common.{◌≡◌, ◌≢◌, ◌<◌, ◌≤◌, ℕ, ◌+◌, ◌-◌, List, [], ◌∷◌, ◌++◌, length, take, drop, refl, sym, ◌∙◌, ap, subst, inl, inr, arith}
use Rattle.std.proofs.lemmas.List.{take-append-drop, append_cancel_right, length-drop}
use Rattle.tl_text.specs.Place.{CanBegin, IsFirstBad}
use Rattle.tl_kind.specs.declared.lang_error.LangErrorKind.{LangErrorKind}
use Rattle.tl_kind.specs.declared.lang_error.LangErrorKind.TheVariants.{UnknownForm}
use Rattle.tl_kind.specs.Refusals.{IsWhole, RefusedText, IsRefusedAt, Spells}
use Rattle.tl_kind.proofs.Moved.{cut, take_one_more, one_more, moved_text}
use Rattle.tl_kind.proofs.Completed.{completes_text}
use Rattle.tl_kind.proofs.Never.{never_text}

front_of : (text front : List ℕ) (at : ℕ) → text ≡ front ++ drop at text → front ≡ take at text
front_of text front at e = append_cancel_right front (take at text) (drop at text) (sym e ∙ sym (take-append-drop at text))

before_it : (text : List ℕ) (at : ℕ) (kind : LangErrorKind) → RefusedText text (drop at text) kind → CanBegin Spells (take at text)
before_it text at kind r = let c = completes_text r in subst (λ s. CanBegin Spells s) (front_of text c.front at c.is) c.can

at_it : (text : List ℕ) (at : ℕ) (kind : LangErrorKind) → at ≤ length text → RefusedText text (drop at text) kind → kind ≢ UnknownForm → (rest : List ℕ) → drop at text ≡ rest → at < length text → CanBegin Spells (take (at + 1) text) → ⊥
at_it text at kind le r known [] e lt b = let size : length text - at ≡ 0 = sym (length-drop at text) ∙ ap length e in omega (arith, size, lt)
at_it text at kind le r known (c ∷ t) e lt b =
    let m = moved_text r known c t b.0 e in
    let cuts = cut text at c t le e in
    let here : take (at + 1) text ≡ take at text ++ c ∷ [] = ap (take (at + 1)) cuts.is ∙ take_one_more (take at text) c t at cuts.front in
    let same : take (at + 1) text ++ b.0 ≡ m.front ++ c ∷ b.0 =
    ap (λ (s : List ℕ). s ++ b.0) here ∙ one_more (take at text) c b.0 ∙ ap (λ (s : List ℕ). s ++ c ∷ b.0) (sym (front_of text m.front at m.is)) in
    never_text m.moved b.1 (subst (λ s. IsWhole s b.1 []) same b.3.0)

pub first_bad_stands : (text : List ℕ) (at : ℕ) (kind : LangErrorKind) → length text ≤ 4096 → IsRefusedAt text at kind → kind ≢ UnknownForm → IsFirstBad Spells text at
first_bad_stands text at kind short (inl long) known = absurd (omega (arith, long.0))
first_bad_stands text at kind short (inr refused) known = record {
  none = λ program rest h. never_text refused.2 program h.0;
  within = refused.1;
  before = before_it text at kind refused.2;
  there = λ lt b. at_it text at kind refused.1 refused.2 known (drop at text) refl lt b;
}

pub front_stands : (text : List ℕ) (at : ℕ) (kind : LangErrorKind) → length text ≤ 4096 → IsRefusedAt text at kind → CanBegin Spells (take at text)
front_stands text at kind short (inl long) = absurd (omega (arith, long.0))
front_stands text at kind short (inr refused) = before_it text at kind refused.2
