-- The numbers of a header.
use Rattle.std.proofs.Common.{◌≡◌, ℕ, ◌≤◌, List, [], ◌∷◌, ◌++◌, codes, get_or, Result, Ok, Err, refl, sym, ◌∙◌, ap, arith}
use Rattle.std.specs.Prelude.{decimal}
use Rattle.std.proofs.lemmas.List.{append_cancel_left}
use Rattle.tl_text.specs.Number.{IsNumber, BeginsWithNoDigit}
use Rattle.tl_text.specs.declared.error.TextError.{TextError}
use Rattle.tl_text.proofs.Numbers.{one_number_stands}
use Rattle.tl_model.specs.declared.header.Header.{Header}
use Rattle.tl_model.specs.declared.header.OrderRule.{OrderRule}
use Rattle.tl_model.specs.declared.header.OrderRule.TheVariants.{Strict, Shares}
use Rattle.tl_model.specs.declared.header.Version.{Version}
use Rattle.tl_model.specs.declared.header.Version.TheVariants.{One, Two}
use Rattle.tl_script.specs.Script.{version_text, order_text}

pub numeral_is : (text words numeral : List ℕ) (n : ℕ) (rest : List ℕ) → text ≡ words ++ numeral → text ≡ words ++ (decimal n ++ rest) → n ≤ 18446744073709551615 → BeginsWithNoDigit rest → IsNumber 18446744073709551615 numeral n rest
numeral_is text words numeral n rest e f small whole = record { spelled = append_cancel_left words numeral (decimal n ++ rest) (sym e ∙ f); small = small; whole = whole }

pub no_error : (e : TextError) (r : ℕ × ℕ) → ◌≡◌ {A = Result (ℕ × ℕ) TextError} (Err e) (Ok r) → ⊥
no_error e r h = cc

pub same_number : (a b n m : ℕ) → ◌≡◌ {A = Result (ℕ × ℕ) TextError} (Ok (a, b)) (Ok (n, m)) → a ≡ n
same_number a b n m h = let pairs : ◌≡◌ {A = ℕ × ℕ} (a, b) (n, m) = cc in ap (λ (p : ℕ × ℕ). p.0) pairs

-- words, a number and more are so in one way
pub behind : (text words : List ℕ) (a n : ℕ) (r s : List ℕ) → text ≡ words ++ (decimal a ++ r) → text ≡ words ++ (decimal n ++ s) → a ≤ 18446744073709551615 → n ≤ 18446744073709551615 → BeginsWithNoDigit r → BeginsWithNoDigit s → (a ≡ n) × (r ≡ s)
behind text words a n r s e f small small' whole whole' =
    one_number_stands 18446744073709551615 a n (decimal a ++ r) r s (omega arith)
    (record { spelled = refl; small = small; whole = whole })
    (record { spelled = append_cancel_left words (decimal a ++ r) (decimal n ++ s) (sym e ∙ f); small = small'; whole = whole' })

no_digit_at_space : (rest : List ℕ) → BeginsWithNoDigit (0x20 ∷ rest)
no_digit_at_space rest = λ d. omega (arith, d.0, d.1)

abbrev pub behind_capacity : Header → List ℕ
behind_capacity h = codes " hot " ++ (decimal h.hot ++ order_text h.version h.order)

abbrev pub behind_workers : Header → List ℕ
behind_workers h = codes " capacity " ++ (decimal h.capacity ++ behind_capacity h)

abbrev pub behind_version : Header → List ℕ
behind_version h = codes " workers " ++ (decimal h.workers ++ behind_workers h)

pub no_digit_workers : (h : Header) → BeginsWithNoDigit (behind_workers h)
no_digit_workers h = no_digit_at_space (codes "capacity " ++ (decimal h.capacity ++ behind_capacity h))

pub no_digit_capacity : (h : Header) → BeginsWithNoDigit (behind_capacity h)
no_digit_capacity h = no_digit_at_space (codes "hot " ++ (decimal h.hot ++ order_text h.version h.order))

pub no_digit_order : (version : Version) (order : OrderRule) → BeginsWithNoDigit (order_text version order)
no_digit_order One Strict = tt
no_digit_order One Shares = no_digit_at_space (codes "shares")
no_digit_order Two Strict = no_digit_at_space (codes "order strict")
no_digit_order Two Shares = no_digit_at_space (codes "order shares")

-- ---- the version and the order

-- two texts that differ at a place
apart : (s t : List ℕ) (place : ℕ) → (get_or s place 0 ≡ get_or t place 0 → ⊥) → s ≡ t → ⊥
apart s t place differ e = differ (ap (λ (bytes : List ℕ). get_or bytes place 0) e)

one_is_not_two : (r s : List ℕ) → version_text One ++ r ≡ version_text Two ++ s → ⊥
one_is_not_two r s e = apart (version_text One ++ r) (version_text Two ++ s) 8 (λ (same : ◌≡◌ {A = ℕ} 49 50). omega (arith, same)) e

-- words of a version and more are so in one way
pub one_version : (text : List ℕ) (v u : Version) (r s : List ℕ) → text ≡ version_text v ++ r → text ≡ version_text u ++ s → (v ≡ u) × (r ≡ s)
one_version text One One r s e f = (refl, append_cancel_left (version_text One) r s (sym e ∙ f))
one_version text Two Two r s e f = (refl, append_cancel_left (version_text Two) r s (sym e ∙ f))
one_version text One Two r s e f = absurd (one_is_not_two r s (sym e ∙ f))
one_version text Two One r s e f = absurd (one_is_not_two s r (sym f ∙ e))

strict_is_not_shares : (version : Version) → order_text version Strict ≡ order_text version Shares → ⊥
strict_is_not_shares One e = apart [] (codes " shares") 0 (λ (same : ◌≡◌ {A = ℕ} 0 32). omega (arith, same)) e
strict_is_not_shares Two e = apart (codes " order strict") (codes " order shares") 8 (λ (same : ◌≡◌ {A = ℕ} 116 104). omega (arith, same)) e

pub one_order : (version : Version) (order other : OrderRule) → order_text version order ≡ order_text version other → order ≡ other
one_order version Strict Strict e = refl
one_order version Shares Shares e = refl
one_order version Strict Shares e = absurd (strict_is_not_shares version e)
one_order version Shares Strict e = absurd (strict_is_not_shares version (sym e))
