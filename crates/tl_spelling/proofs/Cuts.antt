-- Words, numbers, files and digests stand at the front of a text in one way only.
use Rattle.std.proofs.Common.{◌≡◌, ℕ, ◌<◌, ◌≤◌, ◌^◌, List, [], ◌∷◌, ◌++◌, decimal, length, refl, sym, ◌∙◌, ap, arith, append_assoc, append-nil}
use Rattle.hex.specs.Hex.{encode_lower}
use Rattle.tl_types.specs.declared.digest.Digest.{Digest}
use Rattle.tl_types.specs.declared.file_id.FileId.{FileId}
use Rattle.tl_types.specs.declared.record_id.RecordId.{RecordId}
use Rattle.tl_types.specs.declared.worker_id.WorkerId.{WorkerId}
use Rattle.tl_text.specs.Number.{BeginsWithNoDigit, IsNumber}
use Rattle.tl_text.specs.File.{file_text}
use Rattle.tl_text.proofs.Numbers.{one_number_stands}
use Rattle.tl_text.proofs.Digests.{one_digest_stands}
use Rattle.tl_spelling.specs.Shown.{IsRecord, IsWorker, IsFile, IsSum}

pub tail_of : (b c : ℕ) (s t : List ℕ) → b ∷ s ≡ c ∷ t → s ≡ t
tail_of b c s t e = cc

pub no_digit_at_space : (rest : List ℕ) → BeginsWithNoDigit (0x20 ∷ rest)
no_digit_at_space rest = λ d. omega (arith, d.0, d.1)

no_digit_at_dot : (rest : List ℕ) → BeginsWithNoDigit (0x2E ∷ rest)
no_digit_at_dot rest = λ d. omega (arith, d.0, d.1)

pub cut_number : (m n : ℕ) (x y : List ℕ) → m ≤ 18446744073709551615 → n ≤ 18446744073709551615 → BeginsWithNoDigit x → BeginsWithNoDigit y
    → decimal m ++ x ≡ decimal n ++ y → (m ≡ n) × (x ≡ y)
cut_number m n x y small small' whole whole' e =
    one_number_stands 18446744073709551615 m n (decimal m ++ x) x y (omega arith)
    (record { spelled = refl; small = small; whole = whole }) (record { spelled = e; small = small'; whole = whole' })

pub whole_number : (m n : ℕ) → m ≤ 18446744073709551615 → n ≤ 18446744073709551615 → decimal m ≡ decimal n → m ≡ n
whole_number m n small small' e =
    let joined : decimal m ++ [] ≡ decimal n ++ [] = append-nil (decimal m) ∙ e ∙ sym (append-nil (decimal n)) in
    (cut_number m n [] [] small small' tt tt joined).0

-- ---- records and workers

pub cut_record : (r s : RecordId) (x y : List ℕ) → IsRecord r → IsRecord s → BeginsWithNoDigit x → BeginsWithNoDigit y → decimal r.0 ++ x ≡ decimal s.0 ++ y → (r ≡ s) × (x ≡ y)
cut_record r s x y small small' whole whole' e =
    let cut = cut_number r.0 s.0 x y (omega (arith, small)) (omega (arith, small')) whole whole' e in
    (λ j. record { 0 = cut.0 j }, cut.1)

pub whole_record : (r s : RecordId) → IsRecord r → IsRecord s → decimal r.0 ≡ decimal s.0 → r ≡ s
whole_record r s small small' e =
    let same = whole_number r.0 s.0 (omega (arith, small)) (omega (arith, small')) e in λ j. record { 0 = same j }

pub cut_worker : (v w : WorkerId) (x y : List ℕ) → IsWorker v → IsWorker w → BeginsWithNoDigit x → BeginsWithNoDigit y → decimal v.0 ++ x ≡ decimal w.0 ++ y → (v ≡ w) × (x ≡ y)
cut_worker v w x y small small' whole whole' e =
    let cut = cut_number v.0 w.0 x y (omega (arith, small)) (omega (arith, small')) whole whole' e in
    (λ j. record { 0 = cut.0 j }, cut.1)

pub whole_worker : (v w : WorkerId) → IsWorker v → IsWorker w → decimal v.0 ≡ decimal w.0 → v ≡ w
whole_worker v w small small' e =
    let same = whole_number v.0 w.0 (omega (arith, small)) (omega (arith, small')) e in λ j. record { 0 = same j }

-- ---- files

pub cut_file : (f g : FileId) (x y : List ℕ) → IsFile f → IsFile g → BeginsWithNoDigit x → BeginsWithNoDigit y → file_text f ++ x ≡ file_text g ++ y → (f ≡ g) × (x ≡ y)
cut_file f g x y small small' whole whole' e =
    let flat : decimal f.rec.0 ++ (0x2E ∷ (decimal f.out ++ x)) ≡ decimal g.rec.0 ++ (0x2E ∷ (decimal g.out ++ y)) =
    sym (append_assoc (decimal f.rec.0) (0x2E ∷ decimal f.out) x) ∙ e ∙ append_assoc (decimal g.rec.0) (0x2E ∷ decimal g.out) y in
    let made = cut_record f.rec g.rec (0x2E ∷ (decimal f.out ++ x)) (0x2E ∷ (decimal g.out ++ y)) small.0 small'.0 (no_digit_at_dot (decimal f.out ++ x)) (no_digit_at_dot (decimal g.out ++ y)) flat in
    let outs = tail_of 0x2E 0x2E (decimal f.out ++ x) (decimal g.out ++ y) made.1 in
    let out = cut_number f.out g.out x y (omega (arith, small.1)) (omega (arith, small'.1)) whole whole' outs in
    (λ j. record { rec = made.0 j; out = out.0 j }, out.1)

pub whole_file : (f g : FileId) → IsFile f → IsFile g → file_text f ≡ file_text g → f ≡ g
whole_file f g small small' e =
    let joined : file_text f ++ [] ≡ file_text g ++ [] = append-nil (file_text f) ∙ e ∙ sym (append-nil (file_text g)) in
    (cut_file f g [] [] small small' tt tt joined).0

-- ---- digests

pub whole_digest : (d e : Digest) → IsSum d → IsSum e → encode_lower d.0 ≡ encode_lower e.0 → d ≡ e
whole_digest d e sum sum' same =
    let cut = one_digest_stands (encode_lower d.0) d.0 e.0 [] []
    (record { spelled = sym (append-nil (encode_lower d.0)); small = sum.0; size = sum.1 })
    (record { spelled = same ∙ sym (append-nil (encode_lower e.0)); small = sum'.0; size = sum'.1 }) in
    λ j. record { 0 = cut.0 j }
