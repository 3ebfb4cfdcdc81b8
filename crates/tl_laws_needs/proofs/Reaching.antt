-- Where nothing is owed, all that is named or read, and each end of a live record, can be had again.
use Rattle.std.proofs.Common.{◌≡◌, ℕ, suc, ◌+◌, ◌<◌, inl, inr, Bool, true, false, ◌&&◌, ◌||◌, List, [], ◌∷◌, length, reverse, slice_get, Some, refl, sym, ap, ◌∙◌, subst, arith}
use Rattle.std.specs.List.{list_any}
use Rattle.std.proofs.lemmas.Bool.{and_parts, or_left, or_right, or_cases, lt-ltb}
use Rattle.tl_types.specs.Same.{file_same, file_same-Decides}
use Rattle.tl_types.specs.declared.file_id.FileId.{FileId}
use Rattle.tl_types.specs.declared.record_id.RecordId.{RecordId}
use Rattle.tl_model.specs.declared.record.Record.{Record}
use Rattle.tl_model.specs.Past.{Past}
use Rattle.tl_model.specs.History.{names, records, record_at, id_of, inputs_of, output_count, outputs_of, has_input, has_output, is_output, is_named}
use Rattle.tl_model.specs.Actors.{is_read}
use Rattle.tl_model.specs.Residency.{is_saved}
use Rattle.tl_model.specs.Needs.{is_needed, is_made_by, can_make, makers, is_reachable, is_live, is_end_of, is_root}
use Rattle.tl_laws.proofs.Numbering.{get-within}
use Rattle.tl_laws.proofs.Order.{among-holds}
use Rattle.tl_laws.specs.Made.{IsOutputOf}
use Rattle.tl_laws.proofs.Ready.{chosen-has}
use Rattle.tl_laws_needs.proofs.Places.{which-output}
use Rattle.tl_laws_needs.proofs.Unneeded.{live-is-needed, named-is-needed}
use Rattle.tl_laws_needs.proofs.Makers.{IsWhole, IsMaker, IsInputAt, maker-at, maker-of-input, makers_before, can-make-below, get-reverse, place-from-end, each-input, named-is-made}

-- a file is reachable where its maker, if it has to be made, is needed
reached-at : (past : Past) → IsWhole past → (f : FileId) → IsOutputOf (records past) f → (b : Bool) → is_saved past f ≡ b →
    ((p : Record) → IsMaker past f p → is_saved past f ≡ false → is_needed past (id_of p) ≡ true) → is_reachable past f ≡ true
reached-at past whole f out true saved needs = or_left (is_saved past f) (is_made_by past (makers past) f) saved
reached-at past whole f out false unsaved needs =
    let it : (p : Record) × IsMaker past f p = maker-at past whole.sound f (record_at past f.rec) refl out unsaved in
    let maker = it.1 in
    let n : ℕ = length (records past) in
    let within : f.rec.0 < n = get-within (records past) f.rec.0 it.0 maker.at in
    let end : (m : ℕ) × (m + suc f.rec.0 ≡ n) = place-from-end f.rec.0 n within in
    let can : can_make past (makers_before past end.0) it.0 ≡ true =
    can-make-below past whole n n (omega arith) f.rec.0 end.0 it.0 within maker.at (needs it.0 maker unsaved) maker.job end.1 in
    or_right (is_saved past f) (is_made_by past (makers past) f)
    (chosen-has (can_make past) (λ r. is_output past f (id_of r)) (reverse (records past)) end.0 it.0 (get-reverse (records past) f.rec.0 end.0 it.0 maker.at end.1) can maker.output)

used-is-reached : (past : Past) → IsWhole past → (f : FileId) → IsOutputOf (records past) f → (is_named past f || is_read past f) ≡ true → is_reachable past f ≡ true
used-is-reached past whole f out used =
    reached-at past whole f out (is_saved past f) refl
    (λ p maker unsaved.
    named-is-needed past f.rec.0 p f.out whole.sound.numbers maker.at maker.small (ap (is_saved past) maker.file ∙ unsaved)
    (ap (λ (g : FileId). is_named past g || is_read past g) maker.file ∙ used))

pub named-is-reached : (past : Past) → IsWhole past → (f : FileId) → is_named past f ≡ true → is_reachable past f ≡ true
named-is-reached past whole f h =
    used-is-reached past whole f (named-is-made (records past) (names past) f whole.sound.made.named h) (or_left (is_named past f) (is_read past f) h)

pub read-is-reached : (past : Past) → IsWhole past → (f : FileId) → is_read past f ≡ true → is_reachable past f ≡ true
read-is-reached past whole f h = used-is-reached past whole f (whole.read f h) (or_right (is_named past f) (is_read past f) h)

pub input-is-reached : (past : Past) → IsWhole past → (i : ℕ) (r : Record) → slice_get (records past) i ≡ Some r → is_live past r ≡ true →
    (f : FileId) → has_input f r ≡ true → is_reachable past f ≡ true
input-is-reached past whole i r at live f reads =
    let known : IsInputAt past r f = among-holds (IsInputAt past r) f (inputs_of r) (each-input past whole.sound i r at) reads in
    let number : (id_of r).0 ≡ i = ap (λ (id : RecordId). id.0) (whole.sound.numbers i r at) in
    let less : f.rec.0 < i = (let below : f.rec.0 < (id_of r).0 = known.0 in omega arith) in
    reached-at past whole f known.1.0 (is_saved past f) refl
    (λ p maker unsaved. maker-of-input past whole i r f p at (live-is-needed past i r whole.sound.numbers at live) less reads unsaved maker)

output-is-reached : (past : Past) → IsWhole past → (i : ℕ) (r : Record) → slice_get (records past) i ≡ Some r → is_live past r ≡ true →
    (f : FileId) → f.rec ≡ id_of r → IsOutputOf (records past) f → is_reachable past f ≡ true
output-is-reached past whole i r at live f made out =
    reached-at past whole f out (is_saved past f) refl
    (λ p maker unsaved.
    let same : id_of p ≡ id_of r = ap (λ (g : FileId). g.rec) maker.file ∙ made in
    ap (is_needed past) same ∙ live-is-needed past i r whole.sound.numbers at live)

any-place : {A : Type 0} (p : A → Bool) (xs : List A) → list_any p xs ≡ true → (i : ℕ) × (x : A) × (slice_get xs i ≡ Some x) × (p x ≡ true)
any-place p [] is = absurd (cc)
any-place p (x ∷ xs) is = elim (or_cases (p x) (list_any p xs) is) [
  | inl h ↦ (0, x, refl, h)
  | inr h ↦ (let it = any-place p xs h in (suc it.0, it.1, it.2, it.3))
]

pub listed-output-is-reached : (past : Past) → IsWhole past → (i : ℕ) (r : Record) → slice_get (records past) i ≡ Some r → is_live past r ≡ true →
    (f : FileId) → list_any (file_same f) (outputs_of r) ≡ true → is_reachable past f ≡ true
listed-output-is-reached past whole i r at live f listed =
    let it = which-output (file_same f) (id_of r) 0 (output_count r) listed in
    let file : f ≡ record { rec = id_of r; out = it.0 } = (file_same-Decides f (record { rec = id_of r; out = it.0 })).0 it.1 in
    let small : it.0 < output_count r = (let below : it.0 < 0 + output_count r = it.2 in omega arith) in
    let there : slice_get (records past) (id_of r).0 ≡ Some r = ap (λ (id : RecordId). slice_get (records past) id.0) (whole.sound.numbers i r at) ∙ at in
    let out : IsOutputOf (records past) (record { rec = id_of r; out = it.0 }) = ap (λ o. has_output o it.0) there ∙ lt-ltb it.0 (output_count r) small in
    output-is-reached past whole i r at live f (ap (λ (g : FileId). g.rec) file) (subst (λ (g : FileId). IsOutputOf (records past) g) (sym file) out)

end-is-reached : (past : Past) → IsWhole past → (f : FileId) → list_any (λ r. is_end_of f r && is_live past r) (records past) ≡ true →
    is_reachable past f ≡ true
end-is-reached past whole f ends =
    let it = any-place (λ r. is_end_of f r && is_live past r) (records past) ends in
    let parts = and_parts (is_end_of f it.1) (is_live past it.1) it.3 in
    elim (or_cases (has_input f it.1) (list_any (file_same f) (outputs_of it.1)) parts.0) [
      | inl h ↦ input-is-reached past whole it.0 it.1 it.2 parts.1 f h
      | inr h ↦ listed-output-is-reached past whole it.0 it.1 it.2 parts.1 f h
    ]

pub root-is-reached : (past : Past) → IsWhole past → (f : FileId) → is_root past f ≡ true → is_reachable past f ≡ true
root-is-reached past whole f root =
    elim (or_cases (is_named past f || is_read past f) (list_any (λ r. is_end_of f r && is_live past r) (records past)) root) [
      | inl used ↦ elim (or_cases (is_named past f) (is_read past f) used) [
        | inl n ↦ named-is-reached past whole f n
        | inr r ↦ read-is-reached past whole f r
      ]
      | inr ends ↦ end-is-reached past whole f ends
    ]
