-- Which files are named after an event.
use Rattle.std.proofs.Common.{◌≡◌, ◌∙◌, ℕ, ◌+◌, ◌<◌, ◌≤◌, inl, inr, Bool, true, false, ◌&&◌, not, List, [], ◌∷◌, length, slice_get, Option, Some, None, refl, sym, ap, subst, arith}
use Rattle.std.specs.List.{list_any}
use Rattle.std.proofs.lemmas.Bool.{or_left, or_right}
use Rattle.tl_types.specs.Same.{file_same-Decides}
use Rattle.tl_types.specs.declared.file_id.FileId.{FileId}
use Rattle.tl_types.specs.declared.record_id.RecordId.{RecordId}
use Rattle.tl_model.specs.declared.command.Command.{Command}
use Rattle.tl_model.specs.declared.command.Command.TheVariants.{Put, Job}
use Rattle.tl_model.specs.declared.reply.Reply.{Reply}
use Rattle.tl_model.specs.declared.reply.Reply.TheVariants.{Made}
use Rattle.tl_model.specs.declared.event.Act.TheVariants.{Call}
use Rattle.tl_model.specs.declared.record.Record.{Record}
use Rattle.tl_model.specs.declared.record.Record.TheVariants as kind
use Rattle.tl_model.specs.Namespace.{PathOf, Names, file}
use Rattle.tl_model.specs.Past.{Past, Plain}
use Rattle.tl_model.specs.History.{files_at, has_output, id_of, is_file_node, is_named, names, names_after, output_count, record_made, records}
use Rattle.tl_laws.proofs.Numbering.{below_or_not, get-within}
use Rattle.tl_laws.proofs.FreePaths.{grown_names, grown_outputs}
use Rattle.tl_laws.proofs.Growing.{IsGrown}
use Rattle.tl_laws.specs.Made.{IsOutputOf}
use Rattle.tl_steps.specs.Steps.{UnnamesOnly, is_gone}

-- ---- the files that were there

named-by : (was now : Bool) → (now ≡ true → was ≡ true) → (was && not (was && not now)) ≡ now
named-by true true h = refl
named-by true false h = refl
named-by false true h = let never : false ≡ true = h refl in absurd (cc)
named-by false false h = refl

-- a file of an older record gets no name
abbrev pub NoNewNames : Past → Past → Type 0
NoNewNames past now = (f : FileId) → f.rec.0 < length (records past) → is_named now f ≡ true → is_named past f ≡ true

within-records : (rs : List Record) (f : FileId) (o : Option Record) → slice_get rs f.rec.0 ≡ o → has_output o f.out ≡ true → f.rec.0 < length rs
within-records rs f None at is = absurd (cc)
within-records rs f (Some r) at is = get-within rs f.rec.0 r at

pub named-same : (past : Past) (e : Plain) (lost : Option FileId) (f : FileId) → UnnamesOnly past e lost → NoNewNames past (e ∷ past) → IsOutputOf (records past) f →
    (is_named past f && not (is_gone lost f)) ≡ is_named (e ∷ past) f
named-same past e lost f only older is =
    ap (λ b. is_named past f && not b) (only f)
    ∙ named-by (is_named past f) (is_named (e ∷ past) f) (older f (within-records (records past) f (slice_get (records past) f.rec.0) refl is))

-- ---- the files of a new record

-- the names have the file
abbrev pub IsIn : Names → FileId → Type 0
IsIn names f = list_any (λ entry. is_file_node f entry.1) names ≡ true

-- the name that was given last
pub just-named : (path : PathOf) (names : Names) (made : RecordId) (k j : ℕ) → j ≡ k →
    IsIn ((path, file (record { rec = made; out = k }) false) ∷ names) (record { rec = made; out = j })
just-named path names made k j same =
    or_left (is_file_node (record { rec = made; out = j }) (file (record { rec = made; out = k }) false)) (list_any (λ entry. is_file_node (record { rec = made; out = j }) entry.1) names)
    ((file_same-Decides (record { rec = made; out = j }) (record { rec = made; out = k })).1 (λ i. record { rec = made; out = same i }))

stays-named : (names : Names) (made : RecordId) (k : ℕ) (outputs : List PathOf) (f : FileId) → IsIn names f → IsIn (grown_outputs names made k outputs) f
stays-named names made k [] f is = is
stays-named names made k (path ∷ outputs) f is =
    stays-named ((path, file (record { rec = made; out = k }) false) ∷ names) made (k + 1) outputs f
    (or_right (is_file_node f (file (record { rec = made; out = k }) false)) (list_any (λ entry. is_file_node f entry.1) names) is)

pub outputs-named : (names : Names) (made : RecordId) (k : ℕ) (outputs : List PathOf) (j : ℕ) → k ≤ j → j < k + length outputs →
    IsIn (grown_outputs names made k outputs) (record { rec = made; out = j })
outputs-named names made k [] j from less = absurd (omega arith)
outputs-named names made k (path ∷ outputs) j from less = elim (below_or_not k j) [
  | inl later ↦ outputs-named ((path, file (record { rec = made; out = k }) false) ∷ names) made (k + 1) outputs j (omega arith) (omega arith)
  | inr here ↦ stays-named ((path, file (record { rec = made; out = k }) false) ∷ names) made (k + 1) outputs (record { rec = made; out = j })
      (just-named path names made k j (omega arith))
]

-- each output of a record is named once a call that gives names to free paths has added it
pub accepted-named : (past : Past) (reply : Reply) (command : Command (Unit {0})) (r : Record) → IsGrown past (Call command reply) →
    record_made reply command (names past) ≡ r ∷ [] → (j : ℕ) → j < output_count r → IsIn (names_after reply command (names past)) (record { rec = id_of r; out = j })
accepted-named past reply command r grown made j less =
    subst (λ ns. IsIn ns (record { rec = id_of r; out = j })) (sym grown) (by reply command r made less)
  where
    by : (reply : Reply) (command : Command (Unit {0})) (r : Record) → record_made reply command (names past) ≡ r ∷ [] → j < output_count r →
        IsIn (grown_names reply command (names past)) (record { rec = id_of r; out = j })
    by (Made made) (Put path len digest ticket) r is few =
        let it : kind.Put made ≡ r = cc in
        subst (λ (r : Record). j < output_count r → IsIn ((path, file (record { rec = made; out = 0 }) false) ∷ names past) (record { rec = id_of r; out = j })) it
        (λ few. just-named path (names past) made 0 j (omega arith)) few
    by (Made made) (Job core prio inputs outputs) r is few =
        let it : kind.Job made core prio (files_at (names past) inputs) (length outputs) ≡ r = cc in
        subst (λ (r : Record). j < output_count r → IsIn (grown_outputs (names past) made 0 outputs) (record { rec = id_of r; out = j })) it
        (λ few. outputs-named (names past) made 0 outputs j (omega arith) (let less : j < length outputs = few in omega arith)) few
    by reply command r is few = absurd (cc)
