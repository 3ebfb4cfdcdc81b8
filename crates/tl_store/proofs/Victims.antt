-- The last of the blocks that is not excepted, one entry after another from the end.
use Rattle.std.proofs.Common.{◌≡◌, ◌∙◌, Bool, true, false, [], ◌∷◌, ◌++◌, reverse, Some, sym, ap, subst}
use Rattle.std.proofs.Math.Bool.{cond}
use Rattle.std.proofs.lemmas.List.{map-append, reverse-append}
use Rattle.std.specs.Map.{values_of}
use Rattle.tl_types.specs.Block.{FileOutcome}
use Rattle.tl_types.specs.declared.file_id.FileId.{FileId}
use Rattle.tl_store.specs.Contents.{first_kept, victim}
use Rattle.tl_store.specs.Kept.{Entries, IsKept, EachKept}

pub kept_ends : (es : Entries) (e : FileId × FileOutcome) → EachKept (es ++ e ∷ []) → EachKept es × IsKept e
kept_ends [] e k = (tt, k.0)
kept_ends (x ∷ es) e k = let rest = kept_ends es e k.1 in ((k.0, rest.0), rest.1)

pub victim_ends : (excepted : FileId → Bool) (es : Entries) (e : FileId × FileOutcome) → victim excepted (values_of (es ++ e ∷ [])) ≡ cond (excepted e.1.file) (victim excepted (values_of es)) (Some e.1.file)
victim_ends excepted es e = ap (λ vs. first_kept excepted (reverse vs)) (map-append (λ e. e.1) es (e ∷ [])) ∙ ap (first_kept excepted) (reverse-append (values_of es) (e.1 ∷ []))

module _ (excepted : FileId → Bool) (all left rest : Entries) (f : FileId) (block : FileOutcome) (cut : left ≡ rest ++ (f, block) ∷ []) (each : EachKept left) (same : victim excepted (values_of left) ≡ victim excepted (values_of all)) where
  split : EachKept rest × IsKept (f, block)
  split = kept_ends rest (f, block) (subst EachKept cut each)

  last : (b : Bool) → excepted f ≡ b → cond b (victim excepted (values_of rest)) (Some block.file) ≡ victim excepted (values_of all)
  last b h =
      ap (λ d. cond d (victim excepted (values_of rest)) (Some block.file)) (sym h ∙ ap excepted split.1.0)
      ∙ sym (victim_ends excepted rest (f, block)) ∙ sym (ap (λ es. victim excepted (values_of es)) cut) ∙ same

  -- the last of what is left is the one
  pub stops : excepted f ≡ false → Some f ≡ victim excepted (values_of all)
  stops h = ap Some split.1.0 ∙ last false h

  -- it is excepted, and the others are left
  pub goes_on : excepted f ≡ true → EachKept rest × (victim excepted (values_of rest) ≡ victim excepted (values_of all))
  goes_on h = (split.0, last true h)
