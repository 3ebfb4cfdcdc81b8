-- Words one after the other.
use Rattle.std.proofs.Common.{◌≡◌, ℕ, List, [], ◌∷◌, ◌++◌, ap, sym, ◌∙◌, append_assoc, append-nil, map, OnOk, Result, Ok, Err}
use Rattle.std.specs.List.{flat_map}
use Rattle.tl_model.specs.declared.reply.Entry.{Entry}
use Rattle.tl_report.specs.Words.{spaced, entry_word}

-- each name after the first word comes behind a space
pub spaced_names : (word : List ℕ) (entries : List Entry) → spaced (word ∷ map entry_word entries) ≡ word ++ flat_map (λ entry. 0x20 ∷ entry_word entry) entries
spaced_names word [] = sym (append-nil word)
spaced_names word (entry ∷ entries) = ap (λ rest. word ++ 0x20 ∷ rest) (spaced_names (entry_word entry) entries)

-- what two steps print is what the first and the second print
pub two_steps : {A E : Type 0} (result : Result A E) (old between new first second both : List ℕ)
    → between ≡ old ++ first → first ++ second ≡ both → OnOk result (new ≡ between ++ second) → OnOk result (new ≡ old ++ both)
two_steps (Ok a) old between new first second both begun joined ended =
    ended ∙ ap (λ texts. texts ++ second) begun ∙ append_assoc old first second ∙ ap (λ texts. old ++ texts) joined
two_steps (Err e) old between new first second both begun joined ended = ended
