-- Two files of four bytes and one of eight, on a worker of four.
use Rattle.std.specs.Prelude.{[], ◌∷◌, codes}
use Rattle.tl_model.specs.Past.{Past, Told, without_tickets}
use Rattle.tl_rows.specs.Words.{DigestOf, at, both_inputs, call, cat, claim, done, evict, file_of, itself, job, made, only_text, opened, served}

abbrev pub eviction : DigestOf → Told
eviction digest =
    evict 0 0 (file_of 2 0)
    ∷ served digest 0 (file_of 2 0) (codes "aaaabbbb")
    ∷ evict 0 0 (file_of 1 0)
    ∷ done 0 0 2
    ∷ evict 0 0 (file_of 0 0)
    ∷ claim 0 0 2
    ∷ done 0 0 1
    ∷ claim 0 0 1
    ∷ done 0 0 0
    ∷ claim 0 0 0
    ∷ call 0 (opened 2 0) (cat 0 (codes "z"))
    ∷ call 0 (made 2) (job 3 both_inputs (at (codes "x") ∷ at (codes "y") ∷ []) (at (codes "z") ∷ []))
    ∷ call 0 (made 1) (job 3 (only_text (codes "bbbb")) [] (at (codes "y") ∷ []))
    ∷ call 0 (made 0) (job 3 (only_text (codes "aaaa")) [] (at (codes "x") ∷ []))
    ∷ []

abbrev pub eviction_past : Past
eviction_past = without_tickets (eviction itself)

-- the same where each of the two files of four bytes is on a worker of its own, of three
abbrev pub both_over : DigestOf → Told
both_over digest =
    evict 0 0 (file_of 2 0)
    ∷ done 0 0 2
    ∷ evict 0 1 (file_of 1 0)
    ∷ evict 0 0 (file_of 0 0)
    ∷ claim 0 0 2
    ∷ done 0 1 1
    ∷ claim 0 1 1
    ∷ done 0 0 0
    ∷ claim 0 0 0
    ∷ call 0 (made 2) (job 3 both_inputs (at (codes "x") ∷ at (codes "y") ∷ []) (at (codes "z") ∷ []))
    ∷ call 0 (made 1) (job 3 (only_text (codes "bbbb")) [] (at (codes "y") ∷ []))
    ∷ call 0 (made 0) (job 3 (only_text (codes "aaaa")) [] (at (codes "x") ∷ []))
    ∷ []

abbrev pub both_over_past : Past
both_over_past = without_tickets (both_over itself)
