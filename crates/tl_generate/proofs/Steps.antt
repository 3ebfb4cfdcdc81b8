-- What one more job does.
use Rattle.std.proofs.Common.{◌≡◌, ◌∙◌, ◌+◌, ℕ, suc, sym, ap, arith, List, ◌++◌, append_assoc}
use Rattle.tl_generate.specs.Generated.{drawn, drawn_to, job_lines, jobs_to}

pub more_jobs : (start text after : List ℕ) (before number seed x : ℕ) → number ≡ before + 1 → x ≡ drawn_to before seed → text ≡ start ++ jobs_to before seed
    → after ≡ text ++ job_lines number x → after ≡ start ++ jobs_to (before + 1) seed
more_jobs start text after before number seed x is at sofar more =
    let next : number ≡ suc before = omega arith in
    let same : before + 1 ≡ suc before = omega arith in
    more ∙ ap (λ t. t ++ job_lines number x) sofar ∙ (λ i. (start ++ jobs_to before seed) ++ job_lines (next i) (at i)) ∙ append_assoc start (jobs_to before seed) _
    ∙ ap (λ n. start ++ jobs_to n seed) (sym same)

pub more_draws : (before seed x after : ℕ) → x ≡ drawn_to before seed → after ≡ drawn (drawn x) → after ≡ drawn_to (before + 1) seed
more_draws before seed x after at is =
    let same : before + 1 ≡ suc before = omega arith in
    is ∙ ap (λ y. drawn (drawn y)) at ∙ ap (λ n. drawn_to n seed) (sym same)
