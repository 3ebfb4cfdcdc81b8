use Rattle.std.proofs.Common.{refl, sym, ◌∙◌}
use Rattle.tl_kind.proofs.Programs.{refused_no_job, refused_other, bytes_differ}
use Rattle.tl_kind.proofs.parsing.job_word.Goals as goal

pub returns-then-len-eq0-clause-bad : goal.returns-then-len-eq0-clause-bad
returns-then-len-eq0-clause-bad c = refused_no_job c.args.cursor.now.rest.now c.refused_first.result c.letters_len-len.result _ refl c.letters_len-len.ensures c.if-len-eq0.true c.refused_first.ensures

pub returns-then-ne-clause-bad : goal.returns-then-ne-clause-bad
returns-then-ne-clause-bad c =
    refused_other c.args.cursor.now.rest.now c.letters_len-len.result _ refl c.letters_len-len.ensures c.if-len-eq0.false
    (λ e. bytes_differ c.split_at.result.0.now c.as_slice.result.now c.if-ne.ensures (c.split_at.ensures.front ∙ e ∙ sym c.as_slice.ensures))
