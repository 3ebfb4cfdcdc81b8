-- For facts on written journals: what is stated of them computes where `computing` is unfolded.
use denote.Hole.Carrier.{hidden}
use Rattle.std.specs.Fmt.{digits}
use Rattle.sha2.specs.Sha256.{sha256, first_words, schedule, rounds, compress, hash_after, digest_bytes}
use Rattle.tl_lang.specs.declared.expr.Expr.TheBlock.{shape-the_row-Expr-0, hidden-the_row-Expr-0, shape-the_row-Expr-1, hidden-the_row-Expr-1}

unfoldable pub computing : Unit {0}
unfolding shape-the_row-Expr-0 hidden-the_row-Expr-0 shape-the_row-Expr-1 hidden-the_row-Expr-1 hidden digits sha256 first_words schedule rounds compress hash_after digest_bytes
computing = tt
