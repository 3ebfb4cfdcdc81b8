use Rattle.std.proofs.Common.{◌*◌, ◌≤◌, length, arith}
use Rattle.std.proofs.lemmas.Result.{on_ok_weaker}
use Rattle.tl_numbers.proofs.Layering.{grown-bit, grown-none, kept, widened}
use Rattle.tl_numbers.proofs.number_set.grow_all.Goals as goal

pub returns-in_err-grow-clause-same : goal.returns-in_err-grow-clause-same
returns-in_err-grow-clause-same c = grown-bit _ _ _ c.grow.ensures.grown

pub returns-in_err-grow-clause-kept : goal.returns-in_err-grow-clause-kept
returns-in_err-grow-clause-kept c =
    let few : c.div_ceil-words.result ≤ 262144 = omega (arith, c.div_ceil-words.ensures, c.requires) in
    kept _ 0 0 _ _ _ _ _ _ _ _ few (omega arith) (omega arith)
    c.grow.ensures.grown (grown-none 0 c.args.second.now.items) (grown-none 0 c.args.third.now.items) (grown-none 1 c.args.fourth.now.items)

pub returns-in_err-grow-2-clause-same : goal.returns-in_err-grow-2-clause-same
returns-in_err-grow-2-clause-same c = grown-bit _ _ _ c.grow.ensures.grown

pub returns-in_err-grow-2-clause-kept : goal.returns-in_err-grow-2-clause-kept
returns-in_err-grow-2-clause-kept c =
    let few : c.div_ceil-words.result ≤ 262144 = omega (arith, c.div_ceil-words.ensures, c.requires) in
    let fewer : c.div_ceil-words-2.result ≤ 262144 = omega (arith, c.div_ceil-words-2.ensures, few) in
    kept _ _ 0 _ _ _ _ _ _ _ _ few fewer (omega arith)
    c.grow.ensures.grown c.grow-2.ensures.grown (grown-none 0 c.args.third.now.items) (grown-none 1 c.args.fourth.now.items)

pub returns-in_err-grow-3-clause-same : goal.returns-in_err-grow-3-clause-same
returns-in_err-grow-3-clause-same c = grown-bit _ _ _ c.grow.ensures.grown

pub returns-in_err-grow-3-clause-kept : goal.returns-in_err-grow-3-clause-kept
returns-in_err-grow-3-clause-kept c =
    let few : c.div_ceil-words.result ≤ 262144 = omega (arith, c.div_ceil-words.ensures, c.requires) in
    let fewer : c.div_ceil-words-2.result ≤ 262144 = omega (arith, c.div_ceil-words-2.ensures, few) in
    let fewest : c.div_ceil-words-3.result ≤ 262144 = omega (arith, c.div_ceil-words-3.ensures, fewer) in
    kept _ _ _ _ _ _ _ _ _ _ _ few fewer fewest
    c.grow.ensures.grown c.grow-2.ensures.grown c.grow-3.ensures.grown (grown-none 1 c.args.fourth.now.items)

pub returns-clause-same : goal.returns-clause-same
returns-clause-same c = grown-bit _ _ _ c.grow.ensures.grown

pub returns-clause-kept : goal.returns-clause-kept
returns-clause-kept c =
    let few : c.div_ceil-words.result ≤ 262144 = omega (arith, c.div_ceil-words.ensures, c.requires) in
    let fewer : c.div_ceil-words-2.result ≤ 262144 = omega (arith, c.div_ceil-words-2.ensures, few) in
    let fewest : c.div_ceil-words-3.result ≤ 262144 = omega (arith, c.div_ceil-words-3.ensures, fewer) in
    kept _ _ _ _ _ _ _ _ _ _ _ few fewer fewest
    c.grow.ensures.grown c.grow-2.ensures.grown c.grow-3.ensures.grown c.grow-4.ensures.grown

pub returns-clause-grown : goal.returns-clause-grown
returns-clause-grown c =
    let few : c.div_ceil-words.result ≤ 262144 = omega (arith, c.div_ceil-words.ensures, c.requires) in
    let fewer : c.div_ceil-words-2.result ≤ 262144 = omega (arith, c.div_ceil-words-2.ensures, few) in
    let fewest : c.div_ceil-words-3.result ≤ 262144 = omega (arith, c.div_ceil-words-3.ensures, fewer) in
    let first : c.args.bound ≤ 64 * length c.grow.new.words.items = omega (arith, c.div_ceil-words.ensures, c.in_ok-grow.ensures.len) in
    let second : c.args.bound ≤ 4096 * length c.grow-2.new.words.items = omega (arith, c.div_ceil-words.ensures, c.div_ceil-words-2.ensures, c.in_ok-grow-2.ensures.len) in
    let third : c.args.bound ≤ 262144 * length c.grow-3.new.words.items = omega (arith, c.div_ceil-words.ensures, c.div_ceil-words-2.ensures, c.div_ceil-words-3.ensures, c.in_ok-grow-3.ensures.len) in
    on_ok_weaker c.grow-4.result
    (λ fourth old more.
    widened _ _ _ _ _ _ _ _ _ _ _ few fewer fewest
    c.grow.ensures.grown c.grow-2.ensures.grown c.grow-3.ensures.grown c.grow-4.ensures.grown
    old c.args.bound more c.requires first second third (omega (arith, fourth, c.requires)))
    c.grow-4.ensures.len
