use Rattle.std.proofs.Common.{◌≡◌, ◌+◌, ◌-◌, ◌≤◌, ◌∙◌, length, take, sym, ap, arith}
use Rattle.tl_names.specs.Moves.{bytes_of}
use Rattle.tl_names.proofs.Movable.{bytes_limit, bytes_more, front_bytes}
use Rattle.tl_names.proofs.moves.bytes_above.Goals as goal

pub overflow_add-bytes-in-loop-i : goal.overflow_add-bytes-in-loop-i
overflow_add-bytes-in-loop-i c =
    let long : c.len.result ≡ length c.args.path.now = c.len.ensures.value in
    let end : c.saturating_sub-i-end.result ≡ c.len.result - 1 = c.saturating_sub-i-end.ensures in
    let so_far : c.loop-i.bytes ≡ bytes_of (take c.loop-i.i c.args.path.now) = c.loop-i.invariant in
    let more : bytes_of (take (c.loop-i.i + 1) c.args.path.now) ≡ bytes_of (take c.loop-i.i c.args.path.now) + (1 + length c.part.result.now)
    = bytes_more c.args.path.now c.loop-i.i c.part.result.now (omega arith) c.part.ensures in
    let front : bytes_of (take (c.loop-i.i + 1) c.args.path.now) ≤ bytes_of c.args.path.now = front_bytes c.args.path.now (c.loop-i.i + 1) in
    let limit : bytes_of c.args.path.now ≤ 1024 = bytes_limit c.args.path.now c.requires in
    omega arith

pub loop-i-preserved : goal.loop-i-preserved
loop-i-preserved c =
    let long : c.len.result ≡ length c.args.path.now = c.len.ensures.value in
    let end : c.saturating_sub-i-end.result ≡ c.len.result - 1 = c.saturating_sub-i-end.ensures in
    ap (λ n. n + (1 + length c.part.result.now)) c.loop-i.invariant ∙ sym (bytes_more c.args.path.now c.loop-i.i c.part.result.now (omega arith) c.part.ensures)
