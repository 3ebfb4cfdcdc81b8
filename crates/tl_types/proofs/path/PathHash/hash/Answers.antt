use Rattle.std.proofs.Common.{ℕ, ◌∙◌, ap, sym}
use Rattle.std.specs.Cmp.Derive.Mapped.{items_map}
use Rattle.std.specs.Global.{Vec}
use Rattle.std.specs.Hash.{HashWrites, slice, u8}
use Rattle.std.specs.List.{fold}
use Rattle.tl_types.proofs.path.PathHash.hash.Goals as goal

pub returns : goal.returns
returns g c =
    let mapped = items_map (λ (part : Vec ℕ). part.items) (slice u8) c.self.inside.parts.items in
    c.hash.ensures
    ∙ ap (λ (writes : HashWrites). fold g.H.Hasher.write c.args.state.now writes) (sym mapped ∙ ap (slice (slice u8)) c.self.view_is)
