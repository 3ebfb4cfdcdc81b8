use Rattle.tl_io.proofs.Giving.{gives-from}
use Rattle.tl_io.proofs.sure_source.SureSourceSource.read.Goals as goal

pub returns-clause-bytes : goal.returns-clause-bytes
returns-clause-bytes c =
    let least = rw c.deref.ensures.value at c.min-n.ensures in
    let copied = rw c.deref.ensures.value at c.copy_from_slice.ensures.after in
    rw (← c.self.view_is)
    (gives-from c.self.inside.bytes.items c.args.into.now c.copy_from_slice.new.self c.self.inside.at c.min-n.result least copied c.requires)
