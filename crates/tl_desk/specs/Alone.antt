-- The desk of whoever has the whole cluster.
use Rattle.tl_desk.specs.declared.alone.Alone.{Alone}
use Rattle.tl_desk.specs.Finds.{Post}

-- whose it is, and its cluster's header
abbrev pub post_of : {T : Type 0} → Alone T → Post
post_of alone = record { actor = alone.actor; header = alone.cluster.header }
