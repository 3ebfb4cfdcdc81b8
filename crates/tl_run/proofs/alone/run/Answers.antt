use Rattle.std.proofs.Common.{refl, ◌∙◌}
use Rattle.tl_run.specs.declared.status.Status.TheVariants.{BadScript, ReadFault, TooLong}
use Rattle.tl_run.proofs.Endings.{ends_keeping, ends_without, nothing_without}
use Rattle.tl_run.proofs.alone.run.Goals as goal

pub returns-in_default : goal.returns-in_default
returns-in_default g c = nothing_without _ _ c.without.result.kept _ c.without.result.status c.without.ensures.kept c.without.ensures.status

pub returns-in-Err-NoMemory : goal.returns-in-Err-NoMemory
returns-in-Err-NoMemory g c =
    nothing_without _ _ c.without-in-Err-NoMemory.result.kept _ c.without-in-Err-NoMemory.result.status c.without-in-Err-NoMemory.ensures.kept c.without-in-Err-NoMemory.ensures.status

pub returns-in-Ok : goal.returns-in-Ok
returns-in-Ok g c =
    ends_keeping _ _ c.in-Ok.field-0.cluster c.kept_with.result _ _ c.finish-status.result c.deref.result.now (rw c.deref.ensures.value c.in-Ok.ensures) c.finish-status.ensures
    c.kept_with.ensures

pub returns-in-Ok-refusal : goal.returns-in-Ok-refusal
returns-in-Ok-refusal g c =
    let stop = rw c.in-Err-BadScript.field-0-is at c.in-Err-BadScript.ensures in
    ends_without _ _ c.without-in-Err-BadScript.result.kept _ _ BadScript c.finish.result c.without-in-Err-BadScript.result.status c.deref-in-Err-BadScript.result.now tt
    (record { bytes = stop.0; line = c.in-Err-BadScript.line; kind = c.in-Err-BadScript.kind; input = stop.1; refused = stop.2; printed = c.deref-in-Err-BadScript.ensures.value ∙ c.in-Ok-refusal.ensures })
    c.finish.ensures c.without-in-Err-BadScript.ensures.kept c.without-in-Err-BadScript.ensures.status

pub returns-in-Err-ReadFault : goal.returns-in-Err-ReadFault
returns-in-Err-ReadFault g c =
    let stop = rw c.in-Err-ReadFault.field-0-is at c.in-Err-ReadFault.ensures in
    ends_without _ _ c.without-in-Err-ReadFault.result.kept _ _ ReadFault c.finish-in-Err-ReadFault.result c.without-in-Err-ReadFault.result.status _ tt
    (record { faults = stop; printed = refl }) c.finish-in-Err-ReadFault.ensures c.without-in-Err-ReadFault.ensures.kept c.without-in-Err-ReadFault.ensures.status

pub returns-in-Err-TooLong : goal.returns-in-Err-TooLong
returns-in-Err-TooLong g c =
    let stop = rw c.in-Err-TooLong.field-0-is at c.in-Err-TooLong.ensures in
    ends_without _ _ c.without-in-Err-TooLong.result.kept _ _ TooLong c.finish-in-Err-TooLong.result c.without-in-Err-TooLong.result.status _ tt
    (record { more = stop.0; count = stop.1; printed = refl }) c.finish-in-Err-TooLong.ensures c.without-in-Err-TooLong.ensures.kept c.without-in-Err-TooLong.ensures.status
