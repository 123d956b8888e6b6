use Rattle.std.proofs.Common.{rules}
use Rattle.nr_core.proofs.Noted.{none_reaped}
use Rattle.nr_core.proofs.slot_lists.SlotLists.open.Goals as goal

-- src/slot_lists.rt:50:5
pub returns : goal.returns
returns c =
    let noted = none_reaped c.args.shape.now.slots in
    search (rules, noted)
