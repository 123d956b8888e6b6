use Rattle.nr_map.proofs.laws.gathered_stands.Goals as goal

pub returns : goal.returns
returns c writer reader current slot holds =
    let placed = current.placed slot holds in (placed.0, placed.1, current.kept slot holds)
