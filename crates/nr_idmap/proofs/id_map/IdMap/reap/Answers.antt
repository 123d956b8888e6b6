use Rattle.nr_idmap.proofs.id_map.IdMap.reap.Goals as goal

pub returns-clause-reaps : goal.returns-clause-reaps
returns-clause-reaps g c = rw (← c.writer.view_is) c.reap.ensures
