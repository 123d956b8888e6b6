use Rattle.nr_idmap.proofs.Finding.{finds_inside}
use Rattle.nr_idmap.proofs.id_map.IdMap.find_in.Goals as goal

pub returns-clause-finds : goal.returns-clause-finds
returns-clause-finds g c = rw (← c.reader.view_is, c.tell.ensures.answer)
    (finds_inside g.R.RowRoom.shows c.args.id c.args.at
    (record { caller = c.reader.inside.reader; ids = c.reader.inside.ids }) c.find_tagged-found.new.reader
    c.tell.new.ids c.args.rows.now c.find_tagged-found.new.rows c.tag_of.result c.find_tagged-found.result
    c.tag_of.ensures c.find_tagged-found.ensures.finds c.tell.ensures.marks)
