use Rattle.std.proofs.Common.{rules, ◌≡◌, ℕ}
use Rattle.nr_idmap.specs.IdFinds.{line_of}
use Rattle.nr_idmap.specs.Keepers.{IdCaller}
use Rattle.nr_idmap.proofs.Finding.{finds_absent, finds_by_id}
use Rattle.nr_idmap.proofs.id_map.IdMap.find.Goals as goal

pub returns-clause-finds : goal.returns-clause-finds
returns-clause-finds g c =
    let own : IdCaller = record { caller = c.reader.inside.reader; ids = c.reader.inside.ids } in
    let line : c.first_way-first.result ≡ line_of c.args.id own.ids = search rules in
    rw (← c.reader.view_is)
    (finds_by_id g.R.RowRoom.shows c.args.id c.in-Some.at own c.find_in.new.reader
    c.first_way-first.result c.load_key.new.reader c.look_up.new.ids c.args.rows.now c.find_in.new.rows
    c.find_in.result line c.load_key.ensures.loads c.in-Some.ensures.looks c.find_in.ensures.finds)

pub returns-in_default-clause-finds : goal.returns-in_default-clause-finds
returns-in_default-clause-finds g c =
    let own : IdCaller = record { caller = c.reader.inside.reader; ids = c.reader.inside.ids } in
    let line : c.first_way-first.result ≡ line_of c.args.id own.ids = search rules in
    let key : ℕ = c.first_way-first.result in
    let its : key ≡ line_of c.args.id own.ids = line in
    rw (← c.reader.view_is)
    (finds_absent g.R.RowRoom.shows c.args.id own key c.load_key.new.reader c.look_up.new.ids c.args.rows.now
    its c.load_key.ensures.loads c.in_default.ensures.looks)
