use Rattle.std.proofs.Common.{◌≡◌, ℕ, ◌-◌, List, ◌∷◌, length, take, drop, arith}
use Rattle.std.proofs.lemmas.List.{take_all}
use Rattle.nr_model.specs.declared.rows.Row.{Row}
use Rattle.nr_idmap.specs.Tags.{tag_of}
use Rattle.nr_board.proofs.LaterRows.{set_behind}
use Rattle.nr_idmap.proofs.rows.copy_behind.Goals as goal

behind : (id : ℕ) (set rows : List Row) → set ≡ tag_of id ∷ rows → take (length set - 1) (drop 1 set) ≡ rows
behind id set rows is = rw is (take_all (length (tag_of id ∷ rows) - 1) rows (omega arith))

pub refill-requires-clause-row_set : goal.refill-requires-clause-row_set
refill-requires-clause-row_set g c = let tag = c.has_tag.ensures.0 c.if-not-has_tag.false in
    rw (behind c.args.id c.args.set.now tag.0 tag.1)
    (set_behind 255 (tag_of c.args.id) tag.0 (rw tag.1 at c.requires.row_set))
