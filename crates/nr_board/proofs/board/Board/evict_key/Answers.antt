use Rattle.std.proofs.Common.{ap, arith, refl}
use Rattle.nr_model.specs.declared.calls.Reply.TheVariants as reply
use Rattle.nr_core.specs.declared.places.Place.TheVariants.{Leaving}
use Rattle.nr_board.proofs.Looks.{evict_leaves, evict_nothing, has_looked}
use Rattle.nr_board.proofs.WriterCalls.{about_to_go, has_evicted, look_ends}
use Rattle.nr_board.specs.Callers.{Table}
use Rattle.nr_board.specs.SlotLists.{desk_with}
use Rattle.nr_board.proofs.board.Board.evict_key.Goals as goal

pub returns-then-not-found : goal.returns-then-not-found
returns-then-not-found g c =
    let looks = has_looked c.requires.rests c.requires.own c.requires.call c.look.ensures in
    let parts = c.parts-found.ensures.parts in
    let told = look_ends looks reply.Nothing (evict_nothing looks parts c.if-not-found.true) in
    record { rests = told.0; evicts = told.1 }

pub unpublish-old_word-requires : goal.unpublish-old_word-requires
unpublish-old_word-requires g c =
    let looks = has_looked c.requires.rests c.requires.own c.requires.call c.look.ensures in
    let leaves = evict_leaves looks c.parts-found.ensures.parts c.if-not-found.false in
    record {
      desk = desk_with c.args.lists.now (Leaving c.args.key);
      writes = (about_to_go looks leaves).writes;
      place = refl;
      number_is = c.number.ensures;
    }

pub retire-requires : goal.retire-requires
retire-requires g c =
    let looks = has_looked c.requires.rests c.requires.own c.requires.call c.look.ensures in
    let leaves = evict_leaves looks c.parts-found.ensures.parts c.if-not-found.false in
    let leads = about_to_go looks leaves in
    omega (arith, leads.writes.room.place.1, c.requires.rests.slots, ap (λ (t : Table). t.shape.slots) c.requires.own)

pub returns : goal.returns
returns g c =
    let looks = has_looked c.requires.rests c.requires.own c.requires.call c.look.ensures in
    let leaves = evict_leaves looks c.parts-found.ensures.parts c.if-not-found.false in
    let told = has_evicted looks leaves c.unpublish-old_word.ensures c.retire.ensures in
    record { rests = told.0; evicts = told.1 }
