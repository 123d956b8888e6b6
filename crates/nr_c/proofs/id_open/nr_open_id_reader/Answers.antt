use Rattle.std.proofs.Common.{◌≡◌, [], Some, append-nil, arith, inl, inr, refl}
use Rattle.std.proofs.lemmas.Grind.{common_steps}
use Rattle.std.proofs.lemmas.List.Elements.{All-pop}
use Rattle.nr_idmap.specs.Keepers.{IdCaller, id_table_of}
use Rattle.nr_c.proofs.id_open.nr_open_id_reader.Goals as goal

pub returns-then-is_live : goal.returns-then-is_live
returns-then-is_live c =
    let lives = c.if-not-is_live.ensures.live in let other = c.if-is_live.ensures.live in
    rw (← c.is_live.ensures.same, ← c.is_live-2.ensures.same, lives.1, other.1)
    (inr (inl (refl, tt, tt, refl, refl)))

pub returns-in_default : goal.returns-in_default
returns-in_default c =
    let none : c.side-side.result.now.spare.items ≡ []
    = grind (arith, common_steps, c.in_default.ensures.items, c.in_default.ensures.variant) in
    let left : c.pop.new.self.items ≡ [] = cc (append-nil c.pop.new.self.items, c.in_default.ensures.items) in
    rw (← c.is_live.ensures.same, c.side-side.ensures.value, ← c.is_live-2.ensures.same, c.if-is_live.ensures.empty)
    (inr (inr (tt, refl, inl (refl, ((refl, refl, refl, refl), (none, left)), refl))))

-- the readers that are left are the map's, as all were
pub invariant_of-side-in-Ok-1 : goal.invariant_of-side-in-Ok-1
invariant_of-side-in-Ok-1 c =
    let side = c.side-side.result.now in
    record {
      own = side.own;
      spares =
          (All-pop (λ (reader : IdCaller). id_table_of reader ≡ side.map.value) side.spare.items c.pop.new.self.items
          (Some c.in-Some.next) c.in-Some.ensures.items side.spares).0;
      owed = side.owed;
    }

pub returns-in-Ok : goal.returns-in-Ok
returns-in-Ok c =
    let (shared, reader) = c.in-Ok.ensures.ok in
    rw (← c.is_live.ensures.same, c.side-side.ensures.value, ← c.is_live-2.ensures.same, c.if-is_live.ensures.empty)
    (rw c.lead_to.ensures (inr (inr (
      tt,
      refl,
      inr (inl (
        refl,
        c.pop.new.self.items,
        c.in-Some.next,
        ((refl, refl, refl, refl), (c.in-Some.ensures.items, refl)),
        (shared, reader, c.in-Ok.ensures.watch.0, c.in-Ok.ensures.watch.1),
      )),
    ))))

pub returns-in-Err : goal.returns-in-Err
returns-in-Err c =
    let back = c.in-Err.ensures.back in
    rw (← c.is_live.ensures.same, c.side-side.ensures.value, ← c.is_live-2.ensures.same, c.if-is_live.ensures.empty)
    (inr (inr (
      tt,
      refl,
      inr (inr (
        refl,
        c.pop.new.self.items,
        c.in-Some.next,
        ((refl, refl, refl, refl), (c.in-Some.ensures.items, cc c.push_reserved.ensures.items)),
        refl,
      )),
    )))
