use Rattle.std.proofs.Common.{ap, inl, inr, refl, subst}
use Rattle.nr_map.specs.Remains.{TakenApart}
use Rattle.nr_c.specs.Endings.{HasEnded}
use Rattle.nr_c.specs.declared.writer_side.WriterSide.{WriterSide}
use Rattle.nr_c.proofs.remains.nr_take_apart.Goals as goal

pub returns-then-is_live : goal.returns-then-is_live
returns-then-is_live c =
    let lives = c.if-not-is_live.ensures.live in let other = c.if-is_live.ensures.live in
    rw (← c.is_live.ensures.same, ← c.is_live-2.ensures.same, lives.1, other.1)
    (inr (inl (refl, tt, tt, refl, refl)))

pub returns-then-not-has_all_readers : goal.returns-then-not-has_all_readers
returns-then-not-has_all_readers c =
    rw (← c.is_live.ensures.same, c.side.ensures.value, ← c.is_live-2.ensures.same, c.if-is_live.ensures.empty)
    (inr (inr (tt, refl, inl (refl, refl, refl, c.if-not-has_all_readers.ensures.not_all))))

pub close-map-requires : goal.close-map-requires
close-map-requires c = (_, refl)

pub returns : goal.returns
returns c =
    let same = c.close-map.ensures.ends c.side.result.now refl in
    rw (← c.is_live.ensures.same, c.side.ensures.value, ← c.is_live-2.ensures.same, c.if-is_live.ensures.empty)
    (rw c.lead_to.ensures (inr (inr (
      tt,
      refl,
      inr (
        refl,
        c.close-map.ensures.empty,
        record {
          all = c.if-not-has_all_readers.ensures.all;
          left = _;
          is = refl;
          map = ap (λ (held : WriterSide). held.map) same;
          apart = subst (λ (held : WriterSide). TakenApart held.writer c.leave-rest.result) same c.leave-rest.ensures;
          watch = subst (λ (held : WriterSide). HasEnded held.watch) same c.leave.ensures;
        },
      ),
    ))))
