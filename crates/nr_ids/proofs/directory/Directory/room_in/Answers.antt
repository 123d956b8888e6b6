use Rattle.std.proofs.Common.{◌≡◌, ◌<◌, ℕ, ap, arith, subst, sym, ◌∙◌}
use Rattle.std.specs.Int.{bit_at}
use Rattle.std.proofs.lemmas.Nat.Bits.{bit_at-zero}
use Rattle.nr_ids.specs.Events.{hint_at}
use Rattle.nr_ids.specs.Tokens.{Opened, token}
use Rattle.nr_ids.proofs.Hinted.{no_hint}
use Rattle.nr_ids.proofs.Admitting.{none_free}
use Rattle.nr_ids.proofs.directory.Directory.room_in.Goals as goal

pub returns-then-free-eq0-clause-room : goal.returns-then-free-eq0-clause-room
returns-then-free-eq0-clause-room c =
    let old = token c.args.seat.now in
    let new = token c.look_at_hints.new.seat in
    let group = c.args.group in
    let grows = c.look_at_hints.ensures.grows in
    let none : c.fitting-free.result ≡ 0 = c.if-free-eq0.true in
    record {
      grows = grows;
      free = tt;
      full = none_free group old new c.requires.number grows c.requires.hints
          (subst (λ (d : Opened). group < d.plan.groups) (sym c.requires.clerk.own) c.requires.group)
          (λ place near zero_then. absurd
          (cc
          (sym (bit_at-zero place) ∙ sym (ap (λ (n : ℕ). bit_at n place) none)
          ∙ (c.fitting-free.ensures.fits place near).1
          (ap (λ (n : ℕ). hint_at n place) c.look_at_hints.ensures.value ∙ zero_then))));
    }

pub returns-clause-room : goal.returns-clause-room
returns-clause-room c =
    let new = token c.look_at_hints.new.seat in
    let group = c.args.group in
    let grows = c.look_at_hints.ensures.grows in
    let at : ℕ = c.last.result in
    let near : at < 8 = c.last.ensures.inside in
    record {
      grows = grows;
      free = (
        omega (arith, near),
        no_hint (token c.args.seat.now).directory.plan new.seen group at grows.legal near
            (sym (ap (λ (n : ℕ). hint_at n at) c.look_at_hints.ensures.value)
            ∙ (c.fitting-free.ensures.fits at near).0 c.last.ensures.among),
      );
      full = tt;
    }
