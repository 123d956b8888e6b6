use Rattle.std.proofs.Common.{◌≡◌, inl, inr, All, List, sym, ◌∙◌, subst}
use Rattle.nr_map.specs.Hands.{Handed}
use Rattle.nr_script.proofs.Opening.{all_idle, opens}
use Rattle.nr_script.proofs.alone.Alone.open.Goals as goal

pub gather_round-requires-clause-hands : goal.gather_round-requires-clause-hands
gather_round-requires-clause-hands c =
    let is = c.as_mut_slice.ensures.value ∙ c.in-Ok.ensures in
    subst (λ (l : List Handed). All (λ (s : Handed). s.reader.table ≡ c.in_ok-map.map) l) (sym is)
    (all_idle c.in_ok-map.map c.in_ok-map.readers.items c.in_ok-map.ensures.ok.own)

pub invariant_of-result : goal.invariant_of-result
invariant_of-result c =
    (opens c.laws.ensures c.args.shape.now c.in_ok-map.ensures.ok
    (λ none. let e = c.in_ok-map.ensures.bad_size.1 (inr (inr (inl (inl none)))) in cc) c.in-Ok.hands
    (c.as_mut_slice.ensures.value ∙ c.in-Ok.ensures) c.as_mut_slice.ensures.len c.gather_round.ensures).0

pub returns-clause-ok : goal.returns-clause-ok
returns-clause-ok c =
    (opens c.laws.ensures c.args.shape.now c.in_ok-map.ensures.ok
    (λ none. let e = c.in_ok-map.ensures.bad_size.1 (inr (inr (inl (inl none)))) in cc) c.in-Ok.hands
    (c.as_mut_slice.ensures.value ∙ c.in-Ok.ensures) c.as_mut_slice.ensures.len c.gather_round.ensures).1
