use Rattle.std.proofs.Common.{◌≡◌, ◌∷◌, ◌++◌, [], refl, Some, ap, arith, subst, ◌∙◌}
use Rattle.std.proofs.lemmas.List.Elements.{All-pop}
use Rattle.std.specs.Prelude.{IfOk, IfSome, Ok, Option, Result}
use Rattle.nr_core.specs.declared.shape.Shape.{Shape}
use Rattle.nr_idmap.specs.IdHands.{IdHanded, hand_table_of}
use Rattle.nr_idmap.specs.Keepers.{IdCaller, id_table_of}
use Rattle.nr_cache.specs.Openings.{OpensStore}
use Rattle.nr_map_tests.proofs.cache.Shelf.of.Goals as goal

holds_of_ok : {X E : Type 0} (K : X → Type 0) (r : Result X E) (x : X) → r ≡ Ok x → IfOk r K → K x
holds_of_ok K r x is met = subst (λ r. IfOk r K) is met

-- the store's own reader was the last, and those before it are of the same map
pub invariant_of-result : goal.invariant_of-result
invariant_of-result g c =
    let map = c.expect-map.result.0 in
    let store = c.expect-map.result.1 in
    let readers = c.expect-map.result.2.items in
    let open_is : c.open.result ≡ Ok c.expect-map.result = search in
    let opened : OpensStore _ map store readers
    = holds_of_ok _ c.open.result c.expect-map.result open_is c.open.ensures.ok in
    let given = All-pop (λ (r : IdCaller). id_table_of r ≡ map) (readers ++ store.asker ∷ []) readers (Some store.asker)
    refl opened.opens.own in
    let left = All-pop (λ (r : IdCaller). id_table_of r ≡ map) readers c.pop.new.self.items c.pop.result
    c.pop.ensures.items given.0 in
    let is : c.pop.result ≡ Some c.expect-reader.result = search in (
      opened.opens.writes,
      ap (λ (hand : IdHanded). hand_table_of hand) c.of.ensures
          ∙ subst (λ (o : Option IdCaller). IfSome o (λ (r : IdCaller). id_table_of r ≡ map)) is left.1,
      (let sizes = ap (λ (s : Shape). s.readers) opened.opens.opened.sizes in omega (arith, sizes, c.requires)),
    )
