use Rattle.std.proofs.Common.{◌<◌, ℕ, IfOk, ap, subst, arith}
use Rattle.std.proofs.lemmas.Option.{get_or_from_slice_get}
use Rattle.nr_trigger.specs.declared.tokens.Poster.{Poster}
use Rattle.nr_trigger.specs.Posts.{of_map}
use Rattle.nr_trigger.specs.Tokens.{IsOpenedWithin, new_poster}
use Rattle.nr_serve_tests.proofs.parts.Parts.open.Goals as goal

pub next-second-requires : goal.next-second-requires
next-second-requires g c k d below =
    let map = c.two_readers-map.result.0 in
    let opened = subst (λ (r : _). IfOk r (λ (t : _). IsOpenedWithin (of_map map) 1 2 t.0 t.1.items t.2))
    c.expect-triggers.ensures c.open_for.ensures.ok in
    let near : k < 2 = omega (arith, below, opened.tokens.count) in
    let one = get_or_from_slice_get c.expect-triggers.result.1.items k
    (new_poster c.expect-triggers.result.0.id (of_map map) k) d (opened.tokens.posts k near) in
    (ap (λ (p : Poster). p.queue) one, ap (λ (p : Poster). p.keys) one)
