use Rattle.std.proofs.Common.{◌≡◌, ◌∙◌, length, ap, sym, refl, arith}
use Rattle.std.proofs.lemmas.List.{length-set}
use Rattle.nr_model.proofs.RunLemmas.{has_head, run_within, run_of, run_put, next_made}
use Rattle.nr_model.proofs.seq_map.SeqMap.call.Goals as goal

pub slice_bounds-run-end : goal.slice_bounds-run-end
slice_bounds-run-end c =
    let rows = c.self.inside.rows in let heads = c.self.inside.heads.items in let cells = c.self.inside.cells.items in
    let within
    = has_head rows heads cells c.args.self.now c.key-key.result c.self.view_is
    (rw c.key-key.ensures c.requires.key) in
    omega (arith, run_within rows (length heads) c.key-key.result within, c.self.invariant.4.room)

pub index_mut-requires : goal.index_mut-requires
index_mut-requires c =
    let rows = c.self.inside.rows in let heads = c.self.inside.heads.items in let cells = c.self.inside.cells.items in
    let within
    = has_head rows heads cells c.args.self.now c.key-key.result c.self.view_is
    (rw c.key-key.ensures c.requires.key) in
    omega (arith, within, c.self.inside.heads.ok)

pub call-requires-clause-kept : goal.call-requires-clause-kept
call-requires-clause-kept c =
    (run_of _ _ _ _ c.args.self.now c.key-key.result _ c.self.invariant.4 c.self.view_is
    (rw c.key-key.ensures c.requires.key) c.index_mut.ensures.value c.deref_mut.ensures.value).kept

pub invariant_of-self : goal.invariant_of-self
invariant_of-self c =
    let rows = c.self.inside.rows in let heads = c.self.inside.heads.items in let key = c.key-key.result in
    let run
    = run_of _ _ _ _ c.args.self.now c.key-key.result _ c.self.invariant.4 c.self.view_is
    (rw c.key-key.ensures c.requires.key) c.index_mut.ensures.value c.deref_mut.ensures.value in
    let within
    = has_head rows heads c.self.inside.cells.items c.args.self.now key c.self.view_is
    (rw c.key-key.ensures c.requires.key) in
    let long : length c.call.new.run ≡ rows = c.call.auto.run ∙ run.full ∙ sym (ap (λ m. m.bound) c.self.view_is) in
    let put
    = run_put rows key heads c.self.inside.cells c.deref_mut.result.now c.call.new.run c.call.new.self
    c.self.invariant.4 within c.deref_mut.ensures.value long c.call.ensures.kept in
    let count = length-set heads key c.call.new.self in (
      c.self.invariant.0,
      c.self.invariant.1,
      omega (arith, count, c.self.invariant.2),
      omega (arith, count, c.self.invariant.3),
      put.0,
    )

pub returns-clause-reply : goal.returns-clause-reply
returns-clause-reply c =
    let run
    = run_of _ _ _ _ c.args.self.now c.key-key.result _ c.self.invariant.4 c.self.view_is
    (rw c.key-key.ensures c.requires.key) c.index_mut.ensures.value c.deref_mut.ensures.value in
    c.call.ensures.reply ∙ rw (run.full, run.read, c.key-key.ensures) refl

pub returns-clause-new : goal.returns-clause-new
returns-clause-new c =
    let rows = c.self.inside.rows in let heads = c.self.inside.heads.items in let key = c.key-key.result in
    let run
    = run_of _ _ _ _ c.args.self.now c.key-key.result _ c.self.invariant.4 c.self.view_is
    (rw c.key-key.ensures c.requires.key) c.index_mut.ensures.value c.deref_mut.ensures.value in
    let within
    = has_head rows heads c.self.inside.cells.items c.args.self.now key c.self.view_is
    (rw c.key-key.ensures c.requires.key) in
    let long : length c.call.new.run ≡ rows = c.call.auto.run ∙ run.full ∙ sym (ap (λ m. m.bound) c.self.view_is) in
    let put
    = run_put rows key heads c.self.inside.cells c.deref_mut.result.now c.call.new.run c.call.new.self
    c.self.invariant.4 within c.deref_mut.ensures.value long c.call.ensures.kept in
    next_made rows key _ _ c.args.self.now c.args.call.now _ c.self.view_is c.key-key.ensures put.1
    (rw (run.full, run.read) at c.call.ensures.new)
