use Rattle.std.proofs.Common.{ℕ, subst, ◌∙◌, length, arith}
use Rattle.nr_model.specs.Maps.{StateFits}
use Rattle.nr_model.proofs.RunLemmas.{has_head, run_of, run_within}
use Rattle.nr_model.proofs.seq_map.SeqMap.state.Goals as goal

pub index-requires : goal.index-requires
index-requires c =
    let within
    = has_head c.self.inside.rows c.self.inside.heads.items c.self.inside.cells.items c.args.self.now c.args.key
    c.self.view_is c.requires in
    omega (arith, within, c.self.inside.heads.ok)

pub slice_bounds-state-end : goal.slice_bounds-state-end
slice_bounds-state-end c =
    let rows = c.self.inside.rows in let heads = c.self.inside.heads.items in let cells = c.self.inside.cells.items in
    let within = has_head rows heads cells c.args.self.now c.args.key c.self.view_is c.requires in
    omega (arith, run_within rows (length heads) c.args.key within, c.self.invariant.4.room)

pub state-requires-clause-kept : goal.state-requires-clause-kept
state-requires-clause-kept c =
    (run_of _ _ _ _ c.args.self.now c.args.key _ c.self.invariant.4 c.self.view_is c.requires c.index.ensures
    c.deref.ensures.value).kept

pub returns-clause-value : goal.returns-clause-value
returns-clause-value c =
    let run
    = run_of _ _ _ _ c.args.self.now c.args.key _ c.self.invariant.4 c.self.view_is c.requires c.index.ensures
    c.deref.ensures.value in
    c.state.ensures.value ∙ run.read

pub returns-clause-few : goal.returns-clause-few
returns-clause-few c =
    let run
    = run_of _ _ _ _ c.args.self.now c.args.key _ c.self.invariant.4 c.self.view_is c.requires c.index.ensures
    c.deref.ensures.value in
    subst (λ (bound : ℕ). StateFits bound c.state.result) run.full c.state.ensures.few
