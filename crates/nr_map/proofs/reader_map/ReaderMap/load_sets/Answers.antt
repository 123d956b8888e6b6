use Rattle.std.proofs.Common.{◌≡◌, ◌∙◌, List, ℕ, ap, arith, length, subst, sym, take}
use Rattle.nr_words.specs.declared.layout.Layout.{Layout}
use Rattle.nr_core.specs.Slots.{layout}
use Rattle.nr_board.specs.Callers.{Table, token}
use Rattle.nr_map.specs.LoadsAhead.{LoadsSets, more_lines}
use Rattle.nr_map.proofs.Loading.{no_lines}
use Rattle.nr_map.proofs.reader_map.ReaderMap.load_sets.Goals as goal

pub returns-else-more_lines-gt0-clause-loads : goal.returns-else-more_lines-gt0-clause-loads
returns-else-more_lines-gt0-clause-loads c =
    let sizes = layout c.args.self.now.shape in
    let words : List ℕ = c.args.words.now in
    let counts : List ℕ = take (length words) c.load_slots.new.counts in
    let new = token c.load_slots.new.seat in
    let same = c.layout-sizes.ensures.value ∙ ap (λ (t : Table). layout t.shape) c.self.view_is in
    let none : c.more_lines.result ≡ 0 = omega (arith, c.if-more_lines-gt0.false) in
    let few : more_lines sizes.rows ≡ 0
    = sym (ap (λ (l : Layout). more_lines l.rows) same) ∙ sym c.more_lines.ensures ∙ none in (
      counts,
      new,
      subst (λ (l : Layout). LoadsSets l words counts (token c.args.seat.now) new) same
          c.load_slots.ensures.loads,
      no_lines sizes words counts new few,
    )
