use Rattle.std.proofs.Common.{sym, ap, ◌∙◌}
use Rattle.nr_core.proofs.Histories.{bound-after}
use Rattle.nr_board.specs.Callers.{map_at_opening}
use Rattle.nr_script.specs.Alone.{log_of}
use Rattle.nr_script.specs.MapState.{MapState}
use Rattle.nr_script.proofs.alone.Alone.rows.Goals as goal

pub returns-clause-value : goal.returns-clause-value
returns-clause-value c =
    let inside = c.self.inside in
    c.rows.ensures.value ∙ sym (bound-after (log_of inside.writer inside.hands.items) (map_at_opening inside.map))
    ∙ ap (λ (s : MapState). s.map.bound) c.self.view_is
