use Rattle.std.proofs.Common.{sym, ap, ◌∙◌}
use Rattle.nr_model.specs.Maps.{key_count}
use Rattle.nr_core.proofs.Histories.{length-now}
use Rattle.nr_script.specs.Alone.{log_of}
use Rattle.nr_script.specs.MapState.{MapState}
use Rattle.nr_script.proofs.alone.Alone.keys.Goals as goal

pub returns : goal.returns
returns c =
    let inside = c.self.inside in
    c.keys.ensures ∙ sym (length-now inside.map.shape (log_of inside.writer inside.hands.items))
    ∙ ap (λ (s : MapState). key_count s.map) c.self.view_is
