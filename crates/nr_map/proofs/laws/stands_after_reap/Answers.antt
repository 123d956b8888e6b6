use Rattle.std.proofs.Common.{Some, ap, false, get_or-set_other, true, ◌∙◌}
use Rattle.nr_map.proofs.laws.stands_after_reap.Goals as goal

pub returns : goal.returns
returns g c old new before after reader = (
  λ reaps stands other. rw reaps.new_is (λ slot holds.
      let was = stands slot holds in (
        was.0,
        was.1,
        get_or-set_other old.marks.reaped reaps.entry.slot slot true false (λ same. other (holds ∙ ap Some same))
            ∙ was.2,
      )),
  λ held stands. rw held.8 stands,
  λ nothing stands. rw nothing.1 stands,
)
