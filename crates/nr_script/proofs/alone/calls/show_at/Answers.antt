use Rattle.std.proofs.Common.{◌*◌, IsSome, length, subst}
use Rattle.nr_script.proofs.Shown.{shows_pin}
use Rattle.nr_script.proofs.alone.calls.show_at.Goals as goal

pub returns : goal.returns
returns c =
    shows_pin (2 * length c.args.hand.now.rows) c.args.hand.now c.copy_to.new.self c.copy_to.new.rows
    (subst IsSome c.key.ensures c.if-is_none.ensures) c.copy_to.ensures.reads c.copy_to.ensures.copied
