use Rattle.std.proofs.Common.{rules}
use Rattle.nr_ids.specs.Tokens.{token}
use Rattle.nr_ids.proofs.Admitting.{keeps_others, sets_hint}
use Rattle.nr_ids.proofs.directory.Directory.hint.Goals as goal

pub write_hints-requires-clause-keeps : goal.write_hints-requires-clause-keeps
write_hints-requires-clause-keeps c =
    let looked = c.look_at_hints-hints in
    keeps_others c.args.way c.args.hint c.with_hint.result (token c.args.seat.now) (token looked.new.seat)
    c.requires.number looked.ensures.grows (search rules) c.requires.free

pub returns-clause-hints : goal.returns-clause-hints
returns-clause-hints c =
    let looked = c.look_at_hints-hints in
    sets_hint c.args.way c.args.hint c.with_hint.result (token c.args.seat.now) (token looked.new.seat)
    c.requires.number looked.ensures.grows (search rules) (token c.write_hints.new.seat) c.write_hints.ensures.grows
