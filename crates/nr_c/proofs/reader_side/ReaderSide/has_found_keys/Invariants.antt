use Rattle.std.specs.Prelude.{◌<◌, All, take}
use Rattle.nr_c.proofs.reader_side.ReaderSide.has_found_keys.Given as goal

abbrev pub invariant-loop-one : goal.invariant-loop-one
invariant-loop-one l = All (λ one. one.key < l.keys) (take l.one-index l.wanted)
