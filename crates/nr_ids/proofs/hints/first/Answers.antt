use Rattle.std.specs.Int.{w64}
use Rattle.std.proofs.lemmas.Nat.Bits.{bit_at-trailing_zeros}
use Rattle.nr_ids.proofs.Bytes.{first_inside}
use Rattle.nr_ids.proofs.hints.first.Goals as goal

pub returns-clause-inside : goal.returns-clause-inside
returns-clause-inside c =
    let lowest = bit_at-trailing_zeros w64 c.args.places c.requires.some c.ranges.places.fits in
    first_inside c.args.places _ c.requires.few lowest.1

pub returns-clause-first : goal.returns-clause-first
returns-clause-first c =
    let lowest = bit_at-trailing_zeros w64 c.args.places c.requires.some c.ranges.places.fits in (lowest.1, lowest.2)
