use Rattle.nr_ids.proofs.Bytes.{first_inside, highest_set}
use Rattle.nr_ids.proofs.hints.last.Goals as goal

pub returns-clause-inside : goal.returns-clause-inside
returns-clause-inside c =
    first_inside c.args.places _ c.requires.few (highest_set c.args.places c.requires.some c.ranges.places.fits)

pub returns-clause-among : goal.returns-clause-among
returns-clause-among c = highest_set c.args.places c.requires.some c.ranges.places.fits
