use Rattle.nr_words.proofs.PlaceLemmas.{places_are_below_total_lem}
use Rattle.nr_words.proofs.laws.places_are_below_total.Goals as goal

pub returns : goal.returns
returns c = places_are_below_total_lem
