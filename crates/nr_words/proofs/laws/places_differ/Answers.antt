use Rattle.nr_words.proofs.PlaceLemmas.{places_differ_lem}
use Rattle.nr_words.proofs.laws.places_differ.Goals as goal

pub returns : goal.returns
returns c = places_differ_lem
