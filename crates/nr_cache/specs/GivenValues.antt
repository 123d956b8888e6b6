-- What a value that came out tells of its set.
use Rattle.std.specs.Prelude.{◌≡◌, ⊤, List, [], ◌∷◌}
use Rattle.nr_model.specs.declared.rows.Row.{Row}
use Rattle.nr_cache.specs.declared.given.GivenValue.{GivenValue}

-- the id is in the set's first row, and the value with its stamp is the second; a set that lacks them tells nothing
abbrev pub ShowsValue : GivenValue → List Row → Type 0
ShowsValue given [] = ⊤
ShowsValue given (tag ∷ []) = given.id ≡ tag.b
ShowsValue given (tag ∷ row ∷ more) = (given.id ≡ tag.b) × (given.stamp ≡ row.a) × (given.value ≡ row.b)
