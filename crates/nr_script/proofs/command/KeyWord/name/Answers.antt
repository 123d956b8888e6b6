use Rattle.std.proofs.Common.{◌≡◌, ℕ, zero, suc, Bool, true, false, List, [], ◌∷◌, refl, arith}
use Rattle.std.specs.Prelude.{◌&&◌, nat_le}
use Rattle.std.specs.List.{list_all}
use Rattle.std.proofs.lemmas.Bool.{leb-true}
use Rattle.std.proofs.lemmas.Str.{IsUtf8-from_ascii}
use Rattle.std.specs.Str.{IsAscii}
use Rattle.nr_script.specs.Commands.{is_name_byte}
use Rattle.nr_script.proofs.command.KeyWord.name.Goals as goal

both : (a b : Bool) → (a && b) ≡ true → (a ≡ true) × (b ≡ true)
both true b e = (refl, e)
both false b e = let never : false ≡ true = e in cc

all_ascii : (bytes : List ℕ) → list_all is_name_byte bytes ≡ true → IsAscii bytes
all_ascii [] all i = omega arith
all_ascii (b ∷ bytes) all zero =
    let (here, more) = both (is_name_byte b) (list_all is_name_byte bytes) all in
    let (low, high) = both (nat_le 33 b) (nat_le b 126) here in omega (arith, leb-true b 126 high)
all_ascii (b ∷ bytes) all (suc i) = all_ascii bytes (both (is_name_byte b) (list_all is_name_byte bytes) all).1 i

pub unreachable-requires : goal.unreachable-requires
unreachable-requires c = c.in-Err.ensures.cases.0 (IsUtf8-from_ascii _ (all_ascii _ c.self.invariant))
