use Rattle.std.proofs.Common.{ℕ, ◌≡◌, ◌-◌, List, ◌++◌, length, take, drop, append_assoc, take-append-drop}
use Rattle.std.proofs.KnownBytes.{Appends-trans}
use Rattle.std.proofs.lemmas.List.{take_rest}
use Rattle.nr_text.proofs.output.write_all.Goals as goal

moves_front : (all done rest : List ℕ) (n : ℕ) → all ≡ done ++ rest
    → all ≡ (done ++ take n rest) ++ take (length rest - n) (drop n rest)
moves_front all done rest n e = rw (e, take_rest, append_assoc, take-append-drop)

pub rest-preserved : goal.rest-preserved
rest-preserved g c =
    let (done, split, appended) = c.rest.invariant in
    let rest = c.rest.rest.now in
    let n = c.in-Ok.count in
    (done ++ take n rest, moves_front _ done rest n split, Appends-trans _ _ _ _ _ appended c.in-Ok.ensures.bytes)
