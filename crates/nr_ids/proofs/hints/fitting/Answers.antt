use Rattle.std.proofs.Common.{ℕ, ◌==◌, List, map, arith, length, sym, ◌∙◌, ap}
use Rattle.std.specs.Int.{bit_at, w8}
use Rattle.std.proofs.lemmas.Simd.{bitmask_splat}
use lib.Lanes.{mask_l}
use Rattle.nr_ids.proofs.Bytes.{fits_so, is_fitting}
use Rattle.nr_ids.proofs.hints.fitting.Goals as goal

pub returns-clause-fits : goal.returns-clause-fits
returns-clause-fits c = λ place low.
    let hints = c.args.hints in
    let hint = c.args.hint in
    let bytes = c.to_le_bytes-bytes.result in
    let bytes_are = c.to_le_bytes-bytes.ensures in
    let same
    = bitmask_splat w8 (λ (a b : ℕ). a == b) bytes 8 hint (ap (λ (l : List ℕ). length l) bytes_are) (omega arith)
    ∙ ap (λ (l : List ℕ). mask_l (map (λ (x : ℕ). x == hint) l)) bytes_are in (
      λ on. fits_so hints hint place low (sym (ap (λ (n : ℕ). bit_at n place) same) ∙ on),
      λ fits. ap (λ (n : ℕ). bit_at n place) same ∙ is_fitting hints hint place low fits,
    )
