use Rattle.std.proofs.Common.{◌≡◌, ℕ, ◌+◌, ◌<◌, List, ◌++◌, length, take, Some, slice_get, sym}
use Rattle.std.proofs.Common.{append_assoc, append-nil, codes, rules}
use Rattle.std.specs.List.{flat_map}
use Rattle.std.proofs.lemmas.Option.{slice_get_within, get_or_from_slice_get}
use Rattle.std.proofs.lemmas.List.{take_more}
use Rattle.std.proofs.lemmas.Grind.{flat_map-append}
use Rattle.nr_model.specs.declared.rows.Row.{Row}
use Rattle.nr_text.specs.Spelling.{spelled_row}
use Rattle.std.proofs.Output.{has_written_append, has_written_of_eq}
use Rattle.nr_text.proofs.spelling.RowsDisplay.fmt.Goals as goal

-- one row more is spelled behind the rows before it
spelled_more : (front : List ℕ) (rows : List Row) (i : ℕ) (row : Row) → slice_get rows i ≡ Some row
    → (front ++ flat_map spelled_row (take i rows)) ++ spelled_row row
    ≡ front ++ flat_map spelled_row (take (i + 1) rows)
spelled_more front rows i row got =
    let within : i < length rows = slice_get_within rows i row got in
    rw (take_more rows i row within, get_or_from_slice_get rows i row row got, flat_map-append)
    (simp (append_assoc, append-nil))

pub loop-i-preserved : goal.loop-i-preserved
loop-i-preserved g c =
    λ plain. has_written_of_eq _ _ _ _ _
    (spelled_more (codes "rows") c.args.self.now.0.now c.loop-i.i c.in-Some.field-0 (sym c.in-Some.ensures))
    (has_written_append _ _ _ _ _ _ (c.loop-i.invariant plain) (search rules))
