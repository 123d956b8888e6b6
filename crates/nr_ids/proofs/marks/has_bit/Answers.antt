use Rattle.std.proofs.Common.{◌*◌, ◌%◌, ◌^◌, ℕ, ap, bit_and, eq-eqb, ne_eqb, sym, ◌∙◌, not}
use Rattle.nr_ids.proofs.MarkBits.{bit_set, bit_unset}
use Rattle.nr_ids.proofs.marks.has_bit.Goals as goal

pub returns : goal.returns
returns c =
    let marks = c.args.marks in
    let place = c.args.place in
    let low = c.requires.place in
    let both : ℕ = bit_and marks (1 * 2 ^ place % 2 ^ 64) in (
      λ some. bit_set marks place low (λ none. absurd (cc (sym (ap not (eq-eqb both 0 none)) ∙ some))),
      λ on. ap not (ne_eqb both 0 (λ none. absurd (cc (sym on ∙ bit_unset marks place low none)))),
    )
