use Rattle.std.proofs.Common.{rules, ◌≡◌, ◌*◌, length, replicate, ap, arith}
use Rattle.nr_model.specs.declared.heads.Head.TheVariants as head
use Rattle.nr_model.proofs.RunLemmas.{opened}
use Rattle.nr_model.proofs.seq_map.SeqMap.open_with.Goals as goal

pub invariant_of-result : goal.invariant_of-result
invariant_of-result c =
    let heads : c.in_ok-heads.heads.items ≡ replicate c.args.keys (head.Hole c.args.first_number) = search rules in
    let cells : length c.in_ok-cells.cells.items ≡ c.args.keys * c.args.rows = search rules in
    let count : length c.in_ok-heads.heads.items ≡ c.args.keys = search rules in (
      search rules,
      search rules,
      search rules,
      search rules,
      record {
        room = omega (arith, cells, ap (λ n. n * c.args.rows) count);
        kept = rw heads (opened c.args.rows c.args.keys c.args.first_number c.in_ok-cells.cells.items).1;
      },
    )

pub returns-clause-ok : goal.returns-clause-ok
returns-clause-ok c =
    let heads : c.in_ok-heads.heads.items ≡ replicate c.args.keys (head.Hole c.args.first_number) = search rules in
    rw heads
    (ap (λ l. record { bound = c.args.rows; states = l })
    (opened c.args.rows c.args.keys c.args.first_number c.in_ok-cells.cells.items).0)
