use Rattle.std.proofs.Common.{◌≡◌, ◌<◌, ℕ, List, arith, subst}
use Rattle.std.specs.List.{All}
use Rattle.std.proofs.lemmas.List.{take_all}
use Rattle.std.proofs.lemmas.List.Elements.{All-more}
use Rattle.nr_c.specs.declared.many_first.NrFound.{NrFound}
use Rattle.nr_c.specs.Live.{reader_keys}
use Rattle.nr_c.proofs.reader_side.ReaderSide.has_found_keys.Goals as goal

abbrev blank : NrFound
blank = record { key = 0; answer = 0; count = 0 }

pub loop-one-preserved : goal.loop-one-preserved
loop-one-preserved c =
    All-more (λ (one : NrFound). one.key < c.keys-keys.result) c.args.wanted.now c.loop-one.one-index blank
    (omega (arith, c.loop-one-test.true)) c.loop-one.invariant (omega (arith, c.if-one-keys.false))

pub returns-clause-all : goal.returns-clause-all
returns-clause-all c =
    let keys_is : c.keys-keys.result ≡ reader_keys c.args.self.now = search in
    subst (λ (n : ℕ). All (λ (one : NrFound). one.key < n) c.args.wanted.now) keys_is
    (subst (λ (l : List NrFound). All (λ (one : NrFound). one.key < c.keys-keys.result) l)
    (take_all c.loop-one.one-index c.args.wanted.now (omega (arith, c.loop-one-test.false))) c.loop-one.invariant)
