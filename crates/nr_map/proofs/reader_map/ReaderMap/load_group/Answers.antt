use Rattle.std.proofs.Common.{◌<◌, ℕ, List, subst, sym, All}
use Rattle.std.proofs.lemmas.List.Elements.{All-map}
use Rattle.nr_map.specs.LoadsAhead.{LoadsAhead}
use Rattle.nr_map.specs.declared.wanted.Wanted.{Wanted}
use Rattle.nr_map.proofs.reader_map.ReaderMap.load_group.Goals as goal

pub load_ahead-requires-clause-keys : goal.load_ahead-requires-clause-keys
load_ahead-requires-clause-keys g c =
    subst (All (λ (key : ℕ). key < c.args.self.now.shape.keys)) (sym c.copy_keys.ensures)
    (All-map (λ (key : ℕ). key < c.args.self.now.shape.keys) (λ (one : Wanted _). one.key) c.args.group.now
    c.requires.keys)

pub returns-clause-loads : goal.returns-clause-loads
returns-clause-loads g c =
    subst (λ (keys : List ℕ). LoadsAhead keys c.args.reader.now c.load_ahead.new.reader) c.copy_keys.ensures
    c.load_ahead.ensures.loads
