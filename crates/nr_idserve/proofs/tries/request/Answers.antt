use Rattle.std.proofs.Common.{◌∙◌, ap, rules}
use Rattle.nr_idmap.specs.Keepers.{IdCaller}
use Rattle.nr_idserve.proofs.tries.request.Goals as goal

pub returns-in-Granted-clause-requests : goal.returns-in-Granted-clause-requests
returns-in-Granted-clause-requests g c = let same = c.post_or_keep.ensures.reader in record {
  claim = c.in-Granted.claim;
  requests = record {
    none = search rules;
    requests = rw same c.in-Granted.ensures.answer;
    map = ap (λ (reader : IdCaller). reader.caller) same ∙ c.in-Granted.ensures.map;
  };
  posts = c.post_or_keep.ensures.posts;
}
