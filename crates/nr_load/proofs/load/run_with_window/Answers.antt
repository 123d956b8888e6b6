use Rattle.std.proofs.Common.{rules, ap, arith, sym, ◌∙◌}
use Rattle.std.proofs.lemmas.Option.{get_or_from_slice_get}
use Rattle.nr_core.specs.declared.shape.Shape.{Shape}
use Rattle.nr_serve.specs.Services.{ServiceSeen}
use Rattle.nr_trigger.specs.Tokens.{PosterSeen}
use Rattle.nr_load.proofs.load.run_with_window.Goals as goal

pub serve_all-requires-clause-tokens : goal.serve_all-requires-clause-tokens
serve_all-requires-clause-tokens g c κs within =
    let tokens = c.in-Ok-open-2.ensures.ok.tokens in
    let keys = ap (λ (shape : Shape). shape.keys) c.in-Ok-open.ensures.ok.sizes in
    record {
      writer = search rules;
      taker = search rules;
      readers = search rules;
      posters = λ at other low.
          let is
          = get_or_from_slice_get c.in-Ok-open-2.posters.items at _ other
          (tokens.posts at (omega (arith, low, tokens.count))) in (
            ap (λ (poster : PosterSeen). poster.queue) is
                ∙ sym (ap (λ (service : ServiceSeen). service.queue.id) c.of.ensures),
            omega (
              arith,
              ap (λ (poster : PosterSeen). poster.keys) is,
              keys,
              ap (λ (service : ServiceSeen). service.map.shape.keys) c.of.ensures,
            ),
          );
      count = search rules;
    }
