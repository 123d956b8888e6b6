use Rattle.std.proofs.Common.{refl, ◌∙◌}
use Rattle.nr_cache.proofs.Gone.{has_value, value_before}
use Rattle.nr_cache.proofs.store.Store.begin.Goals as goal

pub returns-in-Some-way-clause-begins : goal.returns-in-Some-way-clause-begins
returns-in-Some-way-clause-begins c =
    let way = c.in-Some-way._way in
    let finds = c.in-Some-way.ensures.finds in
    let stays = c.way_of-way.ensures.stays in
    let none = stays.owes way ∙ c.self.invariant.1 way in
    let had =
    has_value way c.named_is_owed_or_resident.ensures c.is_tied.ensures none c.requires.id finds.1.has in
    rw (← c.self.view_is)
    (c.in_default.ensures, value_before stays had, refl, way, ((finds, stays), refl, (refl, refl, refl)))
