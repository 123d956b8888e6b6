use Rattle.std.proofs.Common.{◌∙◌, ap, refl, sym}
use Rattle.nr_cache.specs.Stamps as stamps
use Rattle.nr_cache.specs.Stamps.{first_stamp}
use Rattle.nr_cache.proofs.Looking.{looks_leave, missed_stamp, seen_stamp, stamps_same}
use Rattle.nr_cache.proofs.stamps.stamp_in.Goals as goal

pub returns-in_default-clause-looks : goal.returns-in_default-clause-looks
returns-in_default-clause-looks c =
    stamps.Stays c.args.writer.now c.id_at-named.new.writer c.id_at-named.ensures.stays

pub returns-in-Rows-clause-looks : goal.returns-in-Rows-clause-looks
returns-in-Rows-clause-looks c =
    let looks = c.in-Rows.ensures.looks in
    stamps.Finds _ looks.0 _ c.args.writer.now c.id_at-named.new.writer c.look-looked.new.writer
    (stamps.Stays c.args.writer.now c.id_at-named.new.writer c.id_at-named.ensures.stays) refl looks.2.1 looks.2.2
    c.look-looked.ensures.asker c.look-looked.ensures.owes

pub returns-in-Rows-clause-same : goal.returns-in-Rows-clause-same
returns-in-Rows-clause-same c =
    stamps_same c.args.writer.now c.look-looked.new.writer
    (looks_leave c.is_tied.ensures (returns-in-Rows-clause-looks c)).keeps.sets

pub returns-in-Rows-clause-stamp : goal.returns-in-Rows-clause-stamp
returns-in-Rows-clause-stamp c =
    let looks = c.in-Rows.ensures.looks in
    let names = c.in-Some.ensures.names in
    c.stamp_of.ensures ∙ ap first_stamp (c.as_slice.ensures.value ∙ looks.3)
    ∙ sym (seen_stamp c.args.way c.look-looked.new.writer c.is_tied-2.ensures names.2 names.1.has looks.2)

pub returns-in-Pending-clause-looks : goal.returns-in-Pending-clause-looks
returns-in-Pending-clause-looks c =
    let looks = c.in-Pending.ensures.looks in
    stamps.Finds _ looks.0 _ c.args.writer.now c.id_at-named.new.writer c.look-looked.new.writer
    (stamps.Stays c.args.writer.now c.id_at-named.new.writer c.id_at-named.ensures.stays) refl looks.2 looks.3
    c.look-looked.ensures.asker c.look-looked.ensures.owes

pub returns-in-Pending-clause-same : goal.returns-in-Pending-clause-same
returns-in-Pending-clause-same c =
    stamps_same c.args.writer.now c.look-looked.new.writer
    (looks_leave c.is_tied.ensures (returns-in-Pending-clause-looks c)).keeps.sets

pub returns-in-Pending-clause-stamp : goal.returns-in-Pending-clause-stamp
returns-in-Pending-clause-stamp c =
    let looks = c.in-Pending.ensures.looks in
    let names = c.in-Some.ensures.names in
    sym (missed_stamp c.args.way c.look-looked.new.writer c.is_tied-2.ensures names.2 names.1.has looks.1 looks.2)
