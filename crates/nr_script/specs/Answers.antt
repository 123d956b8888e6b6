-- What a call is answered: that a pin stands or has ended, the map's reply, that a pin is not the key's set, or that no
-- slot is left.
use Rattle.nr_model.specs.declared.calls.Reply.{Reply as MapReply}

pub data Answer : Type 0 where
  Ok : Answer
  Reply : MapReply → Answer
  Other : Answer
  NoSlot : Answer
