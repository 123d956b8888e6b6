use Rattle.nr_c.proofs.LiveHandles.{still_live}
use Rattle.nr_c.proofs.taker_handle.NrTaker.side.Goals as goal

pub token-requires : goal.token-requires
token-requires c = still_live (λ handle. handle.live) c.handle.ensures.value c.requires
