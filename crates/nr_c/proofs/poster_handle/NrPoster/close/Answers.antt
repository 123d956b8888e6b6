use Rattle.nr_c.proofs.LiveHandles.{still_live}
use Rattle.nr_c.proofs.poster_handle.NrPoster.close.Goals as goal

pub take-requires : goal.take-requires
take-requires c = still_live (λ handle. handle.live) c.handle.ensures.value c.requires
