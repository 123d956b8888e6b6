use mathlib.Core.Path.{refl}
use denote.Param.Send.{IsSend, sendable}
use Rattle.std_heap.proofs.Global.TheSendSync as heap
use Rattle.nr_c.proofs.HandleSend.{handle_send, quiet_live}
use Rattle.nr_c.specs.contracts.id_reader_side.IdReaderSide as T
use Rattle.nr_c.proofs.id_reader_side.IdReaderSide.TheSendSync.{the_send as token}
use Rattle.nr_c.specs.contracts.cache_reader_handle.NrCacheReader.{the_row, the_type}

pub send : IsSend the_row
send = handle_send the_type (search sendable, (heap.the_field_send, tt)) (λ k. refl)
    (λ d. quiet_live T.the_row token d.alloc d.ptr d.live)
