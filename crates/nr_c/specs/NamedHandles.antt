-- The types of handle that C has.
use Rattle.nr_c.specs.HandleFollows.{Named}
use Rattle.nr_c.specs.contracts.cache_handle.NrCache as NrCache
use Rattle.nr_c.specs.contracts.cache_reader_handle.NrCacheReader as NrCacheReader
use Rattle.nr_c.specs.contracts.cache_side.CacheSide as CacheSide
use Rattle.nr_c.specs.contracts.id_reader_handle.NrIdReader as NrIdReader
use Rattle.nr_c.specs.contracts.id_reader_side.IdReaderSide as IdReaderSide
use Rattle.nr_c.specs.contracts.id_writer_handle.NrIdWriter as NrIdWriter
use Rattle.nr_c.specs.contracts.id_writer_side.IdWriterSide as IdWriterSide
use Rattle.nr_c.specs.contracts.poster_handle.NrPoster as NrPoster
use Rattle.nr_c.specs.contracts.poster_side.PosterSide as PosterSide
use Rattle.nr_c.specs.contracts.reader_handle.NrReader as NrReader
use Rattle.nr_c.specs.contracts.reader_side.ReaderSide as ReaderSide
use Rattle.nr_c.specs.contracts.remains_handle.NrRemains as NrRemains
use Rattle.nr_c.specs.contracts.remains_side.RemainsSide as RemainsSide
use Rattle.nr_c.specs.contracts.taker_handle.NrTaker as NrTaker
use Rattle.nr_c.specs.contracts.taker_side.TakerSide as TakerSide
use Rattle.nr_c.specs.contracts.writer_handle.NrWriter as NrWriter
use Rattle.nr_c.specs.contracts.writer_side.WriterSide as WriterSide

abbrev pub reader : Named
reader =
    record {
      row = NrReader.the_row;
      side = ReaderSide.the_row;
      of = λ h. record { ptr = h.ptr; alloc = h.alloc; live = h.live };
      to = λ h. record { ptr = h.ptr; alloc = h.alloc; live = h.live };
    }

abbrev pub writer : Named
writer =
    record {
      row = NrWriter.the_row;
      side = WriterSide.the_row;
      of = λ h. record { ptr = h.ptr; alloc = h.alloc; live = h.live };
      to = λ h. record { ptr = h.ptr; alloc = h.alloc; live = h.live };
    }

abbrev pub remains : Named
remains =
    record {
      row = NrRemains.the_row;
      side = RemainsSide.the_row;
      of = λ h. record { ptr = h.ptr; alloc = h.alloc; live = h.live };
      to = λ h. record { ptr = h.ptr; alloc = h.alloc; live = h.live };
    }

abbrev pub poster : Named
poster =
    record {
      row = NrPoster.the_row;
      side = PosterSide.the_row;
      of = λ h. record { ptr = h.ptr; alloc = h.alloc; live = h.live };
      to = λ h. record { ptr = h.ptr; alloc = h.alloc; live = h.live };
    }

abbrev pub taker : Named
taker =
    record {
      row = NrTaker.the_row;
      side = TakerSide.the_row;
      of = λ h. record { ptr = h.ptr; alloc = h.alloc; live = h.live };
      to = λ h. record { ptr = h.ptr; alloc = h.alloc; live = h.live };
    }

abbrev pub id_reader : Named
id_reader =
    record {
      row = NrIdReader.the_row;
      side = IdReaderSide.the_row;
      of = λ h. record { ptr = h.ptr; alloc = h.alloc; live = h.live };
      to = λ h. record { ptr = h.ptr; alloc = h.alloc; live = h.live };
    }

abbrev pub id_writer : Named
id_writer =
    record {
      row = NrIdWriter.the_row;
      side = IdWriterSide.the_row;
      of = λ h. record { ptr = h.ptr; alloc = h.alloc; live = h.live };
      to = λ h. record { ptr = h.ptr; alloc = h.alloc; live = h.live };
    }

abbrev pub cache : Named
cache =
    record {
      row = NrCache.the_row;
      side = CacheSide.the_row;
      of = λ h. record { ptr = h.ptr; alloc = h.alloc; live = h.live };
      to = λ h. record { ptr = h.ptr; alloc = h.alloc; live = h.live };
    }

abbrev pub cache_reader : Named
cache_reader =
    record {
      row = NrCacheReader.the_row;
      side = IdReaderSide.the_row;
      of = λ h. record { ptr = h.ptr; alloc = h.alloc; live = h.live };
      to = λ h. record { ptr = h.ptr; alloc = h.alloc; live = h.live };
    }
