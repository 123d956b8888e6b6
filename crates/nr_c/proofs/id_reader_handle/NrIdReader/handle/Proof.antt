-- `handle` lends the word as a `Handle`, and the handle follows it.
use Rattle.nr_c.proofs.Walks.{part_of, refl}
use Rattle.nr_c.specs.NamedHandles.{id_reader}
use Rattle.nr_c.proofs.HandleLent.{called}
use Rattle.nr_c.specs.contracts.id_reader_handle.NrIdReader.handle.Key.{name as #self}
use Rattle.nr_c.proofs.id_reader_handle.NrIdReader.handle.Statement as stated
use Rattle.nr_c.proofs.id_reader_handle.NrIdReader.handle.Code as code

pub handle_spec : {M : Type 1} → stated.statement M
unfolding part_of
handle_spec 𝓤 𝓛 𝓜 𝓡 wired =
    called id_reader (λ s. refl) (λ h b o. refl) _ _ _ _ 𝓛 𝓜 𝓡 #self (code.unfolded 𝓤 𝓛.H 𝓜 𝓡 wired)
