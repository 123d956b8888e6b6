-- `handle` lends the word as a `Handle`, and the handle follows it.
use Rattle.nr_c.proofs.Walks.{part_of, refl}
use Rattle.nr_c.specs.NamedHandles.{reader}
use Rattle.nr_c.proofs.HandleLent.{called}
use Rattle.nr_c.specs.contracts.reader_handle.NrReader.handle.Key.{name as #self}
use Rattle.nr_c.proofs.reader_handle.NrReader.handle.Statement as stated
use Rattle.nr_c.proofs.reader_handle.NrReader.handle.Code as code

pub handle_spec : {M : Type 1} → stated.statement M
unfolding part_of
handle_spec 𝓤 𝓛 𝓜 𝓡 wired =
    called reader (λ s. refl) (λ h b o. refl) _ _ _ _ 𝓛 𝓜 𝓡 #self (code.unfolded 𝓤 𝓛.H 𝓜 𝓡 wired)
