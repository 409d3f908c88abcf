-- What is looked up in the sessions that are kept. No public clause names this.
use Rattle.std.specs.Prelude.{ℕ, List}
use Rattle.units.specs.declared.request.Operation.{Operation}
use Rattle.units.specs.declared.request.Operation.TheVariants.{Create, Update, Release}
use Rattle.units.specs.declared.request.Request.{Request}
use Rattle.chf_core.specs.declared.session.Session.{Session}
use Rattle.chf_core.specs.Sessions.{by_reference, supi_of}
use Rattle.chf_core.specs.Money.{supi_in}

-- the subscriber whose row bars groups
abbrev pub supi_from : Operation → List Session → Request → List ℕ
supi_from Create sessions q = supi_of q.subscriber
supi_from (Update reference) sessions q = supi_in (by_reference sessions reference)
supi_from (Release reference) sessions q = supi_in (by_reference sessions reference)
