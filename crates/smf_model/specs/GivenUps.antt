-- What of a session's containers is given up, in the order of their numbers, each with the cause (TS 32.290, 5.3.2; what is given up is this product's own).
use Rattle.std.specs.Prelude.{◌≡◌, ℕ, Option, Some, None, option_map, List, [], map}
use Rattle.std.specs.List.{filter_map}
use Rattle.std.specs.List.Sorted.{IsStrictlyIncreasing}
use Rattle.sessions.specs.Trace.{Move, Cause, given_up}
use Rattle.smf_model.specs.declared.session.Why.{Why}
use Rattle.smf_model.specs.declared.session.Place.{Place}
use Rattle.smf_model.specs.declared.session.Place.TheVariants.{GivenUp as IsGivenUp}
use Rattle.smf_model.specs.declared.session.Holding.{Holding}
use Rattle.smf_model.specs.declared.session.GivenUp.{GivenUp}
use Rattle.smf_model.specs.declared.session.Session.{Session}
use Rattle.smf_model.specs.Places.{why_of}

-- why a container in a place is given up, if it is
abbrev pub why_in : Place → Option Why
why_in (IsGivenUp why) = Some why
why_in other = None

-- a container with the cause of its giving up
abbrev pub told : Holding → Why → GivenUp
told h why = record { container = h.container; why = why }

-- so where it is given up
abbrev pub given_up_as : Holding → Option GivenUp
given_up_as h = option_map (told h) (why_in h.place)

-- of a session's containers those that are given up
abbrev pub given_up_of : List Holding → List GivenUp
given_up_of holdings = filter_map given_up_as holdings

-- of a session's containers those that its moves give up, each with the cause that they say
abbrev pub given_up_by : List Move → List Holding → List GivenUp
given_up_by trace holdings = filter_map (λ h. option_map (λ cause. told h (why_of cause)) (given_up trace h.container.lsn)) holdings

-- what is given up is exactly that, each once in ascending order of their numbers
pub record AreGivenUpAsMoved (trace : List Move) (holdings : List Holding) : Type 0 where
  pub told : given_up_of holdings ≡ given_up_by trace holdings
  pub ascending : IsStrictlyIncreasing (map (λ g. g.container.lsn) (given_up_of holdings))

-- so of a session that is there; one that is not has no moves
abbrev pub GivesUpAsMoved : List Move → Option Session → Type 0
GivesUpAsMoved trace None = trace ≡ []
GivesUpAsMoved trace (Some s) = AreGivenUpAsMoved trace s.holdings
