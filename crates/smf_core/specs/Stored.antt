-- The containers of a session as they are kept: each once, beside what closed it and where it is. No public clause names these (this product's own).
use Rattle.std.specs.Prelude.{ℕ, Bool, is_some, List, [], ◌∷◌, map, count_by}
use Rattle.units.specs.declared.report.Container.{Container}
use Rattle.smf_model.specs.declared.session.Holding.{Holding}
use Rattle.smf_model.specs.GivenUps.{why_in}
use Rattle.smf_core.specs.declared.containers.Stage.{Stage}

-- a container at its stage
abbrev pub holding_at : Container → Stage → Holding
holding_at c stage = record { container = c; trigger = stage.trigger; moment = stage.moment; place = stage.place }

-- the stage of a container
abbrev pub stage_of : Holding → Stage
stage_of h = record { trigger = h.trigger; moment = h.moment; place = h.place }

-- containers, each at its stage
abbrev pub staged : List Container → List Stage → List Holding
staged [] stages = []
staged (c ∷ containers) [] = []
staged (c ∷ containers) (stage ∷ stages) = holding_at c stage ∷ staged containers stages

-- the stages of containers
abbrev pub stages_of : List Holding → List Stage
stages_of holdings = map stage_of holdings

-- a container at this stage is given up
abbrev pub is_lost : Stage → Bool
is_lost stage = is_some (why_in stage.place)

-- at how many of these stages a container is
abbrev pub lost_count : List Stage → ℕ
lost_count stages = count_by is_lost stages

-- what is seen of them: the containers, and for how many more there is a place
pub record Stored : Type 0 where
  pub holdings : List Holding
  pub room : ℕ
