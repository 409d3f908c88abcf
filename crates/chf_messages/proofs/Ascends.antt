-- The policy counters of a status that is told ascend.
use Rattle.std.proofs.Common.{◌≡◌, ◌&&◌, ℕ, Bool, true, false, List, [], ◌∷◌, refl, ap, ◌∙◌}
use Rattle.std.specs.Ordering.{nat_cmp, ordering_reverse, is_gt}
use Rattle.std.specs.declared.cmp.Ordering.TheVariants.{Less}
use Rattle.std.specs.Cmp.Lexicographic.{slice_cmp, nat_list_cmp_total}
use Rattle.units.specs.declared.spending.CounterStatus.{CounterStatus}
use Rattle.counters.specs.Names.{IsBelow, AreAscending}
use Rattle.counters.specs.Watching.{counters_of, StatusesAscend}
use Rattle.json_objects.specs.Tokens.{are_above, do_ascend}
use Rattle.spend_json.specs.StatusWritten.{infos_fields}
use Rattle.chf_core.specs.declared.command.Command.{Command}
use Rattle.chf_core.specs.declared.command.Command.TheVariants.{Subscribe, Modify}
use Rattle.chf_core.specs.Spending.{counters_in}
use Rattle.chf_core.specs.State.{State}
use Rattle.chf_core.specs.Deciding.{outcome_of, spent_of}
use Rattle.chf_messages.specs.Ascending.{AscendsIn}

both : (a b : Bool) → a ≡ true → b ≡ true → (a && b) ≡ true
both true b e f = f
both false b e f = absurd (cc)

above_is : (a b : List ℕ) → slice_cmp nat_cmp a b ≡ Less → is_gt (slice_cmp nat_cmp b a) ≡ true
above_is a b h = ap is_gt (nat_list_cmp_total.antisymm b a ∙ ap ordering_reverse h)

all_above : (name : List ℕ) (infos : List CounterStatus) → IsBelow name (counters_of infos) → are_above name (infos_fields infos) ≡ true
all_above name [] h = refl
all_above name (info ∷ rest) h = both _ _ (above_is name info.counter h.0) (all_above name rest h.1)

up_is : (infos : List CounterStatus) → AreAscending (counters_of infos) → do_ascend (infos_fields infos) ≡ true
up_is [] up = refl
up_is (info ∷ rest) up = both _ _ (all_above info.counter rest up.0) (up_is rest up.1)

-- whatever a command comes to
pub ascends : StatusesAscend → (s : State) (c : Command) → AscendsIn (outcome_of s c)
ascends law s (Subscribe context) = up_is _ (law (counters_in s.setup) context.counters (spent_of s context.supi))
ascends law s (Modify id context) = up_is _ (law (counters_in s.setup) context.counters (spent_of s context.supi))
ascends law s c = tt
