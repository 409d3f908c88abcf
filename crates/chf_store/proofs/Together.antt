-- A store and a disk belong together: once it was opened, after a refusal, and after an entry.
use Rattle.std.proofs.Common.{◌≡◌, ◌∙◌, ◌==◌, ℕ, List, [], ◌∷◌, ◌++◌, inl, inr, refl, sym, ap, subst, Option, Some, None, Result, Ok, Err, OnOk}
use Rattle.std.proofs.lemmas.List.Elements.{All-cons}
use Rattle.std.proofs.lemmas.List.{append-nil}
use Rattle.journal.specs.Bytes.{StandsFor}
use Rattle.journal.specs.Laws.{OneList as OneOfBytes}
use Rattle.journal.specs.Lists.{EachBeginsWith, Grows, MayAdd}
use Rattle.durable.specs.Held.{IsHeld}
use Rattle.durable.specs.State.{State as Durable, closed}
use Rattle.chf_core.specs.declared.command.Command.{Command}
use Rattle.chf_core.specs.State.{State}
use Rattle.chf_core.specs.After.{IsHistory, after, state_of}
use Rattle.chf_core.specs.Machine.{Machine}
use Rattle.chf_core.specs.Standing.{HistoriesGrow}
use Rattle.chf_core.specs.Deciding.{decision}
use Rattle.chf_core.specs.declared.decision.Verdict.TheVariants.{Fresh}
use Rattle.chf_core.specs.After.{is_setup}
use Rattle.chf_payloads.specs.Payloads.{ReadsBack}
use Rattle.chf_payloads.specs.Written.{payload_of}
use Rattle.chf_replay.specs.Entries.{AreEntriesOf, IsAfter, payloads_of}
use Rattle.chf_replay.specs.Laws.{CommandsGoOn}
use Rattle.chf_store.specs.declared.entry.Entry.{Entry}
use Rattle.chf_store.specs.Entering.{MayAddFresh, MayBeKept}
use Rattle.chf_store.specs.Stored.{Store, IsStored}

-- the entries of a list that is held gave the machine
pub by_entries : (store : Store) (content : Option (List ℕ)) (epoch : Option ℕ) (images : List ℕ → Type 0) (list : List (List ℕ))
    (after : IsAfter store.machine.state list) → IsHeld store.durable content epoch images list → IsStored store content epoch images after.commands
by_entries store content epoch images list after held = record {
  state = after.state;
  entries = record { came = after.are.came; read_back = after.are.read_back; payloads = refl };
  held = subst (λ (t : List (List ℕ)). IsHeld store.durable content epoch images t) (sym after.are.payloads) held;
}

-- a list that was opened again and closed
pub closed_held : (old : Durable) (content : Option (List ℕ)) (epoch : Option ℕ) (images : List ℕ → Type 0) (list now : List (List ℕ))
    → IsHeld old content epoch images now → EachBeginsWith epoch images list → IsHeld (closed old) content epoch images list
closed_held old content epoch images list now held begins = record {
  sound = λ j e. absurd (let f : None ≡ Some j = e in cc);
  begins = begins;
  begun = held.begun;
  claimed = held.claimed;
  same = λ j n e h. absurd (let f : None ≡ Some j = e in cc);
}

-- the same state and list
pub same_store : (old new : Store) (content : Option (List ℕ)) (epoch : Option ℕ) (images : List ℕ → Type 0) (commands : List Command)
    → new.machine.state ≡ old.machine.state → new.durable ≡ old.durable → IsStored old content epoch images commands → IsStored new content epoch images commands
same_store old new content epoch images commands state durable stored = record {
  state = state ∙ stored.state;
  entries = stored.entries;
  held = subst (λ (t : Durable). IsHeld t content epoch images (payloads_of commands)) (sym durable) stored.held;
}

-- a store that is the same
pub inside : (a b : Store) (content : Option (List ℕ)) (epoch : Option ℕ) (images : List ℕ → Type 0) (commands : List Command) → a ≡ b → IsStored b content epoch images commands → IsStored a content epoch images commands
inside a b content epoch images commands e stored = subst (λ (t : Store). IsStored t content epoch images commands) (sym e) stored

-- another list of the same store
pub other_list : (old new : Store) (content : Option (List ℕ)) (epoch : Option ℕ) (images : List ℕ → Type 0) (commands : List Command)
    → new.machine.state ≡ state_of commands → AreEntriesOf commands (payloads_of commands) → IsHeld new.durable content epoch images (payloads_of commands) → IsStored new content epoch images commands
other_list old new content epoch images commands state entries held = record { state = state; entries = entries; held = held }

-- a fresh command comes to be behind those of a machine
pub comes : HistoriesGrow → (m : Machine) (entry : Entry) (commands : List Command) → MayBeKept m entry → m.state ≡ state_of commands
    → IsHistory commands → IsHistory (entry.plan.command ∷ commands)
comes grow m entry commands may state came =
    grow commands entry.plan.command entry.plan.outcome came (subst (λ (t : State). decision t entry.plan.command ≡ Fresh entry.plan.outcome) state may.ready.fresh)
    (subst (λ (t : State). is_setup entry.plan.command ≡ (t.count == 0)) state may.ready.order)

-- once its entry was added
pub one_more : HistoriesGrow → (old new : Store) (entry : Entry) (content content_now : Option (List ℕ)) (epoch epoch_now : Option ℕ) (images images_now : List ℕ → Type 0) (commands : List Command)
    → MayBeKept old.machine entry → new.machine.state ≡ after old.machine.state entry.plan.command → IsStored old content epoch images commands
    → IsHeld new.durable content_now epoch_now images_now (payloads_of commands ++ entry.payload ∷ [])
    → IsStored new content_now epoch_now images_now (entry.plan.command ∷ commands)
one_more grow old new entry content content_now epoch epoch_now images images_now commands may state stored held = record {
  state = state ∙ ap (λ (t : State). after t entry.plan.command) stored.state;
  entries = record {
    came = comes grow old.machine entry commands may stored.state stored.entries.came;
    read_back = All-cons ReadsBack entry.plan.command commands may.read_back stored.entries.read_back;
    payloads = refl;
  };
  held = subst (λ (p : List ℕ). IsHeld new.durable content_now epoch_now images_now (payloads_of commands ++ p ∷ [])) may.payload held;
}

-- ---- what may come on the disk

grows_by : (epoch epoch_now : Option ℕ) (images images_now : List ℕ → Type 0) (A B : List (List ℕ) → List (List ℕ) → Type 0)
    → ((before more : List (List ℕ)) → A before more → B before more) → Grows epoch images epoch_now images_now A → Grows epoch images epoch_now images_now B
grows_by epoch epoch_now images images_now A B f grows = record {
  each = λ c im. let s = grows.each c im in (s.0, s.1, (s.2.0, s.2.1, s.2.2, f s.2.0 s.2.1 s.2.3, s.2.4));
}

fresh_by : (entry : Entry) (commands : List Command) (before more : List (List ℕ)) → entry.payload ≡ payload_of entry.plan.command → IsHistory (entry.plan.command ∷ commands)
    → MayAdd (payloads_of commands) entry.payload before more → MayAddFresh commands entry.plan.command before more
fresh_by entry commands before more payload came (inl none) = inl none
fresh_by entry commands before more payload came (inr added) = inr (added.0 ∙ ap (λ (p : List ℕ). p ∷ []) payload, added.1, came)

-- the entry alone, behind the list in memory
pub adds_fresh : HistoriesGrow → (old : Store) (entry : Entry) (content : Option (List ℕ)) (epoch epoch_now : Option ℕ) (images images_now : List ℕ → Type 0) (commands : List Command)
    → MayBeKept old.machine entry → IsStored old content epoch images commands
    → Grows epoch images epoch_now images_now (MayAdd (payloads_of commands) entry.payload) → Grows epoch images epoch_now images_now (MayAddFresh commands entry.plan.command)
adds_fresh grow old entry content epoch epoch_now images images_now commands may stored grows =
    grows_by epoch epoch_now images images_now (MayAdd (payloads_of commands) entry.payload) (MayAddFresh commands entry.plan.command)
    (λ before more. fresh_by entry commands before more may.payload (comes grow old.machine entry commands may stored.state stored.entries.came)) grows

-- nothing where the disk was not asked
pub adds_none : (store : Store) (content : Option (List ℕ)) (epoch : Option ℕ) (images : List ℕ → Type 0) (commands : List Command) (c : Command)
    → IsStored store content epoch images commands → Grows epoch images epoch images (MayAddFresh commands c)
adds_none store content epoch images commands c stored = record {
  each = λ b im. let s = stored.held.begins b im in (s.0, s.1, (s.0, [], (b, im, s.1), inl refl, sym (append-nil s.0)));
}

-- ---- the commands go on

pub later_commands : OneOfBytes → CommandsGoOn → (store : Store) (content : Option (List ℕ)) (epoch : Option ℕ) (images : List ℕ → Type 0) (commands : List Command) (b : List ℕ) (now : List (List ℕ))
    (s : State) → IsStored store content epoch images commands → images b → StandsFor epoch b now → (after : IsAfter s now) → (later : List Command) × (after.commands ≡ later ++ commands)
later_commands one go_on store content epoch images commands b now s stored here stands after =
    let began = stored.held.begins b here in
    let same : now ≡ payloads_of commands ++ began.2.0 = one epoch b now began.0 stands began.1 ∙ began.2.1 in
    go_on (payloads_of commands) began.2.0 commands after.commands stored.entries (subst (λ (t : List (List ℕ)). AreEntriesOf after.commands t) same after.are)

-- ---- entries

-- a list of entries that is held, where the disk was not asked
pub adds_nothing : (list : Durable) (content : Option (List ℕ)) (epoch : Option ℕ) (images : List ℕ → Type 0) (entries : List (List ℕ)) (payload : List ℕ)
    → IsHeld list content epoch images entries → Grows epoch images epoch images (MayAdd entries payload)
adds_nothing list content epoch images entries payload held = record {
  each = λ b im. let s = held.begins b im in (s.0, s.1, (s.0, [], (b, im, s.1), inl refl, sym (append-nil s.0)));
}

-- once a journal was opened again and gave its machine
pub settled : {E : Type 0} (r : Result (Unit {0}) E) → OneOfBytes → CommandsGoOn → (old new : Store) (mid : Durable) (content content_now : Option (List ℕ)) (epoch epoch_now : Option ℕ) (images images_now : List ℕ → Type 0)
    (commands : List Command) (b : List ℕ) (now given : List (List ℕ)) → OnOk r (IsAfter new.machine.state given × (new.durable ≡ mid)) → given ≡ now → IsHeld mid content_now epoch_now images_now now
    → IsStored old content epoch images commands → images b → StandsFor epoch b now → OnOk r ((later : List Command) × IsStored new content_now epoch_now images_now (later ++ commands))
settled (Ok u) one go_on old new mid content content_now epoch epoch_now images images_now commands b now given ok same held stored here stands =
    let after : IsAfter new.machine.state now = subst (λ (t : List (List ℕ)). IsAfter new.machine.state t) same ok.0 in
    let whole = by_entries new content_now epoch_now images_now now after (subst (λ (d : Durable). IsHeld d content_now epoch_now images_now now) (sym ok.1) held) in
    let later = later_commands one go_on old content epoch images commands b now new.machine.state stored here stands after in
    (later.0, subst (λ (t : List Command). IsStored new content_now epoch_now images_now t) later.1 whole)
settled (Err e) one go_on old new mid content content_now epoch epoch_now images images_now commands b now given ok same held stored here stands = tt
