-- A reference names its own session for good.
use Rattle.std.proofs.Common.{◌≡◌, ℕ, List, [], ◌∷◌, ◌++◌, Option, Some, None, option_map, refl, sym, ap, ◌∙◌}
use Rattle.chf_core.specs.declared.command.Command.{Command}
use Rattle.chf_core.specs.declared.session.Session.{Session}
use Rattle.chf_core.specs.Sessions.{by_reference, sessions}
use Rattle.chf_core.specs.State.{session_at}
use Rattle.chf_core.specs.After.{state_of}
use Rattle.chf_core.specs.Standing.{IsSameSession}
use Rattle.chf_core.proofs.Named.{Lasting, lasting, owner, keeps_one}
use Rattle.chf_core.proofs.JoinedParts.{sessions_are}

owner_stands : (later a : List Command) (r : ℕ) (n : Lasting) → owner (sessions a) r ≡ Some n
    → owner (sessions (later ++ a)) r ≡ Some n
owner_stands [] a r n e = e
owner_stands (c ∷ later) a r n e = keeps_one c (later ++ a) r n (owner_stands later a r n e)

pub found_lasting : (o : Option Session) (z : Session) → option_map lasting o ≡ Some (lasting z)
    → (y : Session) × (o ≡ Some y) × IsSameSession y z
found_lasting None z e = absurd (cc)
found_lasting (Some y) z e =
    let h : lasting y ≡ lasting z = cc in (
      y,
      refl,
      record {
        consumer = ap (λ (l : Lasting). l.consumer) h;
        charging_id = ap (λ (l : Lasting). l.charging_id) h;
        supi = ap (λ (l : Lasting). l.supi) h;
        account = ap (λ (l : Lasting). l.account) h;
      },
    )

pub reference_stands : (later a : List Command) (r : ℕ) (z : Session) → session_at (state_of a) r ≡ Some z
    → (y : Session) × (session_at (state_of (later ++ a)) r ≡ Some y) × IsSameSession y z
reference_stands later a r z e =
    let at = λ (l : List Session). by_reference l r in
    let here : by_reference (sessions a) r ≡ Some z = ap at (sym (sessions_are a)) ∙ e in
    let f = found_lasting (by_reference (sessions (later ++ a)) r) z
    (owner_stands later a r (lasting z) (ap (option_map lasting) here)) in
    (f.0, ap at (sessions_are (later ++ a)) ∙ f.1, f.2)
