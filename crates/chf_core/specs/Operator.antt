-- What the operator's commands of a list stand for. A list of commands has its newest first; what comes after a command is before it in time (this product's own).
use Rattle.std.specs.Prelude.{ℕ, nat_eq, Bool, cond, List, [], ◌∷◌, length, Option, Some, None}
use Rattle.std.specs.Option.{option_and_then}
use Rattle.std.specs.Cmp.Lexicographic.{pointwise}
use Rattle.chf_core.specs.declared.setup.ChfSetup.{ChfSetup}
use Rattle.chf_core.specs.declared.subscription.Subscription.{Subscription}
use Rattle.chf_core.specs.declared.subscription.Sum.{Sum}
use Rattle.chf_core.specs.declared.command.Command.{Command}
use Rattle.chf_core.specs.declared.command.Command.TheVariants.{Setup, Subscriber, TopUp}

-- whether two names are the same
abbrev pub name_eq : List ℕ → List ℕ → Bool
name_eq = pointwise nat_eq

-- the setup
abbrev pub setup_of : List Command → Option ChfSetup
setup_of [] = None
setup_of (Setup setup ∷ before) = Some setup
setup_of (c ∷ before) = setup_of before

-- the latest row of a subscriber
abbrev pub subscription_of : List Command → List ℕ → Option Subscription
subscription_of [] supi = None
subscription_of (Subscriber other account barred ∷ before) supi = cond (name_eq other supi) (Some (record { account = account; barred = barred })) (subscription_of before supi)
subscription_of (c ∷ before) supi = subscription_of before supi

-- the number of a name among names, the newest first: how many were there before it
abbrev pub number_in : List (List ℕ) → List ℕ → Option ℕ
number_in [] name = None
number_in (n ∷ names) name = cond (name_eq n name) (Some (length names)) (number_in names name)

-- with one name more, where it is new
abbrev pub with_name : List (List ℕ) → List ℕ → Option ℕ → List (List ℕ)
with_name names name None = name ∷ names
with_name names name (Some number) = names

-- the names of the accounts, the newest first: an account comes to be with the first row that names it
abbrev pub account_names : List Command → List (List ℕ)
account_names [] = []
account_names (Subscriber supi account barred ∷ before) = with_name (account_names before) account (number_in (account_names before) account)
account_names (c ∷ before) = account_names before

-- the number of an account by its name
abbrev pub account_number : List Command → List ℕ → Option ℕ
account_number commands name = number_in (account_names commands) name

-- the account of a subscriber, by its latest row
abbrev pub account_of : List Command → List ℕ → Option ℕ
account_of commands supi = option_and_then (λ s. account_number commands s.account) (subscription_of commands supi)

-- the rating groups that are barred for a subscriber, by its latest row
abbrev pub barred_in : Option Subscription → List ℕ
barred_in None = []
barred_in (Some s) = s.barred

-- the top-up with an id
abbrev pub topup_of : List Command → List ℕ → Option Sum
topup_of [] id = None
topup_of (TopUp other account amount ∷ before) id = cond (name_eq other id) (Some (record { account = account; amount = amount })) (topup_of before id)
topup_of (c ∷ before) id = topup_of before id
