-- Where the subscriptions of an account are found. No public clause names these.
use Rattle.std.specs.Prelude.{◌≡◌, ◌<◌, ◌-◌, ◌^◌, ℕ, length, vec_len, vec_capacity}
use Rattle.notices.specs.declared.by_account.ByAccount.TheInside.{Inside}
use Rattle.notices.specs.Places.{Placed, ids_at}
use Rattle.notices.specs.Watching.{watching}

-- the accounts that are watched, as their value is seen
abbrev pub placed : Inside → Placed
placed b = record {
  accounts = b.accounts.items;
  spare = vec_capacity b.accounts - vec_len b.accounts;
  lists = b.lists.items;
}

-- each account's list is that of the subscriptions that watch it
pub record IsIndexed (b : Inside) : Type 0 where
  pub indexed : (account : ℕ) → ids_at b.lists.items account ≡ watching b.accounts.items account
  pub few : length b.accounts.items < 2 ^ 32
