use Rattle.std.proofs.Common.{◌≡◌, ◌+◌, ◌≤◌, length, take}
use Rattle.notices.specs.Places.{room_at}
use Rattle.notices.specs.Watched.{moved_to}
use Rattle.notices.specs.Caches.{AreAligned}
use Rattle.notices.proofs.watchers.Watchers.move_to.Given as goal

abbrev pub invariant-loop-id : goal.invariant-loop-id
invariant-loop-id l = record {
  contexts : l.self-inside.subscriptions.contexts ≡ l.fn.self.of.contexts;
  accounts : l.self-inside.by_account.accounts ≡ moved_to l.account l.fn.self.of.accounts (take l.id-index l.ids);
  numbers : l.self-inside.numbers.items ≡ l.fn.self.of.numbers;
  unsent : l.self-inside.unsent.notices ≡ l.fn.self.of.unsent;
  aligned : AreAligned l.self-inside.subscriptions.contexts l.self-inside.by_account.accounts;
  numbered : length l.self-inside.numbers.items ≡ length l.self-inside.subscriptions.contexts;
  room : length l.ids ≤ room_at l.self-inside.by_account.lists l.account + l.id-index;
}
