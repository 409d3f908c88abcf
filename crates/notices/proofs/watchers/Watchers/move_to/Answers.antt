use Rattle.std.proofs.Common.{◌≡◌, ◌-◌, Some, Option, List, ℕ, true, get_or, sym, ap, subst, ◌∙◌, arith}
use Rattle.std.proofs.Math.ListN.{set}
use Rattle.counters.specs.Subscriptions.{is_live}
use Rattle.notices.specs.Watched.{Kept}
use Rattle.notices.specs.Caches.{AreAligned}
use Rattle.notices.proofs.Aligned.{aligned_account, aligned_length, live_place}
use Rattle.notices.proofs.Answered.{rooms_at, moved_more}
use Rattle.notices.proofs.watchers.Watchers.move_to.Goals as goal

pub loop-id-init : goal.loop-id-init
loop-id-init c = record {
  contexts = ap (λ (k : Kept). k.of.contexts) c.self.view_is;
  accounts = ap (λ (k : Kept). k.of.accounts) c.self.view_is;
  numbers = ap (λ (k : Kept). k.of.numbers) c.self.view_is;
  unsent = ap (λ (k : Kept). k.of.unsent) c.self.view_is;
  aligned = c.self.invariant.aligned;
  numbered = c.self.invariant.numbered;
  room =
      let seen = ap (λ (k : Kept). get_or k.rooms c.args.account 0) c.self.view_is in
      omega (arith, seen, c.requires.room, rooms_at c.self.inside.by_account.lists c.args.account);
}

pub set-requires-clause-made : goal.set-requires-clause-made
set-requires-clause-made c =
    let contexts = c.loop-id.self-inside.subscriptions.contexts in
    let id = get_or c.args.ids.now c.loop-id.id-index 0 in
    let live : is_live contexts id ≡ true = ap (λ cs. is_live cs id) c.loop-id.invariant.contexts ∙ c.requires.live c.loop-id.id-index 0 c.loop-id-test.true in
    let place = live_place contexts id live in
    omega (arith, place.made, aligned_length contexts c.loop-id.self-inside.by_account.accounts c.loop-id.invariant.aligned)

pub loop-id-preserved : goal.loop-id-preserved
loop-id-preserved c =
    let contexts = c.loop-id.self-inside.subscriptions.contexts in
    let accounts = c.loop-id.self-inside.by_account.accounts in
    let id = get_or c.args.ids.now c.loop-id.id-index 0 in
    let live : is_live contexts id ≡ true = ap (λ cs. is_live cs id) c.loop-id.invariant.contexts ∙ c.requires.live c.loop-id.id-index 0 c.loop-id-test.true in
    let place = live_place contexts id live in
    record {
      contexts = c.loop-id.invariant.contexts;
      accounts =
          c.set.ensures.accounts ∙ ap (λ (ws : List (Option ℕ)). set ws (id - 1) (Some c.args.account)) c.loop-id.invariant.accounts
          ∙ moved_more c.args.account c.args.self.now.of.accounts c.args.ids.now c.loop-id.id-index c.loop-id-test.true;
      numbers = c.loop-id.invariant.numbers;
      unsent = c.loop-id.invariant.unsent;
      aligned = subst (AreAligned contexts) (sym c.set.ensures.accounts) (aligned_account contexts accounts (id - 1) c.args.account place.live c.loop-id.invariant.aligned);
      numbered = c.loop-id.invariant.numbered;
      room = let kept = c.set.ensures.room in let before = c.loop-id.invariant.room in omega arith;
    }
