-- A turn on the shard that it needs.
use Rattle.std.proofs.Common.{◌≡◌, ◌∙◌, ℕ, Bool, true, false, Option, refl, sym, ap, subst}
use Rattle.moka_common.specs.Settings.{Settings}
use Rattle.moka_sync_model.specs.declared.entry.EntryChange.{EntryChange}
use Rattle.moka_sync_model.specs.EntryChange.{change_of}
use Rattle.moka_sync_model.specs.declared.ticket.Ticket.{Ticket}
use Rattle.moka_sync_model.specs.CoreState.{Maintenance}
use Rattle.moka_sync_model.specs.Entry.{Entry, entry_of}
use Rattle.moka_sync_model.specs.Parts.{ShardState, NeedsShard, TurnsAtEntry, need_of}
use Rattle.moka_sync_model.specs.Turn.Plan.{Outcome, AtEntry, after_change}
use Rattle.moka_sync_model.specs.Turn.Turn.{turn_at}
use Rattle.moka_sync_model.proofs.PartsLemmas.{need_unread}
use Rattle.moka_shard.specs.PlannedTurn.{IsPlanned, IsTurn}
use Rattle.moka_shard.specs.ShardTurn.{TurnsOnShard}

-- a turn that looks at an entry, as the maintenance has it
pub at_entry : {K V S : Type 0} (settings : Settings S) (valid_after : ℕ) (refused : Bool) (old new : Maintenance)
    (found : Option (Entry K V)) (change : EntryChange) → TurnsAtEntry K V settings valid_after refused old new found change
    → IsTurn K V settings old new
at_entry settings valid_after refused old new found change turn =
    (valid_after, refused, subst (λ plan. IsPlanned plan new) (sym turn.is) (found, ap (λ o. o.maintenance) (sym turn.ends)))

module _ {K V S : Type 0} (settings : Settings S) (valid_after : ℕ) (refused : Bool) (old new : Maintenance) (ticket : Ticket)
    (needs : need_of (turn_at {K = K} {V = V} settings valid_after false old.phase old) ≡ NeedsShard ticket) where
  -- the ticket that a turn looks at is the one that it needs
  own_ticket : (t : Ticket) (looks : Option (Entry K V) → Outcome K V)
      → turn_at settings valid_after refused old.phase old ≡ AtEntry t looks
      → t ≡ ticket
  own_ticket t looks is =
      let same : NeedsShard t ≡ NeedsShard ticket = sym (ap need_of is) ∙ unread refused ∙ needs in
      cc
    where
      unread : (refused : Bool)
          → need_of (turn_at {K = K} {V = V} settings valid_after refused old.phase old)
          ≡ need_of (turn_at {K = K} {V = V} settings valid_after false old.phase old)
      unread true = need_unread K V settings valid_after old.phase old
      unread false = refl

  -- what a turn makes of an entry, made of it in its shard
  pub turns_on_shard : (found : Option (Entry K V)) (change : EntryChange)
      → TurnsAtEntry K V settings valid_after refused old new found change
      → (old_shard new_shard : ShardState K V S) → found ≡ entry_of ticket old_shard.entries
      → new_shard ≡ record old_shard { entries = after_change ticket (change_of change) old_shard.entries }
      → TurnsOnShard settings valid_after refused ticket old new old_shard new_shard
  turns_on_shard found change turns old_shard new_shard here is =
      let own : turns.ticket ≡ ticket = own_ticket turns.ticket turns.looks turns.is in
      let ends : turns.looks (entry_of ticket old_shard.entries) ≡ record { change = change_of change; maintenance = new } =
      ap turns.looks (sym here) ∙ turns.ends in
      record {
        looks = turns.looks;
        is = turns.is ∙ ap (λ t. AtEntry t turns.looks) own;
        maintenance = sym (ap (λ (o : Outcome K V). o.maintenance) ends);
        shard =
            is
            ∙ ap (λ (o : Outcome K V). record old_shard { entries = after_change ticket o.change old_shard.entries }) (sym ends);
      }
