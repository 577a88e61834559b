-- A session takes the pool's value at the lock, and gives it back.
use Rattle.std.proofs.Common.{subst, List, ◌∷◌, ◌≡◌, ℕ, Bool, sym, ap, ◌∙◌}
use Rattle.outside.specs.declared.slot.Slot.{Ghosts}
use Rattle.atomic_table.specs.Seated.{TableId}
use Rattle.pool_model.specs.State.{Opening, State}
use Rattle.pool_model.specs.Legal.{state_after}
use Rattle.pin_core.specs.declared.tally.Tally.{Tally}
use Rattle.store_api.specs.Entries.{by}
use Rattle.turn_table.specs.declared.view.View.{View}
use Rattle.turn_table.specs.Steps.{grown}
use Rattle.turn_table.specs.Face.{Spot}
use Rattle.own_entries.specs.OwnHoldings.{Outset}
use Rattle.session_calls.specs.declared.hand.Hand.{Hand}
use Rattle.session_calls.specs.declared.count.Count.{Count}
use Rattle.session_calls.specs.declared.count.Count.TheVariants as count
use Rattle.session_calls.specs.Moving.{quota_at}
use Rattle.session_calls.specs.Having.{MayGive, Sight, Taken, sight_of}
use Rattle.pool.specs.declared.item.Item.{Item}
use Rattle.pool.specs.Sitting.{shared}
use Rattle.pool.specs.Items.{counts_in, history, sight_in}
use Rattle.pool.specs.Taking.{Gives, Takes, made_since}
use Rattle.pool.specs.Locking.{RestsAt, TurnsAt}
use Rattle.pool.proofs.Beside.{others_made}
use Rattle.pool.proofs.Listed.{counts_more, history_more}
use Rattle.pool.proofs.Since.{sight_since}
use Rattle.pool.proofs.Doings.{its_right}

module _ {D : Type 0} (slot : Ghosts D) (o : Opening) (told : Bool) (first : Tally) (lock : TableId) where
  -- the value was taken
  module _ (m : ℕ) (old new : Spot Item) (hand : Hand D) (rests : RestsAt lock old m) (takes : Takes slot o told first m old new hand) where
    pub turns_at : new.table ≡ lock → TurnsAt o lock new m
    turns_at table = record {
      table = table;
      turn = takes.turn;
      rights = takes.rights ∙ rests.rights;
      marked = takes.stands.marked;
      quotas = λ k. ap (λ (s : State). quota_at s k) (sym (takes.stands.whole.stands.state ∙ ap (λ (s : Sight). state_after o s.trail) takes.stands.sight_is)) ∙ takes.stands.sessions k;
    }

    pub taken : Taken slot o told m (sight_in first old.knows.seen) (sight_in first new.knows.seen) hand
    taken = record {
      session = takes.session;
      sight = takes.stands.sight_is;
      others = history takes.grew.behind;
      grew = ap history takes.grew.grew ∙ history_more old.knows.seen takes.grew.behind;
      beside = others_made m takes.grew.behind (takes.grew.beside m (its_right m old.knows.rights rests.rights));
      went = counts_in takes.grew.behind;
      counts = ap (λ (items : List Item). count.Opening first ∷ counts_in items) takes.grew.grew ∙ ap (λ (cs : List Count). count.Opening first ∷ cs) (counts_more old.knows.seen takes.grew.behind);
      whole = takes.stands.whole;
    }

  -- it is given back
  module _ (spot : Spot Item) (hand : Hand D) (turns : TurnsAt o lock spot hand.session) (may : MayGive slot o told (sight_in first spot.knows.seen) hand) where
    pub gives : Gives slot o told first spot hand
    gives = record {
      right = its_right hand.session spot.knows.rights turns.rights;
      events = may.worked.events;
      opens = may.worked.opens;
      trail = may.worked.trail;
      went = may.worked.went;
      counts = may.worked.counts;
      whole = may.whole;
      marked = turns.marked;
      quotas = λ k. may.worked.quotas k ∙ turns.quotas k;
    }

    module _ (new : Spot Item) (grows : new.knows ≡ grown (made_since hand.session spot.knows.seen (sight_of hand)) spot.knows) where
      pub rests_at : new.table ≡ lock → RestsAt lock new hand.session
      rests_at table = record { table = table; idle = ap (λ (v : View Item). v.stage) grows; rights = ap (λ (v : View Item). v.rights) grows ∙ turns.rights }

      pub seen_at : sight_in first new.knows.seen ≡ sight_of hand
      seen_at =
          ap (λ (v : View Item). sight_in first v.seen) grows
          ∙ sight_since hand.session (by hand.session may.worked.events) may.worked.went first spot.knows.seen (sight_of hand) may.worked.trail may.worked.counts

-- the value may be given back, where the call names with what the pool opened
pub may_named : {D : Type 0} (slot : Ghosts D) (o p : Opening) (u : Outset) (told : Bool) (seen : Sight) (hand : Hand D) → p ≡ o → u ≡ shared told → MayGive slot p u.told seen hand → MayGive slot o told seen hand
may_named slot o p u told seen hand origin outset may =
    subst (λ (q : Opening). MayGive slot q told seen hand) origin (subst (λ (w : Outset). MayGive slot p w.told seen hand) outset may)

pub taken_named : {D : Type 0} (slot : Ghosts D) (o p : Opening) (u : Outset) (told : Bool) (m : ℕ) (before now : Sight) (hand : Hand D) → p ≡ o → u ≡ shared told → Taken slot o told m before now hand → Taken slot p u.told m before now hand
taken_named slot o p u told m before now hand origin outset taken =
    subst (λ (w : Outset). Taken slot p w.told m before now hand) (sym outset) (subst (λ (q : Opening). Taken slot q told m before now hand) (sym origin) taken)
