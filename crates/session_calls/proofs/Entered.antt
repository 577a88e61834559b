-- What a session entered, whether or not slots moved.
use Rattle.std.proofs.Common.{◌≡◌, ℕ, List, [], ◌++◌, sym, ◌∙◌}
use Rattle.std.proofs.lemmas.List.{append-nil}
use Rattle.pool_model.specs.declared.event.Event.{Event}
use Rattle.store_api.specs.Entries.{by}
use Rattle.pin_core.specs.StateOf.{state_of}
use Rattle.session_calls.specs.declared.hand.Hand.{Hand}
use Rattle.session_calls.specs.declared.count.Count.{Count}
use Rattle.session_calls.specs.Moving.{NoneOpens, quota_at}
use Rattle.session_calls.specs.Acting.{Acts}

module _ {D : Type 0} where
  -- the session entered events of which this holds, nobody else entered any, and no session came or went; counts came
  -- behind those that there were
  pub record Entered (P : List Event → Type 0) (old new : Hand D) : Type 0 where
    pub events : List Event
    pub is : P events
    pub trail : new.trail ≡ old.trail ++ by old.session events
    pub session : new.session ≡ old.session
    pub went : List Count
    pub counts : new.counts ≡ old.counts ++ went
    pub opens : NoneOpens events
    pub quotas : (k : ℕ) → quota_at (state_of new.state) k ≡ quota_at (state_of old.state) k

  abbrev pub acts_entered : {P : List Event → Type 0} (old new : Hand D) → Acts P old new → Entered P old new
  acts_entered old new acts = record {
    events = acts.events;
    is = acts.is;
    trail = acts.trail;
    session = acts.session;
    went = [];
    counts = acts.counts ∙ sym (append-nil old.counts);
    opens = acts.opens;
    quotas = acts.quotas;
  }
