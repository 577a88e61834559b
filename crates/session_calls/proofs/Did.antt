-- What a session did between two times that it had the value in hand.
use Rattle.std.proofs.Common.{◌≡◌, ℕ, List, ◌++◌, filter, sym, ap, ◌∙◌, subst}
use Rattle.std.proofs.lemmas.List.{append_assoc}
use Rattle.pool_model.specs.declared.event.Event.{Event}
use Rattle.pool_model.specs.declared.entry.Entry.{Entry}
use Rattle.pool_model.specs.State.{Opening}
use Rattle.pool_model.specs.LookingBack.{is_by, made_by}
use Rattle.store_api.specs.Signs.{Grows}
use Rattle.store_api.specs.Entries.{by, Made}
use Rattle.own_entries.specs.OwnHoldings.{Outset, after_events}
use Rattle.session_calls.proofs.Lists.{NoneOpens}
use Rattle.session_calls.specs.declared.hand.Hand.{Hand}
use Rattle.session_calls.specs.declared.count.Count.{Count}
use Rattle.session_calls.specs.Told.{held_in, signs_in}
use Rattle.session_calls.specs.Acting.{Acts, held_by, signs_by}
use Rattle.session_calls.specs.Doing.{Does}
use Rattle.session_calls.specs.Jobs.{DoesIn}
use Rattle.session_calls.proofs.Doing.{does_held, does_grows, does_made, does_more}
use Rattle.session_calls.proofs.Entered.{Entered, acts_entered}
use Rattle.session_calls.proofs.Steps.{entered_does}

-- the same of the number that a session kept
abbrev pub does_at : {P : List Event → Type 0} (m n : ℕ) → m ≡ n → (x y : List Entry) → Does m P x y → Does n P x y
does_at m n same x y d = record {
  events = d.events;
  is = d.is;
  own = subst (λ (k : ℕ). made_by y k ≡ made_by x k ++ by k d.events) same d.own;
  more = d.more;
  grew = d.grew;
  mine = subst (λ (k : ℕ). filter (is_by k) d.more ≡ by k d.events) same d.mine;
}

module _ {D : Type 0} where
  abbrev pub entered_did : {P : List Event → Type 0} (old new : Hand D) (entered : Entered P old new) → NoneOpens entered.events → DoesIn P old new
  entered_did old new entered none = record { session = entered.session; went = entered.went; counts = entered.counts; does = entered_does old new entered none }

  abbrev pub acts_did : {P : List Event → Type 0} (old new : Hand D) (acts : Acts P old new) → NoneOpens acts.events → DoesIn P old new
  acts_did old new acts none = entered_did old new (acts_entered old new acts) none

  -- one after the other
  abbrev pub did_more : {P Q R : List Event → Type 0} (x y z : Hand D) (a : DoesIn P x y) (b : DoesIn Q y z) → R (a.does.events ++ b.does.events) → DoesIn R x z
  did_more x y z a b is = record {
    session = b.session ∙ a.session;
    went = a.went ++ b.went;
    counts = b.counts ∙ ap (λ (l : List Count). l ++ b.went) a.counts ∙ append_assoc x.counts a.went b.went;
    does = does_more x.session x.trail y.trail z.trail a.does (does_at y.session x.session a.session y.trail z.trail b.does) is;
  }

  -- the same, of other words
  abbrev pub did_so : {P Q : List Event → Type 0} (x y : Hand D) (a : DoesIn P x y) → Q a.does.events → DoesIn Q x y
  did_so x y a is = record { session = a.session; went = a.went; counts = a.counts; does = record { events = a.does.events; is = is; own = a.does.own; more = a.does.more; grew = a.does.grew; mine = a.does.mine } }

  module _ {P : List Event → Type 0} (o : Opening) (u : Outset) (old new : Hand D) (did : DoesIn P old new) where
    -- what is held then, and what shows of it
    pub did_held : held_by o u new ≡ after_events (held_by o u old) did.does.events
    did_held = ap (λ (m : ℕ). held_in o u m new.trail) did.session ∙ does_held o u old.session old.trail new.trail did.does

    pub did_grows : Grows (signs_by o old) (signs_by o new)
    did_grows = subst (λ (m : ℕ). Grows (signs_by o old) (signs_in o m new.trail)) (sym did.session) (does_grows o u old.session old.trail new.trail did.does)

    pub did_made : Made (held_by o u old).session P (signs_by o old) (signs_by o new)
    did_made = subst (λ (m : ℕ). Made (held_by o u old).session P (signs_by o old) (signs_in o m new.trail)) (sym did.session) (does_made o u old.session old.trail new.trail did.does)
