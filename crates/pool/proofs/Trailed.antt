-- What a history is behind the entries by which a session comes or goes.
use Rattle.std.proofs.Common.{◌≡◌, ℕ, List, [], ◌∷◌, ◌++◌, Some, ap, ◌∙◌}
use Rattle.std.proofs.lemmas.List.{append_assoc}
use Rattle.reservation_tree.specs.Tracker.{reservation_of}
use Rattle.pool_model.specs.declared.event.Event.{Event}
use Rattle.pool_model.specs.declared.event.Event.TheVariants.{AddTracker, CloseTracker, Decrease, Increase}
use Rattle.pool_model.specs.declared.entry.Entry.{Entry}
use Rattle.pool_model.specs.State.{State}
use Rattle.pin_core.specs.calls.Opening.{ending_entries, opening_entries}
use Rattle.pin_core.specs.calls.Sessions.{query_of}

-- one after the other
two : (trail first later : List Entry) (a b : Entry) → first ≡ trail ++ a ∷ [] → later ≡ first ++ b ∷ [] → later ≡ trail ++ a ∷ b ∷ []
two trail first later a b one other = other ∙ ap (λ (h : List Entry). h ++ b ∷ []) one ∙ append_assoc trail (a ∷ []) (b ∷ [])

abbrev entry : ℕ → Event → Entry
entry m event = record { maker = m; event = event }

module _ (trail first later : List Entry) (m : ℕ) where
  -- these came, of a tracker and of the root, as they were read
  pub begun_trail : (query limit quota least tracker root : ℕ) → tracker ≡ query → root ≡ 0
      → first ≡ trail ++ entry m (AddTracker tracker root limit (Some quota)) ∷ [] → later ≡ first ++ entry m (Increase tracker least) ∷ []
      → later ≡ trail ++ opening_entries m query limit quota least
  begun_trail query limit quota least tracker root its top one other =
      two trail first later (entry m (AddTracker tracker root limit (Some quota))) (entry m (Increase tracker least)) one other
      ∙ ap (λ (r : ℕ). trail ++ entry m (AddTracker tracker r limit (Some quota)) ∷ entry m (Increase tracker least) ∷ []) top
      ∙ ap (λ (t : ℕ). trail ++ opening_entries m t limit quota least) its

  -- these came, of a tracker and its reservation, as they were read
  pub ended_trail : (s : State) (tracker bytes : ℕ) → tracker ≡ query_of s m → bytes ≡ reservation_of s.trackers tracker
      → first ≡ trail ++ entry m (Decrease tracker bytes) ∷ [] → later ≡ first ++ entry m (CloseTracker tracker) ∷ []
      → later ≡ trail ++ ending_entries s m
  ended_trail s tracker bytes its all one other =
      two trail first later (entry m (Decrease tracker bytes)) (entry m (CloseTracker tracker)) one other
      ∙ ap (λ (n : ℕ). trail ++ entry m (Decrease tracker n) ∷ entry m (CloseTracker tracker) ∷ []) all
      ∙ ap (λ (t : ℕ). trail ++ entry m (Decrease t (reservation_of s.trackers t)) ∷ entry m (CloseTracker t) ∷ []) its
