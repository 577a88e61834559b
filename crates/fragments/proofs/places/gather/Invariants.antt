use Rattle.std.proofs.Common.{◌≡◌, ◌+◌, ◌<◌, All, IfSome, IsNone, IsOk, length, sum_by, take, vec_len}
use Rattle.crossbeam_queue.specs.Passes.{IsPassOf, IsSamePass, view}
use Rattle.fragments.specs.Places.{HasDone, IsFirstFrom, weight_at}
use Rattle.fragments.proofs.places.gather.Given as goal

abbrev pub invariant-loop-places : goal.invariant-loop-places
invariant-loop-places g l =
    IsSamePass l.initial.pass l.pass
    × IsPassOf l.queue l.pass
    × (0 < (view l.pass).parts)
    × ((view l.pass).parts + vec_len l.places ≡ (view l.initial.pass).parts + vec_len l.initial.places)
    × ((view l.pass).put ≡ (view l.initial.pass).put)
    × All (HasDone l.queue) l.places.items
    × ((h : _) → sum_by h (view l.pass).taken + sum_by (weight_at h) l.places.items ≡ sum_by h (view l.initial.pass).taken + sum_by (weight_at h) l.initial.places.items)
    × (l.places.items ≡ take (length l.places.items) l.initial.places.items)
    × (IsNone l.first → (All (λ place. IsOk place.outcome) l.places.items → All (λ place. IsOk place.outcome) l.initial.places.items))
    × IfSome l.first (λ e. IsFirstFrom (length l.places.items) e l.initial.places.items)

abbrev pub decreases-loop-places : goal.decreases-loop-places
decreases-loop-places g l = vec_len l.places
