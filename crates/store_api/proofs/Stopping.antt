-- Why a walk gave up stays true of an earlier beginning and of a later end, and of the walk what is of its rounds.
use Rattle.std.proofs.Common.{◌≡◌, ℕ, ◌<◌, ◌≤◌, ◌+◌, leb, true, false, Result, Ok, Err, IfErr, refl, sym, subst, inl, inr, arith, rules}
use Rattle.std.proofs.lemmas.Bool.{cases_Bool}
use Rattle.reservation_tree.specs.declared.errors.PoolErr.{PoolErr}
use Rattle.reservation_tree.specs.declared.errors.PoolErr.TheVariants.{NoReservation, ScratchFull, WriteFault, ReadFault, TooManyTrackers, NamesSpent, Memory, Stale}
use Rattle.store_api.specs.Holdings.{Holdings}
use Rattle.store_api.specs.Signs.{Signs, Grows, WasAnswered}
use Rattle.store_api.specs.Walks.{StoppedRound, StoppedWalk}
use Rattle.store_api.proofs.Answered.{answered_before, answered_after}

-- what a store answered is a cause
pub answered_stops : (e : PoolErr) (old new : Signs) → WasAnswered e old new → StoppedRound old new e
answered_stops (NoReservation tracker wanted room) old new was = absurd was
answered_stops (ScratchFull need free) old new was = was
answered_stops (WriteFault entry) old new was = was
answered_stops (ReadFault entry) old new was = was
answered_stops (TooManyTrackers count) old new was = was
answered_stops NamesSpent old new was = was
answered_stops Memory old new was = was
answered_stops (Stale wanted found) old new was = was

-- of a span that begins earlier, and of one that ends later
pub stopped_before : (e : PoolErr) (a b c : Signs) → Grows a b → StoppedRound b c e → StoppedRound a c e
stopped_before (NoReservation tracker wanted room) a b c first stop = stop
stopped_before (ScratchFull need free) a b c first stop = answered_before (ScratchFull need free) a b c first stop
stopped_before (WriteFault entry) a b c first stop = answered_before (WriteFault entry) a b c first stop
stopped_before (ReadFault entry) a b c first stop = answered_before (ReadFault entry) a b c first stop
stopped_before (TooManyTrackers count) a b c first stop = stop
stopped_before NamesSpent a b c first stop = answered_before NamesSpent a b c first stop
stopped_before Memory a b c first stop = stop
stopped_before (Stale wanted found) a b c first stop = answered_before (Stale wanted found) a b c first stop

pub stopped_after : (e : PoolErr) (a b c : Signs) → StoppedRound a b e → Grows b c → StoppedRound a c e
stopped_after (NoReservation tracker wanted room) a b c stop second = stop
stopped_after (ScratchFull need free) a b c stop second = answered_after (ScratchFull need free) a b c stop second
stopped_after (WriteFault entry) a b c stop second = answered_after (WriteFault entry) a b c stop second
stopped_after (ReadFault entry) a b c stop second = answered_after (ReadFault entry) a b c stop second
stopped_after (TooManyTrackers count) a b c stop second = stop
stopped_after NamesSpent a b c stop second = answered_after NamesSpent a b c stop second
stopped_after Memory a b c stop second = stop
stopped_after (Stale wanted found) a b c stop second = answered_after (Stale wanted found) a b c stop second

pub too_great : (wanted room : ℕ) → leb wanted room ≡ false → room < wanted
too_great wanted room is = grind (arith, rules)

-- what stopped the rounds stops the walk
pub stops_walk : (h : Holdings) (e : PoolErr) (old new : Signs) → h.live_clients < 15 → StoppedRound old new e → StoppedWalk h old new e
stops_walk h (NoReservation tracker wanted room) old new few stop = (few, stop)
stops_walk h (ScratchFull need free) old new few stop = (few, stop)
stops_walk h (WriteFault entry) old new few stop = (few, stop)
stops_walk h (ReadFault entry) old new few stop = (few, stop)
stops_walk h (TooManyTrackers count) old new few stop = absurd stop
stops_walk h NamesSpent old new few stop = (few, stop)
stops_walk h Memory old new few stop = (few, stop)
stops_walk h (Stale wanted found) old new few stop = (few, stop)

pub walk_stops : {X : Type 0} (result : Result X PoolErr) (h : Holdings) (a b c d : Signs) → h.live_clients < 15 → Grows a b → IfErr result (StoppedRound b c) → Grows c d → IfErr result (StoppedWalk h a d)
walk_stops (Ok x) h a b c d few first stop last = tt
walk_stops (Err e) h a b c d few first stop last = stops_walk h e a d few (stopped_after e a c d (stopped_before e a b c first stop) last)

-- where there is no sixteenth client, one less was live
pub no_room_stops : (h : Holdings) (e : PoolErr) (old new : Signs) → e ≡ TooManyTrackers 16 → 16 ≤ h.live_clients + 1 → StoppedWalk h old new e
no_room_stops h e old new is many =
    let most : StoppedWalk h old new (TooManyTrackers 16) = (refl, omega (arith, many)) in
    subst (λ (x : PoolErr). StoppedWalk h old new x) (sym is) most

-- and where there is one, fewer were
pub few_before : (h : Holdings) (live : ℕ) → live ≡ h.live_clients + 1 → (16 ≤ live → false ≡ true) → h.live_clients < 15
few_before h live is refused = elim (cases_Bool (leb 16 live)) [
  | inl many ↦
      let most : 16 ≤ live = grind (arith, rules) in
      let wrong : false ≡ true = refused most in
      absurd (cc)
  | inr few ↦
      let less : live < 16 = too_great 16 live few in
      omega (arith, is, less)
]
