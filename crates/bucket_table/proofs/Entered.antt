-- Entries of loans, over one call of a store and over many.
use Rattle.std.proofs.Common.{◌≡◌, ℕ, List, [], ◌∷◌, ◌++◌, Option, Some, None, map, refl, ap, sym, ◌∙◌, subst, append-nil, append_assoc}
use Rattle.std.specs.Prelude.{All}
use Rattle.std.proofs.lemmas.List.{map-append}
use Rattle.std.proofs.lemmas.List.Elements.{All-append, All-cons, All-head, All-nil, All-tail}
use Rattle.reservation_tree.specs.declared.errors.PoolErr.{PoolErr}
use Rattle.reservation_tree.specs.declared.errors.PoolErr.TheVariants.{NoReservation, ScratchFull, WriteFault, ReadFault, TooManyTrackers, NamesSpent, Memory, Stale}
use Rattle.pool_model.specs.declared.call.Call.TheVariants as call
use Rattle.pool_model.specs.declared.event.Event.{Event}
use Rattle.pool_model.specs.declared.event.Event.TheVariants.{Ask, Alloc, Free, StartWrite, WriteOk, WriteFailed, Evict, Refused}
use Rattle.pool_model.specs.declared.entry.Entry.{Entry}
use Rattle.store_api.specs.Entries.{AreWrites, IsAsked, IsEvict, IsRefusal, IsTaken, Made, MadeThese, by}
use Rattle.store_api.specs.Holdings.{Holdings}
use Rattle.store_api.specs.Refusals.{MayRefuse, WasRefused}
use Rattle.store_api.specs.Signs.{Signs, Entered}
use Rattle.bucket_table.specs.Entering.{EnteredLoans, IsOfLoans, LeavePages, LoansLeavePages}

-- where nothing was called
pub loans_none : (trail : Option (List Entry)) → EnteredLoans trail trail
loans_none None = refl
loans_none (Some entries) = ([], ap Some (sym (append-nil entries)), All-nil IsOfLoans)

-- over two calls, one after the other
pub loans_more : (a b c : Option (List Entry)) → EnteredLoans a b → EnteredLoans b c → EnteredLoans a c
loans_more None b c first second = subst (λ (o : Option (List Entry)). EnteredLoans o c) first second
loans_more (Some before) b c first second =
    let next : EnteredLoans (Some (before ++ first.0)) c = subst (λ (o : Option (List Entry)). EnteredLoans o c) first.1 second in (
      first.0 ++ next.0,
      next.1 ∙ ap Some (append_assoc before first.0 next.0),
      subst (All IsOfLoans) (sym (map-append (λ (e : Entry). e.event) first.0 next.0))
          (All-append IsOfLoans (map (λ (e : Entry). e.event) first.0) (map (λ (e : Entry). e.event) next.0) first.2 next.2),
    )

-- ---- one call

events_by : (maker : ℕ) (events : List Event) → map (λ (e : Entry). e.event) (by maker events) ≡ events
events_by maker [] = refl
events_by maker (e ∷ events) = ap (λ (es : List Event). e ∷ es) (events_by maker events)

made_loans : (P : List Event → Type 0) (maker : ℕ) (a b : Option (List Entry)) → ((events : List Event) → P events → All IsOfLoans events)
    → Entered (λ more. (made : List Event) × (more ≡ by maker made) × P made) a b → EnteredLoans a b
made_loans P maker None b so made = made
made_loans P maker (Some before) b so made =
    let is = made.2 in (
      made.0,
      made.1,
      subst (All IsOfLoans) (sym (ap (map (λ (e : Entry). e.event)) is.1 ∙ events_by maker is.0)) (so is.0 is.2),
    )

of_evicts : (events : List Event) → All IsEvict events → All IsOfLoans events
of_evicts [] evicts = All-nil IsOfLoans
of_evicts (Evict p ∷ rest) evicts = All-cons IsOfLoans (Evict p) rest tt (of_evicts rest (All-tail IsEvict (Evict p) rest evicts))
of_evicts (e ∷ rest) evicts = absurd (All-head IsEvict e rest evicts)

-- the calls of a client, over what the store held before
module _ (t : ℕ) (h : Holdings) where
  of_writes : (events : List Event) → AreWrites t h events → All IsOfLoans events
  of_writes [] writes = All-nil IsOfLoans
  of_writes (StartWrite p ∷ WriteOk q ∷ rest) writes =
      All-cons IsOfLoans (StartWrite p) (WriteOk q ∷ rest) tt (All-cons IsOfLoans (WriteOk q) rest tt (of_writes rest writes.2))
  of_writes (StartWrite p ∷ WriteFailed q before after ∷ rest) writes =
      All-cons IsOfLoans (StartWrite p) (WriteFailed q before after ∷ rest) tt
      (All-cons IsOfLoans (WriteFailed q before after) rest tt (of_writes rest writes.2))
  of_writes _ writes = absurd writes

  of_asked : (last events : List Event) → All IsOfLoans last → IsAsked t h last events → All IsOfLoans events
  of_asked last events are asked =
      subst (All IsOfLoans) (sym asked.2)
      (All-cons IsOfLoans Ask (asked.0 ++ last) tt (All-append IsOfLoans asked.0 last (of_writes asked.0 asked.1) are))

  of_taken : (last events : List Event) → All IsOfLoans last → IsTaken t h last events → All IsOfLoans events
  of_taken last events are taken = of_asked (taken.0 ++ last) events (All-append IsOfLoans taken.0 last (of_evicts taken.0 taken.1) are) taken.2

  -- a buffer was lent
  pub lent_entered : (maker f client blocks : ℕ) (old new : Signs) → Made maker (IsTaken t h (Alloc f client blocks ∷ [])) old new → EnteredLoans old.trail new.trail
  lent_entered maker f client blocks old new made =
      made_loans (IsTaken t h (Alloc f client blocks ∷ [])) maker old.trail new.trail
      (λ events taken. of_taken (Alloc f client blocks ∷ []) events (All-cons IsOfLoans (Alloc f client blocks) [] tt (All-nil IsOfLoans)) taken) made

  of_refused : (client blocks : ℕ) (e : PoolErr) (old new : Signs) → MayRefuse t (call.Alloc client blocks) old new e → (events : List Event) → IsRefusal t h (call.Alloc client blocks) e events → All IsOfLoans events
  of_refused client blocks (NoReservation tracker wanted room) old new cause = absurd cause
  of_refused client blocks (ScratchFull need free) old new cause = absurd cause
  of_refused client blocks (WriteFault entry) old new cause = λ events is.
      of_asked (Refused (call.Alloc client blocks) entry ∷ []) events (All-cons IsOfLoans (Refused (call.Alloc client blocks) entry) [] tt (All-nil IsOfLoans)) is
  of_refused client blocks (ReadFault entry) old new cause = absurd cause
  of_refused client blocks (TooManyTrackers count) old new cause = absurd cause
  of_refused client blocks NamesSpent old new cause = absurd cause
  of_refused client blocks Memory old new cause = λ events is. subst (All IsOfLoans) (sym is) (All-nil IsOfLoans)
  of_refused client blocks (Stale wanted found) old new cause = absurd cause

-- none was lent
pub refused_entered : (t client blocks : ℕ) (e : PoolErr) (h new : Holdings) (before after : Signs) → WasRefused t (call.Alloc client blocks) h new before after e → EnteredLoans before.trail after.trail
refused_entered t client blocks e h new before after was =
    made_loans (IsRefusal t h (call.Alloc client blocks) e) h.session before.trail after.trail (of_refused t h client blocks e before after was.cause) was.entries

-- one came back
pub freed_entered : (maker f : ℕ) (old new : Signs) → MadeThese maker (Free f ∷ []) old new → EnteredLoans old.trail new.trail
freed_entered maker f old new made =
    made_loans (λ events. events ≡ Free f ∷ []) maker old.trail new.trail
    (λ events is. subst (All IsOfLoans) (sym is) (All-cons IsOfLoans (Free f) [] tt (All-nil IsOfLoans))) made

-- ---- what stays

step_leaves : (maker : ℕ) (e : Event) (rest : List Entry) → IsOfLoans e → LeavePages rest → LeavePages (record { maker = maker; event = e } ∷ rest)
step_leaves maker Ask rest are left = record { content = left.content; names = left.names }
step_leaves maker (Alloc f client blocks) rest are left = record { content = left.content; names = left.names }
step_leaves maker (Free f) rest are left = record { content = left.content; names = left.names }
step_leaves maker (StartWrite p) rest are left = record { content = left.content; names = left.names }
step_leaves maker (WriteOk p) rest are left = record { content = left.content; names = left.names }
step_leaves maker (WriteFailed p before after) rest are left = record { content = left.content; names = left.names }
step_leaves maker (Evict p) rest are left = record { content = left.content; names = left.names }
step_leaves maker (Refused (call.Alloc client blocks) entry) rest are left = record { content = left.content; names = left.names }
step_leaves maker _ rest are left = absurd are

pub loans_leave_pages : LoansLeavePages
loans_leave_pages [] are = record { content = λ p bytes. refl; names = refl }
loans_leave_pages (e ∷ rest) are =
    step_leaves e.maker e.event rest (All-head IsOfLoans e.event (map (λ (x : Entry). x.event) rest) are)
    (loans_leave_pages rest (All-tail IsOfLoans e.event (map (λ (x : Entry). x.event) rest) are))
