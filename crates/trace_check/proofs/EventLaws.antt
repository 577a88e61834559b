-- Each event is made of its name and numbers, and of no others.
use Rattle.std.proofs.Common.{◌≡◌, ◌==◌, ◌≤◌, length, ℕ, List, [], ◌∷◌, Option, Some, None, true, false, if◌then◌else◌, ltb, ne_eqb, eq-eqb, eqb-true, refl, subst, arith}
use borrow.Author.Tests.{eqb-false}
use Rattle.std.proofs.lemmas.Bool.{lt-ltb, ltb-true}
use Rattle.pool_model.specs.declared.bare.Bare.{Bare}
use Rattle.pool_model.specs.declared.bare.Bare.TheVariants as bare
use Rattle.pool_model.specs.declared.call.Call.TheVariants as call
use Rattle.trace_check.specs.declared.name.Name.{Name}
use Rattle.trace_check.specs.declared.name.Name.TheVariants as name
use Rattle.trace_check.specs.Names.{name_of}
use Rattle.trace_check.specs.Numbers.{numbers_of, IsU32, EventInForm}
use Rattle.trace_check.specs.Events.{if_u32, marked, event_from}

fits : (n : ℕ) → IsU32 n → ltb n 4294967296 ≡ true
fits n small = lt-ltb n 4294967296 small

-- what went on with a number was narrow
pub record Narrowed {X : Type 0} (n : ℕ) (next : ℕ → Option X) (x : X) : Type 0 where
  pub small : IsU32 n
  pub then_is : next n ≡ Some x

narrow_told : {X : Type 0} (n : ℕ) (next : ℕ → Option X) (x : X) → if_u32 n next ≡ Some x → Narrowed n next x
narrow_told {X} n next x is = elim (ltb n 4294967296) as (λ t. ltb n 4294967296 ≡ t → (if t then next n else None) ≡ Some x → Narrowed n next x) [
  | true ↦ λ small more. record { small = ltb-true n 4294967296 small; then_is = more }
  | false ↦ λ large more. cc
] refl is

-- the event, its name and its numbers
pub record IsEvent (n : Name) (numbers : List ℕ) (e : Bare) : Type 0 where
  pub named : name_of e ≡ n
  pub numbered : numbers_of e ≡ numbers
  pub narrow : EventInForm e

pub event_again : (e : Bare) → EventInForm e → event_from (name_of e) (numbers_of e) ≡ Some e
event_again bare.Ask form = refl
event_again (bare.AddTracker t parent limit None) form = rw (fits t form.0, fits parent form.1, ne_eqb parent 0 (λ same. absurd (omega (arith, form.2, same)))) refl
event_again (bare.AddTracker t parent limit (Some quota)) form = rw (fits t form.0, fits parent (omega (arith, form.1)), fits quota form.2, eq-eqb parent 0 form.1) refl
event_again (bare.CloseTracker t) form = rw (fits t form) refl
event_again (bare.Increase t bytes) form = rw (fits t form) refl
event_again (bare.IncreaseToFit t bytes) form = rw (fits t form) refl
event_again (bare.Decrease t bytes) form = rw (fits t form) refl
event_again (bare.MoveReservation from to bytes) form = rw (fits from form.0, fits to form.1) refl
event_again (bare.Create p client blocks) form = rw (fits client form.0, fits blocks form.1) refl
event_again (bare.PinHere p) form = refl
event_again (bare.PinLoad p) form = refl
event_again (bare.ReadOk p) form = refl
event_again (bare.ReadFailed p) form = refl
event_again (bare.ReadStale wanted found) form = rw (fits wanted.block form.0, fits found.block form.1) refl
event_again (bare.PinAgain p) form = refl
event_again (bare.UnpinOnce p) form = refl
event_again (bare.Unpin p) form = refl
event_again (bare.UnpinRefused p) form = refl
event_again (bare.Extract p f) form = rw (fits f form) refl
event_again (bare.Destroy p) form = refl
event_again (bare.Alloc f client blocks) form = rw (fits f form.0, fits client form.1, fits blocks form.2) refl
event_again (bare.Free f) form = rw (fits f form) refl
event_again (bare.MoveBuffer f to) form = rw (fits f form.0, fits to form.1) refl
event_again (bare.StartWrite p) form = refl
event_again (bare.WriteOk p) form = refl
event_again (bare.WriteFailed p) form = refl
event_again (bare.Evict p) form = refl
event_again (bare.Refused (call.Pin p) entry) form = refl
event_again (bare.Refused (call.PinAgain p) entry) form = refl
event_again (bare.Refused (call.Create client blocks) entry) form = rw (fits client form.0, fits blocks form.1) refl
event_again (bare.Refused (call.Alloc client blocks) entry) form = rw (fits client form.0, fits blocks form.1) refl
event_again (bare.Refused (call.GiveBack client bytes) entry) form = rw (fits client form) refl
event_again (bare.Refused (call.MoveReservation from to bytes) entry) form = rw (fits from form.0, fits to form.1) refl
event_again (bare.Refused (call.MoveBuffer f to) entry) form = rw (fits f form.0, fits to form.1) refl

pub event_told : (n : Name) (numbers : List ℕ) (e : Bare) → event_from n numbers ≡ Some e → IsEvent n numbers e
event_told name.Ask [] e is =
    let last : Some (bare.Ask) ≡ Some e = is in
    let same : bare.Ask ≡ e = cc in
    subst (λ (x : Bare). IsEvent name.Ask [] x) same (record { named = refl; numbered = refl; narrow = tt })
event_told name.AddTracker (t ∷ parent ∷ limit ∷ []) e is =
    let n0 : Narrowed t (λ (t : ℕ). if_u32 parent (λ (parent : ℕ). if parent == 0 then None else Some (bare.AddTracker t parent limit None))) e = narrow_told t (λ (t : ℕ). if_u32 parent (λ (parent : ℕ). if parent == 0 then None else Some (bare.AddTracker t parent limit None))) e is in
    let n1 : Narrowed parent (λ (parent : ℕ). if parent == 0 then None else Some (bare.AddTracker t parent limit None)) e = narrow_told parent (λ (parent : ℕ). if parent == 0 then None else Some (bare.AddTracker t parent limit None)) e n0.then_is in
    elim (parent == 0) as (λ b. (parent == 0) ≡ b → (if b then None else Some (bare.AddTracker t parent limit None)) ≡ Some e → IsEvent name.AddTracker (t ∷ parent ∷ limit ∷ []) e) [
      | true ↦ λ root more. cc
      | false ↦ λ other more.
          let same : bare.AddTracker t parent limit None ≡ e = cc in
          let above : parent ≡ 0 → ⊥ = eqb-false parent 0 other in
          subst (λ (x : Bare). IsEvent name.AddTracker (t ∷ parent ∷ limit ∷ []) x) same (record { named = refl; numbered = refl; narrow = (n0.small, n1.small, omega (arith, above)) })
    ] refl n1.then_is
event_told name.AddTracker (t ∷ parent ∷ limit ∷ quota ∷ []) e is =
    let n0 : Narrowed t (λ (t : ℕ). if_u32 parent (λ (parent : ℕ). if_u32 quota (λ (quota : ℕ). if parent == 0 then Some (bare.AddTracker t parent limit (Some quota)) else None))) e = narrow_told t (λ (t : ℕ). if_u32 parent (λ (parent : ℕ). if_u32 quota (λ (quota : ℕ). if parent == 0 then Some (bare.AddTracker t parent limit (Some quota)) else None))) e is in
    let n1 : Narrowed parent (λ (parent : ℕ). if_u32 quota (λ (quota : ℕ). if parent == 0 then Some (bare.AddTracker t parent limit (Some quota)) else None)) e = narrow_told parent (λ (parent : ℕ). if_u32 quota (λ (quota : ℕ). if parent == 0 then Some (bare.AddTracker t parent limit (Some quota)) else None)) e n0.then_is in
    let n2 : Narrowed quota (λ (quota : ℕ). if parent == 0 then Some (bare.AddTracker t parent limit (Some quota)) else None) e = narrow_told quota (λ (quota : ℕ). if parent == 0 then Some (bare.AddTracker t parent limit (Some quota)) else None) e n1.then_is in
    elim (parent == 0) as (λ b. (parent == 0) ≡ b → (if b then Some (bare.AddTracker t parent limit (Some quota)) else None) ≡ Some e → IsEvent name.AddTracker (t ∷ parent ∷ limit ∷ quota ∷ []) e) [
      | true ↦ λ root more.
          let same : bare.AddTracker t parent limit (Some quota) ≡ e = cc in
          subst (λ (x : Bare). IsEvent name.AddTracker (t ∷ parent ∷ limit ∷ quota ∷ []) x) same (record { named = refl; numbered = refl; narrow = (n0.small, eqb-true parent 0 root, n2.small) })
      | false ↦ λ other more. cc
    ] refl n2.then_is
event_told name.CloseTracker (t ∷ []) e is =
    let n0 : Narrowed t (λ (t : ℕ). Some (bare.CloseTracker t)) e = narrow_told t (λ (t : ℕ). Some (bare.CloseTracker t)) e is in
    let last : Some (bare.CloseTracker t) ≡ Some e = n0.then_is in
    let same : bare.CloseTracker t ≡ e = cc in
    subst (λ (x : Bare). IsEvent name.CloseTracker (t ∷ []) x) same (record { named = refl; numbered = refl; narrow = n0.small })
event_told name.Increase (t ∷ bytes ∷ []) e is =
    let n0 : Narrowed t (λ (t : ℕ). Some (bare.Increase t bytes)) e = narrow_told t (λ (t : ℕ). Some (bare.Increase t bytes)) e is in
    let last : Some (bare.Increase t bytes) ≡ Some e = n0.then_is in
    let same : bare.Increase t bytes ≡ e = cc in
    subst (λ (x : Bare). IsEvent name.Increase (t ∷ bytes ∷ []) x) same (record { named = refl; numbered = refl; narrow = n0.small })
event_told name.IncreaseToFit (t ∷ bytes ∷ []) e is =
    let n0 : Narrowed t (λ (t : ℕ). Some (bare.IncreaseToFit t bytes)) e = narrow_told t (λ (t : ℕ). Some (bare.IncreaseToFit t bytes)) e is in
    let last : Some (bare.IncreaseToFit t bytes) ≡ Some e = n0.then_is in
    let same : bare.IncreaseToFit t bytes ≡ e = cc in
    subst (λ (x : Bare). IsEvent name.IncreaseToFit (t ∷ bytes ∷ []) x) same (record { named = refl; numbered = refl; narrow = n0.small })
event_told name.Decrease (t ∷ bytes ∷ []) e is =
    let n0 : Narrowed t (λ (t : ℕ). Some (bare.Decrease t bytes)) e = narrow_told t (λ (t : ℕ). Some (bare.Decrease t bytes)) e is in
    let last : Some (bare.Decrease t bytes) ≡ Some e = n0.then_is in
    let same : bare.Decrease t bytes ≡ e = cc in
    subst (λ (x : Bare). IsEvent name.Decrease (t ∷ bytes ∷ []) x) same (record { named = refl; numbered = refl; narrow = n0.small })
event_told name.MoveReservation (from ∷ to ∷ bytes ∷ []) e is =
    let n0 : Narrowed from (λ (from : ℕ). if_u32 to (λ (to : ℕ). Some (bare.MoveReservation from to bytes))) e = narrow_told from (λ (from : ℕ). if_u32 to (λ (to : ℕ). Some (bare.MoveReservation from to bytes))) e is in
    let n1 : Narrowed to (λ (to : ℕ). Some (bare.MoveReservation from to bytes)) e = narrow_told to (λ (to : ℕ). Some (bare.MoveReservation from to bytes)) e n0.then_is in
    let last : Some (bare.MoveReservation from to bytes) ≡ Some e = n1.then_is in
    let same : bare.MoveReservation from to bytes ≡ e = cc in
    subst (λ (x : Bare). IsEvent name.MoveReservation (from ∷ to ∷ bytes ∷ []) x) same (record { named = refl; numbered = refl; narrow = (n0.small, n1.small) })
event_told name.Create (p ∷ client ∷ blocks ∷ []) e is =
    let n0 : Narrowed client (λ (client : ℕ). if_u32 blocks (λ (blocks : ℕ). Some (bare.Create p client blocks))) e = narrow_told client (λ (client : ℕ). if_u32 blocks (λ (blocks : ℕ). Some (bare.Create p client blocks))) e is in
    let n1 : Narrowed blocks (λ (blocks : ℕ). Some (bare.Create p client blocks)) e = narrow_told blocks (λ (blocks : ℕ). Some (bare.Create p client blocks)) e n0.then_is in
    let last : Some (bare.Create p client blocks) ≡ Some e = n1.then_is in
    let same : bare.Create p client blocks ≡ e = cc in
    subst (λ (x : Bare). IsEvent name.Create (p ∷ client ∷ blocks ∷ []) x) same (record { named = refl; numbered = refl; narrow = (n0.small, n1.small) })
event_told name.PinHere (p ∷ []) e is =
    let last : Some (bare.PinHere p) ≡ Some e = is in
    let same : bare.PinHere p ≡ e = cc in
    subst (λ (x : Bare). IsEvent name.PinHere (p ∷ []) x) same (record { named = refl; numbered = refl; narrow = tt })
event_told name.PinLoad (p ∷ []) e is =
    let last : Some (bare.PinLoad p) ≡ Some e = is in
    let same : bare.PinLoad p ≡ e = cc in
    subst (λ (x : Bare). IsEvent name.PinLoad (p ∷ []) x) same (record { named = refl; numbered = refl; narrow = tt })
event_told name.ReadOk (p ∷ []) e is =
    let last : Some (bare.ReadOk p) ≡ Some e = is in
    let same : bare.ReadOk p ≡ e = cc in
    subst (λ (x : Bare). IsEvent name.ReadOk (p ∷ []) x) same (record { named = refl; numbered = refl; narrow = tt })
event_told name.ReadFailed (p ∷ []) e is =
    let last : Some (bare.ReadFailed p) ≡ Some e = is in
    let same : bare.ReadFailed p ≡ e = cc in
    subst (λ (x : Bare). IsEvent name.ReadFailed (p ∷ []) x) same (record { named = refl; numbered = refl; narrow = tt })
event_told name.ReadStale (p ∷ version ∷ block ∷ q ∷ other ∷ found ∷ []) e is =
    let made : ℕ → ℕ → Option Bare = λ b f. Some (bare.ReadStale (marked p version b) (marked q other f)) in
    let n0 : Narrowed block (λ (b : ℕ). if_u32 found (made b)) e = narrow_told block (λ (b : ℕ). if_u32 found (made b)) e is in
    let n1 : Narrowed found (made block) e = narrow_told found (made block) e n0.then_is in
    let last : Some (bare.ReadStale (marked p version block) (marked q other found)) ≡ Some e = n1.then_is in
    let same : bare.ReadStale (marked p version block) (marked q other found) ≡ e = cc in
    subst (λ (x : Bare). IsEvent name.ReadStale (p ∷ version ∷ block ∷ q ∷ other ∷ found ∷ []) x) same (record { named = refl; numbered = refl; narrow = (n0.small, n1.small) })
event_told name.PinAgain (p ∷ []) e is =
    let last : Some (bare.PinAgain p) ≡ Some e = is in
    let same : bare.PinAgain p ≡ e = cc in
    subst (λ (x : Bare). IsEvent name.PinAgain (p ∷ []) x) same (record { named = refl; numbered = refl; narrow = tt })
event_told name.UnpinOnce (p ∷ []) e is =
    let last : Some (bare.UnpinOnce p) ≡ Some e = is in
    let same : bare.UnpinOnce p ≡ e = cc in
    subst (λ (x : Bare). IsEvent name.UnpinOnce (p ∷ []) x) same (record { named = refl; numbered = refl; narrow = tt })
event_told name.Unpin (p ∷ []) e is =
    let last : Some (bare.Unpin p) ≡ Some e = is in
    let same : bare.Unpin p ≡ e = cc in
    subst (λ (x : Bare). IsEvent name.Unpin (p ∷ []) x) same (record { named = refl; numbered = refl; narrow = tt })
event_told name.UnpinRefused (p ∷ []) e is =
    let last : Some (bare.UnpinRefused p) ≡ Some e = is in
    let same : bare.UnpinRefused p ≡ e = cc in
    subst (λ (x : Bare). IsEvent name.UnpinRefused (p ∷ []) x) same (record { named = refl; numbered = refl; narrow = tt })
event_told name.Extract (p ∷ f ∷ []) e is =
    let n0 : Narrowed f (λ (f : ℕ). Some (bare.Extract p f)) e = narrow_told f (λ (f : ℕ). Some (bare.Extract p f)) e is in
    let last : Some (bare.Extract p f) ≡ Some e = n0.then_is in
    let same : bare.Extract p f ≡ e = cc in
    subst (λ (x : Bare). IsEvent name.Extract (p ∷ f ∷ []) x) same (record { named = refl; numbered = refl; narrow = n0.small })
event_told name.Destroy (p ∷ []) e is =
    let last : Some (bare.Destroy p) ≡ Some e = is in
    let same : bare.Destroy p ≡ e = cc in
    subst (λ (x : Bare). IsEvent name.Destroy (p ∷ []) x) same (record { named = refl; numbered = refl; narrow = tt })
event_told name.Alloc (f ∷ client ∷ blocks ∷ []) e is =
    let n0 : Narrowed f (λ (f : ℕ). if_u32 client (λ (client : ℕ). if_u32 blocks (λ (blocks : ℕ). Some (bare.Alloc f client blocks)))) e = narrow_told f (λ (f : ℕ). if_u32 client (λ (client : ℕ). if_u32 blocks (λ (blocks : ℕ). Some (bare.Alloc f client blocks)))) e is in
    let n1 : Narrowed client (λ (client : ℕ). if_u32 blocks (λ (blocks : ℕ). Some (bare.Alloc f client blocks))) e = narrow_told client (λ (client : ℕ). if_u32 blocks (λ (blocks : ℕ). Some (bare.Alloc f client blocks))) e n0.then_is in
    let n2 : Narrowed blocks (λ (blocks : ℕ). Some (bare.Alloc f client blocks)) e = narrow_told blocks (λ (blocks : ℕ). Some (bare.Alloc f client blocks)) e n1.then_is in
    let last : Some (bare.Alloc f client blocks) ≡ Some e = n2.then_is in
    let same : bare.Alloc f client blocks ≡ e = cc in
    subst (λ (x : Bare). IsEvent name.Alloc (f ∷ client ∷ blocks ∷ []) x) same (record { named = refl; numbered = refl; narrow = (n0.small, n1.small, n2.small) })
event_told name.Free (f ∷ []) e is =
    let n0 : Narrowed f (λ (f : ℕ). Some (bare.Free f)) e = narrow_told f (λ (f : ℕ). Some (bare.Free f)) e is in
    let last : Some (bare.Free f) ≡ Some e = n0.then_is in
    let same : bare.Free f ≡ e = cc in
    subst (λ (x : Bare). IsEvent name.Free (f ∷ []) x) same (record { named = refl; numbered = refl; narrow = n0.small })
event_told name.MoveBuffer (f ∷ to ∷ []) e is =
    let n0 : Narrowed f (λ (f : ℕ). if_u32 to (λ (to : ℕ). Some (bare.MoveBuffer f to))) e = narrow_told f (λ (f : ℕ). if_u32 to (λ (to : ℕ). Some (bare.MoveBuffer f to))) e is in
    let n1 : Narrowed to (λ (to : ℕ). Some (bare.MoveBuffer f to)) e = narrow_told to (λ (to : ℕ). Some (bare.MoveBuffer f to)) e n0.then_is in
    let last : Some (bare.MoveBuffer f to) ≡ Some e = n1.then_is in
    let same : bare.MoveBuffer f to ≡ e = cc in
    subst (λ (x : Bare). IsEvent name.MoveBuffer (f ∷ to ∷ []) x) same (record { named = refl; numbered = refl; narrow = (n0.small, n1.small) })
event_told name.StartWrite (p ∷ []) e is =
    let last : Some (bare.StartWrite p) ≡ Some e = is in
    let same : bare.StartWrite p ≡ e = cc in
    subst (λ (x : Bare). IsEvent name.StartWrite (p ∷ []) x) same (record { named = refl; numbered = refl; narrow = tt })
event_told name.WriteOk (p ∷ []) e is =
    let last : Some (bare.WriteOk p) ≡ Some e = is in
    let same : bare.WriteOk p ≡ e = cc in
    subst (λ (x : Bare). IsEvent name.WriteOk (p ∷ []) x) same (record { named = refl; numbered = refl; narrow = tt })
event_told name.WriteFailed (p ∷ []) e is =
    let last : Some (bare.WriteFailed p) ≡ Some e = is in
    let same : bare.WriteFailed p ≡ e = cc in
    subst (λ (x : Bare). IsEvent name.WriteFailed (p ∷ []) x) same (record { named = refl; numbered = refl; narrow = tt })
event_told name.Evict (p ∷ []) e is =
    let last : Some (bare.Evict p) ≡ Some e = is in
    let same : bare.Evict p ≡ e = cc in
    subst (λ (x : Bare). IsEvent name.Evict (p ∷ []) x) same (record { named = refl; numbered = refl; narrow = tt })
event_told name.RefusedPin (p ∷ entry ∷ []) e is =
    let last : Some (bare.Refused (call.Pin p) entry) ≡ Some e = is in
    let same : bare.Refused (call.Pin p) entry ≡ e = cc in
    subst (λ (x : Bare). IsEvent name.RefusedPin (p ∷ entry ∷ []) x) same (record { named = refl; numbered = refl; narrow = tt })
event_told name.RefusedPinAgain (p ∷ entry ∷ []) e is =
    let last : Some (bare.Refused (call.PinAgain p) entry) ≡ Some e = is in
    let same : bare.Refused (call.PinAgain p) entry ≡ e = cc in
    subst (λ (x : Bare). IsEvent name.RefusedPinAgain (p ∷ entry ∷ []) x) same (record { named = refl; numbered = refl; narrow = tt })
event_told name.RefusedCreate (client ∷ blocks ∷ entry ∷ []) e is =
    let n0 : Narrowed client (λ (client : ℕ). if_u32 blocks (λ (blocks : ℕ). Some (bare.Refused (call.Create client blocks) entry))) e = narrow_told client (λ (client : ℕ). if_u32 blocks (λ (blocks : ℕ). Some (bare.Refused (call.Create client blocks) entry))) e is in
    let n1 : Narrowed blocks (λ (blocks : ℕ). Some (bare.Refused (call.Create client blocks) entry)) e = narrow_told blocks (λ (blocks : ℕ). Some (bare.Refused (call.Create client blocks) entry)) e n0.then_is in
    let last : Some (bare.Refused (call.Create client blocks) entry) ≡ Some e = n1.then_is in
    let same : bare.Refused (call.Create client blocks) entry ≡ e = cc in
    subst (λ (x : Bare). IsEvent name.RefusedCreate (client ∷ blocks ∷ entry ∷ []) x) same (record { named = refl; numbered = refl; narrow = (n0.small, n1.small) })
event_told name.RefusedAlloc (client ∷ blocks ∷ entry ∷ []) e is =
    let n0 : Narrowed client (λ (client : ℕ). if_u32 blocks (λ (blocks : ℕ). Some (bare.Refused (call.Alloc client blocks) entry))) e = narrow_told client (λ (client : ℕ). if_u32 blocks (λ (blocks : ℕ). Some (bare.Refused (call.Alloc client blocks) entry))) e is in
    let n1 : Narrowed blocks (λ (blocks : ℕ). Some (bare.Refused (call.Alloc client blocks) entry)) e = narrow_told blocks (λ (blocks : ℕ). Some (bare.Refused (call.Alloc client blocks) entry)) e n0.then_is in
    let last : Some (bare.Refused (call.Alloc client blocks) entry) ≡ Some e = n1.then_is in
    let same : bare.Refused (call.Alloc client blocks) entry ≡ e = cc in
    subst (λ (x : Bare). IsEvent name.RefusedAlloc (client ∷ blocks ∷ entry ∷ []) x) same (record { named = refl; numbered = refl; narrow = (n0.small, n1.small) })
event_told name.RefusedGiveBack (client ∷ bytes ∷ entry ∷ []) e is =
    let n0 : Narrowed client (λ (client : ℕ). Some (bare.Refused (call.GiveBack client bytes) entry)) e = narrow_told client (λ (client : ℕ). Some (bare.Refused (call.GiveBack client bytes) entry)) e is in
    let last : Some (bare.Refused (call.GiveBack client bytes) entry) ≡ Some e = n0.then_is in
    let same : bare.Refused (call.GiveBack client bytes) entry ≡ e = cc in
    subst (λ (x : Bare). IsEvent name.RefusedGiveBack (client ∷ bytes ∷ entry ∷ []) x) same (record { named = refl; numbered = refl; narrow = n0.small })
event_told name.RefusedMoveReservation (from ∷ to ∷ bytes ∷ entry ∷ []) e is =
    let n0 : Narrowed from (λ (from : ℕ). if_u32 to (λ (to : ℕ). Some (bare.Refused (call.MoveReservation from to bytes) entry))) e = narrow_told from (λ (from : ℕ). if_u32 to (λ (to : ℕ). Some (bare.Refused (call.MoveReservation from to bytes) entry))) e is in
    let n1 : Narrowed to (λ (to : ℕ). Some (bare.Refused (call.MoveReservation from to bytes) entry)) e = narrow_told to (λ (to : ℕ). Some (bare.Refused (call.MoveReservation from to bytes) entry)) e n0.then_is in
    let last : Some (bare.Refused (call.MoveReservation from to bytes) entry) ≡ Some e = n1.then_is in
    let same : bare.Refused (call.MoveReservation from to bytes) entry ≡ e = cc in
    subst (λ (x : Bare). IsEvent name.RefusedMoveReservation (from ∷ to ∷ bytes ∷ entry ∷ []) x) same (record { named = refl; numbered = refl; narrow = (n0.small, n1.small) })
event_told name.RefusedMoveBuffer (f ∷ to ∷ entry ∷ []) e is =
    let n0 : Narrowed f (λ (f : ℕ). if_u32 to (λ (to : ℕ). Some (bare.Refused (call.MoveBuffer f to) entry))) e = narrow_told f (λ (f : ℕ). if_u32 to (λ (to : ℕ). Some (bare.Refused (call.MoveBuffer f to) entry))) e is in
    let n1 : Narrowed to (λ (to : ℕ). Some (bare.Refused (call.MoveBuffer f to) entry)) e = narrow_told to (λ (to : ℕ). Some (bare.Refused (call.MoveBuffer f to) entry)) e n0.then_is in
    let last : Some (bare.Refused (call.MoveBuffer f to) entry) ≡ Some e = n1.then_is in
    let same : bare.Refused (call.MoveBuffer f to) entry ≡ e = cc in
    subst (λ (x : Bare). IsEvent name.RefusedMoveBuffer (f ∷ to ∷ entry ∷ []) x) same (record { named = refl; numbered = refl; narrow = (n0.small, n1.small) })
event_told n numbers e is = cc

-- no event has more numbers
pub at_most_six : (e : Bare) → length (numbers_of e) ≤ 6
at_most_six bare.Ask = omega arith
at_most_six (bare.AddTracker t parent limit None) = omega arith
at_most_six (bare.AddTracker t parent limit (Some quota)) = omega arith
at_most_six (bare.CloseTracker t) = omega arith
at_most_six (bare.Increase t bytes) = omega arith
at_most_six (bare.IncreaseToFit t bytes) = omega arith
at_most_six (bare.Decrease t bytes) = omega arith
at_most_six (bare.MoveReservation from to bytes) = omega arith
at_most_six (bare.Create p client blocks) = omega arith
at_most_six (bare.PinHere p) = omega arith
at_most_six (bare.PinLoad p) = omega arith
at_most_six (bare.ReadOk p) = omega arith
at_most_six (bare.ReadFailed p) = omega arith
at_most_six (bare.ReadStale wanted found) = omega arith
at_most_six (bare.PinAgain p) = omega arith
at_most_six (bare.UnpinOnce p) = omega arith
at_most_six (bare.Unpin p) = omega arith
at_most_six (bare.UnpinRefused p) = omega arith
at_most_six (bare.Extract p f) = omega arith
at_most_six (bare.Destroy p) = omega arith
at_most_six (bare.Alloc f client blocks) = omega arith
at_most_six (bare.Free f) = omega arith
at_most_six (bare.MoveBuffer f to) = omega arith
at_most_six (bare.StartWrite p) = omega arith
at_most_six (bare.WriteOk p) = omega arith
at_most_six (bare.WriteFailed p) = omega arith
at_most_six (bare.Evict p) = omega arith
at_most_six (bare.Refused (call.Pin p) entry) = omega arith
at_most_six (bare.Refused (call.PinAgain p) entry) = omega arith
at_most_six (bare.Refused (call.Create client blocks) entry) = omega arith
at_most_six (bare.Refused (call.Alloc client blocks) entry) = omega arith
at_most_six (bare.Refused (call.GiveBack client bytes) entry) = omega arith
at_most_six (bare.Refused (call.MoveReservation from to bytes) entry) = omega arith
at_most_six (bare.Refused (call.MoveBuffer f to) entry) = omega arith
