-- Why a pool refuses a session's growths and moves, as what the session holds tells it, and the store's clauses that follow.
use Rattle.std.proofs.Common.{◌≡◌, ℕ, ◌-◌, ◌<◌, ◌≤◌, ◌==◌, leb, List, Bool, true, false, if◌then◌else◌, Option, Some, None, IsSome, IfSome, IfNone, is_some, option_map, Result, Ok, Err, is_ok, IsOk, IsErr, IfErr, OnOk, refl, sym, ap, ◌∙◌, subst, arith, le-leb}
use Rattle.std.proofs.lemmas.Bool.{false≢true, leb-false, lt-leb}
use Rattle.std.specs.Option.{option_or}
use Rattle.reservation_tree.specs.declared.errors.PoolErr.{PoolErr}
use Rattle.reservation_tree.specs.declared.errors.PoolErr.TheVariants.{NoReservation}
use Rattle.reservation_tree.specs.Answer.{no_reservation, IsFrom}
use Rattle.reservation_tree.specs.Change.{Refusal, over, move_refusal as tree_move_refusal}
use Rattle.reservation_tree.specs.Tracker.{Trackers, room_of, unused}
use Rattle.pool_model.specs.State.{State}
use Rattle.pool_model.specs.Sums.{charge_of}
use Rattle.pool_model.proofs.Seats.{some_is}
use Rattle.store_api.specs.Holdings.{Above, Shared, Holdings}
use Rattle.store_api.specs.Changes.{query_growth, shortfall}
use Rattle.store_api.specs.Refusals.{client_room, unless_fits, reserve_refusal, move_refusal, IsSharedRefusal}
use Rattle.pin_core.specs.calls.Entering.{growth_refusal, fit_refusal}
use Rattle.session_calls.proofs.Known.{KnownTo}

-- an error of the pool is the store's
pub refused_so : (r : Option Refusal) (o : Option PoolErr) (e : PoolErr) → option_map no_reservation r ≡ o → IsFrom r e → o ≡ Some e
refused_so None o e same from = absurd from
refused_so (Some x) o e same from = sym same ∙ ap Some (sym from)

-- and nothing refuses where the pool refuses nothing
pub granted_so : (r : Option Refusal) (o : Option PoolErr) → option_map no_reservation r ≡ o → (IsSome r → ⊥) → o ≡ None
granted_so None o same none = sym same
granted_so (Some x) o same none = absurd (none refl)

pub unrefused : (r : Option Refusal) → option_map no_reservation r ≡ None → r ≡ None
unrefused None none = refl
unrefused (Some x) none = let never : Some (no_reservation x) ≡ None = none in cc

-- what follows of a result where the store's clause tells the error, and where it tells none
pub with_error : (o : Option PoolErr) (r : Result (Unit {0}) PoolErr) (e : PoolErr) → o ≡ Some e → r ≡ Err e → IfSome o (λ x. r ≡ Err x)
with_error o r e is same = subst (λ (z : Option PoolErr). IfSome z (λ x. r ≡ Err x)) (sym is) same

pub but_error : (o : Option PoolErr) (r : Result (Unit {0}) PoolErr) (e : PoolErr) → o ≡ Some e → IfNone o (IsOk r)
but_error o r e is = subst (λ (z : Option PoolErr). IfNone z (IsOk r)) (sym is) tt

pub no_error : (o : Option PoolErr) (r : Result (Unit {0}) PoolErr) → o ≡ None → IfSome o (λ x. r ≡ Err x)
no_error o r is = subst (λ (z : Option PoolErr). IfSome z (λ x. r ≡ Err x)) (sym is) tt

-- the clause tells no error of a call that answered Ok
pub no_error_told : (o : Option PoolErr) (r : Result (Unit {0}) PoolErr) → IsOk r → IfSome o (λ x. r ≡ Err x) → o ≡ None
no_error_told None r ok told = refl
no_error_told (Some e) r ok told = absurd (false≢true (ap is_ok (sym told) ∙ ok))

-- a call that nothing refuses answers Ok, and did what it does then
pub unrefused_ok : (r : Result (Unit {0}) PoolErr) (o : Option Refusal) → (IsErr r → IsSome o) → o ≡ None → IsOk r
unrefused_ok (Ok x) o refused none = refl
unrefused_ok (Err e) o refused none = absurd (false≢true (ap is_some (sym none) ∙ refused refl))

pub of_ok : (P : Type 0) (r : Result (Unit {0}) PoolErr) → IsOk r → OnOk r P → P
of_ok P (Ok x) ok is = is
of_ok P (Err e) ok is = absurd (false≢true ok)

-- a move to another client, by whether it has room
apart_refusal : (from to bytes : ℕ) (h : Holdings) → (from == to) ≡ false → move_refusal from to bytes h ≡ unless_fits to bytes (client_room to h) None
apart_refusal from to bytes h apart = ap (λ (b : Bool). if b then None else unless_fits to bytes (client_room to h) None) apart

pub move_fits : (from to bytes room : ℕ) (h : Holdings) → (from == to) ≡ false → room ≡ client_room to h → bytes ≤ room → move_refusal from to bytes h ≡ None
move_fits from to bytes room h apart is fits =
    apart_refusal from to bytes h apart ∙ ap (λ (n : ℕ). unless_fits to bytes n None) (sym is) ∙ ap (λ (b : Bool). if b then None else Some (NoReservation to bytes room)) (le-leb bytes room fits)

pub move_passes : (from to bytes room : ℕ) (h : Holdings) → (from == to) ≡ false → room ≡ client_room to h → room < bytes → move_refusal from to bytes h ≡ Some (NoReservation to bytes room)
move_passes from to bytes room h apart is passes =
    apart_refusal from to bytes h apart ∙ ap (λ (n : ℕ). unless_fits to bytes n None) (sym is) ∙ ap (λ (b : Bool). if b then None else Some (NoReservation to bytes room)) (lt-leb bytes room passes)

-- a refusal of the pool is the session's own, and else one of what is above
own_first : (r : Option Refusal) (own : PoolErr) (above : Option Refusal) (e : PoolErr) → option_map no_reservation r ≡ option_or (Some own) (option_map no_reservation above) → IsFrom r e → own ≡ e
own_first None own above e is from = absurd from
own_first (Some x) own above e is from = sym (from ∙ some_is (no_reservation x) own is)

else_above : (r above : Option Refusal) (e : PoolErr) → option_map no_reservation r ≡ option_or None (option_map no_reservation above) → IsFrom r e → IsFrom above e
else_above None above e is from = absurd from
else_above (Some x) None e is from = let never : Some (no_reservation x) ≡ None = is in cc
else_above (Some x) (Some a) e is from = from ∙ some_is (no_reservation x) (no_reservation a) is

free_own : (r : Option Refusal) (own : Option PoolErr) (above : Option Refusal) → option_map no_reservation r ≡ option_or own (option_map no_reservation above) → (IsSome r → ⊥) → own ≡ None
free_own None None above is free = refl
free_own None (Some x) above is free = let never : None ≡ Some x = is in cc
free_own (Some y) own above is free = absurd (free refl)

as_answered : (o : Option PoolErr) (e : PoolErr) → IfSome o (λ x. x ≡ e) → (answer : Result (Unit {0}) PoolErr) → answer ≡ Err e → IfSome o (λ x. answer ≡ Err x)
as_answered None e same answer is = tt
as_answered (Some x) e same answer is = is ∙ ap Err (sym same)

-- where the pool refuses exactly what the store's clauses refuse, they hold of an answer
module _ (r : Option Refusal) (o : Option PoolErr) (same : option_map no_reservation r ≡ o) where
  pub all_refused : (answer : Result (Unit {0}) PoolErr) → (IsSome r → IsErr answer) → IfErr answer (IsFrom r) → IfSome o (λ x. answer ≡ Err x)
  all_refused (Ok x) refused cause = no_error o (Ok x) (granted_so r o same (λ some. false≢true (refused some)))
  all_refused (Err e) refused cause = with_error o (Err e) e (refused_so r o e same cause) refl

  pub none_else : (P : PoolErr → Type 0) (answer : Result (Unit {0}) PoolErr) → IfErr answer (IsFrom r) → IfNone o (IfErr answer P)
  none_else P (Ok x) cause = elim o as (λ z. IfNone z (IfErr (Ok x) P)) [ None ↦ tt | Some y ↦ tt ]
  none_else P (Err e) cause = subst (λ (z : Option PoolErr). IfNone z (P e)) (sym (refused_so r o e same cause)) tt

-- what the root refuses is a refusal of a tracker that is shared
root_refuses : (ts : Trackers) (growth : ℕ) (e : PoolErr) → IsFrom (over ts growth 0) e → IsSharedRefusal growth Shared e
root_refuses ts growth e =
    elim (leb growth (room_of ts 0)) as (λ b. leb growth (room_of ts 0) ≡ b → IsFrom (if b then None else Some (record { tracker = 0; wanted = growth; room = room_of ts 0 })) e → IsSharedRefusal growth Shared e) [
      | true ↦ λ fits from. absurd from
      | false ↦ λ passes from. subst (λ (x : PoolErr). IsSharedRefusal growth Shared x) (sym from) (refl, refl, leb-false growth (room_of ts 0) passes)
    ] refl

module _ {left : ℕ → List ℕ} {s : State} {m : ℕ} {h : Holdings} (k : KnownTo left s m h) where
  -- a move of which nothing refuses
  pub move_granted : (from to bytes : ℕ) → IsSome (h.clients from) → IsSome (h.clients to) → move_refusal from to bytes h ≡ None → tree_move_refusal bytes from to s.trackers ≡ None
  move_granted from to bytes some some_to none = unrefused (tree_move_refusal bytes from to s.trackers) (k.refuses.move from to bytes some some_to ∙ none)

  -- a growth until so many bytes are unused is one of the bytes that the session tells to be lacking
  pub fit_is : (c bytes : ℕ) → IsSome (h.clients c) → fit_refusal s c bytes ≡ growth_refusal s c (shortfall c bytes h)
  fit_is c bytes some = ap (λ (n : ℕ). growth_refusal s c (bytes - n)) (k.unused_is c some)

  -- where others take room above too, a growth is refused by what the session holds, and else by the root
  pub growth_shared : h.above ≡ Shared → (c bytes : ℕ) → IsSome (h.clients c)
      → option_map no_reservation (growth_refusal s c bytes) ≡ option_or (reserve_refusal c bytes h) (option_map no_reservation (over s.trackers (query_growth bytes h) 0))
  growth_shared shared c bytes some =
      let tight = k.tight in
      let growth : ℕ = query_growth bytes h in
      let all : growth - unused (charge_of s) s.trackers 0 ≡ growth = omega (arith, tight) in
      k.refuses.growth c bytes some
      ∙ ap (λ (a : Above). option_or (reserve_refusal c bytes (record h { above = a })) (option_map no_reservation (over s.trackers (growth - unused (charge_of s) s.trackers 0) 0))) (sym shared)
      ∙ ap (λ (n : ℕ). option_or (reserve_refusal c bytes h) (option_map no_reservation (over s.trackers n 0))) all

  -- a growth, or one that fits: `r` is its refusal
  module _ (shared : h.above ≡ Shared) (c bytes : ℕ) (some : IsSome (h.clients c)) (r : Option Refusal) (is : r ≡ growth_refusal s c bytes) where
    either : option_map no_reservation r ≡ option_or (reserve_refusal c bytes h) (option_map no_reservation (over s.trackers (query_growth bytes h) 0))
    either = ap (option_map no_reservation) is ∙ growth_shared shared c bytes some

    -- where the session's own limits refuse it, the error is theirs
    pub own_error : (e : PoolErr) → IsFrom r e → IfSome (reserve_refusal c bytes h) (λ x. x ≡ e)
    own_error e from =
        elim (reserve_refusal c bytes h) as (λ o. option_map no_reservation r ≡ option_or o (option_map no_reservation (over s.trackers (query_growth bytes h) 0)) → IfSome o (λ x. x ≡ e)) [
          | None ↦ λ same. tt
          | Some x ↦ λ same. own_first r x (over s.trackers (query_growth bytes h) 0) e same from
        ] either

    -- and else it is one of what is shared
    pub shared_error : (e : PoolErr) → IsFrom r e → IfNone (reserve_refusal c bytes h) (IsSharedRefusal (query_growth bytes h) h.above e)
    shared_error e from =
        elim (reserve_refusal c bytes h) as (λ o. option_map no_reservation r ≡ option_or o (option_map no_reservation (over s.trackers (query_growth bytes h) 0)) → IfNone o (IsSharedRefusal (query_growth bytes h) h.above e)) [
          | None ↦ λ same.
              subst (λ (a : Above). IsSharedRefusal (query_growth bytes h) a e) (sym shared)
              (root_refuses s.trackers (query_growth bytes h) e (else_above r (over s.trackers (query_growth bytes h) 0) e same from))
          | Some x ↦ λ same. tt
        ] either

    -- where nothing refuses it, its own limits don't
    pub none_own : (IsSome r → ⊥) → reserve_refusal c bytes h ≡ None
    none_own free = free_own r (reserve_refusal c bytes h) (over s.trackers (query_growth bytes h) 0) either free

    -- so the store's two clauses hold of an answer
    pub refused_told : (answer : Result (Unit {0}) PoolErr) → (IsSome r → IsErr answer) → IfErr answer (IsFrom r) → IfSome (reserve_refusal c bytes h) (λ x. answer ≡ Err x)
    refused_told (Ok x) refused cause = no_error (reserve_refusal c bytes h) (Ok x) (none_own (λ some. false≢true (refused some)))
    refused_told (Err e) refused cause = as_answered (reserve_refusal c bytes h) e (own_error e cause) (Err e) refl

    pub shared_told : (answer : Result (Unit {0}) PoolErr) → IfErr answer (IsFrom r) → IfNone (reserve_refusal c bytes h) (IfErr answer (IsSharedRefusal (query_growth bytes h) h.above))
    shared_told (Ok x) cause = elim (reserve_refusal c bytes h) as (λ o. IfNone o (IfErr (Ok x) (IsSharedRefusal (query_growth bytes h) h.above))) [ None ↦ tt | Some y ↦ tt ]
    shared_told (Err e) cause = shared_error e cause
