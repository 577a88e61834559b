-- The query trackers of the live sessions, and what nobody is charged.
use Rattle.std.proofs.Common.{◌≡◌, ◌≢◌, ℕ, ◌<◌, Bool, false, Option, Some, None, option_map, unwrap_or, length, List, set, get_or, refl, ap, sym, ◌∙◌, subst, inl, inr, arith, eqb, ne_eqb}
use Rattle.std.specs.FinMap.{get, insert, remove}
use Rattle.std.proofs.lemmas.List.{get_or-set_same, get_or-set_other}
use Rattle.reservation_tree.specs.Tracker.{Tracker, Trackers, depth_of}
use Rattle.reservation_tree.specs.Tree.{TreeState, charge_of as charge_in}
use Rattle.reservation_tree.proofs.Maps.{found, same_or_other, get_same, get_other, removed_same, removed_other}
use Rattle.scratch_dev.specs.declared.quota.Quota.{Quota}
use Rattle.session_table.specs.Seats.{Seat, Seats, seat_of, changed}
use Rattle.session_table.specs.Sessions.{session_in, sessions_in}
use Rattle.session_table.proofs.Changes.{changed_at, changed_seat, changed_other}
use Rattle.session_table.proofs.Found.{get_sessions}
use Rattle.pool_model.specs.State.{Session}
use Rattle.pool_model.specs.Sums.{charge_of, is_client, IsClient}
use Rattle.pool_model.specs.Owning.{IsClientOf}
use Rattle.pool_model.specs.Sound.{IsQuery, IsSound}
use Rattle.pool_model.proofs.ByClients.{charges_held, not_client}
use Rattle.pool_model.proofs.Seats.{some_is, query_depth, root_depth, own_client}
use Rattle.pin_core.specs.declared.parts.Parts.{Parts}
use Rattle.pin_core.specs.StateOf.{state_of}
use Rattle.pin_core.specs.Invariant.{IsKept, IsQuota, is_live_client, hangs_under}
use Rattle.pin_core.proofs.SeatedClients.{sound_now}

pub session_here : (seats : Seats) (s : ℕ) (x : Seat) → seat_of seats s ≡ Some x → get (sessions_in seats) s ≡ Some (session_in x)
session_here seats s x is = get_sessions seats s ∙ ap (option_map session_in) is

pub session_none : (seats : Seats) (s : ℕ) → get (sessions_in seats) s ≡ None → seat_of seats s ≡ None
session_none seats s is = none_in (seat_of seats s) (sym (get_sessions seats s) ∙ is)
  where
    none_in : (o : Option Seat) → option_map session_in o ≡ None → o ≡ None
    none_in None is = refl
    none_in (Some x) is = cc

-- a quota stays its session's where the session's quota stays
quota_kept : (f : Seat → Seat) → ((x : Seat) → (f x).quota ≡ x.quota) → (o : Option Seat) (r : Option Quota) (n : ℕ) → IsQuota (option_map session_in o) r n → IsQuota (option_map session_in (option_map f o)) r n
quota_kept f same None r n is = is
quota_kept f same (Some x) None n is = is
quota_kept f same (Some x) (Some quota) n is = (is.0, is.1 ∙ sym (same x))

pub quotas_kept : (seats : Seats) (s : ℕ) (f : Seat → Seat) → ((x : Seat) → (f x).quota ≡ x.quota) → (q : ℕ) (r : Option Quota) (n : ℕ)
    → IsQuota (get (sessions_in seats) q) r n → IsQuota (get (sessions_in (changed s f seats)) q) r n
quotas_kept seats s f same q r n is = elim (same_or_other q s) [
  | inl here ↦
      let now : seat_of (changed s f seats) q ≡ option_map f (seat_of seats q) = ap (seat_of (changed s f seats)) here ∙ changed_at seats s f ∙ ap (λ (k : ℕ). option_map f (seat_of seats k)) (sym here) in
      subst (λ (o : Option Session). IsQuota o r n) (sym (get_sessions (changed s f seats) q ∙ ap (option_map session_in) now))
      (quota_kept f same (seat_of seats q) r n (subst (λ (o : Option Session). IsQuota o r n) (get_sessions seats q) is))
  | inr other ↦
      subst (λ (o : Option Session). IsQuota o r n) (sym (get_sessions (changed s f seats) q ∙ ap (option_map session_in) (changed_other seats s f q other) ∙ sym (get_sessions seats q))) is
]

-- what holds of the one that changed, and of the others, holds of all
pub at_changed : (seats : Seats) (s : ℕ) (f : Seat → Seat) (x : Seat) → seat_of seats s ≡ Some x → (P : Seat → Type 0) → P (f x)
    → ((m : ℕ) (y : Seat) → m ≢ s → seat_of seats m ≡ Some y → P y) → (m : ℕ) (y : Seat) → seat_of (changed s f seats) m ≡ Some y → P y
at_changed seats s f x is P own others m y there = elim (same_or_other m s) [
  | inl here ↦ subst P (some_is (f x) y (sym (changed_seat seats s f x is) ∙ ap (seat_of (changed s f seats)) (sym here) ∙ there)) own
  | inr other ↦ others m y other (sym (changed_other seats s f m other) ∙ there)
]

-- one flag of the open clients is another, and the rest stay
pub flag_same : (opens : List Bool) (t : ℕ) (b : Bool) → t < length opens → get_or (set opens t b) t false ≡ b
flag_same opens t b within = get_or-set_same opens t b false within

pub flag_other : (opens : List Bool) (t c : ℕ) (b : Bool) → c ≢ t → get_or (set opens t b) c false ≡ get_or opens c false
flag_other opens t c b apart = get_or-set_other opens t c b false apart

-- whether a tracker that is there is a client's
pub client_is : (ts : Trackers) (t : ℕ) (x : Tracker) → get ts t ≡ Some x → is_live_client ts t ≡ is_client x
client_is ts t x is = ap (λ (o : Option Tracker). elim o [ None ↦ false | Some y ↦ is_client y ]) is

pub client_none : (ts : Trackers) (t : ℕ) → get ts t ≡ None → is_live_client ts t ≡ false
client_none ts t is = ap (λ (o : Option Tracker). elim o [ None ↦ false | Some y ↦ is_client y ]) is

pub client_at : (a b : Trackers) (t : ℕ) → get a t ≡ get b t → is_live_client a t ≡ is_live_client b t
client_at a b t same = ap (λ (o : Option Tracker). elim o [ None ↦ false | Some y ↦ is_client y ]) same

pub hangs_at : (a b : Trackers) (p t : ℕ) → get a t ≡ get b t → hangs_under a p t ≡ hangs_under b p t
hangs_at a b p t same = ap (λ (o : Option Tracker). elim o [ None ↦ false | Some x ↦ elim x.parent [ None ↦ false | Some q ↦ eqb q p ] ]) same

-- whoever hangs elsewhere doesn't hang here
pub hangs_elsewhere : (ts : Trackers) (p o t : ℕ) (x : Tracker) → get ts t ≡ Some x → x.parent ≡ Some o → o ≢ p → hangs_under ts p t ≡ false
hangs_elsewhere ts p o t x is under apart =
    ap (λ (r : Option Tracker). elim r [ None ↦ false | Some y ↦ elim y.parent [ None ↦ false | Some q ↦ eqb q p ] ]) is
    ∙ ap (λ (r : Option ℕ). elim r [ None ↦ false | Some q ↦ eqb q p ]) under ∙ ne_eqb o p apart

module _ {D : Type 0} (v : Parts D) (is_kept : IsKept v) where
  sound : IsSound (state_of v)
  sound = sound_now (state_of v) is_kept.legal

  pub query_at : (s : ℕ) (x : Seat) → seat_of v.seats s ≡ Some x → IsQuery v.tree.trackers x.query
  query_at s x is = sound.seated.seats s (session_in x) (session_here v.seats s x is)

  pub query_deep : (s : ℕ) (x : Seat) → seat_of v.seats s ≡ Some x → depth_of v.tree.trackers x.query ≡ 1
  query_deep s x is = query_depth v.tree.trackers sound.seated.tree x.query (query_at s x is)

  pub root_deep : depth_of v.tree.trackers 0 ≡ 0
  root_deep =
      let root : (y : Tracker) × (get v.tree.trackers 0 ≡ Some y) = found (get v.tree.trackers 0) sound.seated.tree.root in
      root_depth v.tree.trackers sound.seated.tree (depth_of v.tree.trackers 0) 0 root.0 root.1 refl

  pub query_below : (s : ℕ) (x : Seat) → seat_of v.seats s ≡ Some x → x.query ≢ 0
  query_below s x is same =
      let one = query_deep s x is in
      let none = root_deep in
      let both : depth_of v.tree.trackers x.query ≡ depth_of v.tree.trackers 0 = ap (depth_of v.tree.trackers) same in
      omega (arith, one, none, both)

  pub queries_apart : (s m : ℕ) (x y : Seat) → seat_of v.seats s ≡ Some x → seat_of v.seats m ≡ Some y → m ≢ s → x.query ≢ y.query
  queries_apart s m x y is_s is_m apart same = apart (sym (sound.seated.apart s m (session_in x) (session_in y) (session_here v.seats s x is_s) (session_here v.seats m y is_m) same))

  -- a client isn't a query
  pub client_deep : (s t : ℕ) → IsClientOf (state_of v) s t → IsClient v.tree.trackers t
  client_deep s t client = own_client (state_of v) sound.seated s t client

  -- who isn't a client is charged nothing
  pub idle_charge : (t : ℕ) → (IsClient v.tree.trackers t → ⊥) → charge_in v.tree t ≡ 0
  idle_charge t isnt =
      let tie : charge_in v.tree t ≡ charge_of (state_of v) t = is_kept.counted.charges t in
      let held = not_client v.tree.trackers (state_of v).pages (state_of v).buffers (state_of v).next_name (state_of v).block_len t sound.owned isnt in
      let part = charges_held (state_of v).block_len (state_of v).pages t in
      omega (arith, tie, held, part)

  pub fresh_charge : (t : ℕ) → get v.tree.trackers t ≡ None → charge_in v.tree t ≡ 0
  fresh_charge t none = idle_charge t (λ client. let x = found (get v.tree.trackers t) client.live in let both : None ≡ Some x.0 = sym none ∙ x.1 in cc)

-- a charge that comes as nothing, or goes as nothing, changes none
pub charge_came : (tree : TreeState) (t : ℕ) → charge_in tree t ≡ 0 → (q : ℕ) → unwrap_or (get (insert tree.charges t 0) q) 0 ≡ charge_in tree q
charge_came tree t none q = elim (same_or_other q t) [
  | inl here ↦ ap (λ (k : ℕ). unwrap_or (get (insert tree.charges t 0) k) 0) here ∙ ap (λ (o : Option ℕ). unwrap_or o 0) (get_same tree.charges t 0) ∙ sym none ∙ ap (charge_in tree) (sym here)
  | inr other ↦ ap (λ (o : Option ℕ). unwrap_or o 0) (get_other tree.charges t 0 q other)
]

pub charge_went : (tree : TreeState) (t : ℕ) → charge_in tree t ≡ 0 → (q : ℕ) → unwrap_or (get (remove tree.charges t) q) 0 ≡ charge_in tree q
charge_went tree t none q = elim (same_or_other q t) [
  | inl here ↦ ap (λ (k : ℕ). unwrap_or (get (remove tree.charges t) k) 0) here ∙ ap (λ (o : Option ℕ). unwrap_or o 0) (removed_same tree.charges t) ∙ sym none ∙ ap (charge_in tree) (sym here)
  | inr other ↦ ap (λ (o : Option ℕ). unwrap_or o 0) (removed_other tree.charges t q other)
]
