-- How many slots of a pool are spare: those that are home or out with jobs, but for the quotas of live sessions.
use Rattle.std.proofs.Common.{◌≡◌, ℕ, ◌+◌, ◌<◌, ◌==◌, true, false, if◌then◌else◌, List, [], ◌∷◌, length, Option, Some, None, is_some, refl, sym, ap, ◌∙◌, subst, arith, eqb-true}
use Rattle.std.proofs.lemmas.List.Sums.{sum_by-cons}
use Rattle.std.specs.FinMap.{get}
use Rattle.std.specs.List.{sum_by, slice_index_or}
use Rattle.page_table.specs.declared.entry.Place.{Place as Spot}
use Rattle.page_table.specs.declared.entry.Place.TheVariants as spot
use Rattle.scratch_dev.specs.declared.quota.Quota.{Quota}
use Rattle.scratch_dev.specs.Pool.{free_in, free_of, quota_of}
use Rattle.reservation_tree.specs.Total.{total, weight_at}
use Rattle.reservation_tree.proofs.Maps.{found}
use Rattle.reservation_tree.proofs.Sums.{total-plus, total-same, total-none}
use Rattle.pool_model.specs.Bytes.{only_if}
use Rattle.pool_model.specs.State.{Page, Session, State}
use Rattle.pool_model.specs.Sums.{slots_of}
use Rattle.pool_model.specs.Owning.{IsClientOf}
use Rattle.pool_model.proofs.Failures.{PagesOwned, legal_pages_are_owned}
use Rattle.pin_core.specs.declared.kept.Kept.{Kept}
use Rattle.pin_core.specs.declared.kept.Kept.TheVariants as kept
use Rattle.pin_core.specs.declared.parts.Parts.{Parts}
use Rattle.pin_core.specs.parts.Keeping.{has_slots, row_in}
use Rattle.pin_core.specs.StateOf.{page_of, place_in, state_of}
use Rattle.pin_core.specs.Standing.{slots_home}
use Rattle.pin_core.specs.calls.Opening.{spare_of}
use Rattle.pin_core.specs.Invariant.{IsKept, IsKeptOf, IsQuota, slots_in}
use Rattle.pin_core.specs.Lawful.{Lawful}
use Rattle.pin_core.proofs.Places.{index_in}
use Rattle.pin_core.proofs.Totals.{total_mapped}
use Rattle.session_calls.specs.Moving.{is_moving, out_with, slots_out}
use Rattle.session_calls.proofs.Firsts.{sum_first, first_same, first_plus, total_by, total_keys}

pub ones : {X : Type 0} (xs : List X) → sum_by (λ x. 1) xs ≡ length xs
ones [] = refl
ones (x ∷ xs) = let rest = ones xs in let both = sum_by-cons (λ y. 1) x xs in omega (arith, rest, both)

-- a sum over a list is one over its places
by_place : (quotas : List (Option Quota)) → sum_by free_in quotas ≡ sum_first (λ q. free_in (slice_index_or quotas q None)) (length quotas)
by_place [] = refl
by_place (x ∷ quotas) = let rest = by_place quotas in let both = sum_by-cons free_in x quotas in omega (arith, rest, both)

-- the slots of a page are home, or out with it
home_or_out : {D : Type 0} (blocks : ℕ) (at : Spot) (k : Kept D) → IsKeptOf blocks at k → sum_by (λ d. 1) (row_in k) + (if is_moving (place_in at) then blocks else 0) ≡ only_if (has_slots k) blocks
home_or_out blocks (spot.Pinned n) (kept.Empty shell) is = refl
home_or_out blocks at (kept.Empty shell) is = let never : false ≡ true = is.0 in cc
home_or_out blocks (spot.Flying w) (kept.Held row) is = let never : false ≡ true = is.0 in cc
home_or_out blocks spot.Loading (kept.Held row) is = let never : false ≡ true = is.0 in cc
home_or_out blocks at (kept.Held row) is = let count = ones row in let size : length row ≡ blocks = is.1 in omega (arith, count, size)
home_or_out blocks (spot.Flying w) kept.Out is = omega arith
home_or_out blocks spot.Loading kept.Out is = omega arith
home_or_out blocks at kept.Out is = let never : true ≡ false = is in cc

added : (spare quotas free home rows out all lent unlent : ℕ) → free ≡ spare + unlent → unlent + lent ≡ quotas → rows + out ≡ all → all ≡ lent → home ≡ free → spare + quotas ≡ (home + rows) + out
added spare quotas free home rows out all lent unlent free_is quotas_are rows_are all_is home_is = omega (arith, free_is, quotas_are, rows_are, all_is, home_is)

module _ {D : Type 0} (v : Parts D) (is_kept : IsKept v) (laws : Lawful v) where
  abbrev pub s : State
  s = state_of v

  owned : PagesOwned s
  owned = subst PagesOwned (sym is_kept.legal.after) (legal_pages_are_owned is_kept.legal.opening is_kept.legal.history is_kept.legal.legal)

  quota_there : (o : Option Session) (quota : Option Quota) (lent : ℕ) → IsQuota o quota lent → is_some o ≡ true → is_some quota ≡ true
  quota_there None quota lent is some = let never : false ≡ true = some in cc
  quota_there (Some x) None lent is some = absurd is
  quota_there (Some x) (Some quota) lent is some = refl

  -- a live session has one of the 240 numbers
  low : (q : ℕ) → is_some (get s.sessions q) ≡ true → q < 240
  low q live =
      let quota = found (quota_of v.slots q) (quota_there (get s.sessions q) (quota_of v.slots q) (slots_of s.pages q) (is_kept.counted.quotas q) live) in
      let within : q < length v.slots.quotas = index_in v.slots.quotas q quota.0 quota.1 in
      let size : length v.slots.quotas ≡ 240 = is_kept.sized.sessions in
      omega (arith, within, size)

  -- a quota is free slots and slots of pages
  each_quota : (o : Option Session) (quota : Option Quota) (lent q : ℕ) → IsQuota o quota lent → (o ≡ None → lent ≡ 0) → free_in quota + lent ≡ weight_at (λ k x. x.quota) q o
  each_quota None None lent q is none = let gone : lent ≡ 0 = none refl in omega (arith, gone)
  each_quota None (Some quota) lent q is none = absurd is
  each_quota (Some x) (Some quota) lent q is none = let sum : quota.free + lent ≡ x.quota = is.1 in sum
  each_quota (Some x) None lent q is none = absurd is

  none_some : (x : Session) → None ≡ Some x → ⊥
  none_some x is = cc

  apart_of : (q : ℕ) (x : Page) (p : ℕ) → get s.sessions q ≡ None → get s.pages p ≡ Some x → (x.session == q) ≡ true → ⊥
  apart_of q x p dead there same =
      let its : IsClientOf s x.session x.client = owned p x there in
      none_some its.session (sym dead ∙ ap (get s.sessions) (sym (eqb-true x.session q same)) ∙ its.opened)

  no_pages : (q : ℕ) → get s.sessions q ≡ None → slots_of s.pages q ≡ 0
  unfolding slots_of
  no_pages q dead = total-none (λ _ x. only_if (x.session == q) (only_if x.has_slots x.blocks)) s.pages (λ p x there. elim (x.session == q) as (λ b. (x.session == q) ≡ b → only_if b (only_if x.has_slots x.blocks) ≡ 0) [
    | true ↦ λ same. absurd (apart_of q x p dead there same)
    | false ↦ λ other. refl
  ] refl)

  all_slots : slots_in s.pages ≡ sum_first (slots_of s.pages) 240
  unfolding slots_of
  all_slots = total_by (λ _ x. x.session) (λ _ x. only_if x.has_slots x.blocks) s.pages 240 (λ p x there. low x.session (ap is_some (owned p x there).opened))

  free_is : length v.slots.free ≡ spare_of v + sum_first (free_of v.slots) 240
  free_is =
      let places : sum_by free_in v.slots.quotas ≡ sum_first (free_of v.slots) 240 = by_place v.slots.quotas ∙ ap (sum_first (free_of v.slots)) is_kept.sized.sessions in
      laws.counted ∙ ap (λ n. spare_of v + n) places

  quotas_are : sum_first (free_of v.slots) 240 + sum_first (slots_of s.pages) 240 ≡ total (λ k x. x.quota) s.sessions
  quotas_are =
      sym (first_plus (free_of v.slots) (slots_of s.pages) 240)
      ∙ first_same (λ q. free_of v.slots q + slots_of s.pages q) (λ q. weight_at (λ k x. x.quota) q (get s.sessions q)) 240 (λ q small. each_quota (get s.sessions q) (quota_of v.slots q) (slots_of s.pages q) q (is_kept.counted.quotas q) (no_pages q))
      ∙ sym (total_keys (λ k x. x.quota) s.sessions 240 (λ k x there. low k (ap is_some there)))

  rows_are : total (λ _ page. sum_by (λ d. 1) (row_in page.scratch)) v.pages.entries + slots_out s.pages ≡ slots_in s.pages
  rows_are =
      let out : slots_out s.pages ≡ total (λ name e. out_with (page_of v.pages name e)) v.pages.entries = total_mapped (page_of v.pages) (λ _ (x : Page). out_with x) v.pages.entries in
      let all : slots_in s.pages ≡ total (λ name e. only_if (has_slots e.scratch) e.blocks) v.pages.entries = total_mapped (page_of v.pages) (λ _ (x : Page). only_if x.has_slots x.blocks) v.pages.entries in
      let both = total-plus (λ name e. sum_by (λ d. 1) (row_in e.scratch)) (λ name e. out_with (page_of v.pages name e)) v.pages.entries in
      let same : total (λ name e. sum_by (λ d. 1) (row_in e.scratch) + out_with (page_of v.pages name e)) v.pages.entries ≡ total (λ name e. only_if (has_slots e.scratch) e.blocks) v.pages.entries =
      total-same (λ name e. sum_by (λ d. 1) (row_in e.scratch) + out_with (page_of v.pages name e)) (λ name e. only_if (has_slots e.scratch) e.blocks) v.pages.entries (λ name e there.
      let key : (k : ℕ) × (get v.pages.names k ≡ Some name) = laws.proper.keyed name (ap is_some there) in
      home_or_out e.blocks e.place e.scratch (is_kept.placed key.0 name e key.1 there).kept) in
      omega (arith, out, all, both, same)

  pub spare_is : spare_of v + total (λ k x. x.quota) s.sessions ≡ slots_home (λ d. 1) v + slots_out s.pages
  spare_is =
      let lent : ℕ = sum_first (slots_of s.pages) 240 in
      let unlent : ℕ = sum_first (free_of v.slots) 240 in
      let rows : ℕ = total (λ _ page. sum_by (λ d. 1) (row_in page.scratch)) v.pages.entries in
      added (spare_of v) (total (λ k x. x.quota) s.sessions) (length v.slots.free) (sum_by (λ d. 1) v.slots.free) rows (slots_out s.pages) (slots_in s.pages) lent unlent free_is quotas_are rows_are all_slots (ones v.slots.free)
