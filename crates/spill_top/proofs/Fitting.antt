-- A query that was not refused fits the memory of its plan.
use Rattle.std.proofs.Common.{◌≡◌, ◌≤◌, inl, inr, ℕ, zero, suc, Bool, true, false, List, [], ◌∷◌, Option, Some, None, map, subst, arith}
use Rattle.std.specs.List.{slice_get, sum_by}
use Rattle.std.specs.Prelude.{nat_le, if◌then◌else◌}
use Rattle.std.proofs.lemmas.Bool.Decides.{leb_tells}
use Rattle.std.proofs.lemmas.List.Sums.{sum_by-cons}
use Rattle.std.proofs.lemmas.Option.{none-some, same_Some}
use Rattle.query_plan.specs.Sizes.{least_of}
use Rattle.query_plan.specs.declared.plan.Query.{Query}
use Rattle.spill_top.specs.declared.ending.Ending.{Ending}
use Rattle.spill_top.specs.declared.ending.Ending.TheVariants.{Reservation}
use Rattle.spill_top.specs.Jobs.{IsSoFar, Work, met_so_far}
use Rattle.spill_top.specs.Running.{Met}
use Rattle.spill_top.specs.Reserving.{refusal, refusals, room_behind}
use Rattle.spill_top.specs.Running.{Seen}
use Rattle.spill_top.specs.Steps.{AreWorks}
use Rattle.spill_top.proofs.Places.{map_get}

-- what passes the room is refused
refused-more : (within below : Bool) (limit wanted room : ℕ) → below ≡ false → (if within then (if below then None else Some (Reservation true wanted room)) else Some (Reservation false wanted limit)) ≡ None → ⊥
refused-more true true limit wanted room more none = cc
refused-more true false limit wanted room more none = cc
refused-more false below limit wanted room more none = cc

-- and so is what passes the limit
refused-over : (within below : Bool) (limit wanted room : ℕ) → within ≡ false → (if within then (if below then None else Some (Reservation true wanted room)) else Some (Reservation false wanted limit)) ≡ None → ⊥
refused-over true below limit wanted room over none = cc
refused-over false below limit wanted room over none = cc

within-limit : (limit wanted room : ℕ) → refusal limit wanted room ≡ None → wanted ≤ limit
within-limit limit wanted room none =
    elim (leb_tells wanted limit) [
      | inl fits ↦ fits.1
      | inr over ↦ absurd (refused-over (nat_le wanted limit) (nat_le wanted room) limit wanted room over.0 none)
    ]

within-room : (limit wanted room : ℕ) → refusal limit wanted room ≡ None → wanted ≤ room
within-room limit wanted room none =
    elim (leb_tells wanted room) [
      | inl fits ↦ fits.1
      | inr more ↦ absurd (refused-more (nat_le wanted limit) (nat_le wanted room) limit wanted room more.0 none)
    ]

-- the room only falls
room-falls : (refused : Option Ending) (wanted room : ℕ) → room_behind refused wanted room ≤ room
room-falls None wanted room = omega arith
room-falls (Some ending) wanted room = omega arith

below : (n m most : ℕ) → n ≤ m → m ≤ most → n ≤ most
below n m most less more = omega (arith, less, more)

pub unrefused_fits : (block_len room : ℕ) (queries : List Query) (place : ℕ) (query : Query) → slice_get queries place ≡ Some query → slice_get (refusals block_len room queries) place ≡ Some None
    → least_of query block_len ≤ room
unrefused_fits block_len room [] place query at_query at = absurd (none-some query at_query)
unrefused_fits block_len room (first ∷ queries) zero query at_query at =
    subst (λ (q : Query). least_of q block_len ≤ room) (same_Some first query at_query)
    (within-room first.limit (least_of first block_len) room (same_Some (refusal first.limit (least_of first block_len) room) None at))
unrefused_fits block_len room (first ∷ queries) (suc place) query at_query at =
    let behind = room_behind (refusal first.limit (least_of first block_len) room) (least_of first block_len) room in
    below (least_of query block_len) behind room (unrefused_fits block_len behind queries place query at_query at) (room-falls (refusal first.limit (least_of first block_len) room) (least_of first block_len) room)

-- a query that was not refused is allowed its least reservation
pub unrefused_allowed : (block_len room : ℕ) (queries : List Query) (place : ℕ) (query : Query) → slice_get queries place ≡ Some query → slice_get (refusals block_len room queries) place ≡ Some None
    → least_of query block_len ≤ query.limit
unrefused_allowed block_len room [] place query at_query at = absurd (none-some query at_query)
unrefused_allowed block_len room (first ∷ queries) zero query at_query at =
    subst (λ (q : Query). least_of q block_len ≤ q.limit) (same_Some first query at_query)
    (within-limit first.limit (least_of first block_len) room (same_Some (refusal first.limit (least_of first block_len) room) None at))
unrefused_allowed block_len room (first ∷ queries) (suc place) query at_query at =
    unrefused_allowed block_len (room_behind (refusal first.limit (least_of first block_len) room) (least_of first block_len) room) queries place query at_query at

-- one quota is at most their sum
pub quota_within : (queries : List Query) (slots place : ℕ) (query : Query) → sum_by (λ query. query.quota) queries ≤ slots → slice_get queries place ≡ Some query → query.quota ≤ slots
quota_within [] slots place query sum at = absurd (none-some query at)
quota_within (first ∷ queries) slots zero query sum at =
    let split = sum_by-cons (λ (q : Query). q.quota) first queries in
    subst (λ (q : Query). q.quota ≤ slots) (same_Some first query at) (omega (arith, split, sum))
quota_within (first ∷ queries) slots (suc place) query sum at =
    let split = sum_by-cons (λ (q : Query). q.quota) first queries in
    quota_within queries slots place query (omega (arith, split, sum)) at

-- a query that goes on was not refused
pub goes_unrefused : (plan : Query) (met : Met) (ended : Option Ending) → ended ≡ None → IsSoFar plan met ended → met.refused ≡ None
goes_unrefused plan met None on is = is
goes_unrefused plan met (Some ending) on is = cc

-- so nothing stands against its place among the refusals
pub unrefused_at : (start now : Seen) (block_len room : ℕ) (queries : List Query) (works : List Work) (place : ℕ) (query : Query) (w : Work) → AreWorks start now block_len queries works
    → map (λ (x : Work). x.refused) works ≡ refusals block_len room queries → slice_get queries place ≡ Some query → slice_get works place ≡ Some w → w.ended ≡ None
    → slice_get (refusals block_len room queries) place ≡ Some None
unrefused_at start now block_len room queries works place query w are same at_query at on =
    let refused : slice_get (refusals block_len room queries) place ≡ Some w.refused =
    subst (λ (list : List (Option Ending)). slice_get list place ≡ Some w.refused) same (map_get (λ (x : Work). x.refused) works place w at) in
    let none : w.refused ≡ None = goes_unrefused query (met_so_far start now block_len queries query w) w.ended on ((are place query w at_query at).ending) in
    subst (λ (r : Option Ending). slice_get (refusals block_len room queries) place ≡ Some r) none refused
