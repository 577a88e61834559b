-- How the children's sum of each tracker changes, when one tracker's entry does.
use Rattle.std.proofs.Common.{◌≡◌, ℕ, zero, ◌+◌, ◌≢◌, ◌==◌, Bool, true, false, cond, Option, Some, None, refl, ap, ◌∙◌, arith, if◌then◌else◌, eq-eqb, ne_eqb}
use Rattle.std.specs.FinMap.{get, insert, remove}
use Rattle.reservation_tree.specs.Total.{total, weight_at}
use Rattle.reservation_tree.specs.Tracker.{Tracker, Trackers, tracker_at, share_of, children_of, HasNoChild}
use Rattle.reservation_tree.specs.Change.{set_reservation}
use Rattle.reservation_tree.proofs.Sums.{total-insert, total-remove, total-none}
use Rattle.reservation_tree.proofs.Outline.{tracker_is}

choice_sum : (b : Bool) (m n : ℕ) → (if b then m + n else 0) ≡ (if b then m else 0) + (if b then n else 0)
choice_sum true m n = refl
choice_sum false m n = omega arith

pub share-sum : (q : ℕ) (o : Option ℕ) (m n : ℕ) → share_of q o (m + n) ≡ share_of q o m + share_of q o n
share-sum q None m n = omega arith
share-sum q (Some p) m n = choice_sum (p == q) m n

choice_none : (b : Bool) → (if b then 0 else 0) ≡ zero
choice_none true = refl
choice_none false = refl

pub share-none : (q : ℕ) (o : Option ℕ) → share_of q o 0 ≡ 0
share-none q None = refl
share-none q (Some p) = choice_none (p == q)

pub share_here : (q n : ℕ) → share_of q (Some q) n ≡ n
share_here q n = ap (λ (b : Bool). cond b n 0) (eq-eqb q q refl)

pub share_there : (q p n : ℕ) → p ≢ q → share_of q (Some p) n ≡ 0
share_there q p n apart = ap (λ (b : Bool). cond b n 0) (ne_eqb p q apart)

-- an entry comes in place of what the key had
pub children-insert : (ts : Trackers) (t : ℕ) (y : Tracker) (q : ℕ)
    → children_of (insert ts t y) q + weight_at (λ _ x. share_of q x.parent x.reservation) t (get ts t) ≡ children_of ts q + share_of q y.parent y.reservation
unfolding children_of
children-insert ts t y q = total-insert (λ _ x. share_of q x.parent x.reservation) ts t y

pub children-set : (ts : Trackers) (t bytes : ℕ) (x : Tracker) (q : ℕ) → get ts t ≡ Some x
    → children_of (set_reservation bytes t ts) q + share_of q x.parent x.reservation ≡ children_of ts q + share_of q x.parent bytes
children-set ts t bytes x q is =
    let y : Tracker = record (tracker_at ts t) { reservation = bytes } in
    let sums : children_of (insert ts t y) q + weight_at (λ _ z. share_of q z.parent z.reservation) t (get ts t) ≡ children_of ts q + share_of q y.parent bytes = children-insert ts t y q in
    let old : weight_at (λ _ z. share_of q z.parent z.reservation) t (get ts t) ≡ share_of q x.parent x.reservation = ap (weight_at (λ _ z. share_of q z.parent z.reservation) t) is in
    let new : share_of q y.parent bytes ≡ share_of q x.parent bytes = ap (λ (z : Tracker). share_of q z.parent bytes) (tracker_is ts t x is) in
    omega (arith, sums, old, new)

-- a new entry with no reservation
pub children-new : (ts : Trackers) (t : ℕ) (y : Tracker) (q : ℕ) → get ts t ≡ None → y.reservation ≡ 0 → children_of (insert ts t y) q ≡ children_of ts q
children-new ts t y q is zero_now =
    let sums : children_of (insert ts t y) q + weight_at (λ _ z. share_of q z.parent z.reservation) t (get ts t) ≡ children_of ts q + share_of q y.parent y.reservation = children-insert ts t y q in
    let old : weight_at (λ _ z. share_of q z.parent z.reservation) t (get ts t) ≡ 0 = ap (weight_at (λ _ z. share_of q z.parent z.reservation) t) is in
    let new : share_of q y.parent y.reservation ≡ 0 = ap (share_of q y.parent) zero_now ∙ share-none q y.parent in
    omega (arith, sums, old, new)

-- an entry with no reservation goes
pub children-gone : (ts : Trackers) (t : ℕ) (x : Tracker) (q : ℕ) → get ts t ≡ Some x → x.reservation ≡ 0 → children_of (remove ts t) q ≡ children_of ts q
unfolding children_of
children-gone ts t x q is zero_now =
    let w : ℕ → Tracker → ℕ = λ _ z. share_of q z.parent z.reservation in
    let sums : total w (remove ts t) + share_of q x.parent x.reservation ≡ total w ts = total-remove w ts t (Some x) is in
    let none : share_of q x.parent x.reservation ≡ 0 = ap (share_of q x.parent) zero_now ∙ share-none q x.parent in
    omega (arith, sums, none)

pub under_other : (t : ℕ) (o : Option ℕ) (n : ℕ) → (o ≡ Some t → ⊥) → share_of t o n ≡ 0
under_other t None n apart = refl
under_other t (Some p) n apart = share_there t p n (λ same. apart (ap Some same))

-- what has no child has no bytes of children
pub children-none : (ts : Trackers) (t : ℕ) → HasNoChild ts t → children_of ts t ≡ 0
unfolding children_of
children-none ts t alone = total-none (λ _ x. share_of t x.parent x.reservation) ts (λ child x is. under_other t x.parent x.reservation (alone child x is))

-- what isn't the parent keeps its children's bytes
pub children_kept : (ts : Trackers) (t bytes : ℕ) (x : Tracker) (q : ℕ) → get ts t ≡ Some x → (x.parent ≡ Some q → ⊥) → children_of (set_reservation bytes t ts) q ≡ children_of ts q
children_kept ts t bytes x q is apart =
    let sums : children_of (set_reservation bytes t ts) q + share_of q x.parent x.reservation ≡ children_of ts q + share_of q x.parent bytes = children-set ts t bytes x q is in
    let old : share_of q x.parent x.reservation ≡ 0 = under_other q x.parent x.reservation apart in
    let new : share_of q x.parent bytes ≡ 0 = under_other q x.parent bytes apart in
    omega (arith, sums, old, new)
