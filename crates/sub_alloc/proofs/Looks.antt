-- The steps of the loops over classes.
use Rattle.std.proofs.Common.{◌≡◌, ℕ, zero, suc, ◌+◌, ◌-◌, ◌*◌, ◌/◌, ◌%◌, ◌<◌, ◌≤◌, ◌^◌, true, false, List, [], drop, get_or, length, IsSome, Option, None, Some, refl, ap, sym, ◌∙◌, subst, inl, inr, arith, bit_xor, get_or-drop, length-drop}
use Rattle.std.specs.List.{position_or_len}
use Rattle.std.proofs.lemmas.Bool.{cases_eq, cases_lt, eq-eqb, le-leb, lt-leb, ne_eqb}
use Rattle.std.proofs.lemmas.Nat.{mod_below, pow-add, pow_below, pow_pos, shr_split, xor_block, xor_comm}
use Rattle.std.proofs.lemmas.List.Sums.{position_or_len_is}
use Rattle.index_list.specs.Listing.{Listing, list_with, nodes_on, pushed, without}
use Rattle.index_list.proofs.Places.{list_with-pushed_other}
use Rattle.sub_alloc.specs.Rules.{begin_of, class_from, first_from, halved, is_class, is_filled, is_closed, joined, other_half}
use Rattle.sub_alloc.specs.Calls.{IsLeastFor}
use Rattle.store_api.specs.Tokens.{LoanToken}
use Rattle.sub_alloc.proofs.Tiles.{step_to, twice}
use Rattle.sub_alloc.proofs.Outs.{class_is as class_found, steps, which_half}

-- the class that is long enough, where those below it aren't
pub class_is : (more i c bytes : ℕ) → i ≤ c → c < i + more → ((k : ℕ) → k < c → 64 * 2 ^ k < bytes) → bytes ≤ 64 * 2 ^ c → class_from more i bytes ≡ c
class_is zero i c bytes low high short long = absurd (omega (arith, low, high))
class_is (suc more) i c bytes low high short long =
    elim (cases_eq i c) [
      | inl s ↦ rw (le-leb bytes (64 * 2 ^ i) (subst (λ (k : ℕ). bytes ≤ 64 * 2 ^ k) (sym s) long)) s
      | inr d ↦
          let l : i < c = omega (arith, low, d) in
          rw (lt-leb bytes (64 * 2 ^ i) (short i l)) (class_is more (suc i) c bytes l (omega (arith, high)) short long)
    ]

-- its length is the least that has so many bytes
pub least_len : (c bytes : ℕ) → bytes ≤ 64 * 2 ^ c → ((k : ℕ) → k < c → 64 * 2 ^ k < bytes) → IsLeastFor bytes (64 * 2 ^ c)
least_len zero bytes fits short = record { fits = fits; least = λ long. absurd (omega (arith, long)) }
least_len (suc c) bytes fits short =
    let two = twice c in
    let below = short c (omega arith) in
    record { fits = fits; least = λ long. omega (arith, two, below) }

pub pow_le : (i j : ℕ) → i ≤ j → 2 ^ i ≤ 2 ^ j
pow_le i j l = elim (cases_lt i j) [ inl h ↦ let p = pow_below i j h in omega (arith, p) | inr h ↦ let e : i ≡ j = omega (arith, l, h) in let p = ap (λ (k : ℕ). 2 ^ k) e in omega (arith, p) ]

-- the least class of more than 64 bytes, by the logarithm of one byte less
pub record IsLeastClass (most c bytes : ℕ) : Type 0 where
  pub value : c ≡ class_from most 0 bytes
  pub inside : c < most
  pub len : IsLeastFor bytes (64 * 2 ^ c)

pub class_first : (most bytes : ℕ) → 0 < most → bytes ≤ 64 → IsLeastClass most 0 bytes
class_first most bytes some few = record {
  value = sym (class_is most 0 0 bytes (omega arith) (omega (arith, some)) (λ k l. absurd (omega (arith, l))) (omega (arith, few)));
  inside = some;
  len = least_len 0 bytes (omega (arith, few)) (λ k l. absurd (omega (arith, l)));
}

pub log_some : (r bytes : ℕ) → 64 < bytes → bytes - 1 < 2 * 2 ^ r → 5 < r
log_some r bytes many high = elim (cases_lt 5 r) [ inl l ↦ l | inr l ↦ absurd (let p = pow_le r 5 l in omega (arith, p, many, high)) ]

pub class_least : (most r bytes : ℕ) → 64 < bytes → 2 ^ r ≤ bytes - 1 → bytes - 1 < 2 * 2 ^ r → bytes ≤ 64 * 2 ^ (most - 1) → 0 < most → IsLeastClass most (r - 5) bytes
class_least most r bytes many low high fits some =
    let past = log_some r bytes many high in
    let split : 2 ^ (6 + (r - 5)) ≡ 64 * 2 ^ (r - 5) = pow-add 2 6 (r - 5) in
    let up : 2 ^ (6 + (r - 5)) ≡ 2 * 2 ^ r = ap (λ (k : ℕ). 2 ^ k) (let e : 6 + (r - 5) ≡ suc r = omega (arith, past) in e) ∙ twice r in
    let long : bytes ≤ 64 * 2 ^ (r - 5) = omega (arith, split, up, high, many) in
    let short : (k : ℕ) → k < r - 5 → 64 * 2 ^ k < bytes = λ k l.
    let part : 2 ^ (6 + k) ≡ 64 * 2 ^ k = pow-add 2 6 k in
    let below = pow_le (6 + k) r (omega (arith, l)) in
    omega (arith, part, below, low, many)
    in
    let inside : r - 5 < most = elim (cases_lt (r - 5) most) [ inl l ↦ l | inr l ↦ absurd (let s = short (most - 1) (omega (arith, l, some)) in omega (arith, s, fits)) ] in
    record {
      value = sym (class_is most 0 (r - 5) bytes (omega arith) (omega (arith, inside)) short long);
      inside = inside;
      len = least_len (r - 5) bytes long short;
    }

-- the first class with a free piece, where those below it have none
pub first_is : (i c : ℕ) (t : Listing) → i ≤ c → c ≤ length t.lists → ((k : ℕ) → i ≤ k → k < c → is_filled (nodes_on k t) ≡ false) → (c < length t.lists → is_filled (nodes_on c t) ≡ true) → c ≡ first_from i t
first_is i c t low high none some =
    let long = length-drop i t.lists in
    let at = position_or_len_is is_filled (drop i t.lists) (c - i) [] (omega (arith, long, high))
    (λ k l. ap is_filled (get_or-drop i t.lists k []) ∙ none (i + k) (omega arith) (omega (arith, l)))
    (λ l. ap is_filled (get_or-drop i t.lists (c - i) [] ∙ ap (λ (k : ℕ). nodes_on k t) (let e : i + (c - i) ≡ c = omega (arith, low) in e)) ∙ some (omega (arith, long, l)))
    in
    omega (arith, at, low)

-- one step of halving
pub halved_step : (m more c n : ℕ) (t : Listing) → m ≡ suc more → halved m c n t ≡ halved more c n (pushed (c + more) (n + 2 ^ (c + more)) t)
halved_step m more c n t e = ap (λ (k : ℕ). halved k c n t) e

-- one step of joining, and where it ends
pub joined_step : (m more c n : ℕ) (t : Listing) → m ≡ suc more → is_class c (list_with (other_half c n) t) ≡ true → joined m c n t ≡ joined more (suc c) (begin_of c n) (without (other_half c n) t)
joined_step m more c n t e is = ap (λ (k : ℕ). joined k c n t) e ∙ rw is refl

pub joined_none : (m c n : ℕ) (t : Listing) → m ≡ 0 → joined m c n t ≡ record { class = c; place = n; free = t }
joined_none m c n t e = ap (λ (k : ℕ). joined k c n t) e

pub joined_stop : (m c n : ℕ) (t : Listing) → is_class c (list_with (other_half c n) t) ≡ false → joined m c n t ≡ record { class = c; place = n; free = t }
joined_stop zero c n t is = refl
joined_stop (suc more) c n t is = rw is refl

-- the same, as the loops take them

pub halved_next : (to k k2 n : ℕ) (t t2 : Listing) → to < k → k2 ≡ k - 1 → t2 ≡ pushed k2 (n + 2 ^ k2) t → halved (k2 - to) to n t2 ≡ halved (k - to) to n t
halved_next to k k2 n t t2 above next is =
    let back : to + (k2 - to) ≡ k2 = omega (arith, above, next) in
    ap (λ (u : Listing). halved (k2 - to) to n u) (is ∙ ap (λ (m : ℕ). pushed m (n + 2 ^ m) t) (sym back))
    ∙ sym (halved_step (k - to) (k2 - to) to n t (omega (arith, above, next)))

pub halved_end : (to k n : ℕ) (t : Listing) → k ≤ to → halved (k - to) to n t ≡ t
halved_end to k n t low = ap (λ (m : ℕ). halved m to n t) (let e : k - to ≡ 0 = omega (arith, low) in e)

pub nowhere_next : (k n : ℕ) (t : Listing) → ((c : ℕ) → c < suc k → list_with (n + 2 ^ c) t ≡ None) → (c : ℕ) → c < k → list_with (n + 2 ^ c) (pushed k (n + 2 ^ k) t) ≡ None
nowhere_next k n t none c l =
    let p = pow_below c k l in
    list_with-pushed_other t k (n + 2 ^ k) (n + 2 ^ c) (λ s. omega (arith, s, p)) ∙ none c (omega (arith, l))

pub joined_next : (most k n k2 n2 : ℕ) (t t2 : Listing) → k + 1 < most → k2 ≡ k + 1 → n2 ≡ begin_of k n → t2 ≡ without (other_half k n) t → is_class k (list_with (other_half k n) t) ≡ true → joined (most - 1 - k2) k2 n2 t2 ≡ joined (most - 1 - k) k n t
joined_next most k n k2 n2 t t2 room k2_is n2_is t2_is is =
    ap (λ (m : ℕ). joined (most - 1 - m) m n2 t2) (let e : k2 ≡ suc k = omega (arith, k2_is) in e)
    ∙ ap (λ (m : ℕ). joined (most - 1 - suc k) (suc k) m t2) n2_is
    ∙ ap (joined (most - 1 - suc k) (suc k) (begin_of k n)) t2_is
    ∙ sym (joined_step (most - 1 - k) (most - 1 - suc k) k n t (omega (arith, room)) is)

pub other_in : (most k n r s nodes : ℕ) → k + 1 < most → n ≡ r * 2 ^ k → nodes ≡ s * 2 ^ (most - 1) → n < nodes → other_half k n < nodes
other_in most k n r s nodes room from whole inside =
    let two = twice k in
    let one = pow_pos k in
    elim (which_half k n r from) [
      | inl low ↦
          let p = steps (suc k) (most - 1 - suc k) in
          let size : 2 ^ (most - 1) ≡ p.0 * 2 ^ suc k = ap (λ (m : ℕ). 2 ^ m) (let e : most - 1 ≡ suc k + (most - 1 - suc k) = omega (arith, room) in e) ∙ p.1 in
          let nodes_are : nodes ≡ s * p.0 * 2 ^ suc k = whole ∙ ap (λ (m : ℕ). s * m) size ∙ (let e : s * (p.0 * 2 ^ suc k) ≡ s * p.0 * 2 ^ suc k = omega arith in e) in
          let far = step_to low.at (s * p.0) (2 ^ suc k) n nodes low.from nodes_are inside in
          omega (arith, low.other, far, two, one)
      | inr high ↦ omega (arith, high.other, high.is, inside)
    ]

pub begin_in : (k n nodes : ℕ) → n < nodes → begin_of k n < nodes
begin_in k n nodes inside = omega arith

pub begin_aligned : (k n r : ℕ) → n ≡ r * 2 ^ k → (i : ℕ) × (begin_of k n ≡ i * 2 ^ (k + 1))
begin_aligned k n r from =
    let next : 2 ^ suc k ≡ 2 ^ (k + 1) = ap (λ (m : ℕ). 2 ^ m) (let e : suc k ≡ k + 1 = omega arith in e) in
    elim (which_half k n r from) [
      | inl low ↦ (low.at, low.begin ∙ low.from ∙ ap (λ (m : ℕ). low.at * m) next)
      | inr high ↦ (high.at, high.begin ∙ high.from ∙ ap (λ (m : ℕ). high.at * m) next)
    ]

pub found_some : (k : ℕ) (o : Option ℕ) → is_class k o ≡ true → IsSome o
found_some k o is = subst IsSome (sym (class_found k o is)) refl

-- the first closed buffer
pub closed_is : (i : ℕ) (bufs : List (Option LoanToken)) → i ≤ length bufs → ((k : ℕ) → k < i → is_closed (get_or bufs k None) ≡ false) → (i < length bufs → is_closed (get_or bufs i None) ≡ true) → i ≡ position_or_len is_closed bufs
closed_is i bufs inside none some = sym (position_or_len_is is_closed bufs i None inside none some)

pub pow_small : (c : ℕ) → c < 15 → 2 ^ c ≤ 16384
pow_small c l = pow_le c 14 (omega (arith, l))

-- a power of two as the code makes it
pub shifted : (k : ℕ) → k < 15 → 1 * 2 ^ k % 4294967296 ≡ 2 ^ k
shifted k l = let p = pow_small k l in omega (arith, p)

pub shut_of : (o : Option LoanToken) → is_closed o ≡ true → o ≡ None
shut_of None e = refl
shut_of (Some loan) e = cc

-- the other half is where one bit of the place differs
xor_none : (n : ℕ) → bit_xor n 0 ≡ n
xor_none n = xor_comm n 0

xor_one : (n : ℕ) → bit_xor n 1 ≡ n / 2 * 2 + bit_xor (n % 2) 1
xor_one n =
    ap (λ (m : ℕ). bit_xor m 1) (let e : n ≡ n / 2 * 2 + n % 2 = omega arith in e)
    ∙ xor_block 1 (n / 2) 0 (n % 2) 1 (omega arith) (omega arith)
    ∙ ap (λ (m : ℕ). m * 2 + bit_xor (n % 2) 1) (xor_none (n / 2))

xor_bit : (k n : ℕ) → bit_xor n (2 ^ k) ≡ bit_xor (n / 2 ^ k) 1 * 2 ^ k + n % 2 ^ k
xor_bit k n =
    ap (λ (m : ℕ). bit_xor m (2 ^ k)) (sym (shr_split n k))
    ∙ ap (bit_xor (n / 2 ^ k * 2 ^ k + n % 2 ^ k)) (let e : 2 ^ k ≡ 1 * 2 ^ k + 0 = omega arith in e)
    ∙ xor_block k (n / 2 ^ k) 1 (n % 2 ^ k) 0 (mod_below n (2 ^ k) (pow_pos k)) (pow_pos k)
    ∙ ap (λ (m : ℕ). bit_xor (n / 2 ^ k) 1 * 2 ^ k + m) (xor_none (n % 2 ^ k))

pub other_by_bit : (k n : ℕ) → bit_xor n (2 ^ k) ≡ other_half k n
other_by_bit k n =
    let split = shr_split n k in
    elim (cases_eq (n / 2 ^ k % 2) 0) [
      | inl s ↦
          let flip : bit_xor (n / 2 ^ k) 1 ≡ n / 2 ^ k / 2 * 2 + 1 = xor_one (n / 2 ^ k) ∙ ap (λ (m : ℕ). n / 2 ^ k / 2 * 2 + bit_xor m 1) s in
          let q_is : n / 2 ^ k * 2 ^ k ≡ n / 2 ^ k / 2 * 2 * 2 ^ k = ap (λ (m : ℕ). m * 2 ^ k) (let e : n / 2 ^ k ≡ n / 2 ^ k / 2 * 2 = omega (arith, s) in e) in
          let up : (n / 2 ^ k / 2 * 2 + 1) * 2 ^ k + n % 2 ^ k ≡ n + 2 ^ k = omega (arith, split, q_is) in
          rw (eq-eqb (n / 2 ^ k % 2) 0 s) (xor_bit k n ∙ ap (λ (m : ℕ). m * 2 ^ k + n % 2 ^ k) flip ∙ up)
      | inr d ↦
          let one : n / 2 ^ k % 2 ≡ 1 = omega (arith, d) in
          let flip : bit_xor (n / 2 ^ k) 1 ≡ n / 2 ^ k / 2 * 2 = xor_one (n / 2 ^ k) ∙ ap (λ (m : ℕ). n / 2 ^ k / 2 * 2 + bit_xor m 1) one ∙ omega arith in
          let q_is : n / 2 ^ k * 2 ^ k ≡ (n / 2 ^ k / 2 * 2 + 1) * 2 ^ k = ap (λ (m : ℕ). m * 2 ^ k) (let e : n / 2 ^ k ≡ n / 2 ^ k / 2 * 2 + 1 = omega (arith, one) in e) in
          let down : n / 2 ^ k / 2 * 2 * 2 ^ k + n % 2 ^ k ≡ n - 2 ^ k = omega (arith, split, q_is) in
          rw (ne_eqb (n / 2 ^ k % 2) 0 d) (xor_bit k n ∙ ap (λ (m : ℕ). m * 2 ^ k + n % 2 ^ k) flip ∙ down)
    ]
