-- A piece that is on no list while it is halved or joined, with the others where they are.
use Rattle.std.proofs.Common.{◌≡◌, ◌≢◌, ℕ, zero, suc, ◌+◌, ◌-◌, ◌*◌, ◌/◌, ◌%◌, ◌<◌, ◌^◌, ◌==◌, ◌⊎◌, true, false, Option, None, Some, length, min, [], ◌∷◌, ◌++◌, refl, ap, sym, ◌∙◌, subst, inl, inr, arith, add-zero, add-suc}
use Rattle.std.proofs.Math.Nat.{mul-le-mul_right}
use Rattle.std.proofs.lemmas.Nat.{pow_pos, div-mul-add}
use Rattle.std.proofs.lemmas.Bool.{cases_eq, cases_lt, cases_Bool, eq-eqb, ne_eqb, eqb-true, false≢true}
use Rattle.std.proofs.lemmas.List.{length-set, length-map}
use Rattle.index_list.specs.Listing.{Listing, list_with, nodes_on, others, pushed, without}
use Rattle.index_list.proofs.Places.{list_with-pushed, list_with-pushed_other, list_with-without, list_with-without_other}
use Rattle.store_api.specs.Holdings.{put}
use Rattle.sub_alloc.specs.Pieces.{either}
use Rattle.sub_alloc.specs.Rules.{Joined, begin_of, halved, is_class, joined, other_half}
use Rattle.sub_alloc.specs.Tiling.{AreMerged, AreTiles}
use Rattle.sub_alloc.proofs.Tiles.{twice, some_same, none_some, is_none, power_same, same_tiles, inside_none, halved_tiles, joined_tiles, opened_tiles, closed_tiles, nothing_there}

pub put_here : (k : ℕ) (x : Option ℕ) (f : ℕ → Option ℕ) → put k x f k ≡ x
put_here k x f = rw (eq-eqb k k refl) refl

pub put_past : (k q : ℕ) (x : Option ℕ) (f : ℕ → Option ℕ) → q ≢ k → put k x f q ≡ f q
put_past k q x f other = rw (ne_eqb q k other) refl

pub either_none : (x y : Option ℕ) → either x y ≡ None → (x ≡ None) × (y ≡ None)
either_none None y e = (refl, e)
either_none (Some c) y e = (cc, cc)

-- ---- the pieces of a state, and of one with a piece out of the lists

-- free pieces on the lists, and live ones elsewhere, tile the open buffers
pub record AreLaid (most buf : ℕ) (o : ℕ → Type 0) (live : ℕ → Option ℕ) (t : Listing) : Type 0 where
  pub tiles : AreTiles most buf o (λ q. either (list_with q t) (live q))
  pub merged : AreMerged most (λ q. list_with q t)
  pub single : (q c : ℕ) → list_with q t ≡ Some c → live q ≡ None
  pub lists : length t.lists ≡ most

abbrev pub with_piece : ℕ → ℕ → Listing → (ℕ → Option ℕ) → ℕ → Option ℕ
with_piece n k t live = put n (Some k) (λ q. either (list_with q t) (live q))

-- with a piece of class k at n, which is neither, they do
pub record IsOut (most buf : ℕ) (o : ℕ → Type 0) (live : ℕ → Option ℕ) (n k : ℕ) (t : Listing) : Type 0 where
  pub tiles : AreTiles most buf o (with_piece n k t live)
  pub merged : AreMerged most (λ q. list_with q t)
  pub single : (q c : ℕ) → list_with q t ≡ Some c → live q ≡ None
  pub off : list_with n t ≡ None
  pub bare : live n ≡ None
  pub lists : length t.lists ≡ most

-- ---- fewer free pieces

pub without_some : (t : Listing) (u q c : ℕ) → list_with q (without u t) ≡ Some c → (q ≢ u) × (list_with q t ≡ Some c)
without_some t u q c h =
    elim (cases_eq q u) [
      | inl s ↦ none_some (list_with q (without u t)) c (ap (λ (k : ℕ). list_with k (without u t)) s ∙ list_with-without t u) h
      | inr d ↦ (d, sym (list_with-without_other t u q (λ s. d (sym s))) ∙ h)
    ]

pub merged_without : (most : ℕ) (t : Listing) (u : ℕ) → AreMerged most (λ q. list_with q t) → AreMerged most (λ q. list_with q (without u t))
merged_without most t u is = record {
  halves = λ c r low high. is.halves c r (without_some t u _ c low).1 (without_some t u _ c high).1;
  whole = λ n h. is.whole n (without_some t u n (most - 1) h).1;
}

-- an odd multiple is no even one
odd_even : (r s w : ℕ) → 0 < w → r * (2 * w) ≡ s * (2 * w) + w → ⊥
odd_even r s w some e =
    elim (cases_lt s r) [
      | inl l ↦ let m = mul-le-mul_right (2 * w) l in omega (arith, m, e, some)
      | inr l ↦ let m = mul-le-mul_right (2 * w) l in omega (arith, m, e, some)
    ]

-- ---- the piece is halved

module _ (most buf : ℕ) (o : ℕ → Type 0) (live : ℕ → Option ℕ) (n k : ℕ) (t : Listing) (is : IsOut most buf o live n (suc k) t) where
  past : n + 2 ^ k ≢ n
  past s = let p = pow_pos k in omega (arith, p, s)

  was : with_piece n (suc k) t live n ≡ Some (suc k)
  was = put_here n (Some (suc k)) (λ q. either (list_with q t) (live q))

  class_in : suc k < most
  class_in = is.tiles.short (suc k) n was

  upper_both : either (list_with (n + 2 ^ k) t) (live (n + 2 ^ k)) ≡ None
  upper_both =
      let p = pow_pos k in
      let two = twice k in
      sym (put_past n (n + 2 ^ k) (Some (suc k)) (λ q. either (list_with q t) (live q)) past)
      ∙ inside_none most buf o (with_piece n (suc k) t live) is.tiles (suc k) n (n + 2 ^ k) was (omega (arith, p)) (omega (arith, two, p))

  upper_off : list_with (n + 2 ^ k) t ≡ None
  upper_off = (either_none (list_with (n + 2 ^ k) t) (live (n + 2 ^ k)) upper_both).0

  upper_bare : live (n + 2 ^ k) ≡ None
  upper_bare = (either_none (list_with (n + 2 ^ k) t) (live (n + 2 ^ k)) upper_both).1

  after : Listing
  after = pushed k (n + 2 ^ k) t

  upper_on : list_with (n + 2 ^ k) (pushed k (n + 2 ^ k) t) ≡ Some k
  upper_on = list_with-pushed t k (n + 2 ^ k) (let l = class_in in omega (arith, l, is.lists)) upper_off

  other_on : (q : ℕ) → q ≢ n + 2 ^ k → list_with q (pushed k (n + 2 ^ k) t) ≡ list_with q t
  other_on q d = list_with-pushed_other t k (n + 2 ^ k) q (λ s. d (sym s))

  half_tiles : AreTiles most buf o (with_piece n k (pushed k (n + 2 ^ k) t) live)
  half_tiles =
      halved_tiles most buf o (with_piece n (suc k) t live) (with_piece n k (pushed k (n + 2 ^ k) t) live) is.tiles k n was
      (put_here n (Some k) (λ q. either (list_with q (pushed k (n + 2 ^ k) t)) (live q)))
      (put_past n (n + 2 ^ k) (Some k) (λ q. either (list_with q (pushed k (n + 2 ^ k) t)) (live q)) past ∙ ap (λ (x : Option ℕ). either x (live (n + 2 ^ k))) upper_on)
      (λ q d f.
      put_past n q (Some k) (λ p. either (list_with p (pushed k (n + 2 ^ k) t)) (live p)) d
      ∙ ap (λ (x : Option ℕ). either x (live q)) (other_on q f)
      ∙ sym (put_past n q (Some (suc k)) (λ p. either (list_with p t) (live p)) d))

  half_merged : AreMerged most (λ q. list_with q (pushed k (n + 2 ^ k) t))
  half_merged = record {
    halves = λ c r low high.
        elim (cases_eq (r * 2 ^ suc c) (n + 2 ^ k)) [
          | inl s ↦
              let same : c ≡ k = some_same (sym low ∙ ap (λ (q : ℕ). list_with q (pushed k (n + 2 ^ k) t)) s ∙ upper_on) in
              let two = twice k in
              let w = ap (λ (e : ℕ). r * 2 ^ suc e) same ∙ ap (λ (e : ℕ). r * e) two in
              let a = is.tiles.aligned (suc k) n was in
              let b = ap (λ (e : ℕ). a.0 * e) two in
              let p = pow_pos k in
              odd_even r a.0 (2 ^ k) p (omega (arith, w, s, a.1, b))
          | inr d ↦ elim (cases_eq (r * 2 ^ suc c + 2 ^ c) (n + 2 ^ k)) [
            | inl s ↦
                let same : c ≡ k = some_same (sym high ∙ ap (λ (q : ℕ). list_with q (pushed k (n + 2 ^ k) t)) s ∙ upper_on) in
                let w = power_same c k same in
                let here : r * 2 ^ suc c ≡ n = omega (arith, s, w) in
                none_some (list_with (r * 2 ^ suc c) (pushed k (n + 2 ^ k) t)) c (other_on (r * 2 ^ suc c) d ∙ ap (λ (q : ℕ). list_with q t) here ∙ is.off) low
            | inr f ↦ is.merged.halves c r (sym (other_on (r * 2 ^ suc c) d) ∙ low) (sym (other_on (r * 2 ^ suc c + 2 ^ c) f) ∙ high)
          ]
        ];
    whole = λ q h.
        elim (cases_eq q (n + 2 ^ k)) [
          | inl s ↦
              let same : most - 1 ≡ k = some_same (sym h ∙ ap (λ (p : ℕ). list_with p (pushed k (n + 2 ^ k) t)) s ∙ upper_on) in
              let l = class_in in
              omega (arith, l, same)
          | inr d ↦ is.merged.whole q (sym (other_on q d) ∙ h)
        ];
  }

  pub half_out : IsOut most buf o live n k (pushed k (n + 2 ^ k) t)
  half_out = record {
    tiles = half_tiles;
    merged = half_merged;
    single = λ q c h.
        elim (cases_eq q (n + 2 ^ k)) [
          | inl s ↦ ap live s ∙ upper_bare
          | inr d ↦ is.single q c (sym (other_on q d) ∙ h)
        ];
    off = other_on n (λ s. past (sym s)) ∙ is.off;
    bare = is.bare;
    lists = length-set t.lists k (nodes_on k t ++ (n + 2 ^ k) ∷ []) ∙ is.lists;
  }

-- halved until it is of class c
pub halved_out : (more c n most buf : ℕ) (o : ℕ → Type 0) (live : ℕ → Option ℕ) (t : Listing) → IsOut most buf o live n (c + more) t → IsOut most buf o live n c (halved more c n t)
halved_out zero c n most buf o live t is = subst (λ (k : ℕ). IsOut most buf o live n k t) (add-zero c) is
halved_out (suc more) c n most buf o live t is =
    halved_out more c n most buf o live (pushed (c + more) (n + 2 ^ (c + more)) t)
    (half_out most buf o live n (c + more) t (subst (λ (k : ℕ). IsOut most buf o live n k t) (add-suc c more) is))

-- ---- the piece is joined with the other half above it, or below it

module _ (most buf : ℕ) (o : ℕ → Type 0) (live : ℕ → Option ℕ) (n k : ℕ) (t : Listing) (r s : ℕ) (from : n ≡ r * 2 ^ suc k) (sized : buf ≡ s * 2 ^ suc k) (room : suc k < most) where
  beyond : n + 2 ^ k ≢ n
  beyond same = let p = pow_pos k in omega (arith, p, same)

  pub joined_up : IsOut most buf o live n k t → list_with (n + 2 ^ k) t ≡ Some k → IsOut most buf o live n (suc k) (without (n + 2 ^ k) t)
  joined_up is there =
      let u = n + 2 ^ k in
      record {
        tiles =
            joined_tiles most buf o (with_piece n k t live) (with_piece n (suc k) (without u t) live) is.tiles k n
            (put_here n (Some k) (λ q. either (list_with q t) (live q)))
            (put_past n u (Some k) (λ q. either (list_with q t) (live q)) beyond ∙ ap (λ (x : Option ℕ). either x (live u)) there)
            (put_here n (Some (suc k)) (λ q. either (list_with q (without u t)) (live q)))
            (put_past n u (Some (suc k)) (λ q. either (list_with q (without u t)) (live q)) beyond ∙ ap (λ (x : Option ℕ). either x (live u)) (list_with-without t u) ∙ is.single u k there)
            (λ q d f.
            put_past n q (Some (suc k)) (λ p. either (list_with p (without u t)) (live p)) d
            ∙ ap (λ (x : Option ℕ). either x (live q)) (list_with-without_other t u q (λ e. f (sym e)))
            ∙ sym (put_past n q (Some k) (λ p. either (list_with p t) (live p)) d))
            r s from sized room;
        merged = merged_without most t u is.merged;
        single = λ q c h. is.single q c (without_some t u q c h).1;
        off = list_with-without_other t u n beyond ∙ is.off;
        bare = is.bare;
        lists = length-map t.lists (others u) ∙ is.lists;
      }

  pub joined_down : IsOut most buf o live (n + 2 ^ k) k t → list_with n t ≡ Some k → IsOut most buf o live n (suc k) (without n t)
  joined_down is there =
      let u = n + 2 ^ k in
      let before : n ≢ u = λ e. beyond (sym e) in
      record {
        tiles =
            joined_tiles most buf o (with_piece u k t live) (with_piece n (suc k) (without n t) live) is.tiles k n
            (put_past u n (Some k) (λ q. either (list_with q t) (live q)) before ∙ ap (λ (x : Option ℕ). either x (live n)) there)
            (put_here u (Some k) (λ q. either (list_with q t) (live q)))
            (put_here n (Some (suc k)) (λ q. either (list_with q (without n t)) (live q)))
            (put_past n u (Some (suc k)) (λ q. either (list_with q (without n t)) (live q)) beyond
            ∙ ap (λ (x : Option ℕ). either x (live u)) (list_with-without_other t n u before ∙ is.off) ∙ is.bare)
            (λ q d f.
            put_past n q (Some (suc k)) (λ p. either (list_with p (without n t)) (live p)) d
            ∙ ap (λ (x : Option ℕ). either x (live q)) (list_with-without_other t n q (λ e. d (sym e)))
            ∙ sym (put_past u q (Some k) (λ p. either (list_with p t) (live p)) f))
            r s from sized room;
        merged = merged_without most t n is.merged;
        single = λ q c h. is.single q c (without_some t n q c h).1;
        off = list_with-without t n;
        bare = is.single n k there;
        lists = length-map t.lists (others n) ∙ is.lists;
      }

-- ---- which half a piece is

pub record IsLower (k n : ℕ) : Type 0 where
  pub at : ℕ
  pub from : n ≡ at * 2 ^ suc k
  pub other : other_half k n ≡ n + 2 ^ k
  pub begin : begin_of k n ≡ n

pub record IsUpper (k n : ℕ) : Type 0 where
  pub at : ℕ
  pub low : ℕ
  pub from : low ≡ at * 2 ^ suc k
  pub is : n ≡ low + 2 ^ k
  pub other : other_half k n ≡ low
  pub begin : begin_of k n ≡ low

pub which_half : (k n r : ℕ) → n ≡ r * 2 ^ k → IsLower k n ⊎ IsUpper k n
which_half k n r from =
    let p = pow_pos k in
    let two = twice k in
    let part : n / 2 ^ k ≡ r = ap (λ (m : ℕ). m / 2 ^ k) (let e : n ≡ r * 2 ^ k + 0 = omega (arith, from) in e) ∙ div-mul-add r (2 ^ k) 0 p in
    elim (cases_eq (r % 2) 0) [
      | inl s ↦
          let test : (n / 2 ^ k % 2 == 0) ≡ true = eq-eqb (n / 2 ^ k % 2) 0 (ap (λ (m : ℕ). m % 2) part ∙ s) in
          let above : other_half k n ≡ n + 2 ^ k = rw test refl in
          let whole : n ≡ r / 2 * (2 * 2 ^ k) = omega (arith, from, s, ap (λ (m : ℕ). m * 2 ^ k) (let e : r ≡ 2 * (r / 2) = omega (arith, s) in e)) in
          inl (record {
            at = r / 2;
            from = whole ∙ ap (λ (m : ℕ). r / 2 * m) (sym two);
            other = above;
            begin = ap (min n) above ∙ (let e : min n (n + 2 ^ k) ≡ n = omega arith in e);
          })
      | inr d ↦
          let test : (n / 2 ^ k % 2 == 0) ≡ false = ne_eqb (n / 2 ^ k % 2) 0 (λ e. d (sym (ap (λ (m : ℕ). m % 2) part) ∙ e)) in
          let below : other_half k n ≡ n - 2 ^ k = rw test refl in
          let odd : r ≡ 2 * (r / 2) + 1 = omega (arith, d) in
          let whole : n ≡ r / 2 * (2 * 2 ^ k) + 2 ^ k = omega (arith, from, ap (λ (m : ℕ). m * 2 ^ k) odd) in
          let low : n - 2 ^ k ≡ r / 2 * (2 * 2 ^ k) = omega (arith, whole) in
          inr (record {
            at = r / 2;
            low = n - 2 ^ k;
            from = low ∙ ap (λ (m : ℕ). r / 2 * m) (sym two);
            is = omega (arith, whole);
            other = below;
            begin = ap (min n) below ∙ (let e : min n (n - 2 ^ k) ≡ n - 2 ^ k = omega arith in e);
          })
    ]

pub class_is : (k : ℕ) (o : Option ℕ) → is_class k o ≡ true → o ≡ Some k
class_is k None e = absurd (false≢true e)
class_is k (Some c) e = ap Some (eqb-true c k e)

pub class_not : (k : ℕ) (o : Option ℕ) → is_class k o ≡ false → o ≢ Some k
class_not k None e s = none_some None k refl s
class_not k (Some c) e s = false≢true (sym e ∙ eq-eqb c k (some_same s))

-- ---- joined as far as it goes

-- a buffer is so many pieces of a class
pub steps : (k more : ℕ) → (s : ℕ) × (2 ^ (k + more) ≡ s * 2 ^ k)
steps k zero = (1, ap (λ (m : ℕ). 2 ^ m) (add-zero k) ∙ (let e : 2 ^ k ≡ 1 * 2 ^ k = omega arith in e))
steps k (suc more) =
    let rest = steps k more in
    let two = ap (λ (m : ℕ). 2 ^ m) (add-suc k more) ∙ twice (k + more) in
    (2 * rest.0, (let e : 2 ^ (k + suc more) ≡ 2 * rest.0 * 2 ^ k = omega (arith, two, rest.1) in e))

pub record IsJoined (most buf : ℕ) (o : ℕ → Type 0) (live : ℕ → Option ℕ) (j : Joined) : Type 0 where
  pub out : IsOut most buf o live j.place j.class j.free
  pub ends : (suc j.class ≡ most) ⊎ ((suc j.class < most) × (list_with (other_half j.class j.place) j.free ≢ Some j.class))

pub joined_out : (more k n most buf : ℕ) (o : ℕ → Type 0) (live : ℕ → Option ℕ) (t : Listing) → buf ≡ 2 ^ (most - 1) → suc k + more ≡ most → IsOut most buf o live n k t → IsJoined most buf o live (joined more k n t)
joined_out zero k n most buf o live t sized count is = record { out = is; ends = inl (omega (arith, count)) }
joined_out (suc more) k n most buf o live t sized count is =
    let room : suc k < most = omega (arith, count) in
    let r = is.tiles.aligned k n (put_here n (Some k) (λ q. either (list_with q t) (live q))) in
    let s = steps (suc k) more in
    let long : buf ≡ s.0 * 2 ^ suc k = sized ∙ ap (λ (m : ℕ). 2 ^ m) (let e : most - 1 ≡ suc k + more = omega (arith, count) in e) ∙ s.1 in
    elim (cases_Bool (is_class k (list_with (other_half k n) t))) [
      | inl e ↦
          let there = class_is k (list_with (other_half k n) t) e in
          let next : IsOut most buf o live (begin_of k n) (suc k) (without (other_half k n) t) =
          elim (which_half k n r.0 r.1) [
            | inl low ↦
                let up = joined_up most buf o live n k t low.at s.0 low.from long room is (sym (ap (λ (q : ℕ). list_with q t) low.other) ∙ there) in
                subst (λ (m : ℕ). IsOut most buf o live m (suc k) (without (other_half k n) t)) (sym low.begin)
                (subst (λ (u : ℕ). IsOut most buf o live n (suc k) (without u t)) (sym low.other) up)
            | inr high ↦
                let down = joined_down most buf o live high.low k t high.at s.0 high.from long room (subst (λ (m : ℕ). IsOut most buf o live m k t) high.is is) (sym (ap (λ (q : ℕ). list_with q t) high.other) ∙ there) in
                subst (λ (m : ℕ). IsOut most buf o live m (suc k) (without (other_half k n) t)) (sym high.begin)
                (subst (λ (u : ℕ). IsOut most buf o live high.low (suc k) (without u t)) (sym high.other) down)
          ]
          in
          rw e (joined_out more (suc k) (begin_of k n) most buf o live (without (other_half k n) t) sized (omega (arith, count)) next)
      | inr e ↦ rw e (record { out = is; ends = inr (room, class_not k (list_with (other_half k n) t) e) })
    ]

-- ---- a piece leaves the lists, or comes to them

module _ (most buf : ℕ) (o : ℕ → Type 0) (live : ℕ → Option ℕ) (t : Listing) (is : AreLaid most buf o live t) where
  pub free_leaves : (n k : ℕ) → list_with n t ≡ Some k → IsOut most buf o live n k (without n t)
  free_leaves n k there = record {
    tiles =
        same_tiles most buf o o (λ q. either (list_with q t) (live q)) (with_piece n k (without n t) live) is.tiles (λ u x. x) (λ u x. x)
        (λ q. elim (cases_eq q n) [
          | inl s ↦
              ap (with_piece n k (without n t) live) s ∙ put_here n (Some k) (λ p. either (list_with p (without n t)) (live p))
              ∙ sym (ap (λ (x : Option ℕ). either x (live q)) (ap (λ (p : ℕ). list_with p t) s ∙ there))
          | inr d ↦
              put_past n q (Some k) (λ p. either (list_with p (without n t)) (live p)) d
              ∙ ap (λ (x : Option ℕ). either x (live q)) (list_with-without_other t n q (λ s. d (sym s)))
        ]);
    merged = merged_without most t n is.merged;
    single = λ q c h. is.single q c (without_some t n q c h).1;
    off = list_with-without t n;
    bare = is.single n k there;
    lists = length-map t.lists (others n) ∙ is.lists;
  }

  -- a live piece is marked no more
  pub live_leaves : (now : ℕ → Option ℕ) (n k : ℕ) → live n ≡ Some k → now n ≡ None → ((q : ℕ) → q ≢ n → now q ≡ live q) → IsOut most buf o now n k t
  live_leaves now n k there gone rest =
      let off : list_with n t ≡ None = is_none (list_with n t) (λ c h. none_some (live n) k (is.single n c h) there) in
      record {
        tiles =
            same_tiles most buf o o (λ q. either (list_with q t) (live q)) (with_piece n k t now) is.tiles (λ u x. x) (λ u x. x)
            (λ q. elim (cases_eq q n) [
              | inl s ↦
                  ap (with_piece n k t now) s ∙ put_here n (Some k) (λ p. either (list_with p t) (now p))
                  ∙ sym (ap (λ (x : Option ℕ). either x (live q)) (ap (λ (p : ℕ). list_with p t) s ∙ off) ∙ ap live s ∙ there)
              | inr d ↦ put_past n q (Some k) (λ p. either (list_with p t) (now p)) d ∙ ap (either (list_with q t)) (rest q d)
            ]);
        merged = is.merged;
        single = λ q c h. elim (cases_eq q n) [ inl s ↦ ap now s ∙ gone | inr d ↦ rest q d ∙ is.single q c h ];
        off = off;
        bare = gone;
        lists = is.lists;
      }

  -- a buffer is opened
  pub buffer_opens : (o2 : ℕ → Type 0) (u : ℕ) → (o u → ⊥) → 0 < most → buf ≡ 2 ^ (most - 1) → ((v : ℕ) → o v → o2 v) → o2 u → ((v : ℕ) → v ≢ u → o2 v → o v) → IsOut most buf o2 live (u * buf) (most - 1) t
  buffer_opens o2 u shut some sized forth here back =
      let size = λ (q : ℕ). either (list_with q t) (live q) in
      let now = with_piece (u * buf) (most - 1) t live in
      let p = pow_pos (most - 1) in
      let none = nothing_there most buf o o2 size now is.tiles u shut some sized forth here back (put_here (u * buf) (Some (most - 1)) size) (λ q d. put_past (u * buf) q (Some (most - 1)) size d) (u * buf) (omega arith) (omega (arith, p, sized)) in
      let both = either_none (list_with (u * buf) t) (live (u * buf)) none in
      record {
        tiles = opened_tiles most buf o o2 size now is.tiles u shut some sized forth here back (put_here (u * buf) (Some (most - 1)) size) (λ q d. put_past (u * buf) q (Some (most - 1)) size d);
        merged = is.merged;
        single = is.single;
        off = both.0;
        bare = both.1;
        lists = is.lists;
      }

module _ (most buf : ℕ) (o : ℕ → Type 0) (live : ℕ → Option ℕ) (n k : ℕ) (t : Listing) (is : IsOut most buf o live n k t) where
  -- the piece is marked as a live one
  pub live_comes : (now : ℕ → Option ℕ) → now n ≡ Some k → ((q : ℕ) → q ≢ n → now q ≡ live q) → AreLaid most buf o now t
  live_comes now here rest = record {
    tiles =
        same_tiles most buf o o (with_piece n k t live) (λ q. either (list_with q t) (now q)) is.tiles (λ u x. x) (λ u x. x)
        (λ q. elim (cases_eq q n) [
          | inl s ↦
              ap (λ (x : Option ℕ). either x (now q)) (ap (λ (p : ℕ). list_with p t) s ∙ is.off) ∙ ap now s ∙ here
              ∙ sym (ap (with_piece n k t live) s ∙ put_here n (Some k) (λ p. either (list_with p t) (live p)))
          | inr d ↦ ap (either (list_with q t)) (rest q d) ∙ sym (put_past n q (Some k) (λ p. either (list_with p t) (live p)) d)
        ]);
    merged = is.merged;
    single = λ q c h.
        elim (cases_eq q n) [
          | inl s ↦ none_some (list_with q t) c (ap (λ (p : ℕ). list_with p t) s ∙ is.off) h
          | inr d ↦ rest q d ∙ is.single q c h
        ];
    lists = is.lists;
  }

  -- the piece becomes free
  pub free_comes : suc k < most → list_with (other_half k n) t ≢ Some k → AreLaid most buf o live (pushed k n t)
  free_comes room apart =
      let on : list_with n (pushed k n t) ≡ Some k = list_with-pushed t k n (omega (arith, room, is.lists)) is.off in
      let others_on : (q : ℕ) → q ≢ n → list_with q (pushed k n t) ≡ list_with q t = λ q d. list_with-pushed_other t k n q (λ s. d (sym s)) in
      let r = is.tiles.aligned k n (put_here n (Some k) (λ q. either (list_with q t) (live q))) in
      let one = pow_pos k in
      record {
        tiles =
            same_tiles most buf o o (with_piece n k t live) (λ q. either (list_with q (pushed k n t)) (live q)) is.tiles (λ u x. x) (λ u x. x)
            (λ q. elim (cases_eq q n) [
              | inl s ↦
                  ap (λ (x : Option ℕ). either x (live q)) (ap (λ (p : ℕ). list_with p (pushed k n t)) s ∙ on)
                  ∙ sym (ap (with_piece n k t live) s ∙ put_here n (Some k) (λ p. either (list_with p t) (live p)))
              | inr d ↦ ap (λ (x : Option ℕ). either x (live q)) (others_on q d) ∙ sym (put_past n q (Some k) (λ p. either (list_with p t) (live p)) d)
            ]);
        merged = record {
          halves = λ c i low high.
              elim (cases_eq (i * 2 ^ suc c) n) [
                | inl s ↦
                    let same : c ≡ k = some_same (sym low ∙ ap (λ (q : ℕ). list_with q (pushed k n t)) s ∙ on) in
                    let w = power_same c k same in
                    let past : i * 2 ^ suc c + 2 ^ c ≢ n = λ e. omega (arith, e, s, w, one) in
                    elim (which_half k n r.0 r.1) [
                      | inl half ↦
                          apart (ap (λ (q : ℕ). list_with q t) (half.other ∙ (let e : n + 2 ^ k ≡ i * 2 ^ suc c + 2 ^ c = omega (arith, s, w) in e))
                          ∙ sym (others_on (i * 2 ^ suc c + 2 ^ c) past) ∙ high ∙ ap Some same)
                      | inr half ↦
                          let two = twice k in
                          let left = ap (λ (e : ℕ). i * 2 ^ suc e) same ∙ ap (λ (e : ℕ). i * e) two in
                          let right = ap (λ (e : ℕ). half.at * e) two in
                          odd_even i half.at (2 ^ k) one (omega (arith, left, right, s, half.is, half.from))
                    ]
                | inr d ↦ elim (cases_eq (i * 2 ^ suc c + 2 ^ c) n) [
                  | inl s ↦
                      let same : c ≡ k = some_same (sym high ∙ ap (λ (q : ℕ). list_with q (pushed k n t)) s ∙ on) in
                      let w = power_same c k same in
                      elim (which_half k n r.0 r.1) [
                        | inl half ↦
                            let two = twice k in
                            let left = ap (λ (e : ℕ). i * 2 ^ suc e) same ∙ ap (λ (e : ℕ). i * e) two in
                            let right = ap (λ (e : ℕ). half.at * e) two in
                            odd_even half.at i (2 ^ k) one (omega (arith, left, right, s, w, half.from))
                        | inr half ↦
                            apart (ap (λ (q : ℕ). list_with q t) (half.other ∙ (let e : half.low ≡ i * 2 ^ suc c = omega (arith, half.is, s, w) in e))
                            ∙ sym (others_on (i * 2 ^ suc c) d) ∙ low ∙ ap Some same)
                      ]
                  | inr f ↦ is.merged.halves c i (sym (others_on (i * 2 ^ suc c) d) ∙ low) (sym (others_on (i * 2 ^ suc c + 2 ^ c) f) ∙ high)
                ]
              ];
          whole = λ q h.
              elim (cases_eq q n) [
                | inl s ↦
                    let same : most - 1 ≡ k = some_same (sym h ∙ ap (λ (p : ℕ). list_with p (pushed k n t)) s ∙ on) in
                    omega (arith, room, same)
                | inr d ↦ is.merged.whole q (sym (others_on q d) ∙ h)
              ];
        };
        single = λ q c h. elim (cases_eq q n) [ inl s ↦ ap live s ∙ is.bare | inr d ↦ is.single q c (sym (others_on q d) ∙ h) ];
        lists = length-set t.lists k (nodes_on k t ++ n ∷ []) ∙ is.lists;
      }

  -- the piece is a whole buffer, which is closed
  pub buffer_closes : (o2 : ℕ → Type 0) (u : ℕ) → 0 < most → buf ≡ 2 ^ (most - 1) → n ≡ u * buf → suc k ≡ most → ((v : ℕ) → v ≢ u → o v → o2 v) → ((v : ℕ) → o2 v → (v ≢ u) × o v) → AreLaid most buf o2 live t
  buffer_closes o2 u some sized from whole forth back =
      let class : k ≡ most - 1 = omega (arith, whole) in
      let here : with_piece n k t live (u * buf) ≡ Some (most - 1) =
      ap (with_piece n k t live) (sym from) ∙ put_here n (Some k) (λ p. either (list_with p t) (live p)) ∙ ap Some class
      in
      record {
        tiles =
            closed_tiles most buf o o2 (with_piece n k t live) (λ q. either (list_with q t) (live q)) is.tiles u some sized here
            (ap (λ (q : ℕ). either (list_with q t) (live q)) (sym from) ∙ ap (λ (x : Option ℕ). either x (live n)) is.off ∙ is.bare)
            forth back
            (λ q d. sym (put_past n q (Some k) (λ p. either (list_with p t) (live p)) (λ e. d (e ∙ from))));
        merged = is.merged;
        single = is.single;
        lists = is.lists;
      }
