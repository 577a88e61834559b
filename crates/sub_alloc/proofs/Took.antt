-- What a call leaves, as its clauses say it: a piece of a free one, a piece of a new buffer, a piece that came back.
use Rattle.std.proofs.Common.{◌≡◌, ◌≢◌, ℕ, zero, suc, ◌+◌, ◌-◌, ◌*◌, ◌/◌, ◌<◌, ◌≤◌, ◌^◌, List, [], ◌∷◌, get_or, set, length, Option, None, Some, IsSome, refl, ap, sym, ◌∙◌, subst, inl, inr, arith}
use Rattle.std.specs.List.{slice_get}
use Rattle.std.proofs.lemmas.Bool.{cases_eq, eq-eqb, ne_eqb, false≢true}
use Rattle.std.proofs.lemmas.List.{get_or-set_same, get_or-set_other, length-set}
use Rattle.index_list.specs.Listing.{IsProper, Listing, list_with, nodes_on, pushed, without}
use Rattle.index_list.proofs.Places.{list-from_stands, stands-from_get}
use Rattle.block_arena.specs.Memory.{IsBufferOf}
use Rattle.store_api.specs.Tokens.{LoanToken}
use Rattle.sub_alloc.specs.Pieces.{BeginsAt, Division, IsLive, IsOpen, PieceToken, Stays, buffer, live_at, marked, piece_at, place_of, places}
use Rattle.sub_alloc.specs.Rules.{Joined, came_back, cut_out, freed_by, freed_with, returned, join_at, joined, newest, taken_new}
use Rattle.sub_alloc.specs.Tiling.{IsWhole}
use Rattle.sub_alloc.specs.Calls.{IsFresh, KeepsOthers, KeepsPieces}
use Rattle.sub_alloc.proofs.Tiles.{none_some}
use Rattle.sub_alloc.proofs.Outs.{IsJoined, IsOut, buffer_opens, free_leaves}
use Rattle.sub_alloc.proofs.Halves.{joined-nodes}
use Rattle.sub_alloc.proofs.Whole.{IsPlaced, back_joined, closed_whole, closes_open, cut_whole, freed_whole, inside_table, join_at_is, laid_of, new_live, nowhere, out_class, place_back, place_in, placed_of, same_piece, slot_in, stays}

-- the last of a list
last_is : (xs : List ℕ) (n : ℕ) → slice_get xs (length xs - 1) ≡ Some n → get_or xs (length xs - 1) 0 ≡ n
last_is xs n e = at xs (length xs - 1) e
  where
    at : (xs : List ℕ) (i : ℕ) → slice_get xs i ≡ Some n → get_or xs i 0 ≡ n
    at [] i e = none_some None n refl e
    at (x ∷ xs) zero e = cc
    at (x ∷ xs) (suc i) e = at xs i e

pub newest_is : (e n : ℕ) (t : Listing) → slice_get (nodes_on e t) (length (nodes_on e t) - 1) ≡ Some n → newest e t ≡ n
newest_is e n t there = last_is (nodes_on e t) n there

pub newest_stands : (e n : ℕ) (t : Listing) → IsProper t → slice_get (nodes_on e t) (length (nodes_on e t) - 1) ≡ Some n → list_with n t ≡ Some e
newest_stands e n t proper there = list-from_stands t proper n e (stands-from_get (nodes_on e t) (length (nodes_on e t) - 1) n there)

-- what is left where a piece of class c was cut out at n
pub record HasCut (d now : Division) (c n : ℕ) : Type 0 where
  pub whole : IsWhole now
  pub fresh : IsFresh d now (piece_at d c n)
  pub kept : KeepsPieces d now

-- ---- of a free piece

module _ (d : Division) (w : IsWhole d) (n e c : ℕ) (there : list_with n d.free ≡ Some e) (down : c ≤ e) where
  left : IsOut d.classes (places d) (λ u. IsOpen u d) (live_at d) n e (without n d.free)
  left = free_leaves d.classes (places d) (λ u. IsOpen u d) (live_at d) d.free (laid_of d w) n e there

  pub free_inside : n + 2 ^ e ≤ (without n d.free).nodes
  free_inside = inside_table d w.sized d.buffers refl n e c (without n d.free) left refl down

  pub free_nowhere : (k : ℕ) → k < e → list_with (n + 2 ^ k) (without n d.free) ≡ None
  free_nowhere = nowhere d w.sized d.buffers refl n e c (without n d.free) left refl down

  pub free_place : n < length d.live
  free_place = place_in d w.sized d.buffers refl n e c (without n d.free) left refl down

  pub free_cut : HasCut d (record d { free = cut_out c e n (without n d.free); live = set d.live n (suc c) }) c n
  free_cut =
      let mark = get_or-set_same d.live n (suc c) 0 free_place in
      let bare = w.tiled.single n e there in
      record {
        whole = cut_whole d w.sized d.buffers refl n e c (without n d.free) left refl down w.loans;
        fresh = record {
          live = new_live d (record d { free = cut_out c e n (without n d.free); live = set d.live n (suc c) }) n c refl (ap marked mark);
          other = λ q is s. none_some (live_at d n) is.class bare (sym (ap (live_at d) (ap (place_of d) s ∙ place_back n (places d))) ∙ is.live);
        };
        kept = record {
          sizes = record { block_len = refl; page_blocks = refl; classes = refl; bufs = refl };
          pieces = λ q is.
              let far : place_of d q ≢ n = λ s. none_some (live_at d n) is.class bare (sym (ap (live_at d) s) ∙ is.live) in
              stays d d.buffers (cut_out c e n (without n d.free)) (set d.live n (suc c)) q is (get_or-set_other d.live n (place_of d q) (suc c) 0 far) refl;
        };
      }

-- ---- of a new buffer

module _ (d : Division) (w : IsWhole d) (u c : ℕ) (loan : LoanToken) (l : u < length d.buffers) (shut : buffer u d ≡ None) (fits : IsBufferOf d.page_blocks d.block_len loan.buf) (below : c < d.classes) where
  now_bufs : List (Option LoanToken)
  now_bufs = set d.buffers u (Some loan)

  here : get_or (set d.buffers u (Some loan)) u None ≡ Some loan
  here = get_or-set_same d.buffers u (Some loan) None l

  off : (v : ℕ) → v ≢ u → get_or (set d.buffers u (Some loan)) v None ≡ get_or d.buffers v None
  off v other = get_or-set_other d.buffers u v (Some loan) None other

  closed : IsOpen u d → ⊥
  closed opened = false≢true (subst IsSome shut opened)

  come : IsOut d.classes (places d) (λ v. IsSome (get_or (set d.buffers u (Some loan)) v None)) (live_at d) (u * places d) (d.classes - 1) d.free
  come =
      buffer_opens d.classes (places d) (λ v. IsOpen v d) (live_at d) d.free (laid_of d w) (λ v. IsSome (get_or (set d.buffers u (Some loan)) v None)) u closed w.sized.some refl
      (λ v opened. elim (cases_eq v u) [
        | inl s ↦ absurd (closed (subst (λ (k : ℕ). IsOpen k d) s opened))
        | inr other ↦ subst IsSome (sym (off v other)) opened
      ])
      (subst IsSome (sym here) refl)
      (λ v other opened. subst IsSome (off v other) opened)

  down : c ≤ d.classes - 1
  down = omega (arith, below)

  many : length (set d.buffers u (Some loan)) ≡ length d.buffers
  many = length-set d.buffers u (Some loan)

  pub new_inside : u * places d + 2 ^ (d.classes - 1) ≤ d.free.nodes
  new_inside = inside_table d w.sized (set d.buffers u (Some loan)) many (u * places d) (d.classes - 1) c d.free come refl down

  pub new_nowhere : (k : ℕ) → k < d.classes - 1 → list_with (u * places d + 2 ^ k) d.free ≡ None
  new_nowhere = nowhere d w.sized (set d.buffers u (Some loan)) many (u * places d) (d.classes - 1) c d.free come refl down

  pub new_place : u * places d < length d.live
  new_place = place_in d w.sized (set d.buffers u (Some loan)) many (u * places d) (d.classes - 1) c d.free come refl down

  pub new_cut : HasCut d (taken_new c u loan d) c (u * places d)
  new_cut =
      let n = u * places d in
      let mark = get_or-set_same d.live n (suc c) 0 new_place in
      record {
        whole = cut_whole d w.sized (set d.buffers u (Some loan)) many n (d.classes - 1) c d.free come refl down (λ v other stands.
            elim (cases_eq v u) [
              | inl s ↦ subst (λ (x : LoanToken). IsBufferOf d.page_blocks d.block_len x.buf) (same_loan (sym here ∙ ap (λ (k : ℕ). get_or (set d.buffers u (Some loan)) k None) (sym s) ∙ stands)) fits
              | inr far ↦ w.loans v other (sym (off v far) ∙ stands)
            ]);
        fresh = record {
          live = new_live d (taken_new c u loan d) n c refl (ap marked mark);
          other = λ q is s. none_some (live_at d n) is.class come.bare (sym (ap (live_at d) (ap (place_of d) s ∙ place_back n (places d))) ∙ is.live);
        };
        kept = record {
          sizes = record { block_len = refl; page_blocks = refl; classes = refl; bufs = many };
          pieces = λ q is.
              let at = placed_of d q w is in
              let other : q.buf ≢ u = λ s. closed (subst (λ (k : ℕ). IsOpen k d) s at.is_open) in
              let far : place_of d q ≢ n = λ s. none_some (live_at d n) is.class come.bare (sym (ap (live_at d) s) ∙ is.live) in
              stays d (set d.buffers u (Some loan)) (cut_out c (d.classes - 1) n d.free) (set d.live n (suc c)) q is
              (get_or-set_other d.live n (place_of d q) (suc c) 0 far) (off q.buf other);
        };
      }
    where
      same_loan : {x y : LoanToken} → Some x ≡ Some y → x ≡ y
      same_loan same = cc

-- ---- of a piece that came back

module _ (d : Division) (p : PieceToken) (w : IsWhole d) (is : IsLive p d) (j : Joined) where
  pub at : IsPlaced d p
  at = placed_of d p w is

  pub back_is : joined (d.classes - 1 - at.class) at.class (place_of d p) d.free ≡ j → IsJoined d.classes (places d) (λ u. IsOpen u d) (λ q. marked (get_or (set d.live (place_of d p) 0) q 0)) j
  back_is e = subst (IsJoined d.classes (places d) (λ u. IsOpen u d) (λ q. marked (get_or (set d.live (place_of d p) 0) q 0))) e (back_joined d w (place_of d p) at.class at.mark)

  pub back_nodes : joined (d.classes - 1 - at.class) at.class (place_of d p) d.free ≡ j → j.free.nodes ≡ d.free.nodes
  back_nodes e = ap (λ (k : Joined). k.free.nodes) (sym e) ∙ joined-nodes (d.classes - 1 - at.class) at.class (place_of d p) d.free

  pub given_is : joined (d.classes - 1 - at.class) at.class (place_of d p) d.free ≡ j → (returned p d ≡ came_back (place_of d p) j d) × (freed_by p d ≡ freed_with j d)
  given_is e =
      let same : join_at (place_of d p) d ≡ j = join_at_is d w (place_of d p) at.class at.mark ∙ e in
      (ap (λ (k : Joined). came_back (place_of d p) k d) same, ap (λ (k : Joined). freed_with k d) same)

  -- where it is joined from where it begins
  pub joined_from : (c n : ℕ) → BeginsAt d p c n → j ≡ joined (d.classes - 1 - c) c n d.free → joined (d.classes - 1 - at.class) at.class (place_of d p) d.free ≡ j
  joined_from c n from is_j =
      let mark : get_or d.live (place_of d p) 0 ≡ suc c = ap (λ (m : ℕ). get_or d.live m 0) (sym from.place) ∙ from.mark in
      let same : c ≡ at.class = omega (arith, mark, at.mark) in
      sym (is_j ∙ ap (λ (k : ℕ). joined (d.classes - 1 - k) k n d.free) same ∙ ap (λ (m : ℕ). joined (d.classes - 1 - at.class) at.class m d.free) from.place)

  pub joined_off : joined (d.classes - 1 - at.class) at.class (place_of d p) d.free ≡ j → list_with j.place j.free ≡ None
  joined_off e = (back_is e).out.off

  -- another live piece has another place
  apart : (q : PieceToken) → IsLive q d → q ≢ p → place_of d q ≢ place_of d p
  apart q is_q other s = other (same_piece d q p is_q is s)

  -- it is free
  module _ (e : joined (d.classes - 1 - at.class) at.class (place_of d p) d.free ≡ j) (room : suc j.class < d.classes) where
    came_free : came_back (place_of d p) j d ≡ record d { free = pushed j.class j.place j.free; live = set d.live (place_of d p) 0 }
    came_free = rw (ne_eqb (suc j.class) d.classes (λ s. omega (arith, s, room))) refl

    pub freed_none : freed_by p d ≡ None
    freed_none = (given_is e).1 ∙ rw (ne_eqb (suc j.class) d.classes (λ s. omega (arith, s, room))) refl

    pub back_free : returned p d ≡ record d { free = pushed j.class j.place j.free; live = set d.live (place_of d p) 0 }
    back_free = (given_is e).0 ∙ came_free

    pub free_whole : IsWhole (record d { free = pushed j.class j.place j.free; live = set d.live (place_of d p) 0 })
    free_whole =
        let is_j = back_is e in
        elim is_j.ends [
          | inl whole ↦ absurd (omega (arith, whole, room))
          | inr part ↦ freed_whole d w (place_of d p) at.class at.mark j is_j (back_nodes e) part.0 part.1
        ]

    pub free_kept : KeepsOthers p d (record d { free = pushed j.class j.place j.free; live = set d.live (place_of d p) 0 })
    free_kept = record {
      sizes = record { block_len = refl; page_blocks = refl; classes = refl; bufs = refl };
      pieces = λ q is_q other.
          stays d d.buffers (pushed j.class j.place j.free) (set d.live (place_of d p) 0) q is_q (get_or-set_other d.live (place_of d p) (place_of d q) 0 0 (apart q is_q other)) refl;
    }

  -- it is a whole buffer
  module _ (e : joined (d.classes - 1 - at.class) at.class (place_of d p) d.free ≡ j) (room : d.classes ≤ suc j.class) where
    class_is : suc j.class ≡ d.classes
    class_is = let l = out_class d w (place_of d p) at.class at.mark j (back_is e) (back_nodes e) in omega (arith, room, l)

    came_whole : came_back (place_of d p) j d ≡ record d { buffers = set d.buffers (j.place / places d) None; free = j.free; live = set d.live (place_of d p) 0 }
    came_whole = rw (eq-eqb (suc j.class) d.classes class_is) refl

    pub freed_some : freed_by p d ≡ buffer (j.place / places d) d
    freed_some = (given_is e).1 ∙ rw (eq-eqb (suc j.class) d.classes class_is) refl

    pub back_whole : returned p d ≡ record d { buffers = set d.buffers (j.place / places d) None; free = j.free; live = set d.live (place_of d p) 0 }
    back_whole = (given_is e).0 ∙ came_whole

    pub shut_open : IsOpen (j.place / places d) d
    shut_open = closes_open d w (place_of d p) at.class at.mark j (back_is e) (back_nodes e) class_is

    pub shut_whole : IsWhole (record d { buffers = set d.buffers (j.place / places d) None; free = j.free; live = set d.live (place_of d p) 0 })
    shut_whole = closed_whole d w (place_of d p) at.class at.mark j (back_is e) (back_nodes e) class_is

    shut_others : (q : PieceToken) → IsLive q d → q ≢ p → Stays d (record d { buffers = set d.buffers (j.place / places d) None; free = j.free; live = set d.live (place_of d p) 0 }) q
    shut_others q is_q other =
        let now : Division = record d { buffers = set d.buffers (j.place / places d) None; free = j.free; live = set d.live (place_of d p) 0 } in
        let mark = get_or-set_other d.live (place_of d p) (place_of d q) 0 0 (apart q is_q other) in
        let live_now : IsLive q now = record { class = is_q.class; live = ap marked mark ∙ is_q.live; is = is_q.is } in
        let at_q = placed_of now q shut_whole live_now in
        let slot = slot_in d.buffers (j.place / places d) shut_open in
        let far : q.buf ≢ j.place / places d = λ s.
        false≢true (subst IsSome (ap (λ (k : ℕ). get_or (set d.buffers (j.place / places d) None) k None) s ∙ get_or-set_same d.buffers (j.place / places d) None None slot) at_q.is_open)
        in
        stays d (set d.buffers (j.place / places d) None) j.free (set d.live (place_of d p) 0) q is_q mark (get_or-set_other d.buffers (j.place / places d) q.buf None None far)

    pub shut_kept : KeepsOthers p d (record d { buffers = set d.buffers (j.place / places d) None; free = j.free; live = set d.live (place_of d p) 0 })
    shut_kept = record {
      sizes = record { block_len = refl; page_blocks = refl; classes = refl; bufs = length-set d.buffers (j.place / places d) None };
      pieces = shut_others;
    }
