-- A suballocator before and after a call: a piece is taken out of a free one, or out of a new buffer; a piece comes back.
use Rattle.std.proofs.Common.{◌≡◌, ◌≢◌, ℕ, zero, suc, ◌+◌, ◌-◌, ◌*◌, ◌/◌, ◌%◌, ◌<◌, ◌≤◌, ◌^◌, List, get_or, set, length, take, drop, Option, None, Some, IsSome, refl, ap, sym, ◌∙◌, subst, inl, inr, arith}
use Rattle.std.proofs.Math.Nat.{mul-le-mul_right}
use Rattle.std.proofs.lemmas.Nat.{pow_pos, pow_below, div-mul-add, div-add-mod'}
use Rattle.std.proofs.lemmas.Bool.{cases_eq, cases_lt, false≢true}
use Rattle.std.proofs.lemmas.List.{get_or_past, get_or-set_same, get_or-set_other, length-set}
use Rattle.index_list.specs.Listing.{Listing, list_with, pushed}
use Rattle.block_arena.specs.Memory.{IsBufferOf}
use Rattle.store_api.specs.Tokens.{LoanToken}
use Rattle.sub_alloc.specs.Pieces.{Division, IsLive, IsOpen, PieceToken, Stays, bytes_in, either, free_at, live_at, marked, piece_at, place_of, places, size_at}
use Rattle.sub_alloc.specs.Rules.{Joined, cut_out, join_at, joined, other_half}
use Rattle.sub_alloc.specs.Tiling.{IsSized, IsWhole}
use Rattle.sub_alloc.proofs.Tiles.{inside_none, is_none, none_some, some_same}
use Rattle.sub_alloc.proofs.Outs.{AreLaid, IsJoined, IsOut, buffer_closes, either_none, free_comes, halved_out, joined_out, live_comes, live_leaves, put_here, put_past, with_piece}
use Rattle.sub_alloc.proofs.Halves.{buffer_is, halved-nodes}

pub laid_of : (d : Division) → IsWhole d → AreLaid d.classes (places d) (λ u. IsOpen u d) (live_at d) d.free
laid_of d w = record { tiles = w.tiled.tiles; merged = w.tiled.merged; single = w.tiled.single; lists = w.sized.lists }

-- an open buffer has a number, and lies in the table
pub slot_in : (bufs : List (Option LoanToken)) (u : ℕ) → IsSome (get_or bufs u None) → u < length bufs
slot_in bufs u is = elim (cases_lt u (length bufs)) [ inl l ↦ l | inr l ↦ absurd (false≢true (subst IsSome (get_or_past bufs u None l) is)) ]

pub places_some : (d : Division) → 0 < places d
places_some d = pow_pos (d.classes - 1)

pub room_of : (d : Division) → IsSized d → (u n c : ℕ) → u < length d.buffers → n + 2 ^ c ≤ u * places d + places d → n + 2 ^ c ≤ d.free.nodes
room_of d sized u n c l inside =
    let m = mul-le-mul_right (places d) l in
    omega (arith, m, inside, sized.nodes)

pub mark_is : (m c : ℕ) → marked m ≡ Some c → m ≡ suc c
mark_is zero c e = absurd (none_some None c refl e)
mark_is (suc m) c e = ap suc (some_same e)

-- ---- a piece that is out of the lists is cut, and then live

module _ (d : Division) (sized : IsSized d) (bufs : List (Option LoanToken)) (many : length bufs ≡ length d.buffers) (n e c : ℕ) (t : Listing) (out : IsOut d.classes (places d) (λ u. IsSome (get_or bufs u None)) (live_at d) n e t) (nodes : t.nodes ≡ d.free.nodes) (down : c ≤ e) where
  begin : with_piece n e t (live_at d) n ≡ Some e
  begin = put_here n (Some e) (λ q. either (list_with q t) (live_at d q))

  pub inside_table : n + 2 ^ e ≤ t.nodes
  inside_table =
      let w = out.tiles.within e n begin in
      let l = slot_in bufs w.0 w.1 in
      let m = mul-le-mul_right (places d) l in
      let same = ap (λ (k : ℕ). k * places d) many in
      omega (arith, m, w.3, sized.nodes, same, nodes)

  pub nowhere : (k : ℕ) → k < e → list_with (n + 2 ^ k) t ≡ None
  nowhere k l =
      let one = pow_pos k in
      let p = pow_below k e l in
      let size = λ (q : ℕ). either (list_with q t) (live_at d q) in
      let past : n + 2 ^ k ≢ n = λ s. omega (arith, s, one) in
      let none = inside_none d.classes (places d) (λ u. IsSome (get_or bufs u None)) (with_piece n e t (live_at d)) out.tiles e n (n + 2 ^ k) begin (omega (arith, one)) (omega (arith, p)) in
      (either_none (list_with (n + 2 ^ k) t) (live_at d (n + 2 ^ k)) (sym (put_past n (n + 2 ^ k) (Some e) size past) ∙ none)).0

  pub place_in : n < length d.live
  place_in = let i = inside_table in let p = pow_pos e in omega (arith, i, p, nodes, sized.nodes, sized.marks)

  pub class_in : e < d.classes
  class_in = out.tiles.short e n begin

  pub now_live : ℕ → Option ℕ
  now_live q = marked (get_or (set d.live n (suc c)) q 0)

  cut_laid : AreLaid d.classes (places d) (λ u. IsSome (get_or bufs u None)) (λ q. marked (get_or (set d.live n (suc c)) q 0)) (cut_out c e n t)
  cut_laid =
      let cut = halved_out (e - c) c n d.classes (places d) (λ u. IsSome (get_or bufs u None)) (live_at d) t (subst (λ (k : ℕ). IsOut d.classes (places d) (λ u. IsSome (get_or bufs u None)) (live_at d) n k t) (let s : e ≡ c + (e - c) = omega (arith, down) in s) out) in
      live_comes d.classes (places d) (λ u. IsSome (get_or bufs u None)) (live_at d) n c (cut_out c e n t) cut (λ q. marked (get_or (set d.live n (suc c)) q 0))
      (ap marked (get_or-set_same d.live n (suc c) 0 place_in))
      (λ q other. ap marked (get_or-set_other d.live n q (suc c) 0 other))

  pub cut_whole : ((u : ℕ) (loan : LoanToken) → get_or bufs u None ≡ Some loan → IsBufferOf d.page_blocks d.block_len loan.buf) → IsWhole (record d { buffers = bufs; free = cut_out c e n t; live = set d.live n (suc c) })
  cut_whole loans =
      let laid = cut_laid in
      record {
        sized = record {
          some = sized.some;
          few = sized.few;
          blocks = sized.blocks;
          len = sized.len;
          bufs = omega (arith, sized.bufs, many);
          nodes = halved-nodes (e - c) c n t ∙ nodes ∙ sized.nodes ∙ ap (λ (k : ℕ). k * places d) (sym many);
          lists = laid.lists;
          marks = length-set d.live n (suc c) ∙ sized.marks ∙ ap (λ (k : ℕ). k * places d) (sym many);
        };
        tiled = record { tiles = laid.tiles; merged = laid.merged; single = laid.single };
        loans = loans;
      }

-- ---- a live piece

pub record IsPlaced (d : Division) (p : PieceToken) : Type 0 where
  pub class : ℕ
  pub mark : get_or d.live (place_of d p) 0 ≡ suc class
  pub size : size_at d (place_of d p) ≡ Some class
  pub is : p ≡ piece_at d class (place_of d p)
  pub is_open : IsOpen p.buf d
  pub inside : place_of d p % places d + 2 ^ class ≤ places d
  pub table : place_of d p + 2 ^ class ≤ d.free.nodes
  pub aligned : (r : ℕ) × (place_of d p ≡ r * 2 ^ class)
  pub short : class < d.classes

pub placed_of : (d : Division) (p : PieceToken) → IsWhole d → IsLive p d → IsPlaced d p
placed_of d p w is =
    let n = place_of d p in
    let off : free_at d n ≡ None = is_none (free_at d n) (λ c h. none_some (live_at d n) is.class (w.tiled.single n c h) is.live) in
    let size : size_at d n ≡ Some is.class = ap (λ (x : Option ℕ). either x (live_at d n)) off ∙ is.live in
    let v = w.tiled.tiles.within is.class n size in
    let some = places_some d in
    let one = pow_pos is.class in
    let u : n / places d ≡ v.0 = (buffer_is n v.0 (n - v.0 * places d) (places d) some (omega (arith, v.2, v.3, one)) (omega (arith, v.2))).0 in
    let i : n % places d ≡ n - v.0 * places d = (buffer_is n v.0 (n - v.0 * places d) (places d) some (omega (arith, v.2, v.3, one)) (omega (arith, v.2))).1 in
    let buf : p.buf ≡ v.0 = ap (λ (q : PieceToken). q.buf) is.is ∙ u in
    record {
      class = is.class;
      mark = mark_is (get_or d.live n 0) is.class is.live;
      size = size;
      is = is.is;
      is_open = subst (λ (k : ℕ). IsOpen k d) (sym buf) v.1;
      inside = omega (arith, i, v.2, v.3);
      table = room_of d w.sized v.0 n is.class (slot_in d.buffers v.0 v.1) v.3;
      aligned = w.tiled.tiles.aligned is.class n size;
      short = w.tiled.tiles.short is.class n size;
    }

-- two live pieces at one place are the same
pub same_piece : (d : Division) (p q : PieceToken) → IsLive p d → IsLive q d → place_of d p ≡ place_of d q → p ≡ q
same_piece d p q is_p is_q same =
    let classes : is_p.class ≡ is_q.class = some_same (sym is_p.live ∙ ap (live_at d) same ∙ is_q.live) in
    is_p.is ∙ ap (λ (k : ℕ). piece_at d k (place_of d p)) classes ∙ ap (piece_at d is_q.class) same ∙ sym is_q.is

-- the place of a piece that is given
pub place_back : (n buf : ℕ) → n / buf * buf + 64 * (n % buf) / 64 ≡ n
place_back n buf = let e = div-add-mod' n buf in let f : 64 * (n % buf) / 64 ≡ n % buf = omega arith in omega (arith, e, f)

pub new_live : (d now : Division) (n c : ℕ) → now.classes ≡ d.classes → live_at now n ≡ Some c → IsLive (piece_at d c n) now
new_live d now n c classes there =
    let same : places now ≡ places d = ap (λ (k : ℕ). 2 ^ (k - 1)) classes in
    let back : place_of now (piece_at d c n) ≡ n = ap (λ (k : ℕ). n / places d * k + 64 * (n % places d) / 64) same ∙ place_back n (places d) in
    record {
      class = c;
      live = ap (live_at now) back ∙ there;
      is = ap (λ (k : ℕ). let p : PieceToken = record { buf = n / k; at = 64 * (n % k); len = 64 * 2 ^ c } in p) (sym same) ∙ ap (piece_at now c) (sym back);
    }

-- a live piece whose mark and whose buffer stay
pub stays : (d : Division) (bufs : List (Option LoanToken)) (free : Listing) (live : List ℕ) (q : PieceToken) → IsLive q d → get_or live (place_of d q) 0 ≡ get_or d.live (place_of d q) 0 → get_or bufs q.buf None ≡ get_or d.buffers q.buf None → Stays d (record d { buffers = bufs; free = free; live = live }) q
stays d bufs free live q is mark slot = record {
  live = record { class = is.class; live = ap marked mark ∙ is.live; is = is.is };
  bytes = ap (λ (b : Option LoanToken). take q.len (drop q.at (bytes_in b))) slot;
}

-- ---- a piece comes back

module _ (d : Division) (w : IsWhole d) (n c : ℕ) (mark : get_or d.live n 0 ≡ suc c) where
  live_in : n < length d.live
  live_in = elim (cases_lt n (length d.live)) [ inl l ↦ l | inr l ↦ absurd (let z = get_or_past d.live n 0 l in omega (arith, z, mark)) ]

  left : IsOut d.classes (places d) (λ u. IsOpen u d) (λ q. marked (get_or (set d.live n 0) q 0)) n c d.free
  left =
      live_leaves d.classes (places d) (λ u. IsOpen u d) (live_at d) d.free (laid_of d w) (λ q. marked (get_or (set d.live n 0) q 0)) n c (ap marked mark)
      (ap marked (get_or-set_same d.live n 0 0 live_in)) (λ q other. ap marked (get_or-set_other d.live n q 0 0 other))

  class_below : c < d.classes
  class_below = left.tiles.short c n (put_here n (Some c) (λ q. either (list_with q d.free) (marked (get_or (set d.live n 0) q 0))))

  the_joined : Joined
  the_joined = joined (d.classes - 1 - c) c n d.free

  pub back_joined : IsJoined d.classes (places d) (λ u. IsOpen u d) (λ q. marked (get_or (set d.live n 0) q 0)) (joined (d.classes - 1 - c) c n d.free)
  back_joined = joined_out (d.classes - 1 - c) c n d.classes (places d) (λ u. IsOpen u d) (λ q. marked (get_or (set d.live n 0) q 0)) d.free refl (let l = class_below in omega (arith, l)) left

  pub join_at_is : join_at n d ≡ joined (d.classes - 1 - c) c n d.free
  join_at_is = ap (λ (k : ℕ). joined (d.classes - 1 - k) k n d.free) (let e : get_or d.live n 0 - 1 ≡ c = omega (arith, mark) in e)

  module _ (j : Joined) (is : IsJoined d.classes (places d) (λ u. IsOpen u d) (λ q. marked (get_or (set d.live n 0) q 0)) j) (nodes : j.free.nodes ≡ d.free.nodes) where
    out_begin : with_piece j.place j.class j.free (λ q. marked (get_or (set d.live n 0) q 0)) j.place ≡ Some j.class
    out_begin = put_here j.place (Some j.class) (λ q. either (list_with q j.free) (marked (get_or (set d.live n 0) q 0)))

    -- it lies in an open buffer
    pub out_within : (u : ℕ) × IsOpen u d × (u * places d ≤ j.place) × (j.place + 2 ^ j.class ≤ u * places d + places d)
    out_within = is.out.tiles.within j.class j.place out_begin

    pub out_place : j.place < d.free.nodes
    out_place =
        let v = out_within in
        let r = room_of d w.sized v.0 j.place j.class (slot_in d.buffers v.0 v.1) v.3 in
        let p = pow_pos j.class in
        omega (arith, r, p)

    pub out_class : j.class < d.classes
    out_class = is.out.tiles.short j.class j.place out_begin

    -- a whole buffer
    module _ (whole : suc j.class ≡ d.classes) where
      pub begins : j.place ≡ j.place / places d * places d
      begins =
          let r = is.out.tiles.aligned j.class j.place out_begin in
          let size : 2 ^ j.class ≡ places d = ap (λ (k : ℕ). 2 ^ k) (let e : j.class ≡ d.classes - 1 = omega (arith, whole) in e) in
          let from : j.place ≡ r.0 * places d + 0 = (let e = r.1 ∙ ap (λ (k : ℕ). r.0 * k) size in omega (arith, e)) in
          let part : j.place / places d ≡ r.0 = ap (λ (k : ℕ). k / places d) from ∙ div-mul-add r.0 (places d) 0 (places_some d) in
          (let e : j.place ≡ r.0 * places d = omega (arith, from) in e) ∙ ap (λ (k : ℕ). k * places d) (sym part)

      pub closes_open : IsOpen (j.place / places d) d
      closes_open =
          let v = out_within in
          let some = places_some d in
          let b = begins in
          let p = pow_pos j.class in
          let u = (buffer_is j.place v.0 (j.place - v.0 * places d) (places d) some (omega (arith, v.2, v.3, p)) (omega (arith, v.2))).0 in
          subst (λ (k : ℕ). IsOpen k d) (sym u) v.1

      pub closed_laid : AreLaid d.classes (places d) (λ u. IsSome (get_or (set d.buffers (j.place / places d) None) u None)) (λ q. marked (get_or (set d.live n 0) q 0)) j.free
      closed_laid =
          let u = j.place / places d in
          let l = slot_in d.buffers u closes_open in
          buffer_closes d.classes (places d) (λ u. IsOpen u d) (λ q. marked (get_or (set d.live n 0) q 0)) j.place j.class j.free is.out (λ v. IsSome (get_or (set d.buffers (j.place / places d) None) v None)) u w.sized.some refl begins whole
          (λ v other opened. subst IsSome (sym (get_or-set_other d.buffers u v None None other)) opened)
          (λ v opened. elim (cases_eq v u) [
            | inl s ↦ absurd (false≢true (subst IsSome (ap (λ (k : ℕ). get_or (set d.buffers u None) k None) s ∙ get_or-set_same d.buffers u None None l) opened))
            | inr other ↦ (other, subst IsSome (get_or-set_other d.buffers u v None None other) opened)
          ])

      pub closed_whole : IsWhole (record d { buffers = set d.buffers (j.place / places d) None; free = j.free; live = set d.live n 0 })
      closed_whole =
          let u = j.place / places d in
          let laid = closed_laid in
          let many = length-set d.buffers u None in
          record {
            sized = record {
              some = w.sized.some;
              few = w.sized.few;
              blocks = w.sized.blocks;
              len = w.sized.len;
              bufs = omega (arith, w.sized.bufs, many);
              nodes = nodes ∙ w.sized.nodes ∙ ap (λ (k : ℕ). k * places d) (sym many);
              lists = laid.lists;
              marks = length-set d.live n 0 ∙ w.sized.marks ∙ ap (λ (k : ℕ). k * places d) (sym many);
            };
            tiled = record { tiles = laid.tiles; merged = laid.merged; single = laid.single };
            loans = λ v loan h.
                elim (cases_eq v u) [
                  | inl s ↦
                      let l = slot_in d.buffers u closes_open in
                      let gone = ap (λ (k : ℕ). get_or (set d.buffers u None) k None) s ∙ get_or-set_same d.buffers u None None l in
                      absurd (false≢true (subst IsSome (sym h ∙ gone) refl))
                  | inr other ↦ w.loans v loan (sym (get_or-set_other d.buffers u v None None other) ∙ h)
                ];
          }

    -- a free piece
    module _ (room : suc j.class < d.classes) (apart : list_with (other_half j.class j.place) j.free ≢ Some j.class) where
      pub freed_whole : IsWhole (record d { free = pushed j.class j.place j.free; live = set d.live n 0 })
      freed_whole =
          let laid = free_comes d.classes (places d) (λ u. IsOpen u d) (λ q. marked (get_or (set d.live n 0) q 0)) j.place j.class j.free is.out room apart in
          record {
            sized = record {
              some = w.sized.some;
              few = w.sized.few;
              blocks = w.sized.blocks;
              len = w.sized.len;
              bufs = w.sized.bufs;
              nodes = nodes ∙ w.sized.nodes;
              lists = laid.lists;
              marks = length-set d.live n 0 ∙ w.sized.marks;
            };
            tiled = record { tiles = laid.tiles; merged = laid.merged; single = laid.single };
            loans = w.loans;
          }
