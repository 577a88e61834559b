-- Which pieces are live, and whether any is, by what the code reads.
use Rattle.std.proofs.Common.{◌≡◌, ℕ, suc, ◌*◌, ◌/◌, ◌%◌, ◌<◌, ◌^◌, true, false, get_or, length, Option, None, Some, IsSome, refl, ap, sym, ◌∙◌, subst, arith}
use Rattle.std.proofs.lemmas.Bool.{false≢true}
use Rattle.std.proofs.lemmas.Nat.{mod_below}
use Rattle.std.proofs.Math.Nat.{mul-le-mul_right}
use Rattle.sub_alloc.specs.Pieces.{Division, HasNoLive, IsLive, PieceToken, buffer, either, free_at, live_at, marked, piece_at, place_of, places, size_at}
use Rattle.sub_alloc.specs.Tiling.{IsWhole}
use Rattle.std.specs.Prelude.{is_some}
use Rattle.store_api.specs.Tokens.{LoanToken}
use Rattle.sub_alloc.proofs.Tiles.{is_none, none_some}
use Rattle.sub_alloc.proofs.Shut.{none_open}
use Rattle.sub_alloc.proofs.Halves.{buffer_is}
use Rattle.sub_alloc.proofs.Room.{nodes_small}
use Rattle.sub_alloc.proofs.Whole.{mark_is, places_some, placed_of, slot_in}

-- a mark is the class of a piece that begins there
mark_size : (d : Division) → IsWhole d → (n c : ℕ) → live_at d n ≡ Some c → size_at d n ≡ Some c
mark_size d w n c live =
    let off : free_at d n ≡ None = is_none (free_at d n) (λ e h. none_some (live_at d n) c (w.tiled.single n e h) live) in
    ap (λ (x : Option ℕ). either x (live_at d n)) off ∙ live

pub mark_short : (d : Division) → IsWhole d → (n c : ℕ) → get_or d.live n 0 ≡ suc c → c < d.classes
mark_short d w n c mark = w.tiled.tiles.short c n (mark_size d w n c (ap marked mark))

-- where a piece lies, as the code reads it: at a place of a buffer that there is
pub record IsInside (d : Division) (p : PieceToken) : Type 0 where
  pub step : p.at % 64 ≡ 0
  pub at : p.at / 64 < places d
  pub buf : p.buf < length d.buffers

-- a place of a buffer has just that buffer and place, and a mark
pub record HasPlace (d : Division) (p : PieceToken) : Type 0 where
  pub buf : place_of d p / places d ≡ p.buf
  pub at : place_of d p % places d ≡ p.at / 64
  pub inside : place_of d p < length d.live
  pub small : place_of d p < 1048576

pub place_is : (d : Division) (p : PieceToken) → IsWhole d → p.at / 64 < places d → p.buf < length d.buffers → HasPlace d p
place_is d p w at buf =
    let parts = buffer_is (place_of d p) p.buf (p.at / 64) (places d) (places_some d) at refl in
    let m = mul-le-mul_right (places d) buf in
    let small = nodes_small d w.sized in
    let inside : place_of d p < length d.live = omega (arith, m, at, w.sized.marks) in
    record { buf = parts.0; at = parts.1; inside = inside; small = omega (arith, small, inside, w.sized.marks, w.sized.nodes) }

-- a live piece lies there, and its mark says its length
pub record HasShape (d : Division) (p : PieceToken) : Type 0 where
  pub class : ℕ
  pub mark : get_or d.live (place_of d p) 0 ≡ suc class
  pub len : p.len ≡ 64 * 2 ^ class
  pub lies : IsInside d p

pub shape_of : (d : Division) (p : PieceToken) → IsWhole d → IsLive p d → HasShape d p
shape_of d p w is =
    let at : p.at ≡ 64 * (place_of d p % places d) = ap (λ (q : PieceToken). q.at) is.is in
    let below = mod_below (place_of d p) (places d) (places_some d) in
    record {
      class = is.class;
      mark = mark_is (get_or d.live (place_of d p) 0) is.class is.live;
      len = ap (λ (q : PieceToken). q.len) is.is;
      lies = record { step = omega (arith, at); at = omega (arith, at, below); buf = slot_in d.buffers p.buf (placed_of d p w is).is_open };
    }

-- and a piece that lies there, of the length that its mark says, is live
pub live_is : (d : Division) (p : PieceToken) (c : ℕ) → IsWhole d → IsInside d p → get_or d.live (place_of d p) 0 ≡ suc c → p.len ≡ 64 * 2 ^ c → IsLive p d
live_is d p c w lies mark len =
    let there = place_is d p w lies.at lies.buf in
    let buf = sym there.buf in
    let at : p.at ≡ 64 * (place_of d p % places d) = omega (arith, there.at, lies.step) in
    let same : p ≡ piece_at d c (place_of d p) = λ i. record { buf = buf i; at = at i; len = len i } in
    record { class = c; live = ap marked mark; is = same }

-- where no buffer is open no piece is live
pub none_live : (d : Division) → IsWhole d → ((u : ℕ) → buffer u d ≡ None) → HasNoLive d
none_live d w shut n =
    is_none (live_at d n) (λ c live.
    let there = w.tiled.tiles.within c n (mark_size d w n c live) in
    false≢true (subst IsSome (shut there.0) there.1))

-- a slot that is none
pub closed_of : (o : Option LoanToken) → is_some o ≡ false → o ≡ None
closed_of None e = refl
closed_of (Some loan) e = cc

-- an open buffer has a live piece
pub open_live : (d : Division) → IsWhole d → (u : ℕ) → is_some (buffer u d) ≡ true → HasNoLive d → ⊥
open_live d w u is_open idle = false≢true (ap is_some (sym (none_open d w idle u)) ∙ is_open)
