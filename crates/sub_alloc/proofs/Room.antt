-- Sizes of a suballocator, and its view with other parts.
use Rattle.std.proofs.Common.{◌≡◌, ℕ, ◌+◌, ◌-◌, ◌*◌, ◌/◌, ◌<◌, ◌≤◌, List, Option, arith}
use Rattle.std.proofs.Math.Nat.{mul-le-mul_right}
use Rattle.index_list.specs.Listing.{Listing}
use Rattle.store_api.specs.Tokens.{LoanToken}
use Rattle.sub_alloc.specs.Pieces.{Division, IsLive, PieceToken, places}
use Rattle.sub_alloc.specs.Tiling.{IsSized, IsWhole}
use Rattle.std.proofs.lemmas.Nat.{pow_pos}
use Rattle.sub_alloc.proofs.Looks.{pow_small}
use Rattle.sub_alloc.proofs.Whole.{placed_of}

pub places_small : (d : Division) → IsSized d → places d ≤ 16384
places_small d sized = let f = sized.few in let s = sized.some in pow_small (d.classes - 1) (omega (arith, f, s))

pub nodes_small : (d : Division) → IsSized d → d.free.nodes ≤ 1048576
nodes_small d sized =
    let p = places_small d sized in
    let m = mul-le-mul_right (places d) sized.bufs in
    omega (arith, m, p, sized.nodes)

pub same_division : (d : Division) (bufs bufs2 : List (Option LoanToken)) (free free2 : Listing) (live live2 : List ℕ) → bufs2 ≡ bufs → free2 ≡ free → live2 ≡ live → (let x : Division = record d { buffers = bufs2; free = free2; live = live2 } in let y : Division = record d { buffers = bufs; free = free; live = live } in x ≡ y)
same_division d bufs bufs2 free free2 live live2 a b c = λ i. record d { buffers = a i; free = b i; live = c i }

-- where a live piece begins
pub begins_small : (d : Division) (p : PieceToken) → IsWhole d → IsLive p d → p.buf * places d + p.at / 64 < 1048576
begins_small d p w is =
    let at = placed_of d p w is in
    let small = nodes_small d w.sized in
    let one = pow_pos at.class in
    let inside = at.table in
    omega (arith, small, one, inside)
