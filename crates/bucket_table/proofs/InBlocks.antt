-- What is written in one block of a buffer, in the list of the bytes of all its blocks.
use Rattle.std.proofs.Common.{◌≡◌, ℕ, ◌+◌, ◌-◌, ◌*◌, ◌/◌, ◌%◌, ◌<◌, ◌≤◌, List, ◌++◌, take, drop, length, refl, ap, sym, ◌∙◌, arith}
use Rattle.std.proofs.lemmas.Nat.{div-add-mod'}
use Rattle.std.proofs.lemmas.List.{drop-drop, length-drop, length-take, take-append-drop}
use Rattle.block_arena.specs.Bytes.{written}
use Rattle.block_arena.specs.Memory.{Buffer, block_of, with_block, with_bytes}
use Rattle.block_arena.proofs.Copies.{length-written}
use Rattle.block_arena.proofs.Pieces.{fitted_whole}
use Rattle.bucket_table.specs.Regions.{cut}
use Rattle.bucket_table.proofs.Cuts.{cut_around, drop_behind, length_cut, take_written}

-- a part that was written in a part
written_part : (at p len : ℕ) (piece bytes : List ℕ) → p + length piece ≤ len → at + len ≤ length bytes → written at (written p piece (cut at len bytes)) bytes ≡ written (at + p) piece bytes
written_part at p len piece bytes fits inside =
    let w : ℕ = at + p in
    let now : List ℕ = written w piece bytes in
    let within : w + length piece ≤ length bytes = omega (arith, fits, inside) in
    let part : written p piece (cut at len bytes) ≡ cut at len now = sym (cut_around w piece bytes at p len within refl fits) in
    let size : length now ≡ length bytes = length-written w piece bytes within in
    let long : length (cut at len now) ≡ len = length_cut at len now (omega (arith, size, inside)) in
    let rest : ℕ = len - (p + length piece) in
    let end : at + len ≡ w + length piece + rest = omega (arith, fits) in
    let behind : drop (at + len) bytes ≡ drop (at + len) now =
    ap (λ (k : ℕ). drop k bytes) end ∙ sym (drop-drop rest (w + length piece) bytes)
    ∙ ap (drop rest) (sym (drop_behind w piece bytes within))
    ∙ drop-drop rest (w + length piece) now ∙ ap (λ (k : ℕ). drop k now) (sym end)
    in
    ap (λ (x : List ℕ). written at x bytes) part
    ∙ ap (λ (k : ℕ). take at bytes ++ (cut at len now ++ drop (at + k) bytes)) long
    ∙ ap (λ (front : List ℕ). front ++ (cut at len now ++ drop (at + len) bytes)) (sym (take_written w piece bytes within at (omega arith)))
    ∙ ap (λ (r : List ℕ). take at now ++ (cut at len now ++ r)) (behind ∙ sym (drop-drop len at now))
    ∙ ap (λ (r : List ℕ). take at now ++ r) (take-append-drop len (drop at now))
    ∙ take-append-drop at now

-- the block of a place, which was lent and written there
pub written_in_block : (buf : Buffer) (block_len from place index : ℕ) (block new piece : List ℕ)
    → block_len ≡ buf.block_len → 0 < block_len → place ≡ from % block_len → index ≡ from / block_len → place + length piece ≤ block_len
    → block ≡ block_of buf index → length block ≡ buf.block_len → new ≡ written place piece block
    → with_block buf index new ≡ with_bytes buf (written from piece buf.bytes)
written_in_block buf block_len from place index block new piece len some place_is index_is fits block_is size new_is =
    let old : List ℕ = block_of buf index in
    let start : ℕ = index * buf.block_len in
    let width : start + buf.block_len - start ≡ buf.block_len = omega arith in
    let old_is : old ≡ cut start buf.block_len buf.bytes = ap (λ (k : ℕ). cut start k buf.bytes) width in
    let old_len : length old ≡ buf.block_len = ap length (sym block_is) ∙ size in
    let short = length-take buf.block_len (drop start buf.bytes) in
    let left = length-drop start buf.bytes in
    let inside : start + buf.block_len ≤ length buf.bytes = omega (arith, short, left, ap length old_is, old_len, len, some) in
    let new_old : new ≡ written place piece old = new_is ∙ ap (written place piece) block_is in
    let new_len : length new ≡ length old = ap length new_old ∙ length-written place piece old (omega (arith, fits, old_len, len)) in
    let at_is : start + place ≡ from =
    ap (λ (k : ℕ). index * k + place) (sym len) ∙ ap (λ (k : ℕ). k * block_len + place) index_is
    ∙ ap (λ (k : ℕ). from / block_len * block_len + k) place_is ∙ div-add-mod' from block_len
    in
    ap (λ (x : List ℕ). with_bytes buf (written start x buf.bytes)) (fitted_whole old new new_len ∙ new_old ∙ ap (written place piece) old_is)
    ∙ ap (with_bytes buf) (written_part start place buf.block_len piece buf.bytes (omega (arith, fits, len)) inside ∙ ap (λ (k : ℕ). written k piece buf.bytes) at_is)
