-- Which pages go, in terms of the state.
use Rattle.std.proofs.Common.{◌≡◌, ℕ, zero, suc, ◌+◌, ◌<◌, ◌≤◌, true, List, [], ◌∷◌, take, drop, map, refl, ap, ◌∙◌, inl, inr, arith, eqb}
use Rattle.std.proofs.lemmas.List.{map-append, length-map, length-take}
use Rattle.std.proofs.lemmas.List.Sums.{sum_by-cons}
use Rattle.std.proofs.lemmas.Bool.{false≢true, or_cases, or_left, or_right}
use Rattle.index_list.specs.Listing.{stands_in}
use Rattle.clean_evict.specs.Eviction.{name_at, names_of, blocks_at, blocks_of, fewest}
use Rattle.clean_evict.proofs.Kept.{blocks-there}
use Rattle.clean_evict.proofs.Fewest.{fewest-le-length, fewest-short}
use Rattle.pool_model.specs.Bytes.{bytes_of}
use Rattle.pool_model.specs.State.{page_at}
use Rattle.pool_model.specs.Sums.{free_bytes, length_of}
use Rattle.pool_model.proofs.Pages.{page_is}
use Rattle.pin_core.specs.declared.parts.Parts.{Parts}
use Rattle.pin_core.specs.StateOf.{page_of, state_of}
use Rattle.pin_core.specs.Lawful.{Lawful}
use Rattle.pin_core.specs.Invariant.{IsKept}
use Rattle.pin_core.specs.calls.Evictions.{MakesRoom, blocks_in, keys_gone, names_gone, with_room}
use Rattle.pin_core.proofs.Moved.{page_known}
use Rattle.pin_core.proofs.Cleaned.{IsCleanAt, clean_page}
use Rattle.pin_core.proofs.EvictAll.{all_free}
use Rattle.pin_core.proofs.CleanRoom.{free_bytes_are}
use Rattle.pin_core.proofs.Listed.{head_stands, bytes_plus}
use Rattle.pin_core.proofs.Loaded.{bytes_mono}
use Rattle.pin_core.proofs.Repinned.{some_bytes}
use Rattle.pin_core.proofs.Roomed.{keys_split}

stands_taken : (q k : ℕ) (xs : List ℕ) → stands_in q (take k xs) ≡ true → stands_in q xs ≡ true
stands_taken q zero xs s = absurd (false≢true s)
stands_taken q (suc k) [] s = s
stands_taken q (suc k) (x ∷ xs) s = elim (or_cases (eqb q x) (stands_in q (take k xs)) s) [
  | inl here ↦ or_left (eqb q x) (stands_in q xs) here
  | inr behind ↦ or_right (eqb q x) (stands_in q xs) (stands_taken q k xs behind)
]

take_take : (j k : ℕ) (xs : List ℕ) → j ≤ k → take j (take k xs) ≡ take j xs
take_take zero k xs le = refl
take_take (suc j) zero xs le = absurd (omega (arith, le))
take_take (suc j) (suc k) [] le = refl
take_take (suc j) (suc k) (x ∷ xs) le = ap (λ (l : List ℕ). x ∷ l) (take_take j k xs (omega (arith, le)))

take_map : (f : ℕ → ℕ) (k : ℕ) (xs : List ℕ) → take k (map f xs) ≡ map f (take k xs)
take_map f zero xs = refl
take_map f (suc k) [] = refl
take_map f (suc k) (x ∷ xs) = ap (λ (l : List ℕ). f x ∷ l) (take_map f k xs)

-- less than all of more blocks
bytes_less : (len a b : ℕ) → 0 < len → a < b → bytes_of len a < bytes_of len b
bytes_less len a b some less =
    let more : bytes_of len (a + 1) ≤ bytes_of len b = bytes_mono len (a + 1) b (omega (arith, less)) in
    let sum = bytes_plus len a 1 in
    let one = some_bytes len 1 some (omega arith) in
    omega (arith, more, sum, one)

module _ {D : Type 0} (v : Parts D) (is_kept : IsKept v) (laws : Lawful v) where
  -- the blocks of pages with clean keys, by their names
  blocks_named : (keys : List ℕ) → ((k : ℕ) → stands_in k keys ≡ true → stands_in k v.clean.keys ≡ true) → blocks_in (state_of v) (names_of v.pages keys) ≡ blocks_of v.pages keys
  blocks_named [] clean = refl
  blocks_named (k ∷ ks) clean =
      let c : IsCleanAt v k = clean_page v is_kept laws.proper k (clean k (head_stands k ks)) in
      let rest = blocks_named ks (λ j s. clean j (or_right (eqb j k) (stands_in j ks) s)) in
      let a = sum_by-cons (λ p. (page_at (state_of v) p).blocks) (name_at v.pages k) (names_of v.pages ks) in
      let b = sum_by-cons (λ j. blocks_at v.pages j) k ks in
      let page = ap (λ (n : ℕ). (page_at (state_of v) n).blocks) c.named ∙ ap (λ y. y.blocks) (page_is (state_of v) c.name (page_of v.pages c.name c.page) (page_known v c.name c.page c.there)) in
      let there = blocks-there v.pages k c.name c.page c.live c.there in
      omega (arith, rest, a, b, page, there)

  module _ (blocks : ℕ) where
    abbrev keys : List ℕ
    keys = v.clean.keys

    abbrev count : ℕ
    count = fewest blocks v.arena v.pages v.clean.keys

    -- the first names, so many
    first_names : (k : ℕ) → k ≤ count → take k (names_gone blocks v) ≡ names_of v.pages (take k keys)
    first_names k le = take_map (name_at v.pages) k (keys_gone blocks v) ∙ ap (names_of v.pages) (take_take k count keys le)

    bytes_first : (k : ℕ) → free_bytes (state_of v) + length_of (state_of v) (blocks_in (state_of v) (names_of v.pages (take k keys))) ≡ bytes_of v.arena.block_len (v.arena.free + blocks_of v.pages (take k keys))
    bytes_first k =
        let free = free_bytes_are v is_kept in
        let named = ap (bytes_of v.arena.block_len) (blocks_named (take k keys) (λ q s. stands_taken q k keys s)) in
        let sum = bytes_plus v.arena.block_len v.arena.free (blocks_of v.pages (take k keys)) in
        omega (arith, free, named, sum)

    pub makes_room : blocks ≤ (with_room blocks v).arena.free → MakesRoom (state_of v) (length_of (state_of v) blocks) (names_gone blocks v)
    makes_room enough = record {
      newer = names_of v.pages (drop count keys);
      oldest = ap (names_of v.pages) (keys_split v is_kept laws blocks) ∙ map-append (name_at v.pages) (keys_gone blocks v) (drop count keys);
      enough =
          let free = ap (λ a. a.free) (all_free (keys_gone blocks v) v) in
          let le = bytes_mono v.arena.block_len blocks (v.arena.free + blocks_of v.pages (keys_gone blocks v)) (omega (arith, enough, free)) in
          let bytes = bytes_first count in
          omega (arith, le, bytes);
      needed = λ k less.
          let many = length-map (keys_gone blocks v) (name_at v.pages) in
          let cut = length-take count keys in
          let within = fewest-le-length blocks v.arena v.pages keys in
          let low : k < count = omega (arith, less, many, cut, within) in
          let short = fewest-short blocks v.arena v.pages keys k low in
          let bytes = bytes_less v.arena.block_len (v.arena.free + blocks_of v.pages (take k keys)) blocks is_kept.sized.some short in
          let first = bytes_first k in
          let names = ap (λ (l : List ℕ). length_of (state_of v) (blocks_in (state_of v) l)) (first_names k (omega (arith, low))) in
          omega (arith, bytes, first, names);
    }
