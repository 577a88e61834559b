-- Pages go one after the other.
use Rattle.std.proofs.Common.{◌≡◌, ℕ, ◌+◌, ◌<◌, List, [], ◌∷◌, ◌++◌, length, get_or, take, drop, refl, ap, sym, ◌∙◌, arith}
use Rattle.std.proofs.lemmas.List.{append_assoc, append-nil, map-append, drop-drop, take_more, drop_more}
use Rattle.std.proofs.lemmas.List.Sums.{sum_by_more}
use Rattle.block_arena.specs.Memory.{Supply}
use Rattle.page_table.specs.declared.entry.Entry.{Entry}
use Rattle.page_table.specs.Pages.{Pages}
use Rattle.clean_evict.specs.Cleans.{Cleans, without_oldest}
use Rattle.clean_evict.specs.Eviction.{name_at, blocks_at, names_of, blocks_of, with_freed, evicted_all, IsCleanList}
use Rattle.clean_evict.specs.Inside.{Evicts}
use Rattle.clean_evict.proofs.Changed.{evicted-append, blocks_of-kept}
use Rattle.clean_evict.proofs.First.{blocks-one}

module _ {S : Type 0} where
  -- none has gone yet
  pub none-gone : (list : Cleans) (arena : Supply) (pages : Pages (Entry S)) (told : List ℕ) → IsCleanList arena pages list.keys → Evicts 0 list list arena arena pages pages told told
  none-gone list arena pages told clean = record {
    list_left = refl;
    freed = let zero : arena.free ≡ arena.free + 0 = omega arith in ap (λ (n : ℕ). record arena { free = n }) zero;
    evicted = refl;
    named = sym (append-nil told);
    clean = clean;
  }

  -- one more goes
  pub more-gone : (count : ℕ) (list list1 list2 : Cleans) (arena arena1 arena2 : Supply) (pages pages1 pages2 : Pages (Entry S)) (told told1 told2 : List ℕ) → count < length list.keys → Evicts count list list1 arena arena1 pages pages1 told told1 → Evicts 1 list1 list2 arena1 arena2 pages1 pages2 told1 told2 → Evicts (count + 1) list list2 arena arena2 pages pages2 told told2
  more-gone count list list1 list2 arena arena1 arena2 pages pages1 pages2 told told1 told2 less a b =
      let keys = list.keys in
      let x = get_or keys count 0 in
      let front = take count keys in
      let next = take 1 list1.keys in
      let left1 : list1.keys ≡ drop count keys = ap (λ (l : Cleans). l.keys) a.list_left in
      let one : next ≡ x ∷ [] = ap (take 1) (left1 ∙ drop_more keys count 0 less) in
      let all : take (count + 1) keys ≡ front ++ x ∷ [] = take_more keys count 0 less in
      let names = names_of pages front in
      let names1 = names_of pages1 next in
      let those : names1 ≡ names_of pages (x ∷ []) = ap (λ (t : Pages (Entry S)). names_of t next) a.evicted ∙ ap (names_of pages) one in
      let together : names_of pages (take (count + 1) keys) ≡ names ++ names1 =
      ap (names_of pages) all ∙ map-append (λ key. name_at pages key) front (x ∷ []) ∙ ap (λ ns. names ++ ns) (sym those) in
      let added : blocks_of pages1 next ≡ blocks_at pages x =
      ap (λ (t : Pages (Entry S)). blocks_of t next) a.evicted ∙ blocks_of-kept names pages next ∙ ap (blocks_of pages) one ∙ sym (blocks-one pages x) in
      let sums : blocks_of pages (take (count + 1) keys) ≡ blocks_of pages front + blocks_at pages x = sum_by_more (λ key. blocks_at pages key) keys count 0 less in
      let free : (arena.free + blocks_of pages front) + blocks_of pages1 next ≡ arena.free + blocks_of pages (take (count + 1) keys) = omega (arith, added, sums) in
      record {
        list_left = b.list_left ∙ ap (without_oldest 1) a.list_left ∙ ap (λ (ks : List ℕ). record { nodes = list.nodes; keys = ks }) (drop-drop 1 count keys);
        freed = b.freed ∙ ap (with_freed (blocks_of pages1 next)) a.freed ∙ ap (λ (n : ℕ). record arena { free = n }) free;
        evicted = b.evicted ∙ ap (evicted_all names1) a.evicted ∙ sym (evicted-append names names1 pages) ∙ ap (λ (ns : List ℕ). evicted_all ns pages) (sym together);
        named = b.named ∙ ap (λ (ns : List ℕ). ns ++ names1) a.named ∙ append_assoc told names names1 ∙ ap (λ (ns : List ℕ). told ++ ns) (sym together);
        clean = b.clean;
      }
