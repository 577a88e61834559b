-- Pages go while too few blocks are free.
use Rattle.std.proofs.Common.{◌≡◌, ℕ, ◌+◌, ◌<◌, ◌≤◌, List, length, ap, sym, ◌∙◌, subst, inl, inr, arith}
use Rattle.std.proofs.lemmas.Bool.{cases_lt}
use Rattle.std.proofs.lemmas.List.{length-drop}
use Rattle.block_arena.specs.Memory.{Supply}
use Rattle.page_table.specs.declared.entry.Entry.{Entry}
use Rattle.page_table.specs.Pages.{Pages}
use Rattle.clean_evict.specs.Cleans.{Cleans}
use Rattle.clean_evict.specs.Eviction.{blocks_of, fewest, IsCleanList}
use Rattle.clean_evict.specs.Inside.{Evicts, HasFreed}
use Rattle.clean_evict.proofs.Rounds.{none-gone, more-gone}
use Rattle.clean_evict.proofs.Fewest.{room_with, fewest-is, fewest-more}

module _ {S : Type 0} where
  pub freed-none : (wanted : ℕ) (list : Cleans) (arena : Supply) (pages : Pages (Entry S)) (told : List ℕ) → IsCleanList arena pages list.keys → HasFreed wanted 0 list list arena arena pages pages told told
  freed-none wanted list arena pages told clean = record {
    within = omega arith;
    short = λ k less. absurd (omega (arith, less));
    gone = none-gone list arena pages told clean;
  }

  -- one page fewer is left
  pub one-less : {list list_new : Cleans} {arena arena_new : Supply} {pages pages_new : Pages (Entry S)} {told told_new : List ℕ} → Evicts 1 list list_new arena arena_new pages pages_new told told_new → 0 < length list.keys → length list_new.keys < length list.keys
  one-less {list} {list_new} a some =
      let left = ap (λ (l : Cleans). length l.keys) a.list_left ∙ length-drop 1 list.keys in
      omega (arith, left, some)

  module _ {wanted count : ℕ} {list list1 : Cleans} {arena arena1 : Supply} {pages pages1 : Pages (Entry S)} {told told1 : List ℕ} (f : HasFreed wanted count list list1 arena arena1 pages pages1 told told1) where
    free-now : arena1.free ≡ room_with arena pages list.keys count
    free-now = ap (λ (a : Supply). a.free) f.gone.freed

    -- where too few are free, there is a page that has to go
    pub more-needed : arena1.free < wanted → wanted ≤ arena.free + blocks_of pages list.keys → (0 < length list1.keys) × (count < fewest wanted arena pages list.keys)
    more-needed low covered =
        let more = fewest-more wanted arena pages list.keys count f.within f.short (omega (arith, free-now, low)) covered in
        let left = ap (λ (l : Cleans). length l.keys) f.gone.list_left ∙ length-drop count list.keys in
        (omega (arith, left, more.0), more.1)

    -- it goes
    pub freed-more : {list2 : Cleans} {arena2 : Supply} {pages2 : Pages (Entry S)} {told2 : List ℕ} → arena1.free < wanted → wanted ≤ arena.free + blocks_of pages list.keys → Evicts 1 list1 list2 arena1 arena2 pages1 pages2 told1 told2 → HasFreed wanted (count + 1) list list2 arena arena2 pages pages2 told told2
    freed-more {list2} {arena2} {pages2} {told2} low covered next =
        let now = free-now in
        let less = (fewest-more wanted arena pages list.keys count f.within f.short (omega (arith, now, low)) covered).0 in
        record {
          within = omega (arith, less);
          short = λ k below. elim (cases_lt k count) [
            | inl l ↦ f.short k l
            | inr l ↦
                let same : k ≡ count = omega (arith, below, l) in
                let here : room_with arena pages list.keys k ≡ room_with arena pages list.keys count = ap (room_with arena pages list.keys) same in
                omega (arith, here, now, low)
          ];
          gone = more-gone count list list1 list2 arena arena1 arena2 pages pages1 pages2 told told1 told2 less f.gone next;
        }

    -- and once enough are free, the fewest have gone
    pub freed-all : wanted ≤ arena1.free → Evicts (fewest wanted arena pages list.keys) list list1 arena arena1 pages pages1 told told1
    freed-all enough =
        let is = fewest-is wanted arena pages list.keys count f.within f.short (omega (arith, free-now, enough)) in
        subst (λ (n : ℕ). Evicts n list list1 arena arena1 pages pages1 told told1) (sym is) f.gone
