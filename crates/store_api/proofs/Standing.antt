-- What pages and loans are seen where a piece stands otherwise.
use Rattle.std.proofs.Common.{◌≡◌, ℕ, ◌+◌, ◌-◌, ◌≤◌, false, Option, Some, None, IsSome, refl, ◌∙◌, subst, arith, ◌||◌, []}
use Rattle.block_arena.specs.Memory.{Buffer}
use Rattle.slab.specs.Slab.{Slab}
use Rattle.store_api.specs.Holdings.{LivePage, LiveLoan, put, or_else, no_page}
use Rattle.store_api.specs.declared.mem_store.piece.Piece.{Piece}
use Rattle.store_api.specs.declared.mem_store.piece.Stand.{Stand}
use Rattle.store_api.specs.declared.mem_store.piece.Stand.TheVariants.{Resting, Pinned, Lent}
use Rattle.store_api.specs.MemPieces.{no_piece, pages_of, page_in, loans_of, loan_in, loan_standing, page_standing, Changed}
use Rattle.store_api.proofs.Puts.{put_same}

abbrev page_seen : ℕ → ℕ → Stand → LivePage
page_seen client blocks stand = or_else no_page (page_standing client blocks stand)

module _ (client blocks : ℕ) where
  pinned_page : (stand : Stand) → IsSome (page_standing client blocks stand) → ((count : ℕ) → stand ≡ Pinned count → 1 ≤ count) → (page_seen client blocks stand).pins ≡ 0 → page_standing client blocks (Pinned 1) ≡ Some (record (page_seen client blocks stand) { pins = (page_seen client blocks stand).pins + 1; left = [] })
  pinned_page (Resting buf) some counted rests = refl
  pinned_page (Pinned count) some counted rests = absurd (omega (arith, rests, counted count refl))
  pinned_page Lent some counted rests = absurd (cc)

  repinned_page : (again : ℕ) (stand : Stand) → IsSome (page_standing client blocks stand) → 1 ≤ (page_seen client blocks stand).pins → page_standing client blocks (Pinned again) ≡ Some (record (page_seen client blocks stand) { pins = again })
  repinned_page again (Resting buf) some pinned = absurd (omega (arith, pinned))
  repinned_page again (Pinned count) some pinned = refl
  repinned_page again Lent some pinned = absurd (cc)

  rested_page : (buf : Buffer) (stand : Stand) → IsSome (page_standing client blocks stand) → (page_seen client blocks stand).pins ≡ 1 → page_standing client blocks (Resting buf) ≡ Some (record (page_seen client blocks stand) { pins = (page_seen client blocks stand).pins - 1; left = buf.bytes; has_slots = (page_seen client blocks stand).has_slots || false })
  rested_page buf (Resting old) some pinned = absurd (omega (arith, pinned))
  rested_page buf (Pinned count) some pinned = rw pinned refl
  rested_page buf Lent some pinned = absurd (cc)

  page_is_no_loan : (stand : Stand) → IsSome (page_standing client blocks stand) → loan_standing client blocks stand ≡ None
  page_is_no_loan (Resting old) some = refl
  page_is_no_loan (Pinned count) some = refl
  page_is_no_loan Lent some = absurd (cc)

  loan_is_no_page : (stand : Stand) → IsSome (loan_standing client blocks stand) → page_standing client blocks stand ≡ None
  loan_is_no_page (Resting old) some = absurd (cc)
  loan_is_no_page (Pinned count) some = absurd (cc)
  loan_is_no_page Lent some = refl

pub page_there : (o : Option Piece) → IsSome (page_in o) → o ≡ Some (or_else no_piece o)
page_there None some = absurd (cc)
page_there (Some piece) some = refl

pub loan_there : (o : Option Piece) → IsSome (loan_in o) → o ≡ Some (or_else no_piece o)
loan_there None some = absurd (cc)
loan_there (Some piece) some = refl

module _ (o : Option Piece) where
  -- a page that rests is pinned
  pub pinned_slot : IsSome (page_in o) → ((count : ℕ) → (or_else no_piece o).stand ≡ Pinned count → 1 ≤ count) → (or_else no_page (page_in o)).pins ≡ 0 → page_in (Some (record (or_else no_piece o) { stand = Pinned 1 })) ≡ Some (record (or_else no_page (page_in o)) { pins = (or_else no_page (page_in o)).pins + 1; left = [] })
  pinned_slot some counted rests = by_slot o some counted rests
    where
      by_slot : (o : Option Piece) → IsSome (page_in o) → ((count : ℕ) → (or_else no_piece o).stand ≡ Pinned count → 1 ≤ count) → (or_else no_page (page_in o)).pins ≡ 0 → page_in (Some (record (or_else no_piece o) { stand = Pinned 1 })) ≡ Some (record (or_else no_page (page_in o)) { pins = (or_else no_page (page_in o)).pins + 1; left = [] })
      by_slot None some counted rests = absurd (cc)
      by_slot (Some piece) some counted rests = pinned_page piece.client piece.blocks piece.stand some counted rests

  -- a pinned page is pinned so often
  pub repinned_slot : (again : ℕ) → IsSome (page_in o) → 1 ≤ (or_else no_page (page_in o)).pins → page_in (Some (record (or_else no_piece o) { stand = Pinned again })) ≡ Some (record (or_else no_page (page_in o)) { pins = again })
  repinned_slot again some pinned = by_slot o some pinned
    where
      by_slot : (o : Option Piece) → IsSome (page_in o) → 1 ≤ (or_else no_page (page_in o)).pins → page_in (Some (record (or_else no_piece o) { stand = Pinned again })) ≡ Some (record (or_else no_page (page_in o)) { pins = again })
      by_slot None some pinned = absurd (cc)
      by_slot (Some piece) some pinned = repinned_page piece.client piece.blocks again piece.stand some pinned

  pub rested_slot : (buf : Buffer) → IsSome (page_in o) → (or_else no_page (page_in o)).pins ≡ 1 → page_in (Some (record (or_else no_piece o) { stand = Resting buf })) ≡ Some (record (or_else no_page (page_in o)) { pins = (or_else no_page (page_in o)).pins - 1; left = buf.bytes; has_slots = (or_else no_page (page_in o)).has_slots || false })
  rested_slot buf some pinned = by_slot o some pinned
    where
      by_slot : (o : Option Piece) → IsSome (page_in o) → (or_else no_page (page_in o)).pins ≡ 1 → page_in (Some (record (or_else no_piece o) { stand = Resting buf })) ≡ Some (record (or_else no_page (page_in o)) { pins = (or_else no_page (page_in o)).pins - 1; left = buf.bytes; has_slots = (or_else no_page (page_in o)).has_slots || false })
      by_slot None some pinned = absurd (cc)
      by_slot (Some piece) some pinned = rested_page piece.client piece.blocks buf piece.stand some pinned

  pub no_loan_in : IsSome (page_in o) → loan_in o ≡ None
  no_loan_in some = by_slot o some
    where
      by_slot : (o : Option Piece) → IsSome (page_in o) → loan_in o ≡ None
      by_slot None some = refl
      by_slot (Some piece) some = page_is_no_loan piece.client piece.blocks piece.stand some

  pub no_page_in : IsSome (loan_in o) → page_in o ≡ None
  no_page_in some = by_slot o some
    where
      by_slot : (o : Option Piece) → IsSome (loan_in o) → page_in o ≡ None
      by_slot None some = refl
      by_slot (Some piece) some = loan_is_no_page piece.client piece.blocks piece.stand some

module _ (old new : Slab Piece) (key : ℕ) (slot : Option Piece) (changed : Changed old new key slot) where
  pub pages_put : (v : Option LivePage) → page_in slot ≡ v → pages_of new ≡ put key v (pages_of old)
  pages_put v is = subst (λ (w : Option LivePage). pages_of new ≡ put key w (pages_of old)) is changed.pages

  pub loans_put : (v : Option LiveLoan) → loan_in slot ≡ v → loans_of new ≡ put key v (loans_of old)
  loans_put v is = subst (λ (w : Option LiveLoan). loans_of new ≡ put key w (loans_of old)) is changed.loans

  pub pages_same : pages_of old key ≡ page_in slot → pages_of new ≡ pages_of old
  pages_same is = changed.pages ∙ put_same (pages_of old) key (page_in slot) is

  pub loans_same : loans_of old key ≡ loan_in slot → loans_of new ≡ loans_of old
  loans_same is = changed.loans ∙ put_same (loans_of old) key (loan_in slot) is
