-- What is told of a page or a loan is told of its piece.
use Rattle.std.proofs.Common.{◌≡◌, ℕ, ◌*◌, Option, Some, None, IsSome, refl, sym, zero-mul}
use Rattle.store_api.specs.Holdings.{LivePage, LiveLoan, or_else, no_page, no_loan}
use Rattle.store_api.specs.declared.mem_store.piece.Piece.{Piece}
use Rattle.store_api.specs.declared.mem_store.piece.Stand.{Stand}
use Rattle.store_api.specs.declared.mem_store.piece.Stand.TheVariants.{Resting, Pinned, Lent}
use Rattle.store_api.specs.MemPieces.{page_in, loan_in, loan_standing, page_standing, charge_standing}

abbrev page_seen : ℕ → ℕ → Stand → LivePage
page_seen client blocks stand = or_else no_page (page_standing client blocks stand)

module _ (client blocks : ℕ) where
  standing_client : (stand : Stand) → IsSome (page_standing client blocks stand) → (page_seen client blocks stand).client ≡ client
  standing_client (Resting buf) some = refl
  standing_client (Pinned count) some = refl
  standing_client Lent some = absurd (cc)

  standing_blocks : (stand : Stand) → IsSome (page_standing client blocks stand) → (page_seen client blocks stand).blocks ≡ blocks
  standing_blocks (Resting buf) some = refl
  standing_blocks (Pinned count) some = refl
  standing_blocks Lent some = absurd (cc)

  standing_charge : (stand : Stand) → IsSome (page_standing client blocks stand) → (len : ℕ) → charge_standing len stand ≡ (page_seen client blocks stand).pins * len
  standing_charge (Resting buf) some len = sym (zero-mul len)
  standing_charge (Pinned count) some len = refl
  standing_charge Lent some len = absurd (cc)

  pub standing_lent : (stand : Stand) → IsSome (loan_standing client blocks stand) → stand ≡ Lent
  standing_lent (Resting buf) some = absurd (cc)
  standing_lent (Pinned count) some = absurd (cc)
  standing_lent Lent some = refl

-- what is told of a page is told of its piece
pub record IsPagePiece (o : Option Piece) (page : LivePage) : Type 0 where
  pub piece : Piece
  pub there : o ≡ Some piece
  pub client : page.client ≡ piece.client
  pub blocks : page.blocks ≡ piece.blocks
  pub charge : (len : ℕ) → charge_standing len piece.stand ≡ page.pins * len

pub page_piece : (o : Option Piece) → IsSome (page_in o) → IsPagePiece o (or_else no_page (page_in o))
page_piece None some = absurd (cc)
page_piece (Some piece) some =
    record {
      piece = piece;
      there = refl;
      client = standing_client piece.client piece.blocks piece.stand some;
      blocks = standing_blocks piece.client piece.blocks piece.stand some;
      charge = standing_charge piece.client piece.blocks piece.stand some;
    }

-- what is told of a loan is told of its piece
pub record IsLoanPiece (o : Option Piece) (loan : LiveLoan) : Type 0 where
  pub piece : Piece
  pub there : o ≡ Some piece
  pub client : loan.client ≡ piece.client
  pub blocks : loan.blocks ≡ piece.blocks
  pub lent : piece.stand ≡ Lent

lent_client : (client blocks : ℕ) (stand : Stand) → IsSome (loan_standing client blocks stand) → (or_else no_loan (loan_standing client blocks stand)).client ≡ client
lent_client client blocks (Resting buf) some = absurd (cc)
lent_client client blocks (Pinned count) some = absurd (cc)
lent_client client blocks Lent some = refl

lent_blocks : (client blocks : ℕ) (stand : Stand) → IsSome (loan_standing client blocks stand) → (or_else no_loan (loan_standing client blocks stand)).blocks ≡ blocks
lent_blocks client blocks (Resting buf) some = absurd (cc)
lent_blocks client blocks (Pinned count) some = absurd (cc)
lent_blocks client blocks Lent some = refl

pub loan_piece : (o : Option Piece) → IsSome (loan_in o) → IsLoanPiece o (or_else no_loan (loan_in o))
loan_piece None some = absurd (cc)
loan_piece (Some piece) some =
    record {
      piece = piece;
      there = refl;
      client = lent_client piece.client piece.blocks piece.stand some;
      blocks = lent_blocks piece.client piece.blocks piece.stand some;
      lent = standing_lent piece.client piece.blocks piece.stand some;
    }
