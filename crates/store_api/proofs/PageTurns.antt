-- A store in memory is kept where a page stands otherwise or ends, and its client's account turns with it.
use Rattle.std.proofs.Common.{◌≡◌, ℕ, ◌+◌, ◌*◌, ◌<◌, ◌≤◌, ◌^◌, Option, Some, None, IsSome, ap, sym, ◌∙◌, subst, arith}
use Rattle.std.proofs.Math.Nat.{one-le-mul, le-mul_of_pos_right}
use Rattle.block_arena.specs.Memory.{Buffer, IsBufferOf}
use Rattle.slab.specs.Slab.{Slab, get}
use Rattle.store_api.specs.Holdings.{Account, LivePage, put, or_else}
use Rattle.store_api.specs.declared.mem_store.piece.Piece.{Piece}
use Rattle.store_api.specs.declared.mem_store.piece.Stand.{Stand}
use Rattle.store_api.specs.declared.mem_store.piece.Stand.TheVariants.{Resting, Pinned}
use Rattle.store_api.specs.MemPieces.{no_piece, pages_of, page_at, charge_standing, Changed, IsKept, piece_at}
use Rattle.store_api.proofs.Keeping.{at}
use Rattle.store_api.proofs.Turns.{charge_fits, kept_stand, kept_gone}
use Rattle.store_api.proofs.PieceOf.{page_piece}

-- what a call knows of a page: its key by its name, its client, its length in bytes, and how often it is pinned
pub record IsKnown (block : ℕ) (pieces : Slab Piece) (key name t own len count : ℕ) : Type 0 where
  pub named : key ≡ name
  pub owner : t ≡ own
  pub lives : IsSome (pages_of pieces name)
  pub client : (page_at name pieces).client ≡ own
  pub long : len ≡ (piece_at key pieces).blocks * block
  pub pins : (page_at name pieces).pins ≡ count

-- the piece of that page
record IsFound (block : ℕ) (pieces : Slab Piece) (key name t len count : ℕ) : Type 0 where
  piece : Piece
  there : get pieces key ≡ Some piece
  owner : t ≡ piece.client
  blocks : (page_at name pieces).blocks ≡ piece.blocks
  long : len ≡ piece.blocks * block
  charge : charge_standing (piece.blocks * block) piece.stand ≡ count * len

found : (block : ℕ) (pieces : Slab Piece) (key name t own len count : ℕ) → IsKnown block pieces key name t own len count → IsFound block pieces key name t len count
found block pieces key name t own len count known =
    let p = page_piece (get pieces key) (subst (λ (k : ℕ). IsSome (pages_of pieces k)) (sym known.named) known.lives) in
    let same : page_at key pieces ≡ page_at name pieces = ap (λ (k : ℕ). page_at k pieces) known.named in
    let long : len ≡ p.piece.blocks * block = known.long ∙ ap (λ (o : Option Piece). (or_else no_piece o).blocks * block) p.there in
    record {
      piece = p.piece;
      there = p.there;
      owner = known.owner ∙ sym known.client ∙ ap (λ (q : LivePage). q.client) (sym same) ∙ p.client;
      blocks = ap (λ (q : LivePage). q.blocks) (sym same) ∙ p.blocks;
      long = long;
      charge = p.charge (p.piece.blocks * block) ∙ ap (λ (n : ℕ). n * (p.piece.blocks * block)) (ap (λ (q : LivePage). q.pins) same ∙ known.pins) ∙ ap (λ (n : ℕ). count * n) (sym long);
    }

module _ (block : ℕ) (clients : ℕ → Option Account) (pieces : Slab Piece) (kept : IsKept block clients pieces) where
  module _ (key name t own len count : ℕ) (known : IsKnown block pieces key name t own len count) where
    -- the page stands otherwise
    pub restood : (now : ℕ → Option Account) (new : Slab Piece) (stand : Stand) (a : Account) → Changed pieces new key (Some (record (piece_at key pieces) { stand = stand })) → now ≡ put t (Some a) clients → ((buf : Buffer) → stand ≡ Resting buf → IsBufferOf (page_at name pieces).blocks block buf) → ((pins : ℕ) → stand ≡ Pinned pins → 1 ≤ pins) → a.unused + charge_standing len stand + (at t clients).reservation ≡ (at t clients).unused + count * len + a.reservation → IsKept block now new
    restood now new stand a changed is whole counted even =
        let f = found block pieces key name t own len count known in
        let charge : charge_standing len stand ≡ charge_standing (f.piece.blocks * block) stand = ap (λ (n : ℕ). charge_standing n stand) f.long in
        kept_stand block clients pieces kept now new key f.piece f.there stand changed t f.owner a is
        (λ buf rests. subst (λ (n : ℕ). IsBufferOf n block buf) f.blocks (whole buf rests)) counted (omega (arith, even, charge, f.charge))

    -- the page ends, and each of its pins gives its charge back
    pub ended : (now : ℕ → Option Account) (new : Slab Piece) → Changed pieces new key None → now ≡ put t (Some (record (at t clients) { unused = (at t clients).unused + count * len })) clients → IsKept block now new
    ended now new changed is =
        let f = found block pieces key name t own len count known in
        kept_gone block clients pieces kept now new key f.piece f.there changed t f.owner (record (at t clients) { unused = (at t clients).unused + count * len }) is (omega (arith, f.charge))

    -- what the page is charged can be returned
    pub charge_within : (at t clients).unused + count * len ≤ (at t clients).reservation
    charge_within =
        let f = found block pieces key name t own len count known in
        let fits : (at f.piece.client clients).unused + charge_standing (f.piece.blocks * block) f.piece.stand ≤ (at f.piece.client clients).reservation = charge_fits block clients pieces kept key f.piece f.there in
        subst (λ (q : ℕ). (at q clients).unused + count * len ≤ (at q clients).reservation) (sym f.owner) (omega (arith, fits, f.charge))

    -- and so can one of several pins
    pub pin_within : 1 ≤ count → (at t clients).unused + len ≤ (at t clients).reservation
    pin_within some =
        let most : len ≤ len * count = le-mul_of_pos_right len (omega (arith, some)) in
        omega (arith, most, charge_within)

    -- each pin is charged at least a byte, so a page has fewer pins than its client's reservation has bytes
    pub one_more_within : 1 ≤ block → len ≤ (at t clients).unused → count + 1 ≤ (at t clients).reservation
    one_more_within blocks fits =
        let f = found block pieces key name t own len count known in
        let some : 1 ≤ len = subst (λ (n : ℕ). 1 ≤ n) (sym f.long) (one-le-mul (kept.sound key f.piece f.there).blocks blocks) in
        let most : count ≤ count * len = le-mul_of_pos_right count (omega (arith, some)) in
        omega (arith, most, some, fits, charge_within)

    -- the page's client is live
    pub page_owned : IsSome (clients t)
    page_owned =
        let f = found block pieces key name t own len count known in
        subst (λ (q : ℕ). IsSome (clients q)) (sym f.owner) (kept.sound key f.piece f.there).owned

    -- a page that rests shows a buffer of its length
    pub rests_whole : (buf : Buffer) → (piece_at key pieces).stand ≡ Resting buf → IsBufferOf (page_at name pieces).blocks block buf
    rests_whole buf rests =
        let f = found block pieces key name t own len count known in
        let stands : f.piece.stand ≡ Resting buf = ap (λ (o : Option Piece). (or_else no_piece o).stand) (sym f.there) ∙ rests in
        subst (λ (n : ℕ). IsBufferOf n block buf) (sym f.blocks) ((kept.sound key f.piece f.there).whole buf stands)

  -- a page's piece is sound: its number is short, and it has a pin where it is pinned
  page_at_key : (key : ℕ) → IsSome (pages_of pieces key) → (piece : Piece) × (get pieces key ≡ Some piece)
  page_at_key key some = let p = page_piece (get pieces key) some in (p.piece, p.there)

  pub page_short : (key name : ℕ) → key ≡ name → IsSome (pages_of pieces name) → key < 2 ^ 32
  page_short key name e some =
      let p = page_at_key key (subst (λ (k : ℕ). IsSome (pages_of pieces k)) (sym e) some) in
      (kept.sound key p.0 p.1).short

  pub page_counted : (key name : ℕ) → key ≡ name → IsSome (pages_of pieces name) → (count : ℕ) → (piece_at key pieces).stand ≡ Pinned count → 1 ≤ count
  page_counted key name e some count pinned =
      let p = page_at_key key (subst (λ (k : ℕ). IsSome (pages_of pieces k)) (sym e) some) in
      (kept.sound key p.0 p.1).counted count (ap (λ (o : Option Piece). (or_else no_piece o).stand) (sym p.1) ∙ pinned)
