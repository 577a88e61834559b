-- A store in memory is kept where a loan ends, or is charged to another client.
use Rattle.std.proofs.Common.{◌≡◌, ◌≢◌, ℕ, ◌+◌, ◌-◌, ◌*◌, ◌≤◌, ◌==◌, if◌then◌else◌, Option, Some, None, IsSome, refl, ap, sym, ◌∙◌, subst, inl, inr, arith, ne_eqb, eq-eqb}
use Rattle.std.proofs.lemmas.Bool.{cases_eq}
use Rattle.slab.specs.Slab.{Slab, get}
use Rattle.store_api.specs.Holdings.{Account, LiveLoan, put, or_else, no_account, no_loan}
use Rattle.store_api.specs.declared.mem_store.piece.Piece.{Piece}
use Rattle.store_api.specs.declared.mem_store.piece.Stand.{Stand}
use Rattle.store_api.specs.declared.mem_store.piece.Stand.TheVariants.{Resting, Pinned, Lent}
use Rattle.store_api.specs.MemAccounts.{weight_of}
use Rattle.store_api.specs.MemPieces.{page_in, loans_of, loan_at, loan_in, loan_standing, page_standing, charge_for, charge_standing, Changed, IsSound, IsKept, no_piece, piece_at}
use Rattle.store_api.proofs.Puts.{put_here, put_there}
use Rattle.store_api.proofs.Keeping.{at, some_put, kept_changed}
use Rattle.store_api.proofs.Turns.{charge_fits, weigh, kept_gone}
use Rattle.store_api.proofs.PieceOf.{loan_piece}

module _ (block : ℕ) (clients : ℕ → Option Account) (pieces : Slab Piece) (kept : IsKept block clients pieces) where
  loan_by_key : (key name : ℕ) → key ≡ name → IsSome (loans_of pieces name) → IsSome (loans_of pieces key)
  loan_by_key key name e some = subst (λ (k : ℕ). IsSome (loans_of pieces k)) (sym e) some

  -- a loan goes, and gives its charge back
  pub freed_keeps : (now : ℕ → Option Account) (new : Slab Piece) (key name t own len : ℕ) → key ≡ name → t ≡ own → IsSome (loans_of pieces name) → (loan_at name pieces).client ≡ own → len ≡ (piece_at key pieces).blocks * block → Changed pieces new key None → now ≡ put t (Some (record (at t clients) { unused = (at t clients).unused + len })) clients → IsKept block now new
  freed_keeps now new key name t own len e te some client length changed is =
      let p = loan_piece (get pieces key) (loan_by_key key name e some) in
      let found : piece_at key pieces ≡ p.piece = ap (or_else no_piece) p.there in
      let long : len ≡ p.piece.blocks * block = length ∙ ap (λ (q : Piece). q.blocks * block) found in
      let same_loan : loan_at key pieces ≡ loan_at name pieces = ap (λ (k : ℕ). loan_at k pieces) e in
      let owner : t ≡ p.piece.client = te ∙ sym client ∙ ap (λ (q : LiveLoan). q.client) (sym same_loan) ∙ p.client in
      let charge : charge_standing (p.piece.blocks * block) p.piece.stand ≡ p.piece.blocks * block = ap (charge_standing (p.piece.blocks * block)) p.lent in
      kept_gone block clients pieces kept now new key p.piece p.there changed t owner (record (at t clients) { unused = (at t clients).unused + len }) is (omega (arith, charge, long))

  pub freed_fits : (key name t own len : ℕ) → key ≡ name → t ≡ own → IsSome (loans_of pieces name) → (loan_at name pieces).client ≡ own → len ≡ (piece_at key pieces).blocks * block → (at t clients).unused + len ≤ (at t clients).reservation
  freed_fits key name t own len e te some client length =
      let p = loan_piece (get pieces key) (loan_by_key key name e some) in
      let found : piece_at key pieces ≡ p.piece = ap (or_else no_piece) p.there in
      let long : len ≡ p.piece.blocks * block = length ∙ ap (λ (q : Piece). q.blocks * block) found in
      let same_loan : loan_at key pieces ≡ loan_at name pieces = ap (λ (k : ℕ). loan_at k pieces) e in
      let owner : t ≡ p.piece.client = te ∙ sym client ∙ ap (λ (q : LiveLoan). q.client) (sym same_loan) ∙ p.client in
      let charge : charge_standing (p.piece.blocks * block) p.piece.stand ≡ p.piece.blocks * block = ap (charge_standing (p.piece.blocks * block)) p.lent in
      let fits : (at p.piece.client clients).unused + charge_standing (p.piece.blocks * block) p.piece.stand ≤ (at p.piece.client clients).reservation = charge_fits block clients pieces kept key p.piece p.there in
      let all : (at p.piece.client clients).unused + len ≤ (at p.piece.client clients).reservation = omega (arith, charge, long, fits) in
      subst (λ (q : ℕ). (at q clients).unused + len ≤ (at q clients).reservation) (sym owner) all

  -- a loan is another client's: its charge goes along
  pub hand_keeps : (now : ℕ → Option Account) (new : Slab Piece) (key name from own to len : ℕ) → key ≡ name → from ≡ own → IsSome (loans_of pieces name) → (loan_at name pieces).client ≡ own → from ≢ to → len ≡ (piece_at key pieces).blocks * block → len ≤ (at to clients).unused → IsSome (clients to) → Changed pieces new key (Some (record (piece_at key pieces) { client = to })) → now ≡ put to (Some (record (at to clients) { unused = (at to clients).unused - len })) (put from (Some (record (at from clients) { unused = (at from clients).unused + len })) clients) → IsKept block now new
  hand_keeps now new key name from own to len e te some client apart length fits some_to ch is =
      let p = loan_piece (get pieces key) (loan_by_key key name e some) in
      let found : piece_at key pieces ≡ p.piece = ap (or_else no_piece) p.there in
      let long : len ≡ p.piece.blocks * block = length ∙ ap (λ (q : Piece). q.blocks * block) found in
      let same_loan : loan_at key pieces ≡ loan_at name pieces = ap (λ (k : ℕ). loan_at k pieces) e in
      let owner : from ≡ p.piece.client = te ∙ sym client ∙ ap (λ (q : LiveLoan). q.client) (sym same_loan) ∙ p.client in
      let charge : charge_standing (p.piece.blocks * block) p.piece.stand ≡ len = ap (charge_standing (p.piece.blocks * block)) p.lent ∙ sym long in
      let piece : Piece = record p.piece { client = to } in
      let ch_so : Changed pieces new key (Some piece) = subst (λ (q : Piece). Changed pieces new key (Some (record q { client = to }))) found ch in
      let a_from : Account = record (at from clients) { unused = (at from clients).unused + len } in
      let a_to : Account = record (at to clients) { unused = (at to clients).unused - len } in
      let middle : ℕ → Option Account = put from (Some a_from) clients in
      let last : ℕ → Option Account = put to (Some a_to) middle in
      let old = kept.sound key p.piece p.there in
      let sound : IsSound block last key piece = record { short = old.short; owned = some_put to to a_to middle (some_put from to a_from clients some_to); blocks = old.blocks; counted = old.counted; whole = old.whole } in
      let was : (s : ℕ) → weight_of (charge_for block s) (get pieces key) ≡ (if from == s then len else 0) = λ s. weigh block s (get pieces key) p.piece p.there from len owner charge in
      let comes : (s : ℕ) → weight_of (charge_for block s) (Some piece) ≡ (if to == s then len else 0) = λ s. weigh block s (Some piece) piece refl to len refl charge in
      let turns : (s : ℕ) → (at s last).unused + weight_of (charge_for block s) (Some piece) + (at s clients).reservation ≡ (at s clients).unused + weight_of (charge_for block s) (get pieces key) + (at s last).reservation = λ s.
      elim (cases_eq s to) [
        | inl same ↦
            let a : at s last ≡ a_to = ap (or_else no_account) (ap last same ∙ put_here to (Some a_to) middle) in
            let a0 : (at s last).unused ≡ (at to clients).unused - len = ap (λ (x : Account). x.unused) a in
            let a1 : (at s last).reservation ≡ (at to clients).reservation = ap (λ (x : Account). x.reservation) a in
            let b0 : (at s clients).unused ≡ (at to clients).unused = ap (λ (q : ℕ). (at q clients).unused) same in
            let b1 : (at s clients).reservation ≡ (at to clients).reservation = ap (λ (q : ℕ). (at q clients).reservation) same in
            let w0 : weight_of (charge_for block s) (get pieces key) ≡ 0 = was s ∙ rw (ne_eqb from s (λ q. apart (q ∙ same))) refl in
            let w1 : weight_of (charge_for block s) (Some piece) ≡ len = comes s ∙ rw (eq-eqb to s (sym same)) refl in
            omega (arith, a0, a1, b0, b1, w0, w1, fits)
        | inr not_to ↦
            let w1 : weight_of (charge_for block s) (Some piece) ≡ 0 = comes s ∙ rw (ne_eqb to s (λ q. not_to (sym q))) refl in
            let a : at s last ≡ at s middle = ap (or_else no_account) (put_there to s (Some a_to) middle not_to) in
            elim (cases_eq s from) [
              | inl same ↦
                  let m : at s middle ≡ a_from = ap (or_else no_account) (ap middle same ∙ put_here from (Some a_from) clients) in
                  let a0 : (at s last).unused ≡ (at from clients).unused + len = ap (λ (x : Account). x.unused) (a ∙ m) in
                  let a1 : (at s last).reservation ≡ (at from clients).reservation = ap (λ (x : Account). x.reservation) (a ∙ m) in
                  let b0 : (at s clients).unused ≡ (at from clients).unused = ap (λ (q : ℕ). (at q clients).unused) same in
                  let b1 : (at s clients).reservation ≡ (at from clients).reservation = ap (λ (q : ℕ). (at q clients).reservation) same in
                  let w0 : weight_of (charge_for block s) (get pieces key) ≡ len = was s ∙ rw (eq-eqb from s (sym same)) refl in
                  omega (arith, a0, a1, b0, b1, w0, w1)
              | inr not_from ↦
                  let m : at s middle ≡ at s clients = ap (or_else no_account) (put_there from s (Some a_from) clients not_from) in
                  let a0 : (at s last).unused ≡ (at s clients).unused = ap (λ (x : Account). x.unused) (a ∙ m) in
                  let a1 : (at s last).reservation ≡ (at s clients).reservation = ap (λ (x : Account). x.reservation) (a ∙ m) in
                  let w0 : weight_of (charge_for block s) (get pieces key) ≡ 0 = was s ∙ rw (ne_eqb from s (λ q. not_from (sym q))) refl in
                  omega (arith, a0, a1, w0, w1)
            ]
      ] in
      subst (λ (f : ℕ → Option Account). IsKept block f new) (sym is)
      (kept_changed block clients pieces kept last new key (Some piece) ch_so
      (λ s live. some_put to s a_to middle (some_put from s a_from clients live))
      (λ q same. subst (λ (x : Piece). IsSound block last key x) (ap (or_else piece) same) sound)
      turns)

pub handed_slot : (o : Option Piece) (to : ℕ) → IsSome (loan_in o) → loan_in (Some (record (or_else no_piece o) { client = to })) ≡ Some (record (or_else no_loan (loan_in o)) { client = to })
handed_slot None to some = absurd (cc)
handed_slot (Some piece) to some = by_stand piece.client piece.blocks piece.stand some
  where
    by_stand : (client blocks : ℕ) (stand : Stand) → IsSome (loan_standing client blocks stand) → loan_standing to blocks stand ≡ Some (record (or_else no_loan (loan_standing client blocks stand)) { client = to })
    by_stand client blocks (Resting buf) some = absurd (cc)
    by_stand client blocks (Pinned count) some = absurd (cc)
    by_stand client blocks Lent some = refl

pub handed_page : (o : Option Piece) (to : ℕ) → IsSome (loan_in o) → page_in o ≡ page_in (Some (record (or_else no_piece o) { client = to }))
handed_page None to some = absurd (cc)
handed_page (Some piece) to some = by_stand piece.client piece.blocks piece.stand some
  where
    by_stand : (client blocks : ℕ) (stand : Stand) → IsSome (loan_standing client blocks stand) → page_standing client blocks stand ≡ page_standing to blocks stand
    by_stand client blocks (Resting buf) some = absurd (cc)
    by_stand client blocks (Pinned count) some = absurd (cc)
    by_stand client blocks Lent some = refl

some_slot : (o : Option Piece) → IsSome (loan_in o) → IsSome o
some_slot None some = absurd (cc)
some_slot (Some piece) some = refl

pub loan_has_slot : (pieces : Slab Piece) (key : ℕ) → IsSome (loans_of pieces key) → IsSome (get pieces key)
loan_has_slot pieces key some = some_slot (get pieces key) some
