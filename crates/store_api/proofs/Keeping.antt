-- What keeps a store in memory: changes of accounts, of pieces, and of both together.
use Rattle.std.proofs.Common.{◌≡◌, ◌≢◌, ℕ, ◌+◌, Option, Some, None, IsSome, refl, ap, sym, ◌∙◌, subst, inl, inr, arith}
use Rattle.std.proofs.lemmas.Bool.{cases_eq}
use Rattle.slab.specs.Slab.{Slab, get}
use Rattle.store_api.specs.Holdings.{Account, put, or_else, no_account}
use Rattle.store_api.specs.declared.mem_store.piece.Piece.{Piece}
use Rattle.store_api.specs.MemAccounts.{weight_of}
use Rattle.store_api.specs.MemPieces.{charge_for, charge_in, Changed, IsSound, IsKept}
use Rattle.store_api.proofs.Puts.{put_here, put_there}

abbrev pub at : ℕ → (ℕ → Option Account) → Account
at t clients = or_else no_account (clients t)

pub some_put : (t s : ℕ) (a : Account) (clients : ℕ → Option Account) → IsSome (clients s) → IsSome (put t (Some a) clients s)
some_put t s a clients some =
    elim (cases_eq s t) [
      | inl same ↦ subst (λ (o : Option Account). IsSome o) (sym (ap (put t (Some a) clients) same ∙ put_here t (Some a) clients)) refl
      | inr apart ↦ subst (λ (o : Option Account). IsSome o) (sym (put_there t s (Some a) clients apart)) some
    ]

-- a piece stays sound where its client stays live
sound_still : (block key : ℕ) (clients now : ℕ → Option Account) (piece : Piece) → IsSound block clients key piece → IsSome (now piece.client) → IsSound block now key piece
sound_still block key clients now piece old owned = record { short = old.short; owned = owned; blocks = old.blocks; counted = old.counted; whole = old.whole }

module _ (block : ℕ) (clients : ℕ → Option Account) (pieces : Slab Piece) (kept : IsKept block clients pieces) where
  -- one account, where its charge stays
  balanced_put : (t : ℕ) (v : Option Account) → (or_else no_account v).unused + charge_in block t pieces ≡ (or_else no_account v).reservation → (s : ℕ) → (at s (put t v clients)).unused + charge_in block s pieces ≡ (at s (put t v clients)).reservation
  balanced_put t v now s =
      elim (cases_eq s t) [
        | inl same ↦
            let is : put t v clients s ≡ v = ap (put t v clients) same ∙ put_here t v clients in
            subst (λ (o : Option Account). (or_else no_account o).unused + charge_in block s pieces ≡ (or_else no_account o).reservation) (sym is)
            (subst (λ (n : ℕ). (or_else no_account v).unused + charge_in block n pieces ≡ (or_else no_account v).reservation) (sym same) now)
        | inr apart ↦
            subst (λ (o : Option Account). (or_else no_account o).unused + charge_in block s pieces ≡ (or_else no_account o).reservation) (sym (put_there t s v clients apart)) (kept.balanced s)
      ]

  -- an account grows or falls, its unused bytes with it
  pub kept_account : (t : ℕ) (a : Account) → a.unused + (at t clients).reservation ≡ (at t clients).unused + a.reservation → IsKept block (put t (Some a) clients) pieces
  kept_account t a even =
      let was : (at t clients).unused + charge_in block t pieces ≡ (at t clients).reservation = kept.balanced t in
      let now : a.unused + charge_in block t pieces ≡ a.reservation = omega (arith, even, was) in
      record {
        sound = λ k piece is. let old = kept.sound k piece is in
            sound_still block k clients (put t (Some a) clients) piece old (some_put t piece.client a clients old.owned);
        balanced = balanced_put t (Some a) now;
      }

  -- a client goes that has no piece
  pub kept_ended : (t : ℕ) → ((k : ℕ) (piece : Piece) → get pieces k ≡ Some piece → piece.client ≢ t) → charge_in block t pieces ≡ 0 → IsKept block (put t None clients) pieces
  kept_ended t idle none =
      record {
        sound = λ k piece is. let old = kept.sound k piece is in
            sound_still block k clients (put t None clients) piece old (subst (λ (o : Option Account). IsSome o) (sym (put_there t piece.client None clients (idle k piece is))) old.owned);
        balanced = balanced_put t None (omega (arith, none));
      }

  -- one piece changed, and accounts with it: each client's charge moved as its unused bytes did
  pub kept_changed : (now : ℕ → Option Account) (new : Slab Piece) (key : ℕ) (slot : Option Piece) → Changed pieces new key slot → ((s : ℕ) → IsSome (clients s) → IsSome (now s)) → ((piece : Piece) → slot ≡ Some piece → IsSound block now key piece) → ((s : ℕ) → (at s now).unused + weight_of (charge_for block s) slot + (at s clients).reservation ≡ (at s clients).unused + weight_of (charge_for block s) (get pieces key) + (at s now).reservation) → IsKept block now new
  kept_changed now new key slot changed stay fits turns =
      record {
        sound = λ k piece is. elim (cases_eq k key) [
          | inl same ↦
              let here : slot ≡ Some piece = sym changed.slots.changed ∙ ap (get new) (sym same) ∙ is in
              subst (λ (n : ℕ). IsSound block now n piece) (sym same) (fits piece here)
          | inr apart ↦
              let old = kept.sound k piece (sym (changed.slots.others k apart) ∙ is) in
              sound_still block k clients now piece old (stay piece.client old.owned)
        ];
        balanced = λ s.
            let was : (at s clients).unused + charge_in block s pieces ≡ (at s clients).reservation = kept.balanced s in
            let moved : charge_in block s new + weight_of (charge_for block s) (get pieces key) ≡ charge_in block s pieces + weight_of (charge_for block s) slot = changed.charges block s in
            let turn = turns s in
            omega (arith, was, moved, turn);
      }
