-- A store in memory is kept where one piece changes, and the account of its client turns with it.
use Rattle.std.proofs.Common.{◌≡◌, ℕ, suc, ◌+◌, ◌-◌, ◌*◌, ◌<◌, ◌≤◌, ◌^◌, ◌==◌, if◌then◌else◌, Bool, true, false, Option, Some, None, IsSome, refl, ap, sym, ◌∙◌, subst, inl, inr, arith, ne_eqb, eq-eqb}
use Rattle.std.proofs.lemmas.Bool.{cases_eq}
use Rattle.std.proofs.Math.Nat.{suc-mul}
use Rattle.block_arena.specs.Memory.{Buffer, IsBufferOf}
use Rattle.slab.specs.Slab.{Slab, get}
use Rattle.store_api.specs.Holdings.{Account, put, or_else, no_account}
use Rattle.store_api.specs.declared.mem_store.piece.Piece.{Piece}
use Rattle.store_api.specs.declared.mem_store.piece.Stand.{Stand}
use Rattle.store_api.specs.declared.mem_store.piece.Stand.TheVariants.{Resting, Pinned}
use Rattle.store_api.specs.MemAccounts.{weight_of}
use Rattle.store_api.specs.MemPieces.{charge_for, charge_in, charge_standing, Changed, IsSound, IsKept, no_piece, piece_at}
use Rattle.store_api.proofs.Puts.{put_same}
use Rattle.store_api.proofs.Keeping.{at, some_put, kept_changed}
use Rattle.store_api.proofs.Totals.{weight-at-most}

-- both sums of a turn for one client: its own share moves as its unused bytes do, and others have none
turn : (clients : ℕ → Option Account) (t s : ℕ) (a : Account) (before after : ℕ) → a.unused + after + (at t clients).reservation ≡ (at t clients).unused + before + a.reservation → (at s (put t (Some a) clients)).unused + (if t == s then after else 0) + (at s clients).reservation ≡ (at s clients).unused + (if t == s then before else 0) + (at s (put t (Some a) clients)).reservation
turn clients t s a before after even =
    elim (cases_eq s t) [
      | inl same ↦ subst (λ (q : ℕ). (at q (put t (Some a) clients)).unused + (if t == q then after else 0) + (at q clients).reservation ≡ (at q clients).unused + (if t == q then before else 0) + (at q (put t (Some a) clients)).reservation) (sym same) (rw (eq-eqb t t refl) even)
      | inr apart ↦ rw (ne_eqb s t apart, ne_eqb t s (λ e. apart (sym e))) (omega arith)
    ]

module _ (block : ℕ) (clients : ℕ → Option Account) (pieces : Slab Piece) (kept : IsKept block clients pieces) where
  -- one piece changed, and the account of its client with it
  pub kept_turn : (now : ℕ → Option Account) (new : Slab Piece) (key : ℕ) (slot : Option Piece) (t : ℕ) (a : Account) (before after : ℕ) → Changed pieces new key slot → now ≡ put t (Some a) clients → ((piece : Piece) → slot ≡ Some piece → IsSound block (put t (Some a) clients) key piece) → ((s : ℕ) → weight_of (charge_for block s) (get pieces key) ≡ (if t == s then before else 0)) → ((s : ℕ) → weight_of (charge_for block s) slot ≡ (if t == s then after else 0)) → a.unused + after + (at t clients).reservation ≡ (at t clients).unused + before + a.reservation → IsKept block now new
  kept_turn now new key slot t a before after changed is fits was comes even =
      subst (λ (f : ℕ → Option Account). IsKept block f new) (sym is)
      (kept_changed block clients pieces kept (put t (Some a) clients) new key slot changed
      (λ s some. some_put t s a clients some) fits
      (λ s. rw (was s, comes s) (turn clients t s a before after even)))

  -- what is unused and what a piece is charged fit the reservation
  pub charge_fits : (key : ℕ) (piece : Piece) → get pieces key ≡ Some piece → (at piece.client clients).unused + charge_standing (piece.blocks * block) piece.stand ≤ (at piece.client clients).reservation
  charge_fits key piece is =
      let most : weight_of (charge_for block piece.client) (get pieces key) ≤ charge_in block piece.client pieces = weight-at-most (charge_for block piece.client) pieces.slots key in
      let own : charge_for block piece.client piece ≡ charge_standing (piece.blocks * block) piece.stand = rw (eq-eqb piece.client piece.client refl) refl in
      let weighs : weight_of (charge_for block piece.client) (get pieces key) ≡ charge_for block piece.client piece = ap (weight_of (charge_for block piece.client)) is in
      let all : (at piece.client clients).unused + charge_in block piece.client pieces ≡ (at piece.client clients).reservation = kept.balanced piece.client in
      omega (arith, most, own, weighs, all)

abbrev nought : ℕ
nought = 0

nothing_if : (b : Bool) → nought ≡ (if b then nought else nought)
nothing_if true = refl
nothing_if false = refl

pub weigh_none : (block s t : ℕ) (o : Option Piece) → o ≡ None → weight_of (charge_for block s) o ≡ (if t == s then 0 else 0)
weigh_none block s t None is = nothing_if (t == s)
weigh_none block s t (Some piece) is = absurd (cc)

pub weigh : (block s : ℕ) (o : Option Piece) (piece : Piece) → o ≡ Some piece → (t n : ℕ) → t ≡ piece.client → charge_standing (piece.blocks * block) piece.stand ≡ n → weight_of (charge_for block s) o ≡ (if t == s then n else 0)
weigh block s o piece is t n client charge =
    let a : weight_of (charge_for block s) o ≡ charge_for block s piece = ap (weight_of (charge_for block s)) is in
    let b : charge_for block s piece ≡ (if piece.client == s then n else 0) = ap (λ (m : ℕ). if piece.client == s then m else 0) charge in
    let e : (if piece.client == s then n else 0) ≡ (if t == s then n else 0) = ap (λ (q : ℕ). if q == s then n else 0) (sym client) in
    a ∙ b ∙ e

-- a buffer that rests, or one that stands for none
abbrev buffer_in : Buffer → Stand → Buffer
buffer_in other (Resting buf) = buf
buffer_in other _ = other

pub resting_same : (buf other : Buffer) → Resting buf ≡ Resting other → buf ≡ other
resting_same buf other same = ap (buffer_in buf) same

-- how often a stand is pinned, or what stands for none
abbrev pins_in : Stand → ℕ
pins_in (Pinned count) = count
pins_in _ = 0

pub pinned_same : (count other : ℕ) → Pinned count ≡ Pinned other → count ≡ other
pinned_same count other same = ap pins_in same

-- a pin more, or one less
pub one_more : (count len : ℕ) → (count + 1) * len ≡ count * len + len
one_more count len = ap (λ (n : ℕ). n * len) (let next : count + 1 ≡ suc count = omega arith in next) ∙ suc-mul count len

pub one_less : (count len : ℕ) → 1 ≤ count → (count - 1) * len + len ≡ count * len
one_less count len some = sym (one_more (count - 1) len) ∙ ap (λ (n : ℕ). n * len) (omega (arith, some))

pub some_at : (o : Option Account) → IsSome o → o ≡ Some (or_else no_account o)
some_at None some = absurd (cc)
some_at (Some a) some = refl

module _ (block : ℕ) (clients : ℕ → Option Account) (pieces : Slab Piece) (kept : IsKept block clients pieces) where
  -- a piece stands otherwise
  pub kept_stand : (now : ℕ → Option Account) (new : Slab Piece) (key : ℕ) (piece : Piece) → get pieces key ≡ Some piece → (stand : Stand) → Changed pieces new key (Some (record (piece_at key pieces) { stand = stand })) → (t : ℕ) → t ≡ piece.client → (a : Account) → now ≡ put t (Some a) clients → ((buf : Buffer) → stand ≡ Resting buf → IsBufferOf piece.blocks block buf) → ((count : ℕ) → stand ≡ Pinned count → 1 ≤ count) → a.unused + charge_standing (piece.blocks * block) stand + (at t clients).reservation ≡ (at t clients).unused + charge_standing (piece.blocks * block) piece.stand + a.reservation → IsKept block now new
  kept_stand now new key piece there stand changed t client a is whole counted even =
      let found : piece_at key pieces ≡ piece = ap (or_else no_piece) there in
      let changed_so : Changed pieces new key (Some (record piece { stand = stand })) = subst (λ (p : Piece). Changed pieces new key (Some (record p { stand = stand }))) found changed in
      let old = kept.sound key piece there in
      let sound : IsSound block (put t (Some a) clients) key (record piece { stand = stand }) = record { short = old.short; owned = some_put t piece.client a clients old.owned; blocks = old.blocks; counted = counted; whole = whole } in
      kept_turn block clients pieces kept now new key (Some (record piece { stand = stand })) t a
      (charge_standing (piece.blocks * block) piece.stand) (charge_standing (piece.blocks * block) stand) changed_so is
      (λ q same. subst (λ (p : Piece). IsSound block (put t (Some a) clients) key p) (ap (or_else piece) same) sound)
      (λ s. weigh block s (get pieces key) piece there t (charge_standing (piece.blocks * block) piece.stand) client refl)
      (λ s. weigh block s (Some (record piece { stand = stand })) (record piece { stand = stand }) refl t (charge_standing (piece.blocks * block) stand) client refl)
      even

  -- a piece goes
  pub kept_gone : (now : ℕ → Option Account) (new : Slab Piece) (key : ℕ) (piece : Piece) → get pieces key ≡ Some piece → Changed pieces new key None → (t : ℕ) → t ≡ piece.client → (a : Account) → now ≡ put t (Some a) clients → a.unused + (at t clients).reservation ≡ (at t clients).unused + charge_standing (piece.blocks * block) piece.stand + a.reservation → IsKept block now new
  kept_gone now new key piece there changed t client a is even =
      kept_turn block clients pieces kept now new key None t a (charge_standing (piece.blocks * block) piece.stand) 0 changed is
      (λ q same. absurd (cc))
      (λ s. weigh block s (get pieces key) piece there t (charge_standing (piece.blocks * block) piece.stand) client refl)
      (λ s. weigh_none block s t None refl)
      (omega (arith, even))

  -- a piece comes, and is charged
  pub kept_come : (now : ℕ → Option Account) (new : Slab Piece) (key : ℕ) (piece : Piece) → get pieces key ≡ None → Changed pieces new key (Some piece) → (a : Account) → now ≡ put piece.client (Some a) clients → IsSome (clients piece.client) → key < 2 ^ 32 → 1 ≤ piece.blocks → ((len : ℕ) → charge_standing len piece.stand ≡ len) → a.unused + piece.blocks * block + (at piece.client clients).reservation ≡ (at piece.client clients).unused + a.reservation → IsKept block now new
  kept_come now new key piece none changed a is some short blocks charged even =
      let whole : (buf : Buffer) → piece.stand ≡ Resting buf → IsBufferOf piece.blocks block buf = λ buf rests.
      let one : charge_standing 1 piece.stand ≡ 1 = charged 1 in
      let nil : charge_standing 1 piece.stand ≡ 0 = ap (charge_standing 1) rests in
      absurd (omega (arith, one, nil)) in
      let counted : (count : ℕ) → piece.stand ≡ Pinned count → 1 ≤ count = λ count pinned.
      let one : charge_standing 1 piece.stand ≡ 1 = charged 1 in
      let pins : charge_standing 1 piece.stand ≡ count * 1 = ap (charge_standing 1) pinned in
      omega (arith, one, pins) in
      let sound : IsSound block (put piece.client (Some a) clients) key piece = record { short = short; owned = some_put piece.client piece.client a clients some; blocks = blocks; counted = counted; whole = whole } in
      kept_turn block clients pieces kept now new key (Some piece) piece.client a 0 (piece.blocks * block) changed is
      (λ q same. subst (λ (p : Piece). IsSound block (put piece.client (Some a) clients) key p) (ap (or_else piece) same) sound)
      (λ s. weigh_none block s piece.client (get pieces key) none)
      (λ s. weigh block s (Some piece) piece refl piece.client (piece.blocks * block) refl (charged (piece.blocks * block)))
      (omega (arith, even))

  -- the account of a piece's client as it is
  pub kept_alike : (t : ℕ) → IsSome (clients t) → clients ≡ put t (Some (at t clients)) clients
  kept_alike t some = sym (put_same clients t (Some (at t clients)) (some_at (clients t) some))
