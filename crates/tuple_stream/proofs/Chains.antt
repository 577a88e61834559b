-- What a stream's calls keep, over no call and over two, one after the other.
use Rattle.std.proofs.Common.{◌≡◌, ℕ, ◌+◌, ◌*◌, ◌≤◌, ◌⊎◌, List, [], ◌++◌, Option, Some, None, IsSome, option_map, is_some, if◌then◌else◌, refl, ap, sym, ◌∙◌, subst, inl, inr, arith, append-nil, append_assoc}
use Rattle.store_api.specs.Holdings.{Account, LivePage, Holdings, or_else, no_account, unused_of}
use Rattle.tuple_stream.specs.Streamed.{OpenPage, Streamed, len_in}
use Rattle.tuple_stream.specs.Streams.{HasPageRoom}
use Rattle.tuple_stream.specs.Places.{KeepsPlaces, rows_from}
use Rattle.tuple_stream.specs.Touches.{Touches, held, with_unused}

pub same_account : (o : Option Account) → IsSome o → (unused : ℕ) → (or_else no_account o).unused ≡ unused → o ≡ option_map (with_unused unused) o
same_account None lives unused same = absurd cc
same_account (Some account) lives unused same = ap (λ (n : ℕ). Some (with_unused n account)) same

-- an account of which more or less is unused
pub account_moved : (old new : Option Account) (unused : ℕ) → IsSome old → new ≡ Some (record (or_else no_account old) { unused = unused }) → new ≡ option_map (with_unused (or_else no_account new).unused) old
account_moved None new unused lives moved = absurd cc
account_moved (Some account) new unused lives moved =
    moved ∙ ap (λ (n : ℕ). Some (with_unused n account)) (sym (ap (λ (o : Option Account). (or_else no_account o).unused) moved))

-- where nothing was called, nothing was touched
pub touches_refl : (t : ℕ) (s : Streamed) (h : Holdings) → Touches t s s h h
touches_refl t s h =
    record {
      block_len = refl;
      session = refl;
      query = refl;
      limit = refl;
      reservation = refl;
      room = refl;
      above = refl;
      live_clients = refl;
      loans = refl;
      told = refl;
      clients = λ q apart. refl;
      account = λ lives. same_account (h.clients t) lives (unused_of t h) refl;
      pages = λ q lives apart. (refl, apart);
      back = λ q lives apart. (refl, apart);
      unused = refl;
      slots = refl;
    }

-- nor where a refused call left all as it was
pub touches_kept : (t : ℕ) (s now : Streamed) (old new : Holdings) → now ≡ s → new ≡ old → Touches t s now old new
touches_kept t s now old new same stays =
    subst (λ (h : Holdings). Touches t s now old h) (sym stays) (subst (λ (r : Streamed). Touches t s r old old) (sym same) (touches_refl t s old))

some_moved : (old new : Option Account) (unused : ℕ) → IsSome old → new ≡ option_map (with_unused unused) old → IsSome new
some_moved None new unused lives moved = absurd cc
some_moved (Some account) new unused lives moved = subst (λ (o : Option Account). IsSome o) (sym moved) refl

unused_twice : (o : Option Account) (first second : ℕ) → option_map (with_unused second) (option_map (with_unused first) o) ≡ option_map (with_unused second) o
unused_twice None first second = refl
unused_twice (Some account) first second = refl

module _ (t : ℕ) (a b c : Streamed) (old mid new : Holdings) where
  pub touches_trans : Touches t a b old mid → Touches t b c mid new → Touches t a c old new
  touches_trans first second =
      record {
        block_len = second.block_len ∙ first.block_len;
        session = second.session ∙ first.session;
        query = second.query ∙ first.query;
        limit = second.limit ∙ first.limit;
        reservation = second.reservation ∙ first.reservation;
        room = second.room ∙ first.room;
        above = second.above ∙ first.above;
        live_clients = second.live_clients ∙ first.live_clients;
        loans = second.loans ∙ first.loans;
        told = second.told ∙ first.told;
        clients = λ q apart. second.clients q apart ∙ first.clients q apart;
        account = λ lives.
            let moved : mid.clients t ≡ option_map (with_unused (unused_of t mid)) (old.clients t) = first.account lives in
            second.account (some_moved (old.clients t) (mid.clients t) (unused_of t mid) lives moved)
            ∙ ap (option_map (with_unused (unused_of t new))) moved
            ∙ unused_twice (old.clients t) (unused_of t mid) (unused_of t new);
        pages = λ q lives apart.
            let one = first.pages q lives apart in
            let two = second.pages q (subst (λ (o : Option LivePage). IsSome o) (sym one.0) lives) one.1 in
            (two.0 ∙ one.0, two.1);
        back = λ q lives apart.
            let two = second.back q lives apart in
            let one = first.back q (subst (λ (o : Option LivePage). IsSome o) (sym two.0) lives) two.1 in
            (one.0 ∙ two.0, one.1);
        unused = second.unused ∙ first.unused;
        slots = second.slots ∙ first.slots;
      }

  pub keeps_places_trans : (some more : List (List ℕ)) → KeepsPlaces some a b old mid → KeepsPlaces more b c mid new → KeepsPlaces (some ++ more) a c old new
  keeps_places_trans some more first second = λ place there.
      let one = first place there in
      let two = second place one.0 in
      (two.0, two.1 ∙ ap (λ (rows : List (List ℕ)). rows ++ more) one.1 ∙ append_assoc (rows_from place a old) some more)

pub keeps_places_refl : (s : Streamed) (h : Holdings) → KeepsPlaces [] s s h h
keeps_places_refl s h = λ place there. (there, sym (append-nil (rows_from place s h)))

held_with : (pinned : Option OpenPage) (len : ℕ) → IsSome pinned → (if is_some pinned then len else 0) ≡ len
held_with None len some = absurd cc
held_with (Some page) len some = refl

room_kept : (pinned : Option OpenPage) (len was unused : ℕ) → unused + (if is_some pinned then len else 0) ≡ was → len ≤ was → (len ≤ unused) ⊎ IsSome pinned
room_kept None len was unused even room = inl (omega (arith, even, room))
room_kept (Some page) len was unused even room = inr refl

no_page : (pinned : Option OpenPage) → pinned ≡ None → IsSome pinned → ⊥
no_page None closed some = absurd cc
no_page (Some page) closed some = absurd cc

-- the room for a page stays
pub has_room_kept : (t : ℕ) (s now : Streamed) (old new : Holdings) → HasPageRoom t s old → Touches t s now old new → now.page_blocks ≡ s.page_blocks → HasPageRoom t now new
has_room_kept t s now old new room touches sized =
    let same : len_in now new ≡ len_in s old = ap (λ (n : ℕ). n * new.block_len) sized ∙ ap (λ (n : ℕ). s.page_blocks * n) touches.block_len in
    let enough : len_in s old ≤ unused_of t old + held s old = elim room [
      | inl unused ↦ omega (arith, unused)
      | inr some ↦ let all : held s old ≡ len_in s old = held_with s.pinned (len_in s old) some in omega (arith, all)
    ] in
    room_kept now.pinned (len_in now new) (unused_of t old + held s old) (unused_of t new) touches.unused (omega (arith, same, enough))

-- and where none is pinned it is unused
pub closed_room : (t : ℕ) (s now : Streamed) (old new : Holdings) → HasPageRoom t s old → Touches t s now old new → now.page_blocks ≡ s.page_blocks → now.pinned ≡ None → len_in now new ≤ unused_of t new
closed_room t s now old new room touches sized closed =
    elim (has_room_kept t s now old new room touches sized) [
      | inl unused ↦ unused
      | inr some ↦ absurd (no_page now.pinned closed some)
    ]
