-- The pages that a session holds, as the pool has them.
use Rattle.std.proofs.Common.{◌≡◌, ◌↔◌, ℕ, ◌*◌, ◌-◌, ◌<◌, ◌≤◌, List, [], Bool, false, if◌then◌else◌, Option, Some, None, IsSome, is_some, option_map, unwrap_or, refl, sym, ap, ◌∙◌, subst, arith, inl, inr, eq-eqb}
use Rattle.std.specs.FinMap.{get}
use Rattle.block_arena.specs.Memory.{Buffer, IsBufferOf}
use Rattle.reservation_tree.proofs.Maps.{same_or_other}
use Rattle.reservation_tree.specs.Tracker.{unused}
use Rattle.reservation_tree.specs.declared.errors.PoolErr.{PoolErr}
use Rattle.reservation_tree.specs.declared.errors.PoolErr.TheVariants.{ScratchFull}
use Rattle.pool_model.specs.State.{Place, Pinned, Dirty, Flying, Loading, Clean, Evicted, Page, Session, State, page_at, no_page, pins_of}
use Rattle.pool_model.specs.Parts.{pins_at}
use Rattle.pool_model.specs.Sums.{HasRoom, charge_of, free_slots, length_of, slots_of}
use Rattle.pool_model.specs.Sound.{HasPins}
use Rattle.pool_model.specs.Owning.{IsClientOf}
use Rattle.pool_model.specs.PageRows.{MayRefuseUnpin}
use Rattle.pool_model.proofs.Failures.{of_one}
use Rattle.store_api.specs.Tokens.{PageToken}
use Rattle.store_api.specs.Holdings.{Holdings, LivePage, IsPageOf, or_else, page_of, page_len, unused_of, no_page as no_live_page}
use Rattle.store_api.specs.Conditions.{Fits, IsHeld, IsPage}
use Rattle.store_api.specs.Refusals.{LacksSlots, IsScratchFull}
use Rattle.own_entries.specs.LiveParts.{left_at, live_page}
use Rattle.own_entries.proofs.Behind.{IsTold, pinned_once}
use Rattle.own_entries.proofs.ByItself.{is_client}
use Rattle.own_entries.proofs.Views.{len_is}
use Rattle.pin_core.specs.calls.Needs.{IsLastPin, IsPage as IsPoolPage}
use Rattle.pin_core.specs.calls.Ending.{IsPinnedWith, IsUnpinned, is_flying}
use Rattle.pin_core.specs.calls.Pins.{IsPinned, HasPinToSpare, HasRoomFor}
use Rattle.pin_core.specs.calls.PinTurns.{CanPin, LacksRoomFor}
use Rattle.pin_core.specs.calls.Turns.{LacksRoom}
use Rattle.pin_core.specs.calls.Unpinning.{LacksSlots as PoolLacks}
use Rattle.session_calls.specs.Leaving.{CanEnd}
use Rattle.session_calls.proofs.Known.{KnownTo}

-- a page that is told with no pin isn't pinned, and one with pins is pinned as often
unpinned_place : (place : Place) → HasPins place → pins_of place ≡ 0 → (count : ℕ) → place ≡ Pinned count → ⊥
unpinned_place (Pinned n) has none count is = absurd (omega (arith, has, none))
unpinned_place Dirty has none count is = let never : Dirty ≡ Pinned count = is in cc
unpinned_place (Flying writer) has none count is = let never : Flying writer ≡ Pinned count = is in cc
unpinned_place Loading has none count is = let never : Loading ≡ Pinned count = is in cc
unpinned_place Clean has none count is = let never : Clean ≡ Pinned count = is in cc
unpinned_place Evicted has none count is = let never : Evicted ≡ Pinned count = is in cc

pub pinned_so : (place : Place) → 1 ≤ pins_of place → place ≡ Pinned (pins_of place)
pinned_so (Pinned n) some = refl
pinned_so Dirty some = absurd (omega (arith, some))
pinned_so (Flying writer) some = absurd (omega (arith, some))
pinned_so Loading some = absurd (omega (arith, some))
pinned_so Clean some = absurd (omega (arith, some))
pinned_so Evicted some = absurd (omega (arith, some))

-- what was left shows but while the page is pinned
left_shows : (place : Place) (left : List ℕ) → ((count : ℕ) → place ≡ Pinned count → ⊥) → left_at place left ≡ left
left_shows (Pinned n) left never = absurd (never n refl)
left_shows Dirty left never = refl
left_shows (Flying writer) left never = refl
left_shows Loading left never = refl
left_shows Clean left never = refl
left_shows Evicted left never = refl

-- a page that a session holds, as the pool has it, where these bytes were left in pages last
pub record IsThere (lasts : ℕ → List ℕ) (s : State) (m : ℕ) (h : Holdings) (p : PageToken) : Type 0 where
  pub page : IsPoolPage s p
  pub whose : (page_at s p.name).session ≡ m
  pub client : (page_at s p.name).client ≡ p.client
  pub blocks : (page_of p.name h).blocks ≡ (page_at s p.name).blocks
  pub pins : (page_of p.name h).pins ≡ pins_of (page_at s p.name).place
  pub left : (page_of p.name h).left ≡ left_at (page_at s p.name).place (lasts p.name)

module _ {left : ℕ → List ℕ} {s : State} {m : ℕ} {h : Holdings} (k : KnownTo left s m h) where
  pub slots_here : h.free_slots ≡ Some (free_slots s m)
  slots_here = k.told.free_slots ∙ sym (ap (λ (o : Option Session). Some (unwrap_or (option_map (λ (z : Session). z.quota) o) 0 - slots_of s.pages m)) k.lives)

  -- so many blocks have so many bytes
  pub len_here : (blocks : ℕ) → blocks * h.block_len ≡ length_of s blocks
  len_here blocks = ap (λ (n : ℕ). blocks * n) k.told.block_len ∙ sym (len_is s.block_len blocks)

  -- a page of one of its clients is the session's
  pub owner_is : (c p : ℕ) (x : Page) → IsSome (h.clients c) → get s.pages p ≡ Some x → x.client ≡ c → x.session ≡ m
  owner_is c p x some lives for = elim (same_or_other x.session m) [
    | inl same ↦ same
    | inr other ↦ absurd (of_one s k.sound x.session m c (λ same. other (sym same)) (inr (subst (IsClientOf s x.session) for (k.owned p x lives))) (k.client c some))
  ]

  -- and it holds the page
  pub page_held : (c p : ℕ) (x : Page) → IsSome (h.clients c) → get s.pages p ≡ Some x → x.client ≡ c → IsPageOf c h p
  page_held c p x some lives for =
      let live : LivePage = record { key = x.key; client = x.client; blocks = x.blocks; pins = pins_of x.place; left = left_at x.place (left p); has_slots = x.has_slots } in
      let there : h.pages p ≡ Some live = k.told.live_pages p ∙ ap (live_page m (left p)) lives ∙ ap (λ (b : Bool). if b then Some live else None) (eq-eqb x.session m (owner_is c p x some lives for)) in
      record {
        lives = ap is_some there;
        client = ap (λ (o : Option LivePage). (or_else no_live_page o).client) there ∙ for;
      }

  pub is_there : (p : PageToken) → IsPage p h → IsThere left s m h p
  is_there p held =
      let it : IsTold s m p.name (h.pages p.name) (left p.name) = k.page p.name held.lives in
      let at : page_at s p.name ≡ it.page = ap (λ (o : Option Page). unwrap_or o no_page) it.own.lives in
      let reads : page_of p.name h ≡ record { key = it.page.key; client = it.page.client; blocks = it.page.blocks; pins = pins_of it.page.place; left = left_at it.page.place (left p.name); has_slots = it.page.has_slots } =
      ap (or_else no_live_page) it.reads in
      record {
        page = record {
          lives = it.own.lives ∙ ap Some (sym at);
          key = ap (λ (x : Page). x.key) at ∙ sym (ap (λ (v : LivePage). v.key) reads) ∙ held.key;
        };
        whose = ap (λ (x : Page). x.session) at ∙ it.own.own;
        client = ap (λ (x : Page). x.client) at ∙ sym (ap (λ (v : LivePage). v.client) reads) ∙ held.client;
        blocks = ap (λ (v : LivePage). v.blocks) reads ∙ ap (λ (x : Page). x.blocks) (sym at);
        pins = ap (λ (v : LivePage). v.pins) reads ∙ ap (λ (x : Page). pins_of x.place) (sym at);
        left = ap (λ (v : LivePage). v.left) reads ∙ ap (λ (x : Page). left_at x.place (left p.name)) (sym at);
      }

  module _ (p : PageToken) (held : IsPage p h) where
    there : IsThere left s m h p
    there = is_there p held

    -- its client is one of the session's
    pub page_client : IsClientOf s m p.client
    page_client = subst (λ (n : ℕ). IsClientOf s n p.client) there.whose (subst (IsClientOf s (page_at s p.name).session) there.client (k.owned p.name (page_at s p.name) there.page.lives))

    pub page_client_lives : IsSome (h.clients p.client)
    page_client_lives = is_client left [] s k.sound k.owned m k.session k.lives h k.told p.client page_client

    pub page_len_here : length_of s (page_at s p.name).blocks ≡ page_len p.name h
    page_len_here = sym (len_here (page_at s p.name).blocks) ∙ ap (λ (n : ℕ). n * h.block_len) (sym there.blocks)

    pub pins_here : pins_at s p.name ≡ (page_of p.name h).pins
    pins_here = sym there.pins

    -- a buffer of it
    pub fits_there : (buf : Buffer) → Fits (page_of p.name h).blocks h buf → IsBufferOf (page_at s p.name).blocks s.block_len buf
    fits_there buf fits =
        subst (λ (n : ℕ). IsBufferOf n s.block_len buf) there.blocks (subst (λ (len : ℕ). IsBufferOf (page_of p.name h).blocks len buf) k.told.block_len fits)

    pub fits_here : (buf : Buffer) → IsBufferOf (page_at s p.name).blocks s.block_len buf → Fits (page_of p.name h).blocks h buf
    fits_here buf whole =
        subst (λ (len : ℕ). IsBufferOf (page_of p.name h).blocks len buf) (sym k.told.block_len) (subst (λ (n : ℕ). IsBufferOf n s.block_len buf) (sym there.blocks) whole)

    -- how it is pinned
    pub last_pin : (buf : Buffer) → (page_of p.name h).pins ≡ 1 → Fits (page_of p.name h).blocks h buf → IsLastPin s p buf
    last_pin buf once fits = record {
      page = there.page;
      pinned = pinned_once (page_at s p.name).place (sym there.pins ∙ once);
      buffer = fits_there buf fits;
    }

    pub pinned_here : 1 ≤ (page_of p.name h).pins → IsPinned s p
    pinned_here some = record { page = there.page; pinned = pinned_so (page_at s p.name).place (subst (λ (n : ℕ). 1 ≤ n) there.pins some) }

    pub pinned_with : (buf : Buffer) → 1 ≤ (page_of p.name h).pins → Fits (page_of p.name h).blocks h buf → IsPinnedWith s p buf
    pinned_with buf some fits = record { pinned = pinned_here some; buffer = fits_there buf fits }

    pub spare_here : 2 ≤ (page_of p.name h).pins → HasPinToSpare s p
    spare_here several =
        let some : 1 ≤ (page_of p.name h).pins = omega (arith, several) in
        record { pinned = pinned_here some; several = subst (λ (n : ℕ). 2 ≤ n) (sym pins_here) several }

    pub page_room_here : HasRoom s p.client (page_len p.name h) → HasRoomFor s p.name
    page_room_here room =
        subst (λ (t : ℕ). HasRoom s t (length_of s (page_at s p.name).blocks)) (sym there.client) (subst (HasRoom s p.client) (sym page_len_here) room)

    -- it has no pin
    module _ (none : (page_of p.name h).pins ≡ 0) where
      pub not_pinned : (count : ℕ) → (page_at s p.name).place ≡ Pinned count → ⊥
      not_pinned = unpinned_place (page_at s p.name).place (k.sound.owned.pins p.name (page_at s p.name) there.page.lives) (sym there.pins ∙ none)

      -- the session tells the bytes that were left in it last
      pub left_here : (page_of p.name h).left ≡ left p.name
      left_here = there.left ∙ left_shows (page_at s p.name).place (left p.name) not_pinned

      pub rests_there : ((page_at s p.name).place ≡ Loading → ⊥) → IsUnpinned s p
      rests_there not_loading = record { page = there.page; not_pinned = not_pinned; not_loading = not_loading }

      -- it can be pinned
      pub can_pin : ((page_at s p.name).place ≡ Loading → ⊥) → page_len p.name h ≤ unused_of p.client h → CanPin s m p
      can_pin not_loading fits = record {
        page = there.page;
        own = there.whose;
        unpinned = not_pinned;
        unloaded = not_loading;
        unused =
            subst (λ (c : ℕ). length_of s (page_at s p.name).blocks ≤ unused (charge_of s) s.trackers c) (sym there.client)
            (subst (λ (n : ℕ). length_of s (page_at s p.name).blocks ≤ n) (sym (k.unused_is p.client page_client_lives)) (subst (λ (n : ℕ). n ≤ unused_of p.client h) (sym page_len_here) fits));
      }

    -- its client lacks the room
    pub lacks_room : (failure : Option ℕ) → LacksRoomFor s m p.name failure → LacksRoom s m p.client (page_len p.name h) failure
    lacks_room failure lacks =
        subst (λ (c : ℕ). LacksRoom s m c (page_len p.name h) failure) there.client (subst (λ (n : ℕ). LacksRoom s m (page_at s p.name).client n failure) page_len_here lacks.lacks)

    -- a page that is in no job may end
    pub can_end : ((page_at s p.name).place ≡ Loading → ⊥) → is_flying (page_at s p.name).place ≡ false → (buf : Option Buffer) → IsHeld p h buf → CanEnd s p buf
    can_end not_loading not_flying None none = (rests_there none not_loading, not_flying)
    can_end not_loading not_flying (Some buf) pinned = pinned_with buf pinned.0 pinned.1

    -- it lacks slots exactly where the pool says so
    pub lacks_there : (page_of p.name h).pins ≡ 1 → LacksSlots (page_of p.name h) h.free_slots ↔ PoolLacks s p.name
    lacks_there once =
        let both : LacksSlots (page_of p.name h) h.free_slots ↔ MayRefuseUnpin s m p.name = k.refuses.unpin p.name held.lives once in (
          λ lacks.
              let may : MayRefuseUnpin s m p.name = both.0 lacks in
              let at : page_at s p.name ≡ may.page = ap (λ (o : Option Page). unwrap_or o no_page) may.own.lives in
              record {
                none = ap (λ (x : Page). x.has_slots) at ∙ may.none;
                few = subst (λ (n : ℕ). free_slots s n < (page_at s p.name).blocks) (sym there.whose) (subst (λ (x : Page). free_slots s m < x.blocks) (sym at) may.few);
              },
          λ few. both.1 (record {
            page = page_at s p.name;
            own = record { lives = there.page.lives; own = there.whose };
            pinned = pinned_once (page_at s p.name).place (sym there.pins ∙ once);
            none = few.none;
            few = subst (λ (n : ℕ). free_slots s n < (page_at s p.name).blocks) there.whose few.few;
          }),
        )

    pub full_there : (e : PoolErr) → e ≡ ScratchFull (page_at s p.name).blocks (free_slots s (page_at s p.name).session) → IsScratchFull (page_of p.name h).blocks h.free_slots e
    full_there e is_full =
        subst (λ (o : Option ℕ). IsScratchFull (page_of p.name h).blocks o e) (sym slots_here)
        (is_full ∙ ap (λ (n : ℕ). ScratchFull (page_at s p.name).blocks (free_slots s n)) there.whose ∙ ap (λ (n : ℕ). ScratchFull n (free_slots s m)) (sym there.blocks))
