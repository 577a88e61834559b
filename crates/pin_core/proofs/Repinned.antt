-- What calls that change a page's pins need and leave, in terms of the state.
use Rattle.std.proofs.Common.{◌≡◌, ℕ, ◌<◌, ◌≤◌, [], ◌∷◌, refl, ap, sym, ◌∙◌, subst, arith, mul-pos}
use Rattle.page_table.specs.declared.page_id.PageId.{PageId}
use Rattle.page_table.specs.declared.entry.Place.{Place as Spot}
use Rattle.page_table.specs.declared.entry.Place.TheVariants as spot
use Rattle.page_table.specs.declared.entry.Entry.{Entry}
use Rattle.pool_model.specs.declared.event.Event.{Event as Change}
use Rattle.pool_model.specs.declared.event.Event.TheVariants as event
use Rattle.pool_model.specs.declared.entry.Entry.{Entry as Event}
use Rattle.pool_model.specs.Bytes.{bytes_of}
use Rattle.pool_model.specs.State.{Page, Pinned, page_at, pins_of}
use Rattle.pool_model.specs.Sums.{HasRoom, length_of}
use Rattle.store_api.specs.Tokens.{PageToken}
use Rattle.pin_core.specs.declared.kept.Kept.{Kept}
use Rattle.pin_core.specs.declared.parts.Parts.{Parts}
use Rattle.pin_core.specs.StateOf.{page_of, place_in, state_of}
use Rattle.pin_core.specs.Lawful.{Lawful}
use Rattle.pin_core.specs.Invariant.{IsPlaced, IsKept}
use Rattle.pin_core.specs.calls.Needs.{id_in}
use Rattle.pin_core.specs.parts.Changes.{entry_at}
use Rattle.pin_core.specs.calls.Pins.{IsPinned, HasRoomFor, CanRepin, ReadyAgain, ReadyOnce, pins_in, pinned_again, unpinned_once}
use Rattle.pin_core.proofs.Found.{Found, found_page}
use Rattle.pin_core.proofs.Charged.{own_live, own_is, room_unused, few_pins}
use Rattle.pin_core.proofs.Entered.{Done}
use Rattle.pin_core.proofs.Repins.{again_done, once_done, covered}

pub some_bytes : (len blocks : ℕ) → 0 < len → 0 < blocks → 0 < bytes_of len blocks
unfolding bytes_of
some_bytes len blocks some more = mul-pos more some

pinned_spot : (at : Spot) → place_in at ≡ Pinned (pins_of (place_in at)) → at ≡ spot.Pinned (pins_in at)
pinned_spot (spot.Pinned count) is = refl
pinned_spot spot.Dirty is = cc
pinned_spot (spot.Flying writer) is = cc
pinned_spot spot.Loading is = cc
pinned_spot spot.Clean is = cc
pinned_spot spot.Evicted is = cc

module _ {D : Type 0} where
  can_repin : (v : Parts D) → Lawful v → (p : PageToken) → IsPinned (state_of v) p → CanRepin v (id_in p) (entry_at v p.name)
  can_repin v laws p pinned =
      let f : Found v p (entry_at v p.name) = found_page v laws.proper p pinned.page in
      record {
        live = f.live;
        there = f.there;
        pinned = pinned_spot (entry_at v p.name).place (subst (λ (y : Page). y.place ≡ Pinned (pins_of y.place)) f.is pinned.pinned);
      }

  module _ (v old : Parts D) (id : PageId) (p : PageToken) (same : v ≡ old) (named : id ≡ id_in p) (is_kept : IsKept v) (laws : Lawful v) (pinned : IsPinned (state_of old) p) where
    here : IsPinned (state_of v) p
    here = subst (λ (z : Parts D). IsPinned (state_of z) p) (sym same) pinned

    pub repin_can : CanRepin v id (entry_at v id.name)
    repin_can = subst (λ (i : PageId). CanRepin v i (entry_at v i.name)) (sym named) (can_repin v laws p here)

    abbrev x : Entry (Kept D)
    x = entry_at v id.name

    at_x : IsPlaced v id.key x
    at_x = is_kept.placed id.key id.name x repin_can.live repin_can.there

    page_is : page_at (state_of old) p.name ≡ page_of v.pages p.name x
    page_is =
        let f : Found v p (entry_at v p.name) = found_page v laws.proper p here.page in
        ap (λ (z : Parts D). page_at (state_of z) p.name) (sym same) ∙ f.is ∙ ap (λ (i : PageId). page_of v.pages p.name (entry_at v i.name)) (sym named)

    session_is : x.session ≡ (page_at (state_of old) p.name).session
    session_is = ap (λ (y : Page). y.session) (sym page_is)

    some : 0 < bytes_of v.arena.block_len x.blocks
    some = some_bytes v.arena.block_len x.blocks is_kept.sized.some at_x.blocks.0

    in_code : (n : ℕ) → bytes_of v.arena.block_len x.blocks ≤ n → bytes_of v.block_len x.blocks ≤ n
    in_code n le = subst (λ (len : ℕ). bytes_of len x.blocks ≤ n) (sym is_kept.sized.len) le

    -- the entry, by the token's page
    abbrev told : (ℕ → Change) → Event
    told change = record { maker = (page_at (state_of old) p.name).session; event = change p.name }

    done_told : (change : ℕ → Change) → (new : Parts D) → Done (record { maker = x.session; event = change id.name } ∷ []) [] [] v new → Done (told change ∷ []) [] [] old new
    done_told change new done =
        subst (λ (z : Parts D). Done (told change ∷ []) [] [] z new) same
        (subst (λ (e : Event). Done (e ∷ []) [] [] v new) (λ i. record { maker = session_is i; event = change (ap (λ (j : PageId). j.name) named i) }) done)

    module _ (room : HasRoomFor (state_of old) p.name) where
      room_v : HasRoom (state_of v) x.client (bytes_of v.arena.block_len x.blocks)
      room_v =
          subst (λ (y : Page). HasRoom (state_of v) y.client (length_of (state_of v) y.blocks)) page_is
          (subst (λ (z : Parts D). HasRoom (state_of z) (page_at (state_of old) p.name).client (length_of (state_of z) (page_at (state_of old) p.name).blocks)) (sym same) room)

      pub again_ready : ReadyAgain v x
      again_ready = record {
        few = let few = few_pins v is_kept id.name x repin_can.there some (pins_in x.place) (ap place_in repin_can.pinned) in omega (arith, few);
        live = own_live v is_kept id.name x repin_can.there;
        unused = in_code _ (room_unused v is_kept x.client (bytes_of v.arena.block_len x.blocks) (own_is v is_kept id.name x repin_can.there) room_v);
        len = is_kept.sized.len;
      }

      pub again_told : (new : Parts D) → new ≡ pinned_again id x v → Done (told event.PinAgain ∷ []) [] [] old new
      again_told new is =
          done_told event.PinAgain new (subst (Done (record { maker = x.session; event = event.PinAgain id.name } ∷ []) [] [] v) (sym is) (again_done v is_kept laws id x repin_can room_v))

    module _ (several : 2 ≤ pins_of (page_at (state_of old) p.name).place) where
      several_v : 2 ≤ pins_in x.place
      several_v = subst (λ (y : Page). 2 ≤ pins_of y.place) page_is several

      pub once_ready : ReadyOnce v x
      once_ready = record {
        some = let s = several_v in omega (arith, s);
        live = own_live v is_kept id.name x repin_can.there;
        used = in_code _ (covered v is_kept laws id x repin_can);
        len = is_kept.sized.len;
      }

      pub once_told : (new : Parts D) → new ≡ unpinned_once id x v → Done (told event.UnpinOnce ∷ []) [] [] old new
      once_told new is =
          done_told event.UnpinOnce new (subst (Done (record { maker = x.session; event = event.UnpinOnce id.name } ∷ []) [] [] v) (sym is) (once_done v is_kept laws id x repin_can several_v))
