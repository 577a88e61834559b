-- A growth is refused exactly where it passes a limit.
use Rattle.std.proofs.Common.{◌≡◌, ℕ, ◌+◌, ◌-◌, ◌≤◌, Bool, true, false, leb, if◌then◌else◌, Option, Some, None, refl, ap, arith, leb-true}
use Rattle.std.proofs.lemmas.Bool.{le-leb}
use Rattle.reservation_tree.specs.declared.errors.PoolErr.{PoolErr}
use Rattle.reservation_tree.specs.declared.errors.PoolErr.TheVariants.{NoReservation}
use Rattle.store_api.specs.Holdings.{Account, Above, Nothing, Room, Shared, Holdings, or_else, no_account, account_of}
use Rattle.store_api.specs.Changes.{query_growth, raised, after_reserve}
use Rattle.store_api.specs.Refusals.{unless_fits, refusal_above, client_room}
use Rattle.store_api.specs.HoldingLaws.{HasRoomFor, RefusesOverLimits}
use Rattle.store_api.proofs.Puts.{put_here}

-- what isn't refused fits, and nothing behind refuses it
fits_none : (t wanted room : ℕ) (others : Option PoolErr) → unless_fits t wanted room others ≡ None → (wanted ≤ room) × (others ≡ None)
fits_none t wanted room others none =
    elim (leb wanted room) as (λ (b : Bool). leb wanted room ≡ b → (if b then others else Some (NoReservation t wanted room)) ≡ None → (wanted ≤ room) × (others ≡ None)) [
      | true ↦ λ is rest. (leb-true wanted room is, rest)
      | false ↦ λ is rest. absurd cc
    ] refl none

none_fits : (t wanted room : ℕ) (others : Option PoolErr) → wanted ≤ room → others ≡ None → unless_fits t wanted room others ≡ None
none_fits t wanted room others fits none = rw (le-leb wanted room fits) none

above_fits : (growth : ℕ) (above : Above) → refusal_above growth above ≡ None → HasRoomFor growth above
above_fits growth Nothing none = tt
above_fits growth (Room room) none = (fits_none 0 growth room None none).0
above_fits growth Shared none = tt

fits_above : (growth : ℕ) (above : Above) → HasRoomFor growth above → refusal_above growth above ≡ None
fits_above growth Nothing fits = refl
fits_above growth (Room room) fits = none_fits 0 growth room None fits refl
fits_above growth Shared fits = refl

grown : (t bytes : ℕ) (h : Holdings) → account_of t (after_reserve t bytes h) ≡ raised bytes (account_of t h)
grown t bytes h = ap (or_else no_account) (put_here t (Some (raised bytes (account_of t h))) h.clients)

pub refuses_over_limits : RefusesOverLimits
refuses_over_limits t bytes h client query =
    let now : (account_of t (after_reserve t bytes h)).reservation ≡ (account_of t h).reservation + bytes = ap (λ (a : Account). a.reservation) (grown t bytes h) in
    let above : Option PoolErr = refusal_above (query_growth bytes h) h.above in
    let others : Option PoolErr = unless_fits h.query (query_growth bytes h) (h.limit - h.reservation) above in (
      λ none.
          let first : (bytes ≤ client_room t h) × (others ≡ None) = fits_none t bytes (client_room t h) others none in
          let second : (query_growth bytes h ≤ h.limit - h.reservation) × (above ≡ None) = fits_none h.query (query_growth bytes h) (h.limit - h.reservation) above first.1 in
          record {
            client = omega (arith, now, first.0, client);
            query = omega (arith, second.0, query);
            above = above_fits (query_growth bytes h) h.above second.1;
          },
      λ fits.
          none_fits t bytes (client_room t h) others (omega (arith, now, fits.client))
          (none_fits h.query (query_growth bytes h) (h.limit - h.reservation) above (omega (arith, fits.query)) (fits_above (query_growth bytes h) h.above fits.above)),
    )
