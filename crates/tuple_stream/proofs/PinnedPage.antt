-- A resting page of a stream is pinned: what became of stream and store.
use Rattle.std.proofs.Common.{◌≡◌, ◌∙◌, ℕ, ◌<◌, ◌≤◌, ◌⊎◌, List, length, true, Some, None, option_map, refl, ap, sym, subst, inl, inr, arith, append-nil}
use Rattle.std.proofs.lemmas.Option.{none-some}
use Rattle.reservation_tree.specs.declared.errors.PoolErr.{PoolErr}
use Rattle.pool_model.specs.declared.call.Call.TheVariants as call
use Rattle.store_api.specs.Tokens.{PageToken}
use Rattle.store_api.specs.Holdings.{Holdings, unused_of}
use Rattle.store_api.specs.Entries.{IsPin, IsRefusal, Made}
use Rattle.store_api.specs.Signs.{Grows, Signs}
use Rattle.tuple_stream.specs.Streamed.{OpenPage, Streamed, len_in}
use Rattle.tuple_stream.specs.Streams.{HasRows, IsOpenAt, IsShaped}
use Rattle.std.specs.Bool.{⊤}
use Rattle.store_api.specs.Refusals.{WasRefused}
use Rattle.tuple_stream.specs.Steps.{Lays, Opens, scene}
use Rattle.tuple_stream.proofs.BuildingQuiet.{pin_creates, refused_creates}
use Rattle.tuple_stream.proofs.ReadingEvents.{pin_pins, pin_pins_first, refused_pins_first}
use Rattle.tuple_stream.proofs.Going.{AreStill, went_still}
use Rattle.tuple_stream.proofs.Pinning as pinning
use Rattle.tuple_stream.proofs.Pinning.{pinned_turns, pinned_shows, pinned_fits, pinned_touches}
use Rattle.tuple_stream.proofs.Sinces.{since_so, since_made}
use Rattle.tuple_stream.proofs.Turned.{Turns, with_pinned, turned_shape, turned_has, turned_places}

-- none is pinned, so not this one
pub not_open : (s : Streamed) (place : ℕ) → s.pinned ≡ None → IsOpenAt place s → ⊥
not_open s place closed open_is = none-some place (sym (ap (option_map (λ (p : OpenPage). p.place)) closed) ∙ open_is)

module _ {t : ℕ} {s : Streamed} {page : OpenPage} {p : PageToken} {old new : Holdings} (is : IsShaped t s old) (pin : pinning.IsPin s page p old new) where
  turns : Turns s (Some page) page.place p old new
  turns = pinned_turns t s page p old new is pin

  shown : (old.told ≡ true) ⊎ IsOpenAt page.place s → old.told ≡ true
  shown sure = elim sure [ inl tells ↦ tells | inr open_is ↦ absurd (not_open s page.place pin.closed open_is) ]

  pub pinned_went : (now : Streamed) (client maker : ℕ) (before after : Signs) → now ≡ with_pinned (Some page) s → page.place < length s.pages → len_in s old ≤ unused_of t old
      → Made maker (IsPin client old p.name) before after → Grows before after → Opens page.place t (scene s old before) (scene now new after)
  pinned_went now client maker before after same inside room made grows =
      subst (λ (r : Streamed). Opens page.place t (scene s old before) (scene r new after)) (sym same)
      (record {
        step = record {
          shape = turned_shape t s (Some page) page.place p old new is turns (record { inside = inside; fits = pinned_fits t s page p old new is pin });
          sized = refl;
          touches = pinned_touches t s page p old new is pin room;
          trail = since_so (IsPin client old p.name) (Lays (IsOpenAt page.place s) ⊤ (scene s old before) (scene (with_pinned (Some page) s) new after)) before.trail after.trail
              (λ made are. record {
                creates = let none = pin_creates client old p.name made are in omega (arith, none);
                building = λ open_is. absurd (not_open s page.place pin.closed open_is);
                left = λ open_is. absurd (not_open s page.place pin.closed open_is);
                reads = λ reading closed. record { first = pin_pins_first client old p.name made are; pinned = inl (pin_pins client old p.name made are) };
              })
              (since_made (IsPin client old p.name) maker before after made);
          grows = grows;
        };
        spent = refl;
        counted = omega arith;
        within = λ place is_in. record { page_is = is_in.page_is; row_is = is_in.row_is };
        rows = λ rows sure has.
            subst (λ (rs : List (List ℕ)). HasRows rs (with_pinned (Some page) s) new) (sym (append-nil rows))
            (turned_has t s (Some page) page.place p old new is turns (pinned_shows t s page p old new is pin (shown sure)) rows has);
        places = λ rows sure has. turned_places t s (Some page) page.place p old new is turns (pinned_shows t s page p old new is pin (shown sure));
      })

-- the pin is refused
pub unpinned_went : (t place : ℕ) (s : Streamed) (old new : Holdings) (client p : ℕ) (e : PoolErr) (before after : Signs) → IsShaped t s old → s.pinned ≡ None
    → WasRefused client (call.Pin p) old new before after e → Grows before after → Opens place t (scene s old before) (scene s new after)
unpinned_went t place s old new client p e before after is closed refused grows =
    went_still t (scene s old before) (scene s new after) is refl refused.held
    (since_so (IsRefusal client old (call.Pin p) e) (AreStill (IsOpenAt place s) ⊤) before.trail after.trail
    (λ events are. record {
      creates = refused_creates client old p e events are;
      quiet = λ open_is. absurd (not_open s place closed open_is);
      first = λ reading. refused_pins_first client old p e events are;
    })
    (since_made (IsRefusal client old (call.Pin p) e) old.session before after refused.entries)) grows
