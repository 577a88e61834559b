-- Each live buffer is charged to a live client of a session.
use Rattle.std.proofs.Common.{◌≡◌, ℕ, false, Some, None, List, refl, ap, sym, ◌∙◌, subst, inl, inr, ne_eqb}
use Rattle.std.specs.Ordering.{nat_cmp}
use Rattle.std.specs.FinMap.{get, insert, remove, get-empty}
use Rattle.reservation_tree.proofs.Maps.{get_same, get_other, removed_same, removed_other, same_or_other}
use Rattle.pool_model.specs.declared.event.Event.{Event}
use Rattle.pool_model.specs.declared.event.Event.TheVariants.{AddTracker, CloseTracker, Extract, Alloc, Free, MoveBuffer}
use Rattle.pool_model.specs.declared.entry.Entry.{Entry}
use Rattle.pool_model.specs.State.{Page, Buffer, State}
use Rattle.pool_model.specs.Owning.{IsClientOf}
use Rattle.pool_model.specs.Failures.{closes}
use Rattle.pool_model.specs.MayFollow.{Allows, MayFollow}
use Rattle.pool_model.specs.Effects.{effect, after}
use Rattle.pool_model.specs.Sound.{IsSound}
use Rattle.pool_model.specs.Legal.{state_after}
use Rattle.pool_model.proofs.Failures.{counted_client, PagesOwned, owned_on}
use Rattle.pool_model.proofs.Fronts.{holds_after}
use Rattle.pool_model.proofs.Owners.{still_client}
use Rattle.pool_model.proofs.Pages.{page_is}
use Rattle.pool_model.proofs.Seats.{some_is}
use Rattle.pin_core.specs.Invariant.{HasHistory}

-- some session's client, that an event doesn't end
record IsOwnedOn (s : State) (c : ℕ) (event : Event) : Type 0 where
  session : ℕ
  own : IsClientOf s session c
  stays : closes c event ≡ false

pub record IsOwned (s : State) (c : ℕ) : Type 0 where
  pub session : ℕ
  pub own : IsClientOf s session c

abbrev BuffersOwned : State → Type 0
BuffersOwned s = (f : ℕ) (x : Buffer) → get s.buffers f ≡ Some x → IsOwned s x.client

module _ (s : State) (maker : ℕ) (buffers : BuffersOwned s) (f : ℕ) (x : Buffer) where
  -- a buffer that was there, and whose client stays
  was_owned : (event : Event) → closes x.client event ≡ false → get s.buffers f ≡ Some x → IsOwnedOn s x.client event
  was_owned event stays is = let o = buffers f x is in record { session = o.session; own = o.own; stays = stays }

  -- a buffer that came or changed hands
  put_owned : (event : Event) (g session : ℕ) (y : Buffer) → ((c : ℕ) → closes c event ≡ false) → IsClientOf s session y.client → get (insert s.buffers g y) f ≡ Some x → IsOwnedOn s x.client event
  put_owned event g session y stays own is = elim (same_or_other f g) [
    | inl here ↦
        let same : y ≡ x = some_is y x (sym (get_same s.buffers g y) ∙ ap (get (insert s.buffers g y)) (sym here) ∙ is) in
        subst (λ (z : Buffer). IsOwnedOn s z.client event) same (record { session = session; own = own; stays = stays y.client })
    | inr other ↦ was_owned event (stays x.client) (sym (get_other s.buffers g y f other) ∙ is)
  ]

  owned_then : (before : List Entry) → PagesOwned s → (event : Event) → Allows before s maker event → get (effect maker event s).buffers f ≡ Some x → IsOwnedOn s x.client event
  owned_then before pages (Extract p g) may is =
      let same = page_is s p may.page may.own.lives in
      put_owned (Extract p g) g may.page.session (record { client = may.page.client; blocks = may.page.blocks }) (λ c. refl) (pages p may.page may.own.lives)
      (subst (λ (y : Page). get (insert s.buffers g (record { client = y.client; blocks = y.blocks })) f ≡ Some x) same is)
  owned_then before pages (Alloc g client blocks) may is = put_owned (Alloc g client blocks) g maker (record { client = client; blocks = blocks }) (λ c. refl) may.own is
  owned_then before pages (MoveBuffer g to) may is = put_owned (MoveBuffer g to) g maker _ (λ c. refl) may.own_to is
  owned_then before pages (Free g) may is = elim (same_or_other f g) [
    | inl here ↦ let none : None ≡ Some x = sym (removed_same s.buffers g) ∙ ap (get (remove s.buffers g)) (sym here) ∙ is in cc
    | inr other ↦ was_owned (Free g) refl (sym (removed_other s.buffers g f other) ∙ is)
  ]
  owned_then before pages (CloseTracker t) may is = was_owned (CloseTracker t) (ne_eqb t x.client (λ same. may.no_buffer f x is (sym same))) is
  owned_then before pages (AddTracker t parent limit (Some quota)) may is = was_owned (AddTracker t parent limit (Some quota)) refl is
  owned_then before pages (AddTracker t parent limit None) may is = was_owned (AddTracker t parent limit None) refl is
  owned_then before pages event may is = was_owned event refl is

abbrev AllOwned : State → Type 0
AllOwned s = PagesOwned s × BuffersOwned s

all_on : (before : List Entry) (s : State) → IsSound s → AllOwned s → (e : Entry) → MayFollow before s e → AllOwned (after s e)
all_on before s sound owned e may = (
  owned_on before s sound owned.0 e may,
  λ f x is.
      let was = owned_then s e.maker owned.1 f x before owned.0 e.event may.allows is in
      record { session = was.session; own = counted_client (effect e.maker e.event s) was.session x.client (still_client before s sound e.maker e.event may.allows was.session x.client was.own was.stays) },
)

-- the client of a live buffer
pub buffer_owned : (s : State) → HasHistory s → (f : ℕ) (x : Buffer) → get s.buffers f ≡ Some x → IsOwned s x.client
buffer_owned s has f x is =
    let all : AllOwned (state_after has.opening has.history) =
    holds_after (λ _ z. AllOwned z) all_on has.opening (λ p y there. (let none : None ≡ Some y = sym (get-empty nat_cmp p) ∙ there in cc), λ g y there. (let none : None ≡ Some y = sym (get-empty nat_cmp g) ∙ there in cc)) has.history has.legal in
    let owned : AllOwned s = subst AllOwned (sym has.after) all in
    owned.1 f x is
