-- What the pages in jobs weigh, when a page's slots go out and when they come back.
use Rattle.std.proofs.Common.{◌≡◌, ℕ, ◌+◌, List, [], ◌∷◌, ◌++◌, Bool, false, if◌then◌else◌, Some, refl, ap, sym, ◌∙◌, subst, inl, inr}
use Rattle.std.specs.FinMap.{get}
use Rattle.reservation_tree.proofs.Maps.{same_or_other}
use Rattle.reservation_tree.proofs.Sums.{total-same}
use Rattle.pool_model.specs.declared.event.Event.{Event}
use Rattle.pool_model.specs.declared.event.Event.TheVariants.{PinLoad, ReadOk, ReadFailed, ReadStale, StartWrite, WriteOk, WriteFailed}
use Rattle.pool_model.specs.declared.entry.Entry.{Entry}
use Rattle.pool_model.specs.State.{Place, Dirty, Evicted, Page, Pages, page_at, State}
use Rattle.pool_model.specs.MayFollow.{MayFollow}
use Rattle.pool_model.specs.Effects.{after}
use Rattle.pool_model.proofs.Seats.{some_is}
use Rattle.pin_core.specs.declared.tally.Tally.{Tally}
use Rattle.session_calls.specs.declared.count.Count.{Count}
use Rattle.session_calls.specs.declared.count.Count.TheVariants.{Out}
use Rattle.session_calls.specs.Moving.{is_moving}
use Rattle.session_calls.specs.Outgoing.{no_tally, number_out, page_out, tally_or}
use Rattle.session_calls.proofs.CountLists.{tally_other}
use Rattle.session_calls.proofs.Out.{out_by, out_started, out_loading, back_written, back_unwritten, back_read, back_unread, back_outdated}

-- the event ends a job of this page
abbrev pub EndsJob : ℕ → Event → Type 0
EndsJob p (ReadOk q) = q ≡ p
EndsJob p (ReadFailed q before now) = q ≡ p
EndsJob p (ReadStale q wanted found) = q ≡ p
EndsJob p (WriteOk q) = q ≡ p
EndsJob p (WriteFailed q before now) = q ≡ p
EndsJob p _ = ⊥

pub end_out : (p : ℕ) (end : Event) → EndsJob p end → page_out end ≡ []
end_out p (PinLoad q) ends = absurd ends
end_out p (StartWrite q) ends = absurd ends
end_out p _ ends = refl

only : (q p : ℕ) → q ∷ [] ≡ p ∷ [] → q ≡ p
only q p same = cc

module _ (h : List Entry) (s : State) (m p : ℕ) where
  abbrev made : Event → Entry
  made event = record { maker = m; event = event }

  -- what stands in a place that is no job's is in no job
  at_rest : (q : ℕ) → q ≡ p → (y : Page) → get s.pages q ≡ Some y → (place : Place) → y.place ≡ place → is_moving place ≡ false → (x : Page) → get s.pages p ≡ Some x → is_moving x.place ≡ false
  at_rest q same y there place at still x is =
      let one : x ≡ y = some_is x y (sym is ∙ ap (get s.pages) (sym same) ∙ there) in
      ap (λ (z : Page). is_moving z.place) one ∙ ap is_moving at ∙ still

  -- a page that goes out was in no job
  pub was_home : (out : Event) → page_out out ≡ p ∷ [] → MayFollow h s (made out) → (x : Page) → get s.pages p ≡ Some x → is_moving x.place ≡ false
  was_home (PinLoad q) goes may = at_rest q (only q p goes) may.allows.page may.allows.own.lives Evicted may.allows.evicted refl
  was_home (StartWrite q) goes may = at_rest q (only q p goes) may.allows.page may.allows.lives Dirty may.allows.dirty refl
  was_home _ goes may = let never : [] ≡ p ∷ [] = goes in cc

  module _ (w : ℕ → ℕ → ℕ) where
    abbrev Grows : Event → ℕ → Type 0
    Grows event q = out_by w (after s (made event)).pages ≡ out_by w s.pages + w q (page_at s q).blocks

    abbrev Falls : Event → ℕ → Type 0
    Falls event q = out_by w (after s (made event)).pages + w q (page_at s q).blocks ≡ out_by w s.pages

    pub goes_out : (out : Event) → page_out out ≡ p ∷ [] → MayFollow h s (made out) → out_by w (after s (made out)).pages ≡ out_by w s.pages + w p (page_at s p).blocks
    goes_out (PinLoad q) goes may = subst (Grows (PinLoad q)) (only q p goes) (out_loading w h s m q may)
    goes_out (StartWrite q) goes may = subst (Grows (StartWrite q)) (only q p goes) (out_started w h s m q may)
    goes_out _ goes may = let never : [] ≡ p ∷ [] = goes in cc

    pub comes_back : (end : Event) → EndsJob p end → MayFollow h s (made end) → out_by w (after s (made end)).pages + w p (page_at s p).blocks ≡ out_by w s.pages
    comes_back (ReadOk q) ends may = subst (Falls (ReadOk q)) ends (back_read w h s m q may)
    comes_back (ReadFailed q before now) ends may = subst (Falls (ReadFailed q before now)) ends (back_unread w h s m q before now may)
    comes_back (ReadStale q wanted found) ends may = subst (Falls (ReadStale q wanted found)) ends (back_outdated w h s m q wanted found may)
    comes_back (WriteOk q) ends may = subst (Falls (WriteOk q)) ends (back_written w h s m q may)
    comes_back (WriteFailed q before now) ends may = subst (Falls (WriteFailed q before now)) ends (back_unwritten w h s m q before now may)
    comes_back _ ends may = absurd ends

-- a count of a page that is in no job changes nothing of those that are
pub number_kept : (number : Tally → ℕ) (counts : List Count) (p : ℕ) (t : Tally) (pages : Pages) → ((x : Page) → get pages p ≡ Some x → is_moving x.place ≡ false)
    → number_out number (counts ++ Out p t ∷ []) pages ≡ number_out number counts pages
number_kept number counts p t pages home =
    let later : ℕ → ℕ = λ q. number (tally_or no_tally q (counts ++ Out p t ∷ [])) in
    let now : ℕ → ℕ = λ q. number (tally_or no_tally q counts) in
    total-same (λ q x. if is_moving x.place then later q else 0) (λ q x. if is_moving x.place then now q else 0) pages
    (λ q x is. elim (same_or_other p q) as (λ _. (if is_moving x.place then later q else 0) ≡ (if is_moving x.place then now q else 0)) [
      | inl same ↦
          let still : is_moving x.place ≡ false = home x (ap (get pages) same ∙ is) in
          ap (λ (b : Bool). if b then later q else 0) still ∙ sym (ap (λ (b : Bool). if b then now q else 0) still)
      | inr apart ↦ ap (λ (u : Tally). if is_moving x.place then number u else 0) (tally_other counts p q t apart)
    ])
