-- A page in a job is counted as it was, whatever others do.
use Rattle.std.proofs.Common.{◌≡◌, ◌≢◌, ℕ, List, [], ◌∷◌, ◌++◌, true, false, Some, sym, ap, ◌∙◌, subst, refl, inl, inr}
use Rattle.std.proofs.lemmas.Bool.{false≢true}
use Rattle.std.proofs.lemmas.List.{append_cancel_left}
use Rattle.std.specs.FinMap.{get}
use Rattle.pool_model.specs.declared.event.Event.{Event}
use Rattle.pool_model.specs.declared.event.Event.TheVariants.{PinLoad, StartWrite}
use Rattle.pool_model.specs.declared.entry.Entry.{Entry}
use Rattle.pool_model.specs.State.{Opening, Place, Dirty, Evicted, Page, State}
use Rattle.pool_model.specs.MayFollow.{Allows}
use Rattle.pool_model.specs.Effects.{after}
use Rattle.pool_model.specs.Legal.{Follow, state_after, IsLegal}
use Rattle.pool_model.specs.Sound.{IsSound}
use Rattle.pool_model.proofs.Seats.{some_is}
use Rattle.pool_model.proofs.Kept.{entry_sound, legal_sound}
use Rattle.pool_model.proofs.Fronts.{legal_fronts, legal_grows_so}
use Rattle.session_calls.specs.declared.count.Count.{Count}
use Rattle.session_calls.specs.Having.{AllBeside}
use Rattle.session_calls.specs.Moving.{is_moving}
use Rattle.session_calls.specs.Outgoing.{no_tally, page_out, pages_counted, pages_out, tally_or}
use Rattle.session_calls.proofs.CountLists.{NoneIs, counted_append, none_both, out_append, tally_append, tally_kept}
use Rattle.session_calls.proofs.Lasts.{IsInJob, page_stays}

moves : (m : ℕ) (x : Page) → IsInJob m x → is_moving x.place ≡ true
moves m x (inl flies) = ap is_moving flies
moves m x (inr loads) = ap is_moving loads.0

module _ (m p : ℕ) (x : Page) (job : IsInJob m x) where
  -- a page that is in no job is another
  apart : (s : State) → get s.pages p ≡ Some x → (q : ℕ) (y : Page) → get s.pages q ≡ Some y → (place : Place) → y.place ≡ place → is_moving place ≡ false → q ≢ p
  apart s is q y there place at still same =
      let one : y ≡ x = some_is y x (sym there ∙ ap (get s.pages) same ∙ is) in
      false≢true (sym still ∙ ap is_moving (sym at) ∙ ap (λ (z : Page). is_moving z.place) one ∙ moves m x job)

  not_out : (before : List Entry) (s : State) (maker : ℕ) (event : Event) → Allows before s maker event → get s.pages p ≡ Some x → NoneIs p (page_out event)
  not_out before s maker (PinLoad q) may is = (apart s is q may.page may.own.lives Evicted may.evicted refl, tt)
  not_out before s maker (StartWrite q) may is = (apart s is q may.page may.lives Dirty may.dirty refl, tt)
  not_out before s maker _ may is = tt

  never_out : (h : List Entry) (s : State) (others : List Entry) → IsSound s → Follow h s others → AllBeside m others → get s.pages p ≡ Some x → NoneIs p (pages_out others)
  never_out h s [] sound follow beside is = tt
  never_out h s (e ∷ others) sound follow beside is =
      none_both p (page_out e.event) (pages_out others) (not_out h s e.maker e.event follow.0.allows is)
      (never_out (h ++ e ∷ []) (after s e) others (entry_sound h s sound e follow.0) follow.1 beside.1 (page_stays h s e m p x sound follow.0 beside.0 is job))

-- its tally is what it was, whatever others did
pub tally_lasts : (o : Opening) (h others : List Entry) (m : ℕ) (counts went : List Count) → IsLegal o (h ++ others) → AllBeside m others
    → pages_counted counts ≡ pages_out h → pages_counted (counts ++ went) ≡ pages_out (h ++ others)
    → (p : ℕ) (x : Page) → get (state_after o h).pages p ≡ Some x → IsInJob m x → tally_or no_tally p (counts ++ went) ≡ tally_or no_tally p counts
tally_lasts o h others m counts went legal beside was now p x is job =
    let same : pages_counted went ≡ pages_out others =
    append_cancel_left (pages_out h) (pages_counted went) (pages_out others)
    (ap (λ (pages : List ℕ). pages ++ pages_counted went) (sym was) ∙ sym (counted_append counts went) ∙ now ∙ out_append h others) in
    tally_append no_tally p counts went
    ∙ tally_kept (tally_or no_tally p counts) p went
    (subst (NoneIs p) (sym same) (never_out m p x job h (state_after o h) others (legal_sound o h (legal_fronts o h others legal)) (legal_grows_so o h others legal) beside is))
