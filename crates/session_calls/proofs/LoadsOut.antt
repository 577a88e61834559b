-- The slots of a page go out with its load.
use Rattle.std.proofs.Common.{◌≡◌, ℕ, ◌+◌, List, [], ◌∷◌, ◌++◌, true, refl, sym, ap, ◌∙◌, subst, arith}
use Rattle.std.proofs.lemmas.List.{append_assoc}
use Rattle.std.specs.List.{AllByRecursion}
use Rattle.pool_model.specs.declared.event.Event.TheVariants.{PinLoad}
use Rattle.pool_model.specs.declared.entry.Entry.{Entry}
use Rattle.pool_model.specs.State.{Opening, Loading, State, page_at}
use Rattle.pool_model.specs.Effects.{after}
use Rattle.pool_model.specs.Legal.{state_after, IsLegal}
use Rattle.pool_model.specs.MayFollow.{MayFollow}
use Rattle.pool_model.proofs.Fronts.{legal_fronts, legal_grows_so, state_runs_on}
use Rattle.pin_core.specs.calls.Evictions.{evictions}
use Rattle.session_calls.specs.Moving.{rests, slots_out}
use Rattle.session_calls.proofs.Fetching.{put_alike}
use Rattle.session_calls.proofs.Out.{out_run, out_loading}

evictions_rest : (m : ℕ) (names : List ℕ) → AllByRecursion (λ e. rests e.event ≡ true) (evictions m names)
evictions_rest m [] = tt
evictions_rest m (n ∷ names) = (refl, evictions_rest m names)

-- whatever clean pages go before
module _ (o : Opening) (h : List Entry) (m : ℕ) (names : List ℕ) (p : ℕ) (legal : IsLegal o (h ++ (evictions m names ++ record { maker = m; event = PinLoad p } ∷ []))) where
  abbrev loading : Entry
  loading = record { maker = m; event = PinLoad p }

  abbrev front_gone : List Entry
  front_gone = h ++ evictions m names

  split : h ++ (evictions m names ++ loading ∷ []) ≡ front_gone ++ loading ∷ []
  split = sym (append_assoc h (evictions m names) (loading ∷ []))

  legal_split : IsLegal o (front_gone ++ loading ∷ [])
  legal_split = subst (IsLegal o) split legal

  may_load : MayFollow front_gone (state_after o front_gone) loading
  may_load = (legal_grows_so o front_gone (loading ∷ []) legal_split).0

  last_is : state_after o (h ++ (evictions m names ++ loading ∷ [])) ≡ after (state_after o front_gone) loading
  last_is = ap (state_after o) split ∙ state_runs_on o front_gone (loading ∷ [])

  blocks_same : (page_at (state_after o front_gone) p).blocks ≡ (page_at (state_after o (h ++ (evictions m names ++ loading ∷ []))) p).blocks
  blocks_same = sym (ap (λ (s : State). (page_at s p).blocks) last_is ∙ put_alike (λ y. y.blocks) (λ y at. refl) (state_after o front_gone).pages p Loading p)

  pub out_fetching : slots_out (state_after o (h ++ (evictions m names ++ loading ∷ []))).pages ≡ slots_out (state_after o h).pages + (page_at (state_after o (h ++ (evictions m names ++ loading ∷ []))) p).blocks
  out_fetching =
      let gone : slots_out (state_after o front_gone).pages ≡ slots_out (state_after o h).pages = out_run (λ p b. b) o h (evictions m names) (legal_fronts o front_gone (loading ∷ []) legal_split) (evictions_rest m names) in
      let went : slots_out (after (state_after o front_gone) loading).pages ≡ slots_out (state_after o front_gone).pages + (page_at (state_after o front_gone) p).blocks = out_loading (λ p b. b) front_gone (state_after o front_gone) m p may_load in
      let last : slots_out (state_after o (h ++ (evictions m names ++ loading ∷ []))).pages ≡ slots_out (after (state_after o front_gone) loading).pages = ap (λ (s : State). slots_out s.pages) last_is in
      let same = blocks_same in
      omega (arith, gone, went, last, same)
