-- No place is left out.
use Rattle.std.proofs.Common.{◌≡◌, ◌≢◌, ℕ, ◌+◌, ◌<◌, false, eqb, List, length, is_some, ap, sym, ◌∙◌, inl, inr, arith}
use Rattle.std.proofs.lemmas.Bool.{cases_Bool, cases_lt, eq-eqb, false≢true}
use Rattle.pool.specs.declared.account.ClientAccount.{ClientAccount}
use Rattle.pool.specs.Unused.{tracker_at, unused_in}
use Rattle.pool.proofs.Places.{tracker_has_place}
use Rattle.tests_sessions.proofs.tests.accounts.has.Goals as goal

module _ (accounts : List ClientAccount) (t : ℕ) where
  nowhere : ((p : ℕ) → p < length accounts → tracker_at accounts p ≢ t) → is_some (unused_in accounts t) ≡ false
  nowhere apart = elim (cases_Bool (is_some (unused_in accounts t))) [
    | inl there ↦ let at = tracker_has_place accounts t there in absurd (apart at.0 at.1 at.2)
    | inr is ↦ is
  ]

  one_more : (place k : ℕ) → k ≡ tracker_at accounts place → eqb k t ≡ false → ((p : ℕ) → p < place → tracker_at accounts p ≢ t) → (p : ℕ) → p < place + 1 → tracker_at accounts p ≢ t
  one_more place k read other so_far p within same = elim (cases_lt p place) [
    | inl before ↦ so_far p before same
    | inr last ↦
        let here : p ≡ place = omega (arith, within, last) in
        false≢true (sym other ∙ eq-eqb k t (read ∙ ap (tracker_at accounts) (sym here) ∙ same))
  ]

pub returns : goal.returns
returns c = sym (nowhere c.args.accounts.now c.args.tracker (λ p within. c.loop-place.invariant p (omega (arith, within, c.len-place-end.ensures.count, c.loop-place-test.false))))

pub loop-place-preserved : goal.loop-place-preserved
loop-place-preserved c = one_more c.args.accounts.now c.args.tracker c.loop-place.place c.tracker.result c.tracker.ensures.tracker (sym c.eq.ensures ∙ c.if-eq.false) c.loop-place.invariant
