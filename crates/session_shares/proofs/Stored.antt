-- What was stored of a session's pages, as a history grows.
use Rattle.std.proofs.Common.{◌≡◌, ℕ, ◌+◌, ◌≤◌, List, [], ◌∷◌, ◌++◌, if◌then◌else◌, Option, Some, None, le_of_eq, refl, ap, sym, arith}
use Rattle.std.specs.List.{sum_by}
use Rattle.std.proofs.lemmas.List.Sums.{sum_by-cons, sum_by-append}
use Rattle.pool_model.specs.declared.event.Event.{Event}
use Rattle.pool_model.specs.declared.event.Event.TheVariants.{WriteOk}
use Rattle.pool_model.specs.declared.entry.Entry.{Entry}
use Rattle.pool_model.specs.Failures.{is_own}
use Rattle.pool_model.specs.LookingBack.{Made, maker_of}
use Rattle.pool_model.proofs.Made.{still_made}
use Rattle.pin_core.specs.Tallies.{blocks_of}
use Rattle.session_shares.specs.Shares.{stored_for, written_for}

module _ (m : ℕ) where
  -- the blocks of a page as it was made, where it is this session's
  abbrev blocks_for : Option Made → ℕ
  blocks_for found = if is_own m found then blocks_of found else 0

  stored_more : (h more : List Entry) (e : Event) → stored_for m h e ≤ stored_for m (h ++ more) e
  stored_more h more (WriteOk p) = elim (maker_of h p) as (λ o. maker_of h p ≡ o → blocks_for o ≤ blocks_for (maker_of (h ++ more) p)) [
    | None ↦ λ none. omega arith
    | Some n ↦ λ known. le_of_eq (ap blocks_for (sym (still_made h more p n known)))
  ] refl
  stored_more h more _ = omega arith

  all_stored_more : (h more es : List Entry) → sum_by (λ e. stored_for m h e.event) es ≤ sum_by (λ e. stored_for m (h ++ more) e.event) es
  all_stored_more h more [] = omega arith
  all_stored_more h more (e ∷ es) =
      let old = sum_by-cons (λ (d : Entry). stored_for m h d.event) e es in
      let new = sum_by-cons (λ (d : Entry). stored_for m (h ++ more) d.event) e es in
      let first = stored_more h more e.event in
      let rest = all_stored_more h more es in
      omega (arith, old, new, first, rest)

  -- what was stored stays stored, and more entries add what they store
  pub written_more : (h more : List Entry) → written_for m h + sum_by (λ e. stored_for m (h ++ more) e.event) more ≤ written_for m (h ++ more)
  written_more h more =
      let old = all_stored_more h more h in
      let both = sum_by-append (λ (e : Entry). stored_for m (h ++ more) e.event) h more in
      omega (arith, old, both)
