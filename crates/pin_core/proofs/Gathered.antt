-- How the loads of a job ended, and what follows of its buffer and its slots.
use Rattle.std.proofs.Common.{◌≡◌, ℕ, ◌+◌, ◌*◌, ◌<◌, ◌≤◌, Bool, true, false, List, length, Option, Some, None, Ok, Err, refl, sym, ap, ◌∙◌, subst, inl, inr, arith}
use Rattle.std.specs.List.{slice_range, slice_index_or}
use Rattle.std.specs.Result.{is_err}
use Rattle.std.proofs.lemmas.Bool.{false≢true, cases_lt}
use Rattle.outside.specs.Counts.{Rose}
use Rattle.outside.specs.declared.slot.Slot.{Ghosts}
use Rattle.reservation_tree.specs.declared.mark.Mark.{Mark}
use Rattle.scratch_dev.specs.Rows.{MarkedEnded, GaveOther, RoseIfFailed, Walked, mark_of}
use Rattle.scratch_dev.specs.declared.marked.LoadErr.TheVariants as loading
use Rattle.pool_model.specs.ScratchRows.{IsFault}
use Rattle.pin_core.specs.declared.jobs.Stale.{Stale}
use Rattle.pin_core.specs.Standing.{AreHeld}
use Rattle.pin_core.specs.calls.Runs.{AllTell, AllGiveHeld, IfFoundOther, IsLoadedAs, load_end}
use Rattle.pin_core.proofs.Shown.{some_of}
use Rattle.pin_core.proofs.Rowed.{none_stale}

none_some : (stale : Stale) → None ≡ Some stale → ⊥
none_some stale is = let bad : None ≡ Some stale = is in cc

-- no load failed, and none found another mark
pub well_is : (r : MarkedEnded) (failed : Bool) (stale : Option Stale) → failed ≡ (load_end r).0 → stale ≡ (load_end r).1 → failed ≡ false → stale ≡ None → is_err r ≡ false
well_is (Ok u) failed stale f s unfailed none = refl
well_is (Err loading.Failed) failed stale f s unfailed none = absurd (false≢true (sym unfailed ∙ f))
well_is (Err (loading.Stale wanted found)) failed stale f s unfailed none = absurd (none_some (record { wanted = wanted; found = found }) (sym none ∙ s))

rose_fault : (before now : ℕ) → before ≤ now → Rose before now → IsFault before now
rose_fault before now at_least rose = elim (cases_lt before now) [
  | inl more ↦ inl more
  | inr same ↦ elim (cases_lt now 18446744073709551615) [
    | inl below ↦ inl (rose below)
    | inr last ↦ inr (omega (arith, at_least, same, last), omega (arith, at_least, same))
  ]
]

-- a failure raised the sum of the counts
pub fault_is : (r : MarkedEnded) (failed : Bool) (before now : ℕ) → failed ≡ (load_end r).0 → before ≤ now → RoseIfFailed r before now → failed ≡ true → IsFault before now
fault_is (Ok u) failed before now f at_least rose yes_it_did = absurd (false≢true (sym f ∙ yes_it_did))
fault_is (Err loading.Failed) failed before now f at_least rose yes_it_did = rose_fault before now at_least rose
fault_is (Err (loading.Stale wanted found)) failed before now f at_least rose yes_it_did = absurd (false≢true (sym f ∙ yes_it_did))

module _ {D : Type 0} (slot : Ghosts D) (under : Option ℕ) (name : ℕ) (before now : List D) (shown : ℕ → List ℕ) where
  found_one : (u : Option ℕ) → u ≡ under → (wanted found : Mark) → Walked (λ i. IsLoadedAs slot u name i (shown i)) (Err (loading.Stale wanted found)) before now → IfFoundOther under name (length before) (Some (record { wanted = wanted; found = found }))
  found_one None is wanted found walked = absurd (walked.1.here (some_of before walked.0 walked.1.inside))
  found_one (Some version) is wanted found walked =
      let both : (wanted ≡ mark_of name version walked.0) × GaveOther slot (length (shown walked.0)) wanted found (slice_index_or before walked.0 (some_of before walked.0 walked.1.inside)) (slice_index_or now walked.0 (some_of before walked.0 walked.1.inside)) =
      walked.1.here (some_of before walked.0 walked.1.inside) in
      let block : wanted.block ≡ walked.0 = ap (λ (m : Mark). m.block) both.0 in
      record {
        version = sym is ∙ ap (λ (m : Mark). Some m.version) (sym both.0);
        name_is = ap (λ (m : Mark). m.name) both.0;
        block = subst (λ (n : ℕ). n < length before) (sym block) walked.1.inside;
        other = both.1.other;
      }

  -- the mark that was wanted is that of one of the blocks
  pub found_is : (r : MarkedEnded) (stale : Option Stale) → stale ≡ (load_end r).1 → Walked (λ i. IsLoadedAs slot under name i (shown i)) r before now → IfFoundOther under name (length before) stale
  found_is (Ok u) stale s walked = subst (IfFoundOther under name (length before)) (sym s) tt
  found_is (Err loading.Failed) stale s walked = subst (IfFoundOther under name (length before)) (sym s) tt
  found_is (Err (loading.Stale wanted found)) stale s walked = subst (IfFoundOther under name (length before)) (sym s) (found_one under refl wanted found walked)

-- no other mark was found where all slots gave what they hold
pub fresh_is : {D : Type 0} (slot : Ghosts D) (under : Option ℕ) (name len n : ℕ) (r : MarkedEnded) (stale : Option Stale) (before now : List D) (shown : List ℕ) → stale ≡ (load_end r).1
    → Walked (λ i. IsLoadedAs slot under name i (slice_range shown (i * len) (i * len + len))) r before now → n ≡ length before → length shown ≡ n * len
    → AllTell slot before → AllGiveHeld slot before now → (bytes : List ℕ) → length bytes ≡ n * len → AreHeld slot under name len before bytes → stale ≡ None
fresh_is slot under name len n (Ok u) stale before now shown s walked count long tell gives bytes same held = s
fresh_is slot under name len n (Err loading.Failed) stale before now shown s walked count long tell gives bytes same held = s
fresh_is slot under name len n (Err (loading.Stale wanted found)) stale before now shown s walked count long tell gives bytes same held =
    absurd (none_stale slot under name len n wanted found before now shown walked count long bytes same tell gives held)
