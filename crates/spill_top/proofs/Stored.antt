-- What a query laid on pages of its own pool, and what the pool's slots stored of it.
use Rattle.std.proofs.Common.{◌≡◌, ◌∙◌, ◌+◌, ◌-◌, ◌*◌, ◌≤◌, ◌++◌, ℕ, List, [], ◌∷◌, All, min, Option, Some, None, refl, sym, ap, subst, arith, append_assoc}
use Rattle.std.specs.List.{IsDistinct}
use Rattle.std.proofs.Math.Nat.{mul-le-mul_right}
use Rattle.std.proofs.lemmas.List.Elements.{All-cons}
use Rattle.std.proofs.lemmas.List.Sums.{sum_by-cons}
use Rattle.std.proofs.lemmas.Option.{same_Some}
use Rattle.pool_model.specs.Bytes.{bytes_of}
use Rattle.pool_model.specs.declared.entry.Entry.{Entry}
use Rattle.pool_model.specs.declared.event.Event.{Event}
use Rattle.pool_model.specs.Legal.{IsLegal}
use Rattle.pool_model.specs.LookingBack.{made_by}
use Rattle.pool_model.specs.State.{Opening}
use Rattle.pin_core.specs.calls.Entering.{increase_entry, session_entry}
use Rattle.pin_core.specs.Tallies.{Counted, all_failures, all_stale, written_blocks}
use Rattle.pin_core.specs.declared.tally.Tally.{Tally}
use Rattle.pool.specs.Items.{history}
use Rattle.pool.specs.Seating.{beginning_items}
use Rattle.session_calls.specs.Told.{signs_in}
use Rattle.session_shares.specs.Shares.{Laid, LaidIsStored, PartsFit, written_for}
use Rattle.tuple_stream.specs.Trails.{IsBuilding, events_of}
use Rattle.query_plan.specs.declared.plan.Query.{Query}
use Rattle.query_run.specs.Both.{Told, both_told}
use Rattle.query_run.specs.Plans.{IsRunnable}
use Rattle.query_run.specs.Spilling.{KeptIsLaid, LaysBytes, LaysSpill, bytes_left, spill}
use Rattle.query_run.specs.Trail.{KeptRows}
use Rattle.spill_top.specs.Storing.{HaveStored, owed}

-- the blocks that were stored have the bytes that no memory has
beyond : (before now written block_len bytes most : ℕ) → before + written ≤ now → bytes ≤ written * block_len + most → before * block_len + (bytes - most) ≤ now * block_len
beyond before now written block_len bytes most counts fits =
    let all : (before + written) * block_len ≤ now * block_len = mul-le-mul_right block_len counts in
    omega (arith, all, fits)

-- entries whose events part so part as well
record Parted (es : List Entry) (laid : List Event) : Type 0 where
  front : List Entry
  rest : List Entry
  both : es ≡ front ++ rest
  first : events_of front ≡ laid

parted : (es : List Entry) (laid later : List Event) → events_of es ≡ laid ++ later → Parted es laid
parted es [] later is = record { front = []; rest = es; both = refl; first = refl }
parted [] (d ∷ laid) later is = let never : [] ≡ d ∷ (laid ++ later) = is in cc
parted (e ∷ es) (d ∷ laid) later is =
    let head : e.event ≡ d = ap (λ (ds : List Event). elim ds [ [] ↦ d | c ∷ cs ↦ c ]) is in
    let tail : events_of es ≡ laid ++ later = ap (λ (ds : List Event). elim ds [ [] ↦ [] | c ∷ cs ↦ cs ]) is in
    let it : Parted es laid = parted es laid later tail in
    record { front = e ∷ it.front; rest = it.rest; both = ap (λ (ds : List Entry). e ∷ ds) it.both; first = ap (λ (c : Event). c ∷ events_of it.front) head ∙ ap (λ (cs : List Event). d ∷ cs) it.first }

-- what was stored of one session's pages is no more than all that was
alone : (whole : List Entry) (m : ℕ) → PartsFit → written_for m whole ≤ written_blocks whole
unfolding IsDistinct
alone whole m law =
    let both = sum_by-cons (λ (k : ℕ). written_for k whole) m [] in
    let all = law whole (m ∷ []) (tt, tt) in
    omega (arith, both, all)

module _ (o : Opening) (whole : List Entry) (m query limit quota least : ℕ) (legal : IsLegal o whole) where
  -- where the session's entries begin with its opening, and then laid pages of so many bytes, these were stored, but for what the memory holds
  pub stored : (own went more : List Entry) (bytes : ℕ) → LaidIsStored → made_by whole m ≡ own ++ went → own ≡ history (beginning_items m query limit quota least) ++ more → LaysBytes bytes (events_of more)
      → bytes ≤ written_for m whole * o.block_len + min limit (bytes_of o.block_len o.blocks)
  stored own went more bytes law made begins lays =
      let it : Parted more lays.laid = parted more lays.laid lays.later lays.split in
      let grown : Entry = increase_entry m query least in
      let all : made_by whole m ≡ session_entry m limit quota query ∷ ((grown ∷ it.front) ++ (it.rest ++ went)) =
      made ∙ ap (λ (h : List Entry). h ++ went) begins ∙ ap (λ (h : List Entry). session_entry m limit quota query ∷ grown ∷ (h ++ went)) it.both
      ∙ ap (λ (h : List Entry). session_entry m limit quota query ∷ grown ∷ h) (append_assoc it.front it.rest went) in
      let laid : Laid o whole m limit (grown ∷ it.front) = record {
        legal = legal;
        query = query;
        quota = quota;
        later = it.rest ++ went;
        own = all;
        building = All-cons IsBuilding grown.event (events_of it.front) tt (subst (All IsBuilding) (sym it.first) lays.building);
      } in
      let fits : bytes_left (events_of it.front) ≤ written_for m whole * o.block_len + min limit (bytes_of o.block_len o.blocks) = law o whole m limit (grown ∷ it.front) laid in
      let long : bytes ≤ bytes_left (events_of it.front) = subst (λ (events : List Event). bytes ≤ bytes_left events) (sym it.first) lays.long in
      omega (arith, fits, long)

  stored_so : (plan : Query) (told : Option Told) (own went : List Entry) (before now : Tally) → limit ≡ plan.limit → LaidIsStored → PartsFit → made_by whole m ≡ own ++ went → Counted (all_failures whole) (written_blocks whole) (all_stale whole) before now
      → LaysSpill plan told (Some (history (beginning_items m query limit quota least))) (Some own) → HaveStored o.block_len (owed plan (bytes_of o.block_len o.blocks) told) before now
  stored_so plan None own went before now is law parts made counted lays = λ all.
      beyond before.stores now.stores (written_blocks whole) o.block_len 0 0 (counted.stores all) (omega arith)
  stored_so plan (Some both) own went before now is law parts made counted lays = λ all.
      let more : List Entry = lays.0 in
      let begins : own ≡ history (beginning_items m query limit quota least) ++ more = same_Some _ _ lays.1 in
      let amount : spill plan both ≤ written_for m whole * o.block_len + min limit (bytes_of o.block_len o.blocks) = stored own went more (spill plan both) law made begins lays.2 in
      let most : written_for m whole * o.block_len ≤ written_blocks whole * o.block_len = mul-le-mul_right o.block_len (alone whole m parts) in
      let least_most : spill plan both ≤ written_blocks whole * o.block_len + min plan.limit (bytes_of o.block_len o.blocks) =
      subst (λ (l : ℕ). spill plan both ≤ written_blocks whole * o.block_len + min l (bytes_of o.block_len o.blocks)) is (omega (arith, amount, most)) in
      beyond before.stores now.stores (written_blocks whole) o.block_len (spill plan both) (min plan.limit (bytes_of o.block_len o.blocks)) (counted.stores all) least_most

-- what a query kept over such a session was laid there
pub laid_over : (plan : Query) (page : ℕ) (lefts rights : Option (List ℕ)) (o : Opening) (k m : ℕ) (first last : List Entry) → KeptIsLaid → IsRunnable plan → KeptRows plan page lefts rights (signs_in o k first).trail (signs_in o m last).trail
    → LaysSpill plan (both_told lefts rights) (Some (made_by first k)) (Some (made_by last m))
unfolding signs_in
laid_over plan page lefts rights o k m first last law runs kept = law plan page lefts rights (Some (made_by first k)) (Some (made_by last m)) runs kept

-- what a query must keep beyond its memory was stored in its pool's slots
pub have_stored : (plan : Query) (page : ℕ) (lefts rights : Option (List ℕ)) (o : Opening) (k m query quota least : ℕ) (first last went whole : List Entry) (before now : Tally) → KeptIsLaid → LaidIsStored → PartsFit → IsRunnable plan → IsLegal o whole
    → made_by first k ≡ history (beginning_items m query plan.limit quota least) → made_by whole m ≡ made_by last m ++ went → Counted (all_failures whole) (written_blocks whole) (all_stale whole) before now
    → KeptRows plan page lefts rights (signs_in o k first).trail (signs_in o m last).trail → HaveStored o.block_len (owed plan (bytes_of o.block_len o.blocks) (both_told lefts rights)) before now
have_stored plan page lefts rights o k m query quota least first last went whole before now spills law parts runs legal came own counted kept =
    stored_so o whole m query plan.limit quota least legal plan (both_told lefts rights) (made_by last m) went before now refl law parts own counted
    (subst (λ (h : List Entry). LaysSpill plan (both_told lefts rights) (Some h) (Some (made_by last m))) came (laid_over plan page lefts rights o k m first last spills runs kept))
