-- What the queries that share a pool owe by their answers was stored in its slots.
use Rattle.std.proofs.Common.{◌≡◌, ◌∙◌, ◌+◌, ◌-◌, ◌*◌, ◌≤◌, ◌++◌, ℕ, zero, suc, Bool, List, [], ◌∷◌, All, min, Option, Some, None, refl, sym, ap, subst, arith}
use Rattle.std.specs.List.{IsDistinct, slice_get, sum_by}
use Rattle.std.specs.Prelude.{eqb}
use Rattle.std.proofs.Math.Nat.{add-mul, mul-le-mul_right}
use Rattle.std.proofs.lemmas.List.Elements.{All-head, All-tail}
use Rattle.std.proofs.lemmas.List.Sums.{sum_by-cons}
use Rattle.std.proofs.lemmas.Option.{none-some, same_Some}
use Rattle.outside.specs.Told.{GivesBytes}
use Rattle.turn_table.specs.Face.{Spot}
use Rattle.pool_model.specs.Bytes.{bytes_of}
use Rattle.pool_model.specs.Legal.{IsLegal}
use Rattle.pool_model.specs.LookingBack.{made_by}
use Rattle.pool_model.specs.State.{Opening}
use Rattle.pool_model.specs.declared.entry.Entry.{Entry}
use Rattle.pin_core.specs.Tallies.{Counted, written_blocks}
use Rattle.pin_core.specs.declared.tally.Tally.{Tally}
use Rattle.pool.specs.declared.item.Item.{Item}
use Rattle.pool.specs.Items.{history, own_in}
use Rattle.pool.specs.Seating.{beginning_items}
use Rattle.pool.specs.Sitting.{signs_by}
use Rattle.session_shares.specs.Shares.{LaidIsStored, PartsFit, written_for}
use Rattle.query_plan.specs.Rules.{KeepsQuery}
use Rattle.query_plan.specs.Sizes.{least_of, page_len}
use Rattle.query_plan.specs.declared.plan.Query.{Query}
use Rattle.query_plan.specs.declared.plan.Side.TheVariants.{Left, Right}
use Rattle.query_run.specs.Both.{Told, both_told}
use Rattle.query_run.specs.Plans.{IsRunnable}
use Rattle.query_run.specs.Spilling.{KeptIsLaid, LaysSpill, spill}
use Rattle.query_run.specs.Trail.{KeptRows}
use Rattle.spill_top.specs.declared.ending.Ending.{Ending}
use Rattle.spill_top.specs.declared.ending.Ending.TheVariants.{Lines, Reservation, Stopped}
use Rattle.spill_top.specs.Sides.{bytes_on, told_of}
use Rattle.spill_top.specs.Storing.{HaveStored, all_owed, owed, owed_by}
use Rattle.spill_top.specs.Together.{Stay, Stayed, numbers_of}
use Rattle.spill_top.proofs.Runnable.{runnable}
use Rattle.spill_top.proofs.Stored.{laid_over, stored}

-- each query of a plan runs
pub each_runnable : (queries : List Query) → All KeepsQuery queries → (place : ℕ) (query : Query) → slice_get queries place ≡ Some query → IsRunnable query
each_runnable [] keep place query at = absurd (none-some query at)
each_runnable (first ∷ queries) keep zero query at = subst IsRunnable (same_Some first query at) (runnable first (All-head KeepsQuery first queries keep))
each_runnable (first ∷ queries) keep (suc place) query at = each_runnable queries (All-tail KeepsQuery first queries keep) place query at

-- ---- one query

-- what is owed over bytes that are told is owed over what inputs give
owed_given : (query : Query) (memory : ℕ) (left right given_left given_right : Option (List ℕ)) → GivesBytes left given_left → GivesBytes right given_right
    → owed query memory (both_told left right) ≤ owed query memory (both_told given_left given_right)
owed_given query memory None right given_left given_right lefts rights = omega arith
owed_given query memory (Some left) None given_left given_right lefts rights = omega arith
owed_given query memory (Some left) (Some right) given_left given_right lefts rights = rw (lefts, rights) (omega arith)

beyond : (bytes blocks most : ℕ) → bytes ≤ blocks + most → bytes - most ≤ blocks
beyond bytes blocks most fits = omega (arith, fits)

module _ (o : Opening) (told : Bool) (pass : Spot Item) (whole : List Entry) (legal : IsLegal o whole) (query : Query) (stay : Stay) (stayed : Stayed o told query pass stay)
    (beside : made_by whole stay.first.number ≡ own_in stay.first.number pass.knows.seen) where
  abbrev m : ℕ
  m = stay.first.number

  abbrev memory : ℕ
  memory = bytes_of o.block_len o.blocks

  stored_told : (both : Option Told) → LaidIsStored → LaysSpill query both (Some (own_in m stay.first.spot.knows.seen)) (Some (own_in m stay.last.spot.knows.seen))
      → owed query memory both ≤ written_for m whole * o.block_len
  stored_told None law lays = omega arith
  stored_told (Some both) law lays =
      let least : ℕ = least_of query o.block_len in
      let begins : own_in m stay.last.spot.knows.seen ≡ history (beginning_items m stayed.tracker query.limit query.quota least) ++ lays.0 =
      same_Some _ _ lays.1 ∙ ap (λ (h : List Entry). h ++ lays.0) stayed.came in
      beyond (spill query both) (written_for m whole * o.block_len) (min query.limit memory)
      (stored o whole m stayed.tracker query.limit query.quota least legal (own_in m stay.last.spot.knows.seen) stayed.went lays.0 (spill query both) law (beside ∙ stayed.own) begins lays.2)

  -- what it owes was stored in blocks of its session's pages
  pub stored_for_one : KeptIsLaid → LaidIsStored → IsRunnable query → (files : List ℕ → Option (List ℕ)) (lefts rights : Option (List ℕ)) → GivesBytes (bytes_on query files Left) lefts → GivesBytes (bytes_on query files Right) rights
      → KeptRows query (page_len query o.block_len) lefts rights (signs_by o stay.first).trail (signs_by o stay.last).trail
      → owed query memory (told_of query files) ≤ written_for m whole * o.block_len
  stored_for_one spills law runs files lefts rights gives_left gives_right kept =
      let first : List Entry = own_in m stay.first.spot.knows.seen in
      let lays : LaysSpill query (both_told lefts rights) (Some first) (Some (own_in m stay.last.spot.knows.seen)) =
      subst (λ (k : ℕ). LaysSpill query (both_told lefts rights) (Some first) (Some (own_in k stay.last.spot.knows.seen))) stayed.number
      (laid_over query (page_len query o.block_len) lefts rights o m stay.last.number (history stay.first.spot.knows.seen) (history stay.last.spot.knows.seen) spills runs kept) in
      let most = stored_told (both_told lefts rights) law lays in
      let less = owed_given query memory (bytes_on query files Left) (bytes_on query files Right) lefts rights gives_left gives_right in
      omega (arith, most, less)

-- ---- all of them

module _ (memory block_len : ℕ) (files : List ℕ → Option (List ℕ)) (written : ℕ → ℕ) where
  -- an answer has a session, of which so many blocks were stored
  abbrev pub IsStored : Query → Option (Option Stay) → Type 0
  IsStored query at = (stay : Stay) × (at ≡ Some (Some stay)) × (owed query memory (told_of query files) ≤ written stay.first.number * block_len)

  abbrev blocks_at : Option (Option Stay) → ℕ
  blocks_at (Some (Some stay)) = written stay.first.number
  blocks_at _ = 0

  one : (query : Query) (ending : Ending) (at : Option (Option Stay)) → ((lines : ℕ) → Some ending ≡ Some (Lines lines) → IsStored query at) → owed_by memory files query ending ≤ blocks_at at * block_len
  one query (Lines lines) at stores =
      let its : IsStored query at = stores lines refl in
      subst (λ (s : Option (Option Stay)). owed query memory (told_of query files) ≤ blocks_at s * block_len) (sym its.1) its.2
  one query (Reservation root wanted room) at stores = omega arith
  one query (Stopped why) at stores = omega arith

  pub all_stored : (queries : List Query) (ends : List Ending) (stays : List (Option Stay))
      → ((place lines : ℕ) (query : Query) → slice_get queries place ≡ Some query → slice_get ends place ≡ Some (Lines lines) → IsStored query (slice_get stays place))
      → all_owed memory files queries ends ≤ sum_by written (numbers_of stays) * block_len
  all_stored [] ends stays each = omega arith
  all_stored (query ∷ queries) [] stays each = omega arith
  all_stored (query ∷ queries) (ending ∷ ends) [] each =
      let first = one query ending None (λ lines is. each 0 lines query refl is) in
      let rest = all_stored queries ends [] (λ place. each (suc place)) in
      omega (arith, first, rest)
  all_stored (query ∷ queries) (ending ∷ ends) (None ∷ stays) each =
      let first = one query ending (Some None) (λ lines is. each 0 lines query refl is) in
      let rest = all_stored queries ends stays (λ place. each (suc place)) in
      omega (arith, first, rest)
  all_stored (query ∷ queries) (ending ∷ ends) (Some stay ∷ stays) each =
      let first = one query ending (Some (Some stay)) (λ lines is. each 0 lines query refl is) in
      let rest = all_stored queries ends stays (λ place. each (suc place)) in
      let both = ap (λ (n : ℕ). n * block_len) (sum_by-cons written stay.first.number (numbers_of stays)) in
      let split = add-mul (written stay.first.number) (sum_by written (numbers_of stays)) block_len in
      omega (arith, first, rest, both, split)

-- blocks of all sessions are among those that the slots stored
pub stored_together : (block_len bytes failures stale : ℕ) (whole : List Entry) (ms : List ℕ) (before now : Tally) → PartsFit → IsDistinct eqb ms → bytes ≤ sum_by (λ m. written_for m whole) ms * block_len
    → Counted failures (written_blocks whole) stale before now → HaveStored block_len bytes before now
stored_together block_len bytes failures stale whole ms before now law apart fits counted = λ all.
    let parts : sum_by (λ m. written_for m whole) ms ≤ written_blocks whole = law whole ms apart in
    let stores = counted.stores all in
    let blocks : (before.stores + sum_by (λ m. written_for m whole) ms) * block_len ≤ now.stores * block_len = mul-le-mul_right block_len (omega (arith, stores, parts)) in
    let split = add-mul before.stores (sum_by (λ m. written_for m whole) ms) block_len in
    omega (arith, blocks, split, fits)

-- all memory of a pool, as plans have it
pub memory_is : (block_len blocks : ℕ) → bytes_of block_len blocks ≡ blocks * block_len
unfolding bytes_of
memory_is block_len blocks = refl
