-- The top partition of one side goes, while the other side stays.
use Rattle.std.proofs.Common.{◌≡◌, ℕ, ◌<◌, List, [], ◌∷◌, ◌++◌, length, Option, IsSome, refl, ap, sym, subst, arith, ne_eqb}
use Rattle.std.specs.Prelude.{set}
use Rattle.std.proofs.Math.Seq.{set-append_seam}
use Rattle.std.proofs.lemmas.Option.{slice_get_within}
use Rattle.store_api.specs.Conditions.{IsLiveClient}
use Rattle.store_api.specs.Holdings.{Account, Holdings, unused_of}
use Rattle.store_api.specs.Signs.{Signs}
use Rattle.store_api.specs.Tokens.{ClientToken}
use Rattle.tuple_stream.specs.Families.{AllClosed, ShowAll, changed, family}
use Rattle.tuple_stream.specs.FamilyCalls.{with_rows}
use Rattle.tuple_stream.specs.Spending.{Empties}
use Rattle.tuple_stream.specs.Steps.{Scene, scene}
use Rattle.tuple_stream.specs.Streamed.{Streamed}
use Rattle.tuple_stream.specs.Streams.{HasRows}
use Rattle.tuple_stream.specs.Trails.{EnteredEvents, PinsFirst}
use Rattle.tuple_stream.proofs.Empty.{empty, empty_shows}
use Rattle.tuple_stream.proofs.FamilyWords.{empties_in}
use Rattle.tuple_stream.proofs.Frames.{still_some}
use Rattle.tuple_stream.proofs.PageLists.{at_end, still_at}
use Rattle.tuple_stream.proofs.Sinces.{since_so}
use Rattle.partition_stack.specs.Changes.{HaveEnded}
use Rattle.partition_stack.specs.Leaving.{LeavesOthers}
use Rattle.partition_stack.specs.Sides.{OwnBoth}
use Rattle.partition_stack.specs.Slots.{SameSlots}
use Rattle.partition_stack.proofs.Away.{Left, none_left, one_left}
use Rattle.partition_stack.proofs.Left.{touched_leaves}
use Rattle.partition_stack.proofs.Sides.{other_shows, own_called}
use Rattle.join_op.proofs.BothSlots.{sized_gone, slots_called}

module _ (t : ℕ) (front : List Streamed) (s : Streamed) (other : List Streamed) (h : Holdings) (signs : Signs) (b : Scene) (own : OwnBoth t 0 (front ++ s ∷ []) other h signs)
    (empties : Empties t (scene s h signs) b) (gone : b.stream ≡ empty s.page_blocks) where
  went : Left t (family (front ++ s ∷ []) h signs) (family front b.held b.signs)
  went =
      one_left t (family (front ++ s ∷ []) h signs) (front ++ s ∷ []) front s h signs b refl (none_left t (family (front ++ s ∷ []) h signs) own.left_shaped) empties
      (ap (λ (r : Streamed). r.pages) gone) (ap (λ (r : Streamed). r.pinned) gone)

  pub gone_own : OwnBoth t 0 front other b.held b.signs
  gone_own = own_called t 0 (front ++ s ∷ []) front other h b.held signs b.signs own went.touches went.shaped

  pub gone_other : (rows : ℕ → List (List ℕ)) → ShowAll rows (family other h signs) → ShowAll rows (family other b.held b.signs)
  gone_other = other_shows t 0 (front ++ s ∷ []) front other h b.held signs b.signs own went.touches went.shaped

  pub gone_leaves : LeavesOthers t h b.held signs b.signs
  gone_leaves = touched_leaves t (family (front ++ s ∷ []) h signs) (family front b.held b.signs) own.left_shaped went.shaped went.touches own.lives went.grows

  pub gone_slots : (blocks : ℕ) → SameSlots blocks (family ((front ++ s ∷ []) ++ other) h signs) (family (front ++ other) b.held b.signs)
  gone_slots blocks =
      record {
        sum = slots_called t 0 (front ++ s ∷ []) front other h b.held signs b.signs own went.touches;
        sized = λ all. sized_gone blocks front s other h b.held signs b.signs all;
      }

  pub gone_loans : b.held.loans ≡ h.loans
  gone_loans = went.touches.loans

  pub gone_lives : (c : ClientToken) → c.tracker ≡ t → IsLiveClient c h → IsLiveClient c b.held
  gone_lives c is lives = subst (λ (u : ℕ). IsSome (b.held.clients u)) (sym is) (subst (λ (o : Option Account). IsSome o) (sym (went.touches.account own.lives)) (still_some (h.clients t) (unused_of t b.held) own.lives))

  pub gone_first : AllClosed (family (front ++ s ∷ []) h signs) → EnteredEvents PinsFirst signs.trail b.signs.trail
  gone_first closed = since_so (HaveEnded (family (front ++ s ∷ []) h signs)) PinsFirst signs.trail b.signs.trail (λ x has. has.first closed) went.trail

  pub gone_shows : (rows : ℕ → List (List ℕ)) → ShowAll rows (family (front ++ s ∷ []) h signs) → ShowAll rows (family front b.held b.signs)
  gone_shows rows shows i r there =
      let now : ShowAll (with_rows (length front) [] rows) (changed (length front) b (family (front ++ s ∷ []) h signs)) =
      (empties_in t (length front) (family (front ++ s ∷ []) h signs) s b own.left_shaped (at_end front s) empties (empty_shows s.page_blocks b.stream b.held gone)).rows rows shows in
      let same : set (front ++ s ∷ []) (length front) b.stream ≡ front ++ b.stream ∷ [] = set-append_seam front s [] b.stream in
      let first : ShowAll (with_rows (length front) [] rows) (family (front ++ b.stream ∷ []) b.held b.signs) = subst (λ (ss : List Streamed). ShowAll (with_rows (length front) [] rows) (family ss b.held b.signs)) same now in
      let inside : i < length front = slice_get_within front i r there in
      let here : with_rows (length front) [] rows i ≡ rows i = rw (ne_eqb i (length front) (λ e. omega (arith, e, inside))) refl in
      subst (λ (rs : List (List ℕ)). HasRows rs r b.held) here (first i r (still_at front b.stream r i there))

pub closed_front : (front : List Streamed) (s : Streamed) (h k : Holdings) (signs after : Signs) → AllClosed (family (front ++ s ∷ []) h signs) → AllClosed (family front k after)
closed_front front s h k signs after closed i r there = closed i r (still_at front s r i there)
