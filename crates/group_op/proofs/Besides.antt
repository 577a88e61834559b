-- Calls of a grouping and of an emitter beside it, one after the other.
use Rattle.std.proofs.Common.{◌≡◌, ◌≢◌, ◌∙◌, ℕ, ◌*◌, ◌<◌, List, [], ◌∷◌, ◌++◌, length, Option, Some, refl, ap, sym, subst, arith, ne_eqb}
use Rattle.std.specs.Prelude.{set, slice_get}
use Rattle.std.proofs.Math.Seq.{set-append_seam}
use Rattle.std.proofs.lemmas.Option.{slice_get_within}
use Rattle.row_codec.specs.declared.values.Value.{Value}
use Rattle.store_api.specs.Emitters.{KeepsRoom, OthersStay, SameOwn}
use Rattle.store_api.specs.Holdings.{Account, Holdings, length_of}
use Rattle.store_api.specs.Signs.{Grows, Signs}
use Rattle.store_api.specs.declared.shapes.Shape.{Shape}
use Rattle.tuple_stream.specs.Streamed.{Streamed}
use Rattle.tuple_stream.specs.Streams.{HasRows}
use Rattle.tuple_stream.specs.Spending.{Empties}
use Rattle.tuple_stream.specs.Steps.{Scene, scene}
use Rattle.tuple_stream.specs.Families.{AllClosed, AreShaped, Family, ShowAll, changed, family, slots_in}
use Rattle.tuple_stream.specs.FamilyCalls.{with_rows}
use Rattle.tuple_stream.proofs.Empty.{empty, empty_shows}
use Rattle.tuple_stream.proofs.FamilyWords.{empties_in}
use Rattle.tuple_stream.proofs.PageLists.{at_end, still_at}
use Rattle.bucket_table.specs.Tables.{Table}
use Rattle.bucket_table.proofs.Beside.{beside_others}
use Rattle.partition_stack.specs.Stack.{RestBelow, Stack, over}
use Rattle.partition_stack.proofs.Away.{Left, none_left, one_left}
use Rattle.partition_stack.specs.Slots.{KeepSlots}
use Rattle.partition_stack.proofs.Owned.{agree, others_leave_owned}
use Rattle.partition_stack.proofs.Slots.{all_taken, keep_more, keep_none, keep_own, keep_then, taken}
use Rattle.partition_stack.proofs.Emitters.{account_same, beside_emit, beside_then, left_beside, same_beside, stands_left}
use Rattle.group_op.specs.Emission.{IsBeside}
use Rattle.group_op.specs.Finishing.{LeavesBeside, LeavesWith, Serves, ServesBeside, StandsStill}
use Rattle.group_op.specs.Held.{AreEntries, IsHeld, Leaves, State, lent, state, streams_of}
use Rattle.group_op.proofs.Opened.{had_leaves}
use Rattle.group_op.proofs.Keeping.{held_touched, leaves_touched}

-- ---- what calls leave

pub beside_own : (t : ℕ) (client : Option ℕ) (a b : State) → Leaves t a b → LeavesBeside t client a.held b.held a.signs b.signs
beside_own t client a b leaves = left_beside t client a.held b.held a.signs b.signs leaves

pub serves_own : (t : ℕ) (client : Option ℕ) (theirs_old theirs : ℕ) (shape : Shape) (a b : State) → theirs ≡ theirs_old → Serves t shape a b → ServesBeside t client theirs_old theirs shape a b
serves_own t client theirs_old theirs shape a b same serves =
    record {
      held = serves.held;
      entries = serves.entries;
      leaves = beside_own t client a b serves.leaves;
      blocks = serves.blocks;
      slots = keep_own client (slots_in (streams_of a)) (slots_in (streams_of b)) theirs_old theirs serves.slots.sum same;
    }

pub serves_then : (t : ℕ) (client : Option ℕ) (n0 n1 n2 : ℕ) (shape : Shape) (a b c : State) → ServesBeside t client n0 n1 shape a b → ServesBeside t client n1 n2 shape b c → ServesBeside t client n0 n2 shape a c
serves_then t client n0 n1 n2 shape a b c one two =
    record {
      held = two.held;
      entries = two.entries;
      leaves = beside_then t client a.held b.held c.held a.signs b.signs c.signs one.leaves two.leaves;
      blocks = two.blocks ∙ one.blocks;
      slots = keep_then client (slots_in (streams_of a)) (slots_in (streams_of b)) (slots_in (streams_of c)) n0 n1 n2 one.slots two.slots;
    }

-- nothing was called
pub serves_none : (t : ℕ) (client : Option ℕ) (theirs : ℕ) (shape : Shape) (a : State) → IsHeld t a → AreEntries shape (length_of a.parts.page_blocks a.held) a.table → ServesBeside t client theirs theirs shape a a
serves_none t client theirs shape a held entries =
    record { held = held; entries = entries; leaves = beside_own t client a a (had_leaves t a.held a.signs); blocks = refl; slots = keep_none client (slots_in (streams_of a)) theirs }

pub left_none : (t : ℕ) (client : Option ℕ) (theirs : ℕ) (f : Family) → LeavesWith t client theirs theirs f f
left_none t client theirs f = record { others = left_beside t client f.held f.held f.signs f.signs (had_leaves t f.held f.signs); slots = keep_none client (slots_in f) theirs }

-- ---- an emission leaves what the grouping has

module _ (t : ℕ) (client : Option ℕ) (shape : Shape) (table : Table) (p : Stack) (old new : Holdings) (before after : Signs) (apart : client ≢ Some t) (others : OthersStay client old new) where
  lens : length_of p.page_blocks new ≡ length_of p.page_blocks old
  lens = ap (λ (n : ℕ). p.page_blocks * n) others.block_len

  module _ (held : IsHeld t (state table p old before)) where
    pub held_beside : IsHeld t (state table p new after)
    held_beside =
        record {
          owns = (others_leave_owned t (lent (state table p old before)) client p.streams old new before after apart others held.owns).owns;
          table = beside_others table client old new others (λ same. apart (same ∙ ap Some held.client)) held.table;
          client = held.client;
          blocks = held.blocks;
          loans = λ q loan lives other own. held.loans q loan (((others.others t apart).loans q loan own).0 lives) other own;
          room =
              let same = ap (λ (x : Account). x.reservation) (account_same t old new (others.others t apart)) in
              let room = held.room in
              omega (arith, same, room, ap (λ (n : ℕ). 17 * n) lens);
        }

    pub shows_beside : (rows : ℕ → List (List ℕ)) → ShowAll rows (over p old before) → ShowAll rows (over p new after)
    shows_beside rows shows = (others_leave_owned t (lent (state table p old before)) client p.streams old new before after apart others held.owns).rows rows shows

    -- the grouping's pages have the slots that they had
    shared : (n0 n1 : ℕ) → KeepSlots client old.free_slots new.free_slots n0 n1 → KeepSlots client (slots_in (over p old before)) (slots_in (over p new after)) n0 n1
    shared n0 n1 slots =
        keep_more client old.free_slots new.free_slots n0 n1 (taken p.streams old) (taken p.streams new)
        (all_taken p.streams old new (agree t (lent (state table p old before)) p.streams old new before after held.owns (others.others t apart) others.block_len)) slots

    pub serves_emit : (n0 n1 : ℕ) → KeepsRoom client old new → KeepSlots client old.free_slots new.free_slots n0 n1 → Grows before after → AreEntries shape (length_of p.page_blocks old) table → ServesBeside t client n0 n1 shape (state table p old before) (state table p new after)
    serves_emit n0 n1 keeps slots grows entries =
        record {
          held = held_beside;
          entries = subst (λ (n : ℕ). AreEntries shape n table) (sym lens) entries;
          leaves = beside_emit t client old new before after apart others keeps grows;
          blocks = refl;
          slots = shared n0 n1 slots;
        }

-- ---- an emitter that stands

-- what is an emitter's stays while the grouping calls its store
pub own_same : (t : ℕ) (client : Option ℕ) (a b : State) → client ≢ Some t → Leaves t a b → SameOwn client a.held b.held
own_same t client a b apart leaves = same_beside t client a.held b.held a.signs b.signs apart leaves

module _ (admits : List Value → Type 0) (client : Option ℕ) (faults : ℕ) (was now : List (List Value) → Type 0) (t : ℕ) (a b : State) where
  pub stands_own : IsBeside t client a.held → Leaves t a b → ((rows : List (List Value)) → was rows → now rows) → StandsStill admits admits client client faults faults was now b.held
  stands_own beside leaves same = stands_left admits client faults was now t a.held b.held a.signs b.signs beside leaves same

-- a call of the emitter that stands
pub serves_more : (t : ℕ) (client now : Option ℕ) (n0 n1 n2 : ℕ) (shape : Shape) (a b c : State) → now ≡ client → ServesBeside t client n0 n1 shape a b → ServesBeside t now n1 n2 shape b c → ServesBeside t client n0 n2 shape a c
serves_more t client now n0 n1 n2 shape a b c same one two = serves_then t client n0 n1 n2 shape a b c one (subst (λ (o : Option ℕ). ServesBeside t o n1 n2 shape b c) same two)

-- ---- the top partition goes

module _ (t : ℕ) (table : Table) (p q : Stack) (s : Streamed) (h : Holdings) (signs : Signs) (b : Scene) (held : IsHeld t (state table p h signs)) (split : p.streams ≡ q.streams ++ s ∷ []) (blocks : q.page_blocks ≡ p.page_blocks)
    (empties : Empties t (scene s h signs) b) (gone : b.stream ≡ empty s.page_blocks) where
  was_shaped : AreShaped t (family (q.streams ++ s ∷ []) h signs)
  was_shaped = subst (λ (ss : List Streamed). AreShaped t (family ss h signs)) split held.owns.shaped

  went : Left t (over p h signs) (over q b.held b.signs)
  went =
      one_left t (over p h signs) p.streams q.streams s h signs b split (none_left t (over p h signs) held.owns.shaped) empties
      (ap (λ (r : Streamed). r.pages) gone) (ap (λ (r : Streamed). r.pinned) gone)

  pub held_popped : IsHeld t (state table q b.held b.signs)
  held_popped = held_touched t table p q h b.held signs b.signs held went.touches went.shaped blocks

  pub slots_popped : slots_in (over q b.held b.signs) ≡ slots_in (over p h signs)
  slots_popped = went.touches.slots

  pub leaves_popped : Leaves t (state table p h signs) (state table q b.held b.signs)
  leaves_popped = leaves_touched t table p q h b.held signs b.signs held went.touches went.shaped blocks went.grows

  pub shows_popped : (rows : ℕ → List (List ℕ)) → ShowAll rows (over p h signs) → ShowAll rows (over q b.held b.signs)
  shows_popped rows shows i r there =
      let f : Family = family (q.streams ++ s ∷ []) h signs in
      let all : ShowAll rows f = subst (λ (ss : List Streamed). ShowAll rows (family ss h signs)) split shows in
      let now : ShowAll (with_rows (length q.streams) [] rows) (changed (length q.streams) b f) =
      (empties_in t (length q.streams) f s b was_shaped (at_end q.streams s) empties (empty_shows s.page_blocks b.stream b.held gone)).rows rows all in
      let same : set (q.streams ++ s ∷ []) (length q.streams) b.stream ≡ q.streams ++ b.stream ∷ [] = set-append_seam q.streams s [] b.stream in
      let front : ShowAll (with_rows (length q.streams) [] rows) (family (q.streams ++ b.stream ∷ []) b.held b.signs) = subst (λ (ss : List Streamed). ShowAll (with_rows (length q.streams) [] rows) (family ss b.held b.signs)) same now in
      let inside : i < length q.streams = slice_get_within q.streams i r there in
      let here : with_rows (length q.streams) [] rows i ≡ rows i = rw (ne_eqb i (length q.streams) (λ e. omega (arith, e, inside))) refl in
      subst (λ (rs : List (List ℕ)). HasRows rs r b.held) here (front i r (still_at q.streams b.stream r i there))

-- those below the top one rest
pub closed_popped : (at : ℕ) (p q : Stack) (s : Streamed) (h : Holdings) (signs : Signs) → p.streams ≡ q.streams ++ s ∷ [] → length q.streams ≡ at → RestBelow at p → AllClosed (over q h signs)
closed_popped at p q s h signs split many rests i r there =
    rests i r (ap (λ (ss : List Streamed). slice_get ss i) split ∙ still_at q.streams s r i there) (let inside = slice_get_within q.streams i r there in omega (arith, inside, many))
