-- The groups of the top partition were handed on, and it went.
use Rattle.std.proofs.Common.{◌≡◌, ◌≢◌, ◌∙◌, ℕ, ◌+◌, ◌*◌, ◌<◌, false, List, [], ◌∷◌, ◌++◌, length, Option, Some, refl, ap, sym, subst, arith, append-nil, length-append}
use Rattle.std.proofs.lemmas.Option.{slice_get_within}
use Rattle.row_codec.specs.declared.values.Value.{Value}
use Rattle.store_api.specs.Emitters.{KeepsRoom, OthersStay}
use Rattle.store_api.specs.Holdings.{Holdings, length_of}
use Rattle.store_api.specs.Signs.{Grows, Signs}
use Rattle.store_api.specs.declared.shapes.Shape.{Shape}
use Rattle.tuple_stream.specs.Streamed.{Streamed}
use Rattle.tuple_stream.specs.Streams.{HasRows}
use Rattle.tuple_stream.specs.Spending.{Empties}
use Rattle.tuple_stream.specs.Steps.{Scene, scene}
use Rattle.tuple_stream.specs.Families.{ShowAll, slots_in}
use Rattle.tuple_stream.proofs.Empty.{empty}
use Rattle.bucket_table.specs.Tables.{Table, with_nodes}
use Rattle.partition_stack.specs.Slots.{KeepSlots}
use Rattle.partition_stack.specs.Stack.{Stack, over}
use Rattle.partition_stack.proofs.Slots.{keep_own}
use Rattle.group_rows.specs.Partials.{Partial, combined_of}
use Rattle.group_op.specs.Emission.{Emitted, EmittedFront}
use Rattle.group_op.specs.Finishing.{HasRead, ServesBeside}
use Rattle.group_op.specs.Held.{AreEntries, IsHeld, State, rows_of, state}
use Rattle.group_op.specs.InOrder.{groups_in}
use Rattle.group_op.specs.Stored.{SameGroups, grouping_of, partials_at}
use Rattle.group_op.proofs.Besides.{beside_own, held_beside, held_popped, leaves_popped, serves_emit, serves_then, shows_beside, shows_popped, slots_popped}
use Rattle.group_op.proofs.Keeping.{emptied_entries, nodes_held}
use Rattle.group_op.proofs.Sixteen.{same_groups}

pub emitted_on : (shape : Shape) (was mid now : List (List Value) → Type 0) (ps : List Partial) → ((rows : List (List Value)) → mid rows → now rows) → Emitted shape was mid ps → Emitted shape was now ps
emitted_on shape was mid now ps on emitted = record { rows = emitted.rows; say = emitted.say; came = λ taken took. on (taken ++ emitted.rows) (emitted.came taken took) }

pub front_on : (shape : Shape) (was mid now : List (List Value) → Type 0) (ps : List Partial) → ((rows : List (List Value)) → mid rows → now rows) → EmittedFront shape was mid ps → EmittedFront shape was now ps
front_on shape was mid now ps on front taken took =
    let came = front taken took in
    record { some = came.some; rest = came.rest; split = came.split; rows = came.rows; say = came.say; came = on (taken ++ came.rows) came.came }

-- one stream less
pub popped_long : (p q : Stack) (s : Streamed) (at : ℕ) → p.streams ≡ q.streams ++ s ∷ [] → length p.streams ≡ at + 1 → length q.streams ≡ at
popped_long p q s at split top = let all = ap length split in let push = length-append q.streams (s ∷ []) in omega (arith, all, push, top)

-- the table has the groups of what was read
pub groups_read : (shape : Shape) (at level : ℕ) (rows : ℕ → List (List ℕ)) (b : State) → HasRead shape at level false rows (rows at) [] b → groups_in shape b.table ≡ combined_of (grouping_of shape) (partials_at shape (rows at))
groups_read shape at level rows b read =
    let none : rows_of b.table ++ read.gone ≡ rows_of b.table = ap (λ (rs : List (List ℕ)). rows_of b.table ++ rs) (read.undivided refl) ∙ append-nil (rows_of b.table) in
    sym (same_groups (grouping_of shape) (partials_at shape (rows at)) (partials_at shape (rows_of b.table))
    (subst (λ (rs : List (List ℕ)). SameGroups (grouping_of shape) (partials_at shape (rows at)) (partials_at shape rs)) none read.same))

module _ (t : ℕ) (client : Option ℕ) (shape : Shape) (at : ℕ) (table : Table) (p q : Stack) (s : Streamed) (h0 h1 : Holdings) (s0 s1 : Signs) (b : Scene)
    (held : IsHeld t (state table p h0 s0)) (entries : AreEntries shape (length_of p.page_blocks h0) table) (apart : client ≢ Some t) (others : OthersStay client h0 h1)
    (split : p.streams ≡ q.streams ++ s ∷ []) (blocks : q.page_blocks ≡ p.page_blocks) (empties : Empties t (scene s h1 s1) b) (gone : b.stream ≡ empty s.page_blocks) where
  emptied : IsHeld t (state (with_nodes [] table) p h1 s1)
  emptied = nodes_held t [] table p h1 s1 (held_beside t client shape table p h0 h1 s0 s1 apart others held)

  second : (n1 n2 : ℕ) → n2 ≡ n1 → AreEntries shape (length_of p.page_blocks h1) table → ServesBeside t client n1 n2 shape (state table p h1 s1) (state (with_nodes [] table) q b.held b.signs)
  second n1 n2 same mid =
      let leaves = leaves_popped t (with_nodes [] table) p q s h1 s1 b emptied split blocks empties gone in
      let lens : length_of q.page_blocks b.held ≡ length_of p.page_blocks h1 = ap (λ (n : ℕ). n * b.held.block_len) blocks ∙ ap (λ (n : ℕ). p.page_blocks * n) leaves.others.block_len in
      record {
        held = held_popped t (with_nodes [] table) p q s h1 s1 b emptied split blocks empties gone;
        entries = subst (λ (n : ℕ). AreEntries shape n (with_nodes [] table)) (sym lens) (emptied_entries shape (length_of p.page_blocks h1) table mid);
        leaves = beside_own t client (state table p h1 s1) (state (with_nodes [] table) q b.held b.signs) leaves;
        blocks = blocks;
        slots = keep_own client (slots_in (over p h1 s1)) (slots_in (over q b.held b.signs)) n1 n2 (slots_popped t (with_nodes [] table) p q s h1 s1 b emptied split blocks empties gone) same;
      }

  pub serves_handed : (n0 n1 n2 : ℕ) → KeepsRoom client h0 h1 → KeepSlots client h0.free_slots h1.free_slots n0 n1 → n2 ≡ n1 → Grows s0 s1 → (now : Table) → now ≡ with_nodes [] table → ServesBeside t client n0 n2 shape (state table p h0 s0) (state now q b.held b.signs)
  serves_handed n0 n1 n2 keeps slots same grows now is =
      let first = serves_emit t client shape table p h0 h1 s0 s1 apart others held n0 n1 keeps slots grows entries in
      subst (λ (x : Table). ServesBeside t client n0 n2 shape (state table p h0 s0) (state x q b.held b.signs)) (sym is)
      (serves_then t client n0 n1 n2 shape (state table p h0 s0) (state table p h1 s1) (state (with_nodes [] table) q b.held b.signs) first (second n1 n2 same first.entries))

  pub shows_handed : (level : ℕ) (rows : ℕ → List (List ℕ)) → length p.streams ≡ at + 1 → HasRead shape at level false rows (rows at) [] (state table p h0 s0) → ShowAll rows (over q b.held b.signs)
  shows_handed level rows top read i r there =
      let shows = shows_popped t (with_nodes [] table) p q s h1 s1 b emptied split blocks empties gone read.now (shows_beside t client shape table p h0 h1 s0 s1 apart others held read.now read.shows) in
      let inside : i < length q.streams = slice_get_within q.streams i r there in
      subst (λ (rs : List (List ℕ)). HasRows rs r b.held) (read.below i (let many = popped_long p q s at split top in omega (arith, inside, many))) (shows i r there)
