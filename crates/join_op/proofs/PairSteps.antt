-- Pairs are handed on in several calls.
use Rattle.std.proofs.Common.{◌≡◌, ◌∙◌, ◌+◌, ◌≤◌, List, ◌++◌, length, Result, Ok, Err, IsErr, refl, sym, subst, arith}
use Rattle.std.specs.Prelude.{IsErrAnd}
use Rattle.pool_model.specs.LookingBack.{names_in}
use Rattle.row_codec.specs.declared.values.Value.{Value}
use Rattle.reservation_tree.specs.declared.errors.PoolErr.TheVariants.{Memory}
use Rattle.store_api.specs.Emitters.{HasClient}
use Rattle.store_api.specs.Handing.{StandsBeside, slots_beside}
use Rattle.store_api.specs.declared.op_err.OpErr.{OpErr}
use Rattle.store_api.specs.declared.op_err.OpErr.TheVariants.{Pool}
use Rattle.store_api.specs.declared.store.Store.{Ghosts as StoreGhosts}
use Rattle.store_api.specs.declared.emit.Emit.{Ghosts as EmitGhosts}
use Rattle.store_api.proofs.Names.{entered_so}
use Rattle.partition_stack.specs.Emitting.{Stood}
use Rattle.partition_stack.specs.Slots.{KeepSlots}
use Rattle.partition_stack.proofs.Emitters.{came_behind, stood_more, stood_none}
use Rattle.partition_stack.proofs.Making.{counts_emit}
use Rattle.join_op.specs.Handing.{Emitted, EmittedSome}
use Rattle.join_op.specs.PairCalls.{HandsPairs, took_by}
use Rattle.join_op.specs.Pairs.{SameRows}
use Rattle.join_op.specs.Slots.{Crowds, SameMost}
use Rattle.join_op.proofs.ChunkPairs.{emitted_then, some_first, some_then}
use Rattle.join_op.proofs.Crowding.{some_more_of}
use Rattle.join_op.proofs.Handed.{emitted_as, some_on}

-- what is so of an error is so of one that was handed on
pub as_err : {X E : Type 0} (P : Result X E → Type 0) (r : Result X E) (e : E) → IsErr r × IsErrAnd r (λ f. f ≡ e) → P (Err e) → P r
as_err P (Ok x) e (fails, is) so = absurd cc
as_err {X} {E} P (Err f) e (fails, is) so = subst (λ (d : E). P (Err d)) (sym is) so

module _ {St E : Type 0} (store : StoreGhosts St) (emit : EmitGhosts E St) where
  -- ---- an emitter beside its store

  pub stood_of : (e e_new : E) (s s_new : St) → StandsBeside store emit e e_new s s_new → Stood (emit.admits e) (emit.admits e_new) (emit.client e) (emit.client e_new) (emit.faults e) (emit.faults e_new) (emit.creates e) (emit.creates e_new) (store.holds s) (store.holds s_new) (store.signs s) (store.signs s_new)
  stood_of e e_new s s_new stands =
      record {
        admits_same = stands.same.admits_same;
        client_same = stands.same.client_same;
        lives = stands.client;
        never_falls = stands.never_falls;
        others = stands.others;
        room = stands.room;
        grows = stands.grows.grows;
        alone = stands.grows.alone;
        made = counts_emit (emit.creates e) (emit.creates e_new) (store.signs s) (store.signs s_new) stands.grows.pages;
      }

  pub keep_of : (e e_new : E) (s s_new : St) → StandsBeside store emit e e_new s s_new → KeepSlots (emit.client e) (store.holds s).free_slots (store.holds s_new).free_slots (emit.slots e (store.holds s)) (emit.slots e_new (store.holds s_new))
  keep_of e e_new s s_new stands = record { sum = stands.slots; alone = λ none. (stands.others.alone none).rest.free_slots }

  pub most_of : (e e_new : E) (s s_new : St) → StandsBeside store emit e e_new s s_new → SameMost (emit.slots_for e) (emit.slots_for e_new)
  most_of e e_new s s_new stands = stands.same.slots_same

  stands_of : (e e_new : E) (s s_new : St) → Stood (emit.admits e) (emit.admits e_new) (emit.client e) (emit.client e_new) (emit.faults e) (emit.faults e_new) (emit.creates e) (emit.creates e_new) (store.holds s) (store.holds s_new) (store.signs s) (store.signs s_new)
      → slots_beside store emit e_new s_new ≡ slots_beside store emit e s → SameMost (emit.slots_for e) (emit.slots_for e_new) → StandsBeside store emit e e_new s s_new
  stands_of e e_new s s_new stood slots most =
      record {
        same = record { admits_same = stood.admits_same; client_same = stood.client_same; slots_same = most };
        client = stood.lives;
        others = stood.others;
        room = stood.room;
        slots = slots;
        never_falls = stood.never_falls;
        grows = record {
          grows = stood.grows;
          alone = stood.alone;
          pages = entered_so (λ more. emit.creates e + length (names_in more) ≤ emit.creates e_new + 0) (λ more. emit.creates e + length (names_in more) ≤ emit.creates e_new) (λ more one. omega (arith, one)) (store.signs s).trail (store.signs s_new).trail stood.made;
        };
      }

  pub stands_none : (e : E) (s : St) → HasClient (emit.client e) (store.holds s) → StandsBeside store emit e e s s
  stands_none e s lives = stands_of e e s s (stood_none (emit.admits e) (emit.client e) (emit.faults e) (store.holds s) (store.signs s) lives) refl (λ rows. refl)

  pub stands_then : (e0 e1 e2 : E) (s0 s1 s2 : St) → StandsBeside store emit e0 e1 s0 s1 → StandsBeside store emit e1 e2 s1 s2 → StandsBeside store emit e0 e2 s0 s2
  stands_then e0 e1 e2 s0 s1 s2 one two =
      stands_of e0 e2 s0 s2
      (stood_more (emit.admits e0) (emit.admits e1) (emit.admits e2) (emit.client e0) (emit.client e1) (emit.client e2) (emit.faults e0) (emit.faults e1) (emit.faults e2) (store.holds s0) (store.holds s1) (store.holds s2) (store.signs s0) (store.signs s1) (store.signs s2) (stood_of e0 e1 s0 s1 one) (stood_of e1 e2 s1 s2 two))
      (two.slots ∙ one.slots) (λ rows. two.same.slots_same rows ∙ one.same.slots_same rows)

  -- ---- pairs

  module _ (e0 e1 : E) (s0 s1 : St) (done : List (List Value)) (one : Emitted (took_by store emit e0 s0) (took_by store emit e1 s1) done) (stands : StandsBeside store emit e0 e1 s0 s1) where
    -- no memory was left for the rest
    pub pairs_memory : (rest all : List (List Value)) → SameRows (done ++ rest) all → HandsPairs store emit all e0 e1 s0 s1 (Err (Pool Memory))
    pairs_memory rest all same =
        let some : EmittedSome (took_by store emit e0 s0) (took_by store emit e1 s1) all = some_first (took_by store emit e0 s0) (took_by store emit e1 s1) done rest all one same in
        record {
          ok = tt;
          err = some;
          cause = tt;
          want = tt;
          crowded = some_on (took_by store emit e0 s0) (took_by store emit e1 s1) (Crowds (emit.slots_for e0) 0 (slots_beside store emit e1 s1) (Pool Memory)) all (λ rows took. tt) some;
          stands = stands;
        }

    -- the next call handed all of its pairs on, or stopped
    pub pairs_then : (e2 : E) (s2 : St) (ys all : List (List Value)) (x : Unit {0}) → SameRows (done ++ ys) all → HandsPairs store emit ys e1 e2 s1 s2 (Ok x) → HandsPairs store emit all e0 e2 s0 s2 (Ok x)
    pairs_then e2 s2 ys all x same two =
        let then : Emitted (took_by store emit e0 s0) (took_by store emit e2 s2) (done ++ ys) = emitted_then (took_by store emit e0 s0) (took_by store emit e1 s1) (took_by store emit e2 s2) done one ys two.ok in
        record {
          ok = emitted_as (took_by store emit e0 s0) (took_by store emit e2 s2) (done ++ ys) all same then;
          err = tt;
          cause = tt;
          want = tt;
          crowded = tt;
          stands = stands_then e0 e1 e2 s0 s1 s2 stands two.stands;
        }

    pub pairs_stopped : (e2 : E) (s2 : St) (ys rest all : List (List Value)) (x : OpErr) → SameRows (done ++ (ys ++ rest)) all → HandsPairs store emit ys e1 e2 s1 s2 (Err x) → HandsPairs store emit all e0 e2 s0 s2 (Err x)
    pairs_stopped e2 s2 ys rest all x same two =
        record {
          ok = tt;
          err = some_then (took_by store emit e0 s0) (took_by store emit e1 s1) (took_by store emit e2 s2) done one ys rest all same two.err;
          cause = came_behind (emit.faults e0) (emit.faults e1) (emit.faults e2) (store.signs s0) (store.signs s1) (store.signs s2) x stands.never_falls stands.grows.grows two.cause;
          want = two.want;
          crowded = some_then (took_by store emit e0 s0) (took_by store emit e1 s1) (Crowds (emit.slots_for e0) 0 (slots_beside store emit e2 s2) x) done one ys rest all same
              (some_more_of (took_by store emit e1 s1) ys (emit.slots_for e0) (emit.slots_for e1) 0 0 (slots_beside store emit e2 s2) (slots_beside store emit e2 s2) x stands.same.slots_same (omega arith) refl two.crowded);
          stands = stands_then e0 e1 e2 s0 s1 s2 stands two.stands;
        }
