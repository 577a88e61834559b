-- The top partition's groups were handed on, or it was divided.
use Rattle.std.proofs.Common.{◌≡◌, ◌∙◌, ℕ, zero, suc, ◌+◌, ◌≤◌, List, [], ◌∷◌, ◌++◌, length, take, Some, refl, ap, sym, subst, arith, append-nil, append_assoc, Result, Ok, Err, OnOk, IfErr}
use Rattle.std.specs.Prelude.{slice_get}
use Rattle.std.proofs.lemmas.List.{length-take-le}
use Rattle.std.proofs.lemmas.Option.{none-some}
use Rattle.row_codec.specs.declared.values.Value.{Value}
use Rattle.store_api.specs.Emitters.{CameOf}
use Rattle.store_api.specs.Signs.{Grows, Signs}
use Rattle.store_api.specs.declared.op_err.OpErr.{OpErr}
use Rattle.store_api.specs.declared.shapes.Shape.{Shape}
use Rattle.tuple_stream.specs.Families.{ShowAll}
use Rattle.tuple_stream.specs.FamilyCalls.{shares}
use Rattle.group_rows.specs.Partials.{Partial, combined_of}
use Rattle.group_op.specs.Emission.{Emitted, EmittedFront}
use Rattle.group_op.specs.Finishing.{Advances, HasDivided, HasPopped, Stacked, said_down}
use Rattle.group_op.specs.Held.{State, streams_of}
use Rattle.group_op.specs.Stored.{grouping_of, partials_at}
use Rattle.group_op.specs.Wanting.{AreNoMore}
use Rattle.partition_stack.specs.Making.{MakesBeside, owed}
use Rattle.partition_stack.proofs.Emitters.{came_behind}
use Rattle.partition_stack.proofs.Making.{counts_both, counts_less, counts_none}
use Rattle.group_op.proofs.Emitting.{emitted_behind, front_behind}
use Rattle.group_op.proofs.Fewer.{no_more_last, no_more_same, no_more_then}

-- nothing was handed on in between
pub emitted_same : (shape : Shape) (was now : List (List Value) → Type 0) → ((rows : List (List Value)) → was rows → now rows) → Emitted shape was now []
emitted_same shape was now same = record { rows = []; say = tt; came = λ taken took. subst now (sym (append-nil taken)) (same taken took) }

pub front_same : (shape : Shape) (was now : List (List Value) → Type 0) (all : List Partial) → ((rows : List (List Value)) → was rows → now rows) → EmittedFront shape was now all
front_same shape was now all same taken took = record { some = []; rest = all; split = refl; rows = []; say = tt; came = subst now (sym (append-nil taken)) (same taken took) }

in_take : (n : ℕ) (xs : List ℕ) (i x : ℕ) → slice_get (take n xs) i ≡ Some x → slice_get xs i ≡ Some x
in_take zero xs i x at = absurd (none-some x at)
in_take (suc n) [] i x at = absurd (none-some x at)
in_take (suc n) (y ∷ xs) zero x at = at
in_take (suc n) (y ∷ xs) (suc i) x at = in_take n xs i x at

-- what is left shows what it did
pub stacked_popped : (shape : Shape) (at : ℕ) (rows : ℕ → List (List ℕ)) (a b : State) → Stacked shape rows a → length a.parts.streams ≡ at + 1 → b.held.told ≡ a.held.told → length b.parts.streams ≡ at → b.parts.levels ≡ take at a.parts.levels → ShowAll rows (streams_of b) → Stacked shape rows b
stacked_popped shape at rows a b stacked top told many levels shows =
    record {
      told = told ∙ stacked.told;
      shows = shows;
      levelled = ap length levels ∙ length-take-le at a.parts.levels (let long = stacked.levelled in omega (arith, long, top)) ∙ sym many;
      parts = λ i l there. stacked.parts i l (in_take at a.parts.levels i l (ap (λ (ls : List ℕ). slice_get ls i) (sym levels) ∙ there));
    }

module _ (shape : Shape) (at : ℕ) (rows : ℕ → List (List ℕ)) (a b : State) (top : length a.parts.streams ≡ at + 1) where
  said_top : said_down shape (length a.parts.streams) rows ≡ combined_of (grouping_of shape) (partials_at shape (rows at)) ++ said_down shape at rows
  said_top = ap (λ (n : ℕ). said_down shape n rows) (let next : length a.parts.streams ≡ suc at = omega (arith, top) in next)

  module _ (was mid now : List (List Value) → Type 0) (same : (taken : List (List Value)) → was taken → mid taken) where
    pub advances_popped : {m0 m : ℕ} → Stacked shape rows a → b.held.told ≡ a.held.told → HasPopped at a.parts b.parts → ShowAll rows (streams_of b) → Emitted shape mid now (combined_of (grouping_of shape) (partials_at shape (rows at)))
        → (n : ℕ) → n + owed (take at a.parts.levels) rows ≤ owed a.parts.levels rows → MakesBeside n m0 m a.signs b.signs → Advances shape was now m0 m rows a b
    advances_popped stacked told popped shows emitted n few made =
        record {
          left = rows;
          stacked = stacked_popped shape at rows a b stacked top told popped.many popped.levels shows;
          done = combined_of (grouping_of shape) (partials_at shape (rows at));
          split = said_top ∙ ap (λ (n : ℕ). combined_of (grouping_of shape) (partials_at shape (rows at)) ++ said_down shape n rows) (sym popped.many);
          emitted = emitted_behind shape was mid now [] (emitted_same shape was mid same) (combined_of (grouping_of shape) (partials_at shape (rows at))) emitted;
          most = n;
          deeper = let now = ap (λ (ls : List ℕ). owed ls rows) popped.levels in omega (arith, now, few);
          made = made;
          no_more = no_more_last (length b.parts.streams) (length a.parts.streams) at rows popped.many top;
        }

    pub front_popped : EmittedFront shape mid now (combined_of (grouping_of shape) (partials_at shape (rows at))) → EmittedFront shape was now (said_down shape (length a.parts.streams) rows)
    front_popped front =
        front_behind shape was mid now [] (emitted_same shape was mid same) (combined_of (grouping_of shape) (partials_at shape (rows at))) (said_down shape at rows) (said_down shape (length a.parts.streams) rows) said_top front

  pub advances_divided : {m0 m : ℕ} (was now : List (List Value) → Type 0) → ((taken : List (List Value)) → was taken → now taken) → HasDivided shape at rows a.parts b → MakesBeside (length (rows at)) m0 m a.signs b.signs → Advances shape was now m0 m rows a b
  advances_divided was now same divided made =
      record {
        left = divided.left;
        stacked = divided.stacked;
        done = [];
        split = ap (λ (n : ℕ). said_down shape n rows) top ∙ divided.same;
        emitted = emitted_same shape was now same;
        most = length (rows at);
        deeper = divided.deeper;
        made = made;
        no_more = subst (λ (n : ℕ). AreNoMore (shares (length b.parts.streams) divided.left) (shares n rows)) (sym top) divided.no_more;
      }

-- ---- one step after another

module _ {m0 m1 : ℕ} (shape : Shape) (was mid now : List (List Value) → Type 0) (rows : ℕ → List (List ℕ)) (a b c : State) (first : Advances shape was mid m0 m1 rows a b) where
  pub advances_then : {m2 : ℕ} → Advances shape mid now m1 m2 first.left b c → Advances shape was now m0 m2 rows a c
  advances_then {m2} second =
      record {
        left = second.left;
        stacked = second.stacked;
        done = first.done ++ second.done;
        split = first.split ∙ ap (λ (ps : List Partial). first.done ++ ps) second.split ∙ sym (append_assoc first.done second.done (said_down shape (length c.parts.streams) second.left));
        emitted = emitted_behind shape was mid now first.done first.emitted second.done second.emitted;
        most = first.most + second.most;
        deeper = let one = first.deeper in let two = second.deeper in omega (arith, one, two);
        made = counts_both first.most second.most (first.most + second.most) m0 m1 m2 a.signs b.signs c.signs (omega arith) first.made second.made;
        no_more = no_more_then (shares (length c.parts.streams) second.left) (shares (length b.parts.streams) first.left) (shares (length a.parts.streams) rows) second.no_more first.no_more;
      }

  pub advances_front : EmittedFront shape mid now (said_down shape (length b.parts.streams) first.left) → EmittedFront shape was now (said_down shape (length a.parts.streams) rows)
  advances_front front =
      front_behind shape was mid now first.done first.emitted (said_down shape (length b.parts.streams) first.left) [] (said_down shape (length a.parts.streams) rows)
      (first.split ∙ ap (λ (ps : List Partial). first.done ++ ps) (sym (append-nil (said_down shape (length b.parts.streams) first.left)))) front

  -- whatever the next step answers
  pub advances_made : (m2 : ℕ) → MakesBeside (owed b.parts.levels first.left) m1 m2 b.signs c.signs → MakesBeside (owed a.parts.levels rows) m0 m2 a.signs c.signs
  advances_made m2 made = counts_both first.most (owed b.parts.levels first.left) (owed a.parts.levels rows) m0 m1 m2 a.signs b.signs c.signs first.deeper first.made made

  pub advances_few : MakesBeside (owed a.parts.levels rows) m0 m1 a.signs b.signs
  advances_few = counts_less first.most (owed a.parts.levels rows) m0 m1 a.signs b.signs (let less = first.deeper in omega (arith, less)) first.made

  -- no partition is left
  pub advances_all : length b.parts.streams ≡ 0 → Emitted shape was mid (said_down shape (length a.parts.streams) rows)
  advances_all none =
      subst (Emitted shape was mid) (sym (first.split ∙ ap (λ (n : ℕ). first.done ++ said_down shape n first.left) none ∙ append-nil first.done)) first.emitted

pub advances_none : {m : ℕ} (shape : Shape) (was : List (List Value) → Type 0) (rows : ℕ → List (List ℕ)) (a : State) → Stacked shape rows a → Advances shape was was m m rows a a
advances_none {m} shape was rows a stacked =
    record { left = rows; stacked = stacked; done = []; split = refl; emitted = emitted_same shape was was (λ taken took. took); most = 0; deeper = omega arith; made = counts_none m a.signs; no_more = no_more_same (shares (length a.parts.streams) rows) }

-- ---- what both of two clauses say

pub ok_both : {X E P Q R : Type 0} (r : Result X E) → (P → Q → R) → OnOk r P → OnOk r Q → OnOk r R
ok_both (Ok x) both p q = both p q
ok_both (Err e) both p q = tt

pub came_later : {X : Type 0} (r : Result X OpErr) (f0 f1 f2 : ℕ) (s0 s1 s2 : Signs) → f0 ≤ f1 → Grows s0 s1 → IfErr r (CameOf f1 f2 s1 s2) → IfErr r (CameOf f0 f2 s0 s2)
came_later (Ok x) f0 f1 f2 s0 s1 s2 less grows came = tt
came_later (Err e) f0 f1 f2 s0 s1 s2 less grows came = came_behind f0 f1 f2 s0 s1 s2 e less grows came
