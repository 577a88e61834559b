-- Pairs that an emitter took, some behind others.
use Rattle.std.proofs.Common.{◌≡◌, ◌∙◌, ◌+◌, List, [], ◌++◌, Result, Ok, Err, IfErr, OnOk, refl, sym, subst, arith, append-nil, append_assoc}
use Rattle.std.specs.Prelude.{IsErr, IsErrAnd}
use Rattle.std.specs.List.{sum_by}
use Rattle.std.proofs.lemmas.List.Sums.{sum_by-append}
use Rattle.row_codec.specs.declared.values.Value.{Value}
use Rattle.join_op.specs.Handing.{Emitted, EmittedSome}
use Rattle.join_op.specs.Pairs.{SameRows}

pub some_none : (was : List (List Value) → Type 0) (pairs : List (List Value)) → EmittedSome was was pairs
some_none was pairs taken took = record { some = []; rest = pairs; same = λ count. refl; came = subst was (sym (append-nil taken)) took }

pub emitted_none : (was : List (List Value) → Type 0) → Emitted was was []
emitted_none was = record { rows = []; same = λ count. refl; came = λ taken took. subst was (sym (append-nil taken)) took }

pub emitted_as : (was now : List (List Value) → Type 0) (xs ys : List (List Value)) → SameRows xs ys → Emitted was now xs → Emitted was now ys
emitted_as was now xs ys same emitted = record { rows = emitted.rows; same = λ count. emitted.same count ∙ same count; came = emitted.came }

module _ (was mid now : List (List Value) → Type 0) (rows : List (List Value)) (first : (taken : List (List Value)) → was taken → mid (taken ++ rows)) where
  pub came_more : (more : List (List Value)) → ((taken : List (List Value)) → mid taken → now (taken ++ more)) → (taken : List (List Value)) → was taken → now (taken ++ (rows ++ more))
  came_more more second taken took = subst now (append_assoc taken rows more) (second (taken ++ rows) (first taken took))

  -- of what was to come, some came before, and some of the next
  pub some_more : (next rest all : List (List Value)) → SameRows (rows ++ (next ++ rest)) all → EmittedSome mid now next → EmittedSome was now all
  some_more next rest all same second taken took =
      let came = second (taken ++ rows) (first taken took) in
      record {
        some = rows ++ came.some;
        rest = came.rest ++ rest;
        same = λ count.
            let one : sum_by count ((rows ++ came.some) ++ (came.rest ++ rest)) ≡ sum_by count (rows ++ came.some) + sum_by count (came.rest ++ rest) = sum_by-append count (rows ++ came.some) (came.rest ++ rest) in
            let two : sum_by count (rows ++ came.some) ≡ sum_by count rows + sum_by count came.some = sum_by-append count rows came.some in
            let three : sum_by count (came.rest ++ rest) ≡ sum_by count came.rest + sum_by count rest = sum_by-append count came.rest rest in
            let four : sum_by count (came.some ++ came.rest) ≡ sum_by count came.some + sum_by count came.rest = sum_by-append count came.some came.rest in
            let five = came.same count in
            let six : sum_by count (rows ++ (next ++ rest)) ≡ sum_by count rows + sum_by count (next ++ rest) = sum_by-append count rows (next ++ rest) in
            let seven : sum_by count (next ++ rest) ≡ sum_by count next + sum_by count rest = sum_by-append count next rest in
            let all = same count in
            omega (arith, one, two, three, four, five, six, seven, all);
        came = subst now (append_assoc taken rows came.some) came.came;
      }

-- what follows from two clauses on an error
pub both_errs : {X E : Type 0} {P Q R : E → Type 0} (r : Result X E) → ((e : E) → P e → Q e → R e) → IfErr r P → IfErr r Q → IfErr r R
both_errs (Ok x) so one two = tt
both_errs (Err e) so one two = so e one two

-- calls in between left what was taken
module _ (was mid now : List (List Value) → Type 0) (pairs : List (List Value)) (still : (taken : List (List Value)) → mid taken → now taken) where
  pub emitted_on : Emitted was mid pairs → Emitted was now pairs
  emitted_on emitted = record { rows = emitted.rows; same = emitted.same; came = λ taken took. still (taken ++ emitted.rows) (emitted.came taken took) }

  pub some_on : EmittedSome was mid pairs → EmittedSome was now pairs
  some_on emitted taken took =
      let came = emitted taken took in
      record { some = came.some; rest = came.rest; same = came.same; came = still (taken ++ came.some) came.came }

pub any_ok : {X E P : Type 0} (r : Result X E) → P → OnOk r P
any_ok (Ok x) holds = holds
any_ok (Err e) holds = tt

pub from_two : {X E P Q R : Type 0} (r : Result X E) → (P → Q → R) → OnOk r P → OnOk r Q → OnOk r R
from_two (Ok x) so p q = so p q
from_two (Err e) so p q = tt

-- an error that was handed on
pub handed_err : {X E : Type 0} (P : E → Type 0) (r : Result X E) (e : E) → IsErr r × IsErrAnd r (λ f. f ≡ e) → P e → IfErr r P
handed_err P (Ok x) e gives so = tt
handed_err P (Err f) e gives so = subst P (sym gives.1) so
