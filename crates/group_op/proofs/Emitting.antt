-- Rows that an emitter took, one list behind another.
use Rattle.std.proofs.Common.{◌≡◌, ◌⊎◌, inl, inr, ℕ, List, [], ◌∷◌, ◌++◌, refl, ap, sym, ◌∙◌, subst, append_assoc, append-nil}
use Rattle.row_codec.specs.declared.values.Value.{Value}
use Rattle.store_api.specs.declared.shapes.Shape.{Shape}
use Rattle.group_rows.specs.Partials.{Partial}
use Rattle.group_op.specs.Emission.{Emitted, EmittedFront, SayAll, Says, WentOn}
use Rattle.group_op.specs.Stored.{IsPartialRow, partial_at, values_at}

-- the values of a partial row say it
pub says_read : (shape : Shape) (bytes : List ℕ) → IsPartialRow shape bytes → Says shape (partial_at shape bytes) (values_at shape bytes)
unfolding partial_at
says_read shape bytes is = record { is_row = is.is_row; kinds_are = is.kinds_are; says = refl }

say_append : (shape : Shape) (xs ys : List Partial) (rs ss : List (List Value)) → SayAll shape xs rs → SayAll shape ys ss → SayAll shape (xs ++ ys) (rs ++ ss)
say_append shape [] ys [] ss one two = two
say_append shape [] ys (r ∷ rs) ss one two = absurd one
say_append shape (x ∷ xs) ys [] ss one two = absurd one
say_append shape (x ∷ xs) ys (r ∷ rs) ss one two = (one.0, say_append shape xs ys rs ss one.1 two)

pub emitted_none : (shape : Shape) (was : List (List Value) → Type 0) → Emitted shape was was []
emitted_none shape was = record { rows = []; say = tt; came = λ taken took. subst was (sym (append-nil taken)) took }

pub front_none : (shape : Shape) (was : List (List Value) → Type 0) (partials : List Partial) → EmittedFront shape was was partials
front_none shape was partials taken took =
    record { some = []; rest = partials; split = refl; rows = []; say = tt; came = subst was (sym (append-nil taken)) took }

module _ (shape : Shape) (was now : List (List Value) → Type 0) (p : Partial) (row : List Value) (says : Says shape p row) where
  pub emitted_one : ((rows : List (List Value)) → was rows → now (rows ++ row ∷ [])) → Emitted shape was now (p ∷ [])
  emitted_one came = record { rows = row ∷ []; say = (says, tt); came = came }

  pub front_one : ((rows : List (List Value)) → was rows → now rows ⊎ now (rows ++ row ∷ [])) → EmittedFront shape was now (p ∷ [])
  front_one came taken took = elim (came taken took) [
    | inl same ↦ record { some = []; rest = p ∷ []; split = refl; rows = []; say = tt; came = subst now (sym (append-nil taken)) same }
    | inr more ↦ record { some = p ∷ []; rest = []; split = refl; rows = row ∷ []; say = (says, tt); came = more }
  ]

module _ (shape : Shape) (was mid now : List (List Value) → Type 0) (done : List Partial) (first : Emitted shape was mid done) where
  pub emitted_behind : (more : List Partial) → Emitted shape mid now more → Emitted shape was now (done ++ more)
  emitted_behind more second =
      record {
        rows = first.rows ++ second.rows;
        say = say_append shape done more first.rows second.rows first.say second.say;
        came = λ taken took. subst now (append_assoc taken first.rows second.rows) (second.came (taken ++ first.rows) (first.came taken took));
      }

  pub front_behind : (more rest all : List Partial) → all ≡ done ++ (more ++ rest) → EmittedFront shape mid now more → EmittedFront shape was now all
  front_behind more rest all is second taken took =
      let front = second (taken ++ first.rows) (first.came taken took) in
      record {
        some = done ++ front.some;
        rest = front.rest ++ rest;
        split =
            is ∙ ap (λ (ps : List Partial). done ++ (ps ++ rest)) front.split ∙ ap (λ (ps : List Partial). done ++ ps) (append_assoc front.some front.rest rest)
            ∙ sym (append_assoc done front.some (front.rest ++ rest));
        rows = first.rows ++ front.rows;
        say = say_append shape done front.some first.rows front.rows first.say front.say;
        came = subst now (append_assoc taken first.rows front.rows) front.came;
      }

pub went_emitted : {shape : Shape} {was now : List (List Value) → Type 0} {partials : List Partial} → Emitted shape was now partials → WentOn was now
went_emitted emitted = λ taken took. (emitted.rows, emitted.came taken took)

pub went_front : {shape : Shape} {was now : List (List Value) → Type 0} {partials : List Partial} → EmittedFront shape was now partials → WentOn was now
went_front front = λ taken took. let came = front taken took in (came.rows, came.came)
