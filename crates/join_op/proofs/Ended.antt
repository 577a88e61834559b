-- A join ends: the pages of both sides go.
use Rattle.std.proofs.Common.{◌∙◌, ℕ, List, [], Option, ap, sym}
use Rattle.std.proofs.lemmas.Option.{none-some}
use Rattle.store_api.specs.Conditions.{IsIdle}
use Rattle.store_api.specs.Holdings.{Holdings, LiveLoan}
use Rattle.store_api.specs.Signs.{Signs}
use Rattle.tuple_stream.specs.Streamed.{Streamed}
use Rattle.tuple_stream.specs.Families.{AllClosed, AreShaped, Family, family}
use Rattle.tuple_stream.specs.Trails.{EnteredEvents, PinsFirst}
use Rattle.tuple_stream.proofs.PinsFirst.{both_pin_first}
use Rattle.tuple_stream.proofs.Sinces.{since_joined}
use Rattle.pool_model.specs.declared.entry.Entry.{Entry}
use Rattle.partition_stack.specs.Changes.{EndsAll, HaveEnded}
use Rattle.partition_stack.specs.Leaving.{HasNoLoan, LeavesOthers}
use Rattle.partition_stack.specs.Sides.{OwnBoth}
use Rattle.partition_stack.proofs.Left.{leaves_both, touched_leaves}
use Rattle.partition_stack.proofs.Sides.{own_called, own_turned}

none_shaped : (t : ℕ) (h : Holdings) (signs : Signs) → AreShaped t (family [] h signs)
none_shaped t h signs = record { each = λ i s at. absurd (none-some s at); apart = λ i j a b other at there. absurd (none-some a at) }

module _ (t : ℕ) (left right : List Streamed) (h h1 h2 : Holdings) (s s1 s2 : Signs) (own : OwnBoth t 0 left right h s) (first : EndsAll t (family left h s) (family [] h1 s1)) where
  pub left_ended : OwnBoth t 0 right [] h1 s1
  left_ended = own_turned t 0 [] right h1 s1 (own_called t 0 left [] right h h1 s s1 own first.touches (none_shaped t h1 s1))

  module _ (second : EndsAll t (family right h1 s1) (family [] h2 s2)) where
    pub all_ended : OwnBoth t 0 [] [] h2 s2
    all_ended = own_called t 0 right [] [] h1 h2 s1 s2 left_ended second.touches (none_shaped t h2 s2)

    pub ended_idle : HasNoLoan t h → IsIdle t h2
    ended_idle none =
        record {
          pages = λ q page there. all_ended.only q page there (λ i r at. absurd (none-some r at)) (λ i r at. absurd (none-some r at));
          loans = λ q loan there. none q loan (sym (ap (λ (f : ℕ → Option LiveLoan). f q) first.touches.loans) ∙ sym (ap (λ (f : ℕ → Option LiveLoan). f q) second.touches.loans) ∙ there);
        }

    pub ended_leaves : LeavesOthers t h h2 s s2
    ended_leaves =
        leaves_both t h h1 h2 s s1 s2
        (touched_leaves t (family left h s) (family [] h1 s1) own.left_shaped (none_shaped t h1 s1) first.touches own.lives first.grows)
        (touched_leaves t (family right h1 s1) (family [] h2 s2) left_ended.left_shaped (none_shaped t h2 s2) second.touches left_ended.lives second.grows)

-- what ends pins no page, and leaves none
pub ended_first : (f g : Family) (t0 t1 t2 : Option (List Entry)) → AllClosed f → AllClosed g → EnteredEvents (HaveEnded f) t0 t1 → EnteredEvents (HaveEnded g) t1 t2 → EnteredEvents PinsFirst t0 t2
ended_first f g t0 t1 t2 one two first second =
    since_joined (HaveEnded f) (HaveEnded g) PinsFirst t0 t1 t2 (λ x y a b. both_pin_first x y (a.first one) (b.first two)) first second
