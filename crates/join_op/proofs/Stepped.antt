-- One step of a join: partitions of which one has no rows go, or both are divided, or their pairs are handed on.
use Rattle.std.proofs.Common.{◌≡◌, ◌∙◌, ◌⊎◌, inl, inr, ℕ, zero, suc, ◌+◌, ◌<◌, ◌≤◌, List, [], ◌∷◌, length, Option, Some, None, IfSome, IsSome, refl, ap, sym, subst, arith, append-nil}
use Rattle.std.specs.Prelude.{slice_get}
use Rattle.pool_model.specs.declared.entry.Entry.{Entry}
use Rattle.row_codec.specs.declared.values.Value.{Value}
use Rattle.store_api.specs.declared.shapes.JoinShape.{JoinShape}
use Rattle.store_api.specs.Holdings.{Holdings}
use Rattle.store_api.specs.Signs.{Signs}
use Rattle.tuple_stream.specs.Spending.{PinsAgain}
use Rattle.tuple_stream.specs.Streamed.{Streamed}
use Rattle.tuple_stream.specs.Streams.{HasRows}
use Rattle.tuple_stream.specs.Trails.{EnteredEvents, PinsFirst}
use Rattle.tuple_stream.proofs.PageLists.{no_length}
use Rattle.tuple_stream.proofs.Sinces.{since_joined, since_now, since_so}
use Rattle.tuple_stream.proofs.PinsFirst.{both_pin_first, has_pin_back, has_pin_front}
use Rattle.partition_stack.specs.Making.{MakesFew}
use Rattle.partition_stack.specs.Stack.{Stack}
use Rattle.partition_stack.proofs.Making.{few_counts}
use Rattle.join_op.specs.Handing.{Emitted}
use Rattle.join_op.specs.Chunks.{stored_pairs}
use Rattle.join_op.specs.Joining.{Advances, Both, HasNoRowsAt, PinsBefore, SharesPairs, ShowBoth, both, owed_both}
use Rattle.join_op.specs.Stored.{left_side, rows_in}
use Rattle.join_op.proofs.Advances.{advances_popped}
use Rattle.join_op.proofs.Counts.{no_right}
use Rattle.join_op.proofs.Handed.{emitted_none, emitted_on}

there_is : (xs : List Streamed) (k : ℕ) → k < length xs → IsSome (slice_get xs k)
there_is [] k inside = absurd (omega (arith, inside))
there_is (x ∷ xs) zero inside = refl
there_is (x ∷ xs) (suc k) inside = there_is xs k (omega (arith, inside))

none_shown : (h : Holdings) (rows : List (List ℕ)) (o : Option Streamed) → IsSome o → IfSome o (λ s. s.count ≡ 0) → ((s : Streamed) → o ≡ Some s → HasRows rows s h) → rows ≡ []
none_shown h rows None some none shows = absurd cc
none_shown h rows (Some s) some none shows = no_length rows (sym (shows s refl).counted ∙ none)

-- where one side has no row, there is no pair
pub no_pairs : (shape : JoinShape) (at : ℕ) (left right : Stack) (h : Holdings) (s : Signs) (lefts rights : ℕ → List (List ℕ)) → ShowBoth lefts rights (both left right h s) → at < length left.streams → at < length right.streams → HasNoRowsAt at left ⊎ HasNoRowsAt at right → [] ≡ stored_pairs shape (lefts at) (rights at)
no_pairs shape at left right h s lefts rights shows inside inside_right (inl none) =
    let is : lefts at ≡ [] = none_shown h (lefts at) (slice_get left.streams at) (there_is left.streams at inside) none (λ x there. shows.left at x there) in
    sym (ap (λ (rs : List (List ℕ)). stored_pairs shape rs (rights at)) is)
no_pairs shape at left right h s lefts rights shows inside inside_right (inr none) =
    let is : rights at ≡ [] = none_shown h (rights at) (slice_get right.streams at) (there_is right.streams at inside_right) none (λ x there. shows.right at x there) in
    sym (ap (λ (rs : List (List ℕ)). stored_pairs shape (lefts at) rs) is ∙ no_right shape (rows_in (left_side shape) (lefts at)))

module _ (shape : JoinShape) (was now : List (List Value) → Type 0) (lefts rights : ℕ → List (List ℕ)) (still : (taken : List (List Value)) → was taken → now taken) where
  pub advances_gone : {m : ℕ} (at : ℕ) (left right : Stack) (h : Holdings) (s : Signs) (b : Both) → length left.streams ≡ at + 1 → length right.streams ≡ length left.streams → length b.left.streams ≡ at → length b.right.streams ≤ length right.streams → ShowBoth lefts rights (both left right h s) → ShowBoth lefts rights b
      → HasNoRowsAt at left ⊎ HasNoRowsAt at right → owed_both b lefts rights ≤ owed_both (both left right h s) lefts rights → MakesFew 0 s b.signs → Advances shape was now m m lefts rights (both left right h s) b
  advances_gone {m} at left right h s b top many low fewer was_shown shows none less made =
      advances_popped shape was now lefts rights (both left right h s) b at top low fewer shows
      (subst (Emitted was now) (no_pairs shape at left right h s lefts rights was_shown (omega (arith, top)) (omega (arith, top, many)) none) (emitted_on was was now [] still (emitted_none was))) less (few_counts 0 m s b.signs made)

  pub advances_divided : {m : ℕ} (a b : Both) → SharesPairs shape lefts rights a b → Advances shape was now m m lefts rights a b
  advances_divided {m} a b shares =
      record {
        lefts_now = shares.lefts_now;
        rights_now = shares.rights_now;
        shows = shares.shows;
        rows = [];
        came = λ taken took. subst now (sym (append-nil taken)) (still taken took);
        same = shares.same;
        lighter = shares.lighter;
        most = shares.most;
        deeper = shares.deeper;
        made = few_counts shares.most m a.signs b.signs shares.made;
      }

-- ---- what was pinned

-- a page was pinned before any was left, or none was left
pub before_pinned : (still : Type 0) (t0 t1 : Option (List Entry)) → EnteredEvents PinsAgain t0 t1 → EnteredEvents (PinsBefore still) t0 t1
before_pinned still t0 t1 pins = since_so PinsAgain (PinsBefore still) t0 t1 (λ x again. record { first = again.first; pinned = inl again.pinned }) pins

pub before_still : (still : Type 0) (t0 t1 : Option (List Entry)) → still → EnteredEvents PinsFirst t0 t1 → EnteredEvents (PinsBefore still) t0 t1
before_still still t0 t1 so first = since_so PinsFirst (PinsBefore still) t0 t1 (λ x pins. record { first = pins; pinned = inr so }) first

pub before_none : (still : Type 0) (trail : Option (List Entry)) → still → EnteredEvents (PinsBefore still) trail trail
before_none still trail so = since_now (PinsBefore still) trail (record { first = tt; pinned = inr so })

pub before_more : (still next all : Type 0) (t0 t1 t2 : Option (List Entry)) → (still → next → all) → EnteredEvents (PinsBefore still) t0 t1 → EnteredEvents (PinsBefore next) t1 t2 → EnteredEvents (PinsBefore all) t0 t2
before_more still next all t0 t1 t2 both was then =
    since_joined (PinsBefore still) (PinsBefore next) (PinsBefore all) t0 t1 t2
    (λ x y one two.
    record {
      first = both_pin_first x y one.first two.first;
      pinned = elim one.pinned [ inl pin ↦ inl (has_pin_front x y pin) | inr so ↦ elim two.pinned [ inl pin ↦ inl (has_pin_back x y pin) | inr too ↦ inr (both so too) ] ];
    })
    was then
