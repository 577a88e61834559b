-- All pages of both sides rest.
use Rattle.std.proofs.Common.{◌≡◌, ◌∙◌, inl, refl, Bool, true, false, List, ◌++◌, length, Option, ap, sym, subst, arith, append_assoc}
use Rattle.std.proofs.lemmas.Option.{slice_get_within}
use Rattle.pool_model.specs.declared.entry.Entry.{Entry}
use Rattle.row_codec.specs.declared.values.Value.{Value}
use Rattle.store_api.specs.Holdings.{Holdings}
use Rattle.store_api.specs.Signs.{Signs}
use Rattle.store_api.specs.Tokens.{ClientToken}
use Rattle.store_api.specs.declared.shapes.JoinShape.{JoinShape}
use Rattle.tuple_stream.specs.Families.{LaysAll}
use Rattle.tuple_stream.specs.FamilyCalls.{AllAtEnd, AreSteady, RestsSome}
use Rattle.tuple_stream.specs.Trails.{EnteredEvents}
use Rattle.tuple_stream.proofs.Sinces.{since_joined}
use Rattle.partition_stack.specs.Stack.{RestBelow, Stack, over}
use Rattle.join_op.specs.Beside.{CallsBeside}
use Rattle.join_op.specs.Joining.{both}
use Rattle.join_op.specs.Operator.{AreFirst, HasNoRight, Keeps, LaidBoth, operator}
use Rattle.join_op.specs.Rested.{HasRested, KeepsRested}
use Rattle.join_op.specs.Stored.{left_side, right_side}
use Rattle.join_op.proofs.KeepsRows.{kept_beside, laid_rested, lays_on, makes_on, rested}
use Rattle.std.specs.Bool.{⊤}

module _ (c : ClientToken) (shape : JoinShape) (left l1 right r2 : Stack) (h h1 h2 : Holdings) (s s1 s2 : Signs)
    (called : CallsBeside c.tracker left l1 right h h1 s s1) (rests : RestsSome c.tracker (length left.streams) (over left h s) (over l1 h1 s1))
    (called_next : CallsBeside c.tracker right r2 l1 h1 h2 s1 s2) (rests_next : RestsSome c.tracker (length right.streams) (over right h1 s1) (over r2 h2 s2)) where
  laid_next : (start : Option (List Entry)) → AllAtEnd (over right h1 s1) → EnteredEvents (LaidBoth (over l1 h1 s1) (over right h1 s1)) start s1.trail → EnteredEvents (LaidBoth (over l1 h2 s2) (over r2 h2 s2)) start s2.trail
  laid_next start ends entered =
      let steady : AreSteady (over right h1 s1) = λ i x at. inl (ends i x at) in
      since_joined (LaidBoth (over l1 h1 s1) (over right h1 s1)) (LaysAll (AreSteady (over right h1 s1)) ⊤ (over right h1 s1) (over r2 h2 s2)) (LaidBoth (over l1 h2 s2) (over r2 h2 s2)) start s1.trail s2.trail
      (λ first next laid lays. record {
        lefts = laid.lefts;
        rights = laid.rights ++ next;
        are = ap (λ es. es ++ next) laid.are ∙ append_assoc laid.lefts laid.rights next;
        left = record { building = laid.left.building; left = λ w. laid.left.left w ∙ sym (called_next.weighs w) };
        right = lays_on (over right h1 s1) (over r2 h2 s2) laid.rights next steady laid.right lays;
        left_made = laid.left_made;
        right_made = makes_on (over right h1 s1) (over r2 h2 s2) laid.rights next laid.right_made lays;
      })
      entered rests_next.steps.trail

  laid_first : (start : Option (List Entry)) (lefts rights : List (List Value)) (left_rests : Bool) → Keeps start lefts rights (operator c shape left right) h s
      → (left_rests ≡ true → (l1 ≡ left) × (h1 ≡ h) × (s1 ≡ s)) → (left_rests ≡ false → HasNoRight (operator c shape left right)) → EnteredEvents (LaidBoth (over l1 h1 s1) (over right h1 s1)) start s1.trail
  laid_first start lefts rights true keeps still none =
      let same = still refl in
      subst (λ (p : Stack). EnteredEvents (LaidBoth (over p h1 s1) (over right h1 s1)) start s1.trail) (sym same.0)
      (subst (λ (k : Holdings). EnteredEvents (LaidBoth (over left k s1) (over right k s1)) start s1.trail) (sym same.1)
      (subst (λ (r : Signs). EnteredEvents (LaidBoth (over left h r) (over right h r)) start r.trail) (sym same.2) keeps.laid))
  laid_first start lefts rights false keeps still none = laid_rested c shape left l1 right h h1 s s1 start lefts rights keeps called rests (none refl)

  pub keeps_rested : (start : Option (List Entry)) (lefts rights : List (List Value)) (left_rests : Bool) → Keeps start lefts rights (operator c shape left right) h s
      → (left_rests ≡ true → (l1 ≡ left) × (h1 ≡ h) × (s1 ≡ s)) → (left_rests ≡ false → HasNoRight (operator c shape left right)) → KeepsRested start shape lefts rights (both l1 r2 h2 s2)
  keeps_rested start lefts rights left_rests keeps still none =
      record {
        left = kept_beside c.tracker (left_side shape) lefts right r2 l1 h1 h2 s1 s2 called_next (rested c.tracker (length left.streams) (left_side shape) lefts (over left h s) (over l1 h1 s1) rests keeps.left);
        right = rested c.tracker (length right.streams) (right_side shape) rights (over right h1 s1) (over r2 h2 s2) rests_next (kept_beside c.tracker (right_side shape) rights left l1 right h h1 s s1 called keeps.right);
        laid = laid_next start keeps.right_ends (laid_first start lefts rights left_rests keeps still none);
      }

  pub has_rested : AreFirst left → AreFirst right → RestBelow (length l1.streams) l1 → r2.levels ≡ right.levels → HasRested (both l1 r2 h2 s2)
  has_rested first first_right below levels =
      let long = rests_next.steps.long in
      record {
        between = record {
          levels = levels ∙ first_right.first ∙ sym first.first ∙ sym called.levels;
          many = long ∙ first_right.sixteen ∙ sym first.sixteen ∙ sym called.many;
          left_closed = λ i x there. below i x there (slice_get_within l1.streams i x there);
          right_closed = λ i x there. rests_next.closed i x there (let inside = slice_get_within r2.streams i x there in omega (arith, inside, long));
        };
        first = record { sixteen = called.many ∙ first.sixteen; first = called.levels ∙ first.first };
      }
