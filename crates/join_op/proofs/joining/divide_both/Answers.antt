use Rattle.std.proofs.Common.{rules, ◌≡◌, ◌∙◌, ℕ, ◌+◌, ◌*◌, ◌<◌, length, Err, refl, ap, ap₂, sym, subst, arith, List}
use Rattle.std.specs.Prelude.{All}
use Rattle.row_codec.specs.declared.values.Kind.{Kind}
use Rattle.row_reading.specs.Reading.{IsKeyColumn}
use Rattle.store_api.specs.Holdings.{length_of}
use Rattle.store_api.proofs.Answered.{answered_before}
use Rattle.tuple_stream.specs.Families.{AllSized}
use Rattle.tuple_stream.specs.FamilyCalls.{shares}
use Rattle.partition_stack.specs.Slots.{SameSlots}
use Rattle.partition_stack.specs.Stack.{over}
use Rattle.partition_stack.proofs.Left.{leaves_both}
use Rattle.partition_stack.proofs.Making.{few_both, few_counted, few_less}
use Rattle.partition_stack.proofs.Results.{if_err}
use Rattle.join_op.specs.Dividing.{AreFewPages, DealsAll, side_of}
use Rattle.join_op.specs.Operator.{IsOperator, operator, over_both}
use Rattle.join_op.specs.Stored.{Side, left_side, right_side}
use Rattle.partition_stack.proofs.Stacking.{few_partitions}
use Rattle.join_op.proofs.BothSlots.{sides_slots, sized_behind, want_since}
use Rattle.partition_stack.proofs.Sides.{own_turned}
use Rattle.join_op.proofs.Calls.{left_has, right_has}
use Rattle.join_op.proofs.Enough.{all_sized, below_rows, few_whole, few_stay, some_len}
use Rattle.join_op.proofs.Halves.{both_divided, from_four}
use Rattle.join_op.proofs.Spellable.{left_keyed, right_keyed}
use Rattle.join_op.proofs.joining.divide_both.Goals as goal

pub divide_side-requires-clause-columns : goal.divide_side-requires-clause-columns
divide_side-requires-clause-columns g c =
    subst (λ (ks : List Kind). All (IsKeyColumn ks) c.args.left_columns.now) (sym c.as_slice-left_kinds.ensures)
    (subst (All (IsKeyColumn c.args.shape.now.left)) (sym c.requires.columns.on_left) (left_keyed c.args.shape.now c.requires.op.shape))

pub divide_side-requires-2-clause-columns : goal.divide_side-requires-2-clause-columns
divide_side-requires-2-clause-columns g c =
    subst (λ (ks : List Kind). All (IsKeyColumn ks) c.args.right_columns.now) (sym c.as_slice-right_kinds.ensures)
    (subst (All (IsKeyColumn c.args.shape.now.right)) (sym c.requires.columns.on_right) (right_keyed c.args.shape.now c.requires.op.shape))

pub returns-clause-leaves : goal.returns-clause-leaves
returns-clause-leaves g c = leaves_both c.args.c.now.tracker _ _ _ _ _ _ c.divide_side.ensures.called.leaves c.divide_side-2.ensures.called.leaves

pub returns-clause-cause : goal.returns-clause-cause
returns-clause-cause g c = if_err c.divide_side-2.result (λ e answers. answered_before e _ _ _ c.divide_side.ensures.called.leaves.grows answers.0) c.divide_side-2.ensures.answers

pub returns-in_err-divide_side-clause-made : goal.returns-in_err-divide_side-clause-made
returns-in_err-divide_side-clause-made g c = λ lefts rights shows.
    few_less (length (lefts c.args.at)) (length (lefts c.args.at) + length (rights c.args.at)) (g.St.Store.signs c.args.store.now) (g.St.Store.signs c.divide_side.new.store) (omega arith)
    (few_counted lefts (over c.args.left.now (g.St.Store.holds c.args.store.now) (g.St.Store.signs c.args.store.now)) c.args.at (g.St.Store.signs c.args.store.now) (g.St.Store.signs c.divide_side.new.store) (let top = c.requires.top in omega (arith, top)) shows.left c.divide_side.ensures.made)

pub returns-clause-made : goal.returns-clause-made
returns-clause-made g c = λ lefts rights shows.
    few_both (length (lefts c.args.at)) (length (rights c.args.at)) (length (lefts c.args.at) + length (rights c.args.at)) (g.St.Store.signs c.args.store.now) (g.St.Store.signs c.divide_side.new.store) (g.St.Store.signs c.divide_side-2.new.store) (omega arith)
    (few_counted lefts (over c.args.left.now (g.St.Store.holds c.args.store.now) (g.St.Store.signs c.args.store.now)) c.args.at (g.St.Store.signs c.args.store.now) (g.St.Store.signs c.divide_side.new.store) (let top = c.requires.top in omega (arith, top)) shows.left c.divide_side.ensures.made)
    (few_counted rights (over c.args.right.now (g.St.Store.holds c.args.store.now) (g.St.Store.signs c.args.store.now)) c.args.at (g.St.Store.signs c.divide_side.new.store) (g.St.Store.signs c.divide_side-2.new.store) (let top = c.requires.top in let many = c.requires.between.many in omega (arith, top, many)) shows.right c.divide_side-2.ensures.made)

pub returns-clause-divided : goal.returns-clause-divided
returns-clause-divided g c =
    let h = g.St.Store.holds c.args.store.now in
    let s = g.St.Store.signs c.args.store.now in
    let h1 = g.St.Store.holds c.divide_side.new.store in
    let s1 = g.St.Store.signs c.divide_side.new.store in
    let h2 = g.St.Store.holds c.divide_side-2.new.store in
    let s2 = g.St.Store.signs c.divide_side-2.new.store in
    let left_is : side_of c.as_slice-left_kinds.result.now c.args.left_columns.now ≡ left_side c.args.shape.now = ap₂ side_of c.as_slice-left_kinds.ensures c.requires.columns.on_left in
    let right_is : side_of c.as_slice-right_kinds.result.now c.args.right_columns.now ≡ right_side c.args.shape.now = ap₂ side_of c.as_slice-right_kinds.ensures c.requires.columns.on_right in
    let dealt : DealsAll (left_side c.args.shape.now) c.args.level c.args.at (over c.args.left.now h s) (over c.divide_side.new.parts h1 s1) =
    subst (λ (side : Side). DealsAll side c.args.level c.args.at (over c.args.left.now h s) (over c.divide_side.new.parts h1 s1)) left_is c.in_ok-divide_side.ensures.dealt in
    from_four c.divide_side-2.result
    (λ dealt_next divided_next closed_next whole_next.
    both_divided c.args.c.now.tracker c.args.shape.now c.args.at c.args.level c.args.left.now c.args.right.now c.divide_side.new.parts c.divide_side-2.new.parts h h1 h2 s s1 s2
    c.requires.between c.requires.top c.requires.level c.requires.deep c.divide_side.ensures.called c.divide_side-2.ensures.called dealt
    (subst (λ (side : Side). DealsAll side c.args.level c.args.at (over c.args.right.now h1 s1) (over c.divide_side-2.new.parts h2 s2)) right_is dealt_next)
    c.in_ok-divide_side.ensures.divided divided_next c.in_ok-divide_side.ensures.closed closed_next c.in_ok-divide_side.ensures.whole whole_next c.in_ok-divide_side.ensures.first
    (c.law_stack.ensures.levelled ∙ c.requires.top) (returns-clause-made g c))
    c.divide_side-2.ensures.dealt c.divide_side-2.ensures.divided c.divide_side-2.ensures.closed c.divide_side-2.ensures.whole

pub returns-in_err-divide_side-clause-want : goal.returns-in_err-divide_side-clause-want
returns-in_err-divide_side-clause-want g c =
    let h = g.St.Store.holds c.args.store.now in
    let s = g.St.Store.signs c.args.store.now in
    let h1 = g.St.Store.holds c.divide_side.new.store in
    let s1 = g.St.Store.signs c.divide_side.new.store in
    let same : c.from_residual.result ≡ Err c.in_err-divide_side.field-0.0 = search rules in
    rw same (want_since c.args.left.now.page_blocks c.args.left.now.page_blocks c.args.left.now c.args.right.now h h1 s s1 c.divide_side.new.parts.streams c.args.right.now.streams c.law_stack.ensures c.law_stack-2.ensures refl c.requires.op.alike c.divide_side.ensures.called.slots refl c.in_err-divide_side.field-0.0 c.in_err-divide_side.ensures.answers.1)

pub returns-in_err-divide_side-clause-slots : goal.returns-in_err-divide_side-clause-slots
returns-in_err-divide_side-clause-slots g c = c.divide_side.ensures.called.slots.sum

pub returns-clause-slots : goal.returns-clause-slots
returns-clause-slots g c =
    let h = g.St.Store.holds c.args.store.now in
    let s = g.St.Store.signs c.args.store.now in
    let h1 = g.St.Store.holds c.divide_side.new.store in
    let s1 = g.St.Store.signs c.divide_side.new.store in
    let h2 = g.St.Store.holds c.divide_side-2.new.store in
    let s2 = g.St.Store.signs c.divide_side-2.new.store in
    (sides_slots c.args.left.now c.args.right.now c.divide_side.new.parts c.divide_side-2.new.parts h h1 h2 s s1 s2 c.requires.op.alike c.divide_side.ensures.called.slots c.divide_side-2.ensures.called.slots).sum

pub returns-clause-want : goal.returns-clause-want
returns-clause-want g c =
    let h = g.St.Store.holds c.args.store.now in
    let s = g.St.Store.signs c.args.store.now in
    let h1 = g.St.Store.holds c.divide_side.new.store in
    let s1 = g.St.Store.signs c.divide_side.new.store in
    let h2 = g.St.Store.holds c.divide_side-2.new.store in
    let s2 = g.St.Store.signs c.divide_side-2.new.store in
    let all : SameSlots c.args.left.now.page_blocks (over_both c.args.left.now c.args.right.now h s) (over_both c.divide_side.new.parts c.divide_side-2.new.parts h2 s2) =
    sides_slots c.args.left.now c.args.right.now c.divide_side.new.parts c.divide_side-2.new.parts h h1 h2 s s1 s2 c.requires.op.alike c.divide_side.ensures.called.slots c.divide_side-2.ensures.called.slots in
    if_err c.divide_side-2.result
    (λ e answers. want_since c.args.left.now.page_blocks c.args.right.now.page_blocks c.args.left.now c.args.right.now h h2 s s2 c.divide_side.new.parts.streams c.divide_side-2.new.parts.streams c.law_stack.ensures c.law_stack-2.ensures refl c.requires.op.alike all c.requires.op.alike e answers.1)
    c.divide_side-2.ensures.answers

pub returns-in_err-divide_side-clause-enough : goal.returns-in_err-divide_side-clause-enough
returns-in_err-divide_side-clause-enough g c =
    let h = g.St.Store.holds c.args.store.now in
    let s = g.St.Store.signs c.args.store.now in
    let h1 = g.St.Store.holds c.divide_side.new.store in
    let s1 = g.St.Store.signs c.divide_side.new.store in
    let sized : AllSized c.args.left.now.page_blocks (over_both c.args.left.now c.args.right.now h s) = all_sized c.args.left.now c.args.right.now h s c.law_stack.ensures c.law_stack-2.ensures c.requires.op.alike in
    let some : 0 < length_of c.args.left.now.page_blocks h = some_len c.args.left.now.page_blocks h.block_len c.requires.op.sized (let least = c.block_len-len.ensures.least in let value = c.block_len-len.ensures.value in omega (arith, least, value)) in
    let blocks : ℕ = c.args.left.now.page_blocks in
    let same : c.from_residual.result ≡ Err c.in_err-divide_side.field-0.0 = search rules in
    rw same
    (λ lefts rights shows.
    below_rows blocks c.args.left.now c.args.right.now c.divide_side.new.parts c.args.right.now h h1 s s1 c.divide_side.ensures.called.slots sized c.divide_side.ensures.called.leaves.others.block_len some refl lefts rights
    (c.divide_side.ensures.few lefts shows.told shows.left shows.left_whole)
    (few_stay blocks 273 (shares (length c.args.right.now.streams) rights) (over c.args.right.now h s) (over c.args.right.now h1 s1) refl c.divide_side.ensures.called.leaves.others.block_len
    (few_whole c.law_scratch.ensures.few c.args.c.now.tracker blocks rights (over c.args.right.now h s) c.requires.op.owns.right_shaped (sized_behind blocks c.args.left.now.streams c.args.right.now.streams h s sized) shows.right (few_partitions c.args.right.now c.law_stack-2.ensures) shows.right_whole))
    c.in_err-divide_side.field-0.0 c.in_err-divide_side.ensures.answers.1)

pub returns-clause-enough : goal.returns-clause-enough
returns-clause-enough g c =
    let h = g.St.Store.holds c.args.store.now in
    let s = g.St.Store.signs c.args.store.now in
    let h1 = g.St.Store.holds c.divide_side.new.store in
    let s1 = g.St.Store.signs c.divide_side.new.store in
    let h2 = g.St.Store.holds c.divide_side-2.new.store in
    let s2 = g.St.Store.signs c.divide_side-2.new.store in
    let sized : AllSized c.args.left.now.page_blocks (over_both c.args.left.now c.args.right.now h s) = all_sized c.args.left.now c.args.right.now h s c.law_stack.ensures c.law_stack-2.ensures c.requires.op.alike in
    let some : 0 < length_of c.args.left.now.page_blocks h = some_len c.args.left.now.page_blocks h.block_len c.requires.op.sized (let least = c.block_len-len.ensures.least in let value = c.block_len-len.ensures.value in omega (arith, least, value)) in
    let blocks : ℕ = c.args.left.now.page_blocks in
    let all : SameSlots blocks (over_both c.args.left.now c.args.right.now h s) (over_both c.divide_side.new.parts c.divide_side-2.new.parts h2 s2) =
    sides_slots c.args.left.now c.args.right.now c.divide_side.new.parts c.divide_side-2.new.parts h h1 h2 s s1 s2 c.requires.op.alike c.divide_side.ensures.called.slots c.divide_side-2.ensures.called.slots in
    if_err c.divide_side-2.result
    (λ e answers lefts rights shows.
    below_rows c.args.right.now.page_blocks c.args.left.now c.args.right.now c.divide_side.new.parts c.divide_side-2.new.parts h h2 s s2 all sized (c.divide_side-2.ensures.called.leaves.others.block_len ∙ c.divide_side.ensures.called.leaves.others.block_len) some c.requires.op.alike lefts rights
    (few_stay blocks 273 (shares (length c.args.left.now.streams) lefts) (over c.divide_side.new.parts h1 s1) (over c.divide_side.new.parts h2 s2) refl c.divide_side-2.ensures.called.leaves.others.block_len (c.divide_side.ensures.few lefts shows.told shows.left shows.left_whole))
    (subst (λ (n : ℕ). AreFewPages n 273 (shares (length c.args.right.now.streams) rights) (over c.divide_side-2.new.parts h2 s2)) c.requires.op.alike (c.divide_side-2.ensures.few rights (c.divide_side.ensures.called.leaves.others.told ∙ shows.told) (c.divide_side.ensures.called.shows rights shows.right) shows.right_whole))
    e answers.1)
    c.divide_side-2.ensures.answers

pub divide_side-requires-2-clause-may : goal.divide_side-requires-2-clause-may
divide_side-requires-2-clause-may g c =
    let h1 = g.St.Store.holds c.divide_side.new.store in
    let s1 = g.St.Store.signs c.divide_side.new.store in
    let called = c.divide_side.ensures.called in
    let op : IsOperator (operator c.args.c.now c.args.shape.now c.divide_side.new.parts c.args.right.now) h1 s1 = left_has c.args.c.now c.args.shape.now c.args.left.now c.args.right.now _ h1 _ s1 c.requires.op c.divide_side.new.parts called in
    record {
      client = op.client;
      own = own_turned c.args.c.now.tracker 0 c.divide_side.new.parts.streams c.args.right.now.streams h1 s1 op.owns;
      rests = λ i x there below. c.in_ok-divide_side.ensures.closed i x there;
      least =
          let len : length_of c.args.right.now.page_blocks h1 ≡ length_of c.divide_side.new.parts.page_blocks h1 = ap (λ (n : ℕ). n * h1.block_len) op.alike in
          let least = op.least in
          omega (arith, least, ap (λ (n : ℕ). 20 * n) len);
    }

pub returns-clause-op : goal.returns-clause-op
returns-clause-op g c =
    let h1 = g.St.Store.holds c.divide_side.new.store in
    let s1 = g.St.Store.signs c.divide_side.new.store in
    right_has c.args.c.now c.args.shape.now c.divide_side.new.parts c.args.right.now h1 (g.St.Store.holds c.divide_side-2.new.store) s1 (g.St.Store.signs c.divide_side-2.new.store)
    (left_has c.args.c.now c.args.shape.now c.args.left.now c.args.right.now _ h1 _ s1 c.requires.op c.divide_side.new.parts c.divide_side.ensures.called) c.divide_side-2.new.parts c.divide_side-2.ensures.called
