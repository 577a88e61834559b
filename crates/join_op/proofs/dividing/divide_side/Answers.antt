use Rattle.std.proofs.Common.{◌≡◌, ◌∙◌, ℕ, ◌+◌, ◌≤◌, [], length, refl, ap, sym, subst, arith}
use Rattle.std.proofs.lemmas.Option.{slice_get_within}
use Rattle.store_api.proofs.Answered.{answered_before}
use Rattle.tuple_stream.specs.Families.{AllClosed, AllSized, Family, pages_in}
use Rattle.tuple_stream.specs.FamilyCalls.{AllWhole, shares}
use Rattle.tuple_stream.specs.Touches.{IsFull}
use Rattle.partition_stack.specs.Stack.{Stack, over}
use Rattle.partition_stack.proofs.Making.{few_both, few_less, few_none, laying_makes}
use Rattle.partition_stack.proofs.Results.{on_ok}
use Rattle.join_op.specs.Dividing.{AreFewPages, HasCalled, HasDealt, IsFan, WholeBut, side_of}
use Rattle.join_op.specs.Joining.{HasRowsAt}
use Rattle.partition_stack.proofs.Stacking.{few_partitions}
use Rattle.join_op.proofs.BothSlots.{sized_front}
use Rattle.join_op.proofs.Calls.{called_of, calls_beside}
use Rattle.join_op.proofs.Dealing.{deals_all, deals_rested, part_all, pinned_then}
use Rattle.join_op.proofs.Enough.{all_sized, few_dealt, few_stay, few_whole}
use Rattle.join_op.proofs.Moved.{none_left}
use Rattle.join_op.proofs.Spent.{whole_again, whole_divided}
use Rattle.join_op.proofs.Handed.{both_errs}
use Rattle.join_op.proofs.Fans.{called_divided, called_then, closed_divided, fan_divided, may_divided, rows_divided, still_there}
use Rattle.join_op.proofs.dividing.divide_side.Goals as goal

pub spend_side-requires-clause-may : goal.spend_side-requires-clause-may
spend_side-requires-clause-may g c =
    may_divided c.args.c.now c.args.at c.args.level c.args.parts.now c.divide.new.self c.args.other.now (g.St.Store.holds c.args.store.now) (g.St.Store.signs c.args.store.now) c.in-Ok.ensures.ok c.law_stack.ensures c.requires.may

pub spend_side-requires-clause-fan : goal.spend_side-requires-clause-fan
spend_side-requires-clause-fan g c =
    subst (IsFan c.args.level c.args.at) (sym c.in-Ok.ensures.ok)
    (fan_divided c.args.level c.args.at c.args.parts.now (g.St.Store.holds c.args.store.now) (g.St.Store.signs c.args.store.now) c.requires.top c.requires.deep
    (let placed = c.law_stack.ensures.placed c.args.at c.args.level c.requires.level in let low = placed.low in let deep = c.requires.deep in omega (arith, low, deep)) c.requires.closed)

pub spend_side-requires-clause-some : goal.spend_side-requires-clause-some
spend_side-requires-clause-some g c = subst (HasRowsAt c.args.at) (sym c.in-Ok.ensures.ok) (rows_divided c.args.level c.args.at c.args.parts.now c.requires.top c.requires.some)

pub returns-clause-dealt : goal.returns-clause-dealt
returns-clause-dealt g c =
    on_ok c.rest_from.result
    (λ rests.
    deals_rested c.args.c.now.tracker _ (side_of c.args.kinds.now c.args.columns.now) c.args.level c.args.at (over c.args.parts.now (g.St.Store.holds c.args.store.now) (g.St.Store.signs c.args.store.now))
    (over c.spend_side.new.parts (g.St.Store.holds c.spend_side.new.store) (g.St.Store.signs c.spend_side.new.store)) _
    (deals_all c.args.c.now.tracker (side_of c.args.kinds.now c.args.columns.now) c.args.level c.args.at c.args.parts.now (g.St.Store.holds c.args.store.now) (g.St.Store.signs c.args.store.now) c.law_stack.ensures c.requires.top
    (over c.spend_side.new.parts (g.St.Store.holds c.spend_side.new.store) (g.St.Store.signs c.spend_side.new.store)) c.divide.new.self c.in-Ok.ensures.ok c.in_ok-spend_side.ensures.dealt) rests)
    c.rest_from.ensures.ok

pub returns-clause-closed : goal.returns-clause-closed
returns-clause-closed g c =
    on_ok c.rest_from.result (λ rests i s there. rests.closed i s there (let inside = slice_get_within c.rest_from.new.self.streams i s there in let long = rests.steps.long in omega (arith, inside, long))) c.rest_from.ensures.ok

pub returns-clause-first : goal.returns-clause-first
returns-clause-first g c =
    let h = g.St.Store.holds c.args.store.now in
    let s = g.St.Store.signs c.args.store.now in
    on_ok c.rest_from.result
    (λ rests.
    pinned_then s.trail (g.St.Store.signs c.spend_side.new.store).trail (g.St.Store.signs c.rest_from.new.store).trail
    (c.in_ok-spend_side.ensures.first (subst (λ (p : Stack). AllClosed (over p h s)) (sym c.in-Ok.ensures.ok) (closed_divided c.args.level c.args.at c.args.parts.now h s c.requires.closed)))
    rests.steps.grows.trail)
    c.rest_from.ensures.ok

pub returns-in_err-spend_side-clause-called : goal.returns-in_err-spend_side-clause-called
returns-in_err-spend_side-clause-called g c =
    let t = c.args.c.now.tracker in
    let h = g.St.Store.holds c.args.store.now in
    let s = g.St.Store.signs c.args.store.now in
    let h1 = g.St.Store.holds c.spend_side.new.store in
    let s1 = g.St.Store.signs c.spend_side.new.store in
    let begun : HasCalled t c.args.parts.now c.divide.new.self c.args.other.now h h s s =
    subst (λ (p : Stack). HasCalled t c.args.parts.now p c.args.other.now h h s s) (sym c.in-Ok.ensures.ok) (called_divided t c.args.at c.args.level c.args.parts.now c.args.other.now h s c.law_stack.ensures c.requires.may.own) in
    called_then t c.args.parts.now c.divide.new.self c.spend_side.new.parts c.args.other.now h h h1 s s s1 begun (called_of t c.divide.new.self c.spend_side.new.parts c.args.other.now h h1 s s1 c.spend_side.ensures.beside)

pub returns-clause-called : goal.returns-clause-called
returns-clause-called g c =
    let t = c.args.c.now.tracker in
    let h = g.St.Store.holds c.args.store.now in
    let s = g.St.Store.signs c.args.store.now in
    let h1 = g.St.Store.holds c.spend_side.new.store in
    let s1 = g.St.Store.signs c.spend_side.new.store in
    let h2 = g.St.Store.holds c.rest_from.new.store in
    let s2 = g.St.Store.signs c.rest_from.new.store in
    let begun : HasCalled t c.args.parts.now c.divide.new.self c.args.other.now h h s s =
    subst (λ (p : Stack). HasCalled t c.args.parts.now p c.args.other.now h h s s) (sym c.in-Ok.ensures.ok) (called_divided t c.args.at c.args.level c.args.parts.now c.args.other.now h s c.law_stack.ensures c.requires.may.own) in
    called_then t c.args.parts.now c.divide.new.self c.rest_from.new.self c.args.other.now h h h2 s s s2 begun
    (called_then t c.divide.new.self c.spend_side.new.parts c.rest_from.new.self c.args.other.now h h1 h2 s s1 s2
    (called_of t c.divide.new.self c.spend_side.new.parts c.args.other.now h h1 s s1 c.spend_side.ensures.beside)
    (called_of t c.spend_side.new.parts c.rest_from.new.self c.args.other.now h1 h2 s1 s2
    (calls_beside t c.spend_side.new.parts c.rest_from.new.self c.args.other.now h1 h2 s1 s2 c.spend_side.ensures.beside.own c.rest_from.ensures.went
    (ap (λ (p : Stack). p.page_blocks) c.rest_from.ensures.kept) (ap (λ (p : Stack). p.levels) c.rest_from.ensures.kept))))

pub returns-clause-answers : goal.returns-clause-answers
returns-clause-answers g c =
    let blocks : c.spend_side.new.parts.page_blocks ≡ c.args.parts.now.page_blocks = c.spend_side.ensures.beside.blocks ∙ ap (λ (p : Stack). p.page_blocks) c.in-Ok.ensures.ok in
    both_errs c.rest_from.result
    (λ e answered full. (
      answered_before e _ _ _ c.spend_side.ensures.beside.leaves.grows answered,
      subst (λ (n : ℕ). IsFull n (g.St.Store.holds c.rest_from.new.store).free_slots e) blocks full,
    )) c.rest_from.ensures.cause c.rest_from.ensures.full

pub returns-in_default-clause-made : goal.returns-in_default-clause-made
returns-in_default-clause-made g c = λ x there. few_less 0 x.count (g.St.Store.signs c.args.store.now) (g.St.Store.signs c.args.store.now) (omega arith) (few_none (g.St.Store.signs c.args.store.now))

pub returns-in_err-spend_side-clause-made : goal.returns-in_err-spend_side-clause-made
returns-in_err-spend_side-clause-made g c = λ x there. c.spend_side.ensures.made x (still_there c.args.at c.args.level c.args.parts.now c.divide.new.self x c.in-Ok.ensures.ok there)

pub returns-clause-made : goal.returns-clause-made
returns-clause-made g c = λ x there.
    (few_both x.count 0 x.count (g.St.Store.signs c.args.store.now) (g.St.Store.signs c.spend_side.new.store) (g.St.Store.signs c.rest_from.new.store) (omega arith) (c.spend_side.ensures.made x (still_there c.args.at c.args.level c.args.parts.now c.divide.new.self x c.in-Ok.ensures.ok there))
    (laying_makes 0 c.args.c.now.tracker (over c.spend_side.new.parts (g.St.Store.holds c.spend_side.new.store) (g.St.Store.signs c.spend_side.new.store)) (over c.rest_from.new.self (g.St.Store.holds c.rest_from.new.store) (g.St.Store.signs c.rest_from.new.store)) (let same = c.rest_from.ensures.pages in omega (arith, same)) c.rest_from.ensures.went))

pub returns-in_default-clause-few : goal.returns-in_default-clause-few
returns-in_default-clause-few g c = λ rows told shows whole.
    few_stay c.args.parts.now.page_blocks 273 (shares (length c.args.parts.now.streams) rows) (over c.args.parts.now (g.St.Store.holds c.args.store.now) (g.St.Store.signs c.args.store.now)) (over c.divide.new.self (g.St.Store.holds c.args.store.now) (g.St.Store.signs c.args.store.now))
    (ap (λ (p : Stack). pages_in (over p (g.St.Store.holds c.args.store.now) (g.St.Store.signs c.args.store.now))) c.in_default.ensures.err) refl
    (few_whole c.law_scratch.ensures.few c.args.c.now.tracker c.args.parts.now.page_blocks rows (over c.args.parts.now (g.St.Store.holds c.args.store.now) (g.St.Store.signs c.args.store.now)) c.requires.may.own.left_shaped c.law_stack.ensures.each shows (few_partitions c.args.parts.now c.law_stack.ensures) whole)

pub returns-in_err-spend_side-clause-few : goal.returns-in_err-spend_side-clause-few
returns-in_err-spend_side-clause-few g c = λ rows told shows whole.
    let t = c.args.c.now.tracker in
    let h = g.St.Store.holds c.args.store.now in
    let s = g.St.Store.signs c.args.store.now in
    let h1 = g.St.Store.holds c.spend_side.new.store in
    let s1 = g.St.Store.signs c.spend_side.new.store in
    let begun : HasCalled t c.args.parts.now c.divide.new.self c.args.other.now h h s s =
    subst (λ (p : Stack). HasCalled t c.args.parts.now p c.args.other.now h h s s) (sym c.in-Ok.ensures.ok) (called_divided t c.args.at c.args.level c.args.parts.now c.args.other.now h s c.law_stack.ensures c.requires.may.own) in
    let called : HasCalled t c.args.parts.now c.spend_side.new.parts c.args.other.now h h1 s s1 = called_then t c.args.parts.now c.divide.new.self c.spend_side.new.parts c.args.other.now h h h1 s s s1 begun (called_of t c.divide.new.self c.spend_side.new.parts c.args.other.now h h1 s s1 c.spend_side.ensures.beside) in
    let side = side_of c.args.kinds.now c.args.columns.now in
    let f : Family = over c.spend_side.new.parts h1 s1 in
    let sized : AllSized c.args.parts.now.page_blocks f = sized_front c.args.parts.now.page_blocks c.spend_side.new.parts.streams c.args.other.now.streams h1 s1 (called.slots.sized (all_sized c.args.parts.now c.args.other.now h s c.law_stack.ensures c.law_stack-2.ensures c.requires.alike)) in
    let sixteen : length c.spend_side.new.parts.streams ≡ c.args.at + 17 = c.spend_side.ensures.fan.sixteen in
    let many : c.args.at + 17 ≤ 272 = (let few = few_partitions c.divide.new.self c.law_stack-3.ensures in let long = c.spend_side.ensures.beside.many in omega (arith, few, long, sixteen)) in
    let but : WholeBut c.args.at f = c.spend_side.ensures.whole (subst (λ (p : Stack). AllWhole (over p h s)) (sym c.in-Ok.ensures.ok) (whole_divided c.args.at c.args.level c.args.parts.now h s whole)) in
    let has = part_all t side c.args.level c.args.at c.args.parts.now h s c.law_stack.ensures c.requires.top f c.divide.new.self c.in-Ok.ensures.ok c.in_err-spend_side.ensures.part rows told shows in
    subst (λ (n : ℕ). AreFewPages c.args.parts.now.page_blocks 273 (shares n rows) f) (sym c.requires.top)
    (few_dealt c.law_scratch.ensures.few t c.args.parts.now.page_blocks side c.args.level c.args.at rows has.some has.rest f c.spend_side.ensures.beside.own.left_shaped sized sixteen many but has.dealt has.lighter)

pub returns-clause-few : goal.returns-clause-few
returns-clause-few g c = λ rows told shows whole.
    let t = c.args.c.now.tracker in
    let h = g.St.Store.holds c.args.store.now in
    let s = g.St.Store.signs c.args.store.now in
    let h1 = g.St.Store.holds c.spend_side.new.store in
    let s1 = g.St.Store.signs c.spend_side.new.store in
    let begun : HasCalled t c.args.parts.now c.divide.new.self c.args.other.now h h s s =
    subst (λ (p : Stack). HasCalled t c.args.parts.now p c.args.other.now h h s s) (sym c.in-Ok.ensures.ok) (called_divided t c.args.at c.args.level c.args.parts.now c.args.other.now h s c.law_stack.ensures c.requires.may.own) in
    let called : HasCalled t c.args.parts.now c.spend_side.new.parts c.args.other.now h h1 s s1 = called_then t c.args.parts.now c.divide.new.self c.spend_side.new.parts c.args.other.now h h h1 s s s1 begun (called_of t c.divide.new.self c.spend_side.new.parts c.args.other.now h h1 s s1 c.spend_side.ensures.beside) in
    let side = side_of c.args.kinds.now c.args.columns.now in
    let f : Family = over c.spend_side.new.parts h1 s1 in
    let sized : AllSized c.args.parts.now.page_blocks f = sized_front c.args.parts.now.page_blocks c.spend_side.new.parts.streams c.args.other.now.streams h1 s1 (called.slots.sized (all_sized c.args.parts.now c.args.other.now h s c.law_stack.ensures c.law_stack-2.ensures c.requires.alike)) in
    let sixteen : length c.spend_side.new.parts.streams ≡ c.args.at + 17 = c.spend_side.ensures.fan.sixteen in
    let many : c.args.at + 17 ≤ 272 = (let few = few_partitions c.divide.new.self c.law_stack-3.ensures in let long = c.spend_side.ensures.beside.many in omega (arith, few, long, sixteen)) in
    let but : WholeBut c.args.at f = c.spend_side.ensures.whole (subst (λ (p : Stack). AllWhole (over p h s)) (sym c.in-Ok.ensures.ok) (whole_divided c.args.at c.args.level c.args.parts.now h s whole)) in
    let has : HasDealt side c.args.level c.args.at rows (rows c.args.at) [] f =
    deals_all t side c.args.level c.args.at c.args.parts.now h s c.law_stack.ensures c.requires.top f c.divide.new.self c.in-Ok.ensures.ok c.in_ok-spend_side.ensures.dealt rows told shows in
    few_stay c.args.parts.now.page_blocks 273 (shares (length c.args.parts.now.streams) rows) f (over c.rest_from.new.self (g.St.Store.holds c.rest_from.new.store) (g.St.Store.signs c.rest_from.new.store)) c.rest_from.ensures.pages c.rest_from.ensures.went.touches.block_len
    (subst (λ (n : ℕ). AreFewPages c.args.parts.now.page_blocks 273 (shares n rows) f) (sym c.requires.top)
    (few_dealt c.law_scratch.ensures.few t c.args.parts.now.page_blocks side c.args.level c.args.at rows (rows c.args.at) [] f c.spend_side.ensures.beside.own.left_shaped sized sixteen many but has (λ w. none_left w (rows c.args.at))))

pub returns-clause-whole : goal.returns-clause-whole
returns-clause-whole g c =
    let t = c.args.c.now.tracker in
    let h = g.St.Store.holds c.args.store.now in
    let s = g.St.Store.signs c.args.store.now in
    let h1 = g.St.Store.holds c.spend_side.new.store in
    let s1 = g.St.Store.signs c.spend_side.new.store in
    let side = side_of c.args.kinds.now c.args.columns.now in
    let f : Family = over c.spend_side.new.parts h1 s1 in
    on_ok c.rest_from.result
    (λ rests rows told shows whole.
    let but : WholeBut c.args.at f = c.spend_side.ensures.whole (subst (λ (p : Stack). AllWhole (over p h s)) (sym c.in-Ok.ensures.ok) (whole_divided c.args.at c.args.level c.args.parts.now h s whole)) in
    let has : HasDealt side c.args.level c.args.at rows (rows c.args.at) [] f =
    deals_all t side c.args.level c.args.at c.args.parts.now h s c.law_stack.ensures c.requires.top f c.divide.new.self c.in-Ok.ensures.ok c.in_ok-spend_side.ensures.dealt rows told shows in
    rests.whole (whole_again c.law_few_pages.ensures.law t side c.args.level c.args.at rows f c.spend_side.ensures.beside.own.left_shaped has but))
    c.rest_from.ensures.ok
