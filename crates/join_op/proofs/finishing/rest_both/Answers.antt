use Rattle.std.proofs.Common.{◌≡◌, ◌∙◌, ◌+◌, ◌<◌, Err, length, refl, ap, arith, rules}
use Rattle.store_api.specs.Holdings.{length_of}
use Rattle.store_api.proofs.Answered.{answered_before}
use Rattle.partition_stack.specs.Slots.{SameSlots}
use Rattle.partition_stack.specs.Stack.{Stack, over}
use Rattle.partition_stack.proofs.Left.{leaves_both}
use Rattle.partition_stack.proofs.Results.{if_err, on_ok}
use Rattle.partition_stack.proofs.Sides.{own_turned}
use Rattle.join_op.specs.Beside.{CallsBeside}
use Rattle.join_op.specs.Operator.{bytes_of, over_both}
use Rattle.join_op.specs.Stored.{left_side, right_side}
use Rattle.join_op.proofs.BothSlots.{sides_slots, want_since}
use Rattle.join_op.proofs.Calls.{calls_beside, left_called, right_called}
use Rattle.join_op.proofs.Enough.{below_rested, some_len}
use Rattle.join_op.proofs.Rests.{has_rested, keeps_rested}
use Rattle.partition_stack.proofs.Making.{few_both, laying_makes}
use Rattle.join_op.proofs.finishing.rest_both.Goals as goal

pub rest_left-requires-clause-own : goal.rest_left-requires-clause-own
rest_left-requires-clause-own g c = c.requires.op.owns

pub returns-in_err-rest_left-clause-op : goal.returns-in_err-rest_left-clause-op
returns-in_err-rest_left-clause-op g c = left_called c.args.c.now c.args._shape.now c.args.left.now c.args.right.now _ _ _ _ c.requires.op c.rest_left.new.left c.rest_left.ensures.beside

pub returns-in_err-rest_left-clause-want : goal.returns-in_err-rest_left-clause-want
returns-in_err-rest_left-clause-want g c =
    let same : c.from_residual.result ≡ Err c.in_err-rest_left.field-0.0 = search rules in
    rw same (want_since c.args.left.now.page_blocks c.args.left.now.page_blocks c.args.left.now c.args.right.now (g.St.Store.holds c.args.store.now) (g.St.Store.holds c.rest_left.new.store) (g.St.Store.signs c.args.store.now) (g.St.Store.signs c.rest_left.new.store)
    c.rest_left.new.left.streams c.args.right.now.streams c.law_stack.ensures c.law_stack-2.ensures refl c.requires.op.alike c.rest_left.ensures.beside.slots refl c.in_err-rest_left.field-0.0 c.in_err-rest_left.ensures.answers.1)

pub returns-in_err-rest_left-clause-slots : goal.returns-in_err-rest_left-clause-slots
returns-in_err-rest_left-clause-slots g c = c.rest_left.ensures.beside.slots.sum

pub returns-in_err-rest_left-clause-cause : goal.returns-in_err-rest_left-clause-cause
returns-in_err-rest_left-clause-cause g c =
    let same : c.from_residual.result ≡ Err c.in_err-rest_left.field-0.0 = search rules in
    rw same c.in_err-rest_left.ensures.answers.0

pub returns-clause-op : goal.returns-clause-op
returns-clause-op g c =
    let t = c.args.c.now.tracker in
    let h1 = g.St.Store.holds c.rest_left.new.store in
    let s1 = g.St.Store.signs c.rest_left.new.store in
    let h2 = g.St.Store.holds c.rest_from.new.store in
    let s2 = g.St.Store.signs c.rest_from.new.store in
    let next : CallsBeside t c.args.right.now c.rest_from.new.self c.rest_left.new.left h1 h2 s1 s2 =
    calls_beside t c.args.right.now c.rest_from.new.self c.rest_left.new.left h1 h2 s1 s2 (own_turned t 0 c.rest_left.new.left.streams c.args.right.now.streams h1 s1 c.rest_left.ensures.beside.own) c.rest_from.ensures.went
    (ap (λ (p : Stack). p.page_blocks) c.rest_from.ensures.kept) (ap (λ (p : Stack). p.levels) c.rest_from.ensures.kept) in
    right_called c.args.c.now c.args._shape.now c.rest_left.new.left c.args.right.now h1 h2 s1 s2
    (left_called c.args.c.now c.args._shape.now c.args.left.now c.args.right.now _ h1 _ s1 c.requires.op c.rest_left.new.left c.rest_left.ensures.beside) c.rest_from.new.self next

pub returns-clause-leaves : goal.returns-clause-leaves
returns-clause-leaves g c =
    let t = c.args.c.now.tracker in
    let h1 = g.St.Store.holds c.rest_left.new.store in
    let s1 = g.St.Store.signs c.rest_left.new.store in
    let h2 = g.St.Store.holds c.rest_from.new.store in
    let s2 = g.St.Store.signs c.rest_from.new.store in
    let next : CallsBeside t c.args.right.now c.rest_from.new.self c.rest_left.new.left h1 h2 s1 s2 =
    calls_beside t c.args.right.now c.rest_from.new.self c.rest_left.new.left h1 h2 s1 s2 (own_turned t 0 c.rest_left.new.left.streams c.args.right.now.streams h1 s1 c.rest_left.ensures.beside.own) c.rest_from.ensures.went
    (ap (λ (p : Stack). p.page_blocks) c.rest_from.ensures.kept) (ap (λ (p : Stack). p.levels) c.rest_from.ensures.kept) in
    leaves_both t _ h1 h2 _ s1 s2 c.rest_left.ensures.beside.leaves next.leaves

pub returns-clause-rested : goal.returns-clause-rested
returns-clause-rested g c =
    let t = c.args.c.now.tracker in
    let h1 = g.St.Store.holds c.rest_left.new.store in
    let s1 = g.St.Store.signs c.rest_left.new.store in
    let h2 = g.St.Store.holds c.rest_from.new.store in
    let s2 = g.St.Store.signs c.rest_from.new.store in
    let next : CallsBeside t c.args.right.now c.rest_from.new.self c.rest_left.new.left h1 h2 s1 s2 =
    calls_beside t c.args.right.now c.rest_from.new.self c.rest_left.new.left h1 h2 s1 s2 (own_turned t 0 c.rest_left.new.left.streams c.args.right.now.streams h1 s1 c.rest_left.ensures.beside.own) c.rest_from.ensures.went
    (ap (λ (p : Stack). p.page_blocks) c.rest_from.ensures.kept) (ap (λ (p : Stack). p.levels) c.rest_from.ensures.kept) in
    on_ok c.rest_from.result
    (λ rests.
    has_rested c.args.c.now c.args._shape.now c.args.left.now c.rest_left.new.left c.args.right.now c.rest_from.new.self (g.St.Store.holds c.args.store.now) h1 h2 (g.St.Store.signs c.args.store.now) s1 s2
    c.rest_left.ensures.beside c.in_ok-rest_left.ensures.rested next rests c.requires.feeding.left c.requires.feeding.right c.in_ok-rest_left.ensures.rests (ap (λ (p : Stack). p.levels) c.rest_from.ensures.kept))
    c.rest_from.ensures.ok

pub returns-clause-kept : goal.returns-clause-kept
returns-clause-kept g c =
    let t = c.args.c.now.tracker in
    let h1 = g.St.Store.holds c.rest_left.new.store in
    let s1 = g.St.Store.signs c.rest_left.new.store in
    let h2 = g.St.Store.holds c.rest_from.new.store in
    let s2 = g.St.Store.signs c.rest_from.new.store in
    let next : CallsBeside t c.args.right.now c.rest_from.new.self c.rest_left.new.left h1 h2 s1 s2 =
    calls_beside t c.args.right.now c.rest_from.new.self c.rest_left.new.left h1 h2 s1 s2 (own_turned t 0 c.rest_left.new.left.streams c.args.right.now.streams h1 s1 c.rest_left.ensures.beside.own) c.rest_from.ensures.went
    (ap (λ (p : Stack). p.page_blocks) c.rest_from.ensures.kept) (ap (λ (p : Stack). p.levels) c.rest_from.ensures.kept) in
    on_ok c.rest_from.result
    (λ rests start lefts rights keeps.
    keeps_rested c.args.c.now c.args._shape.now c.args.left.now c.rest_left.new.left c.args.right.now c.rest_from.new.self (g.St.Store.holds c.args.store.now) h1 h2 (g.St.Store.signs c.args.store.now) s1 s2
    c.rest_left.ensures.beside c.in_ok-rest_left.ensures.rested next rests start lefts rights c.args.left_rests.now keeps c.rest_left.ensures.still c.requires.before)
    c.rest_from.ensures.ok

pub returns-clause-slots : goal.returns-clause-slots
returns-clause-slots g c =
    let t = c.args.c.now.tracker in
    let h1 = g.St.Store.holds c.rest_left.new.store in
    let s1 = g.St.Store.signs c.rest_left.new.store in
    let h2 = g.St.Store.holds c.rest_from.new.store in
    let s2 = g.St.Store.signs c.rest_from.new.store in
    let next : CallsBeside t c.args.right.now c.rest_from.new.self c.rest_left.new.left h1 h2 s1 s2 =
    calls_beside t c.args.right.now c.rest_from.new.self c.rest_left.new.left h1 h2 s1 s2 (own_turned t 0 c.rest_left.new.left.streams c.args.right.now.streams h1 s1 c.rest_left.ensures.beside.own) c.rest_from.ensures.went
    (ap (λ (p : Stack). p.page_blocks) c.rest_from.ensures.kept) (ap (λ (p : Stack). p.levels) c.rest_from.ensures.kept) in
    let h = g.St.Store.holds c.args.store.now in
    let s = g.St.Store.signs c.args.store.now in
    let all : SameSlots c.args.left.now.page_blocks (over_both c.args.left.now c.args.right.now h s) (over_both c.rest_left.new.left c.rest_from.new.self h2 s2) =
    sides_slots c.args.left.now c.args.right.now c.rest_left.new.left c.rest_from.new.self h h1 h2 s s1 s2 c.requires.op.alike c.rest_left.ensures.beside.slots next.slots in
    all.sum

pub returns-clause-want : goal.returns-clause-want
returns-clause-want g c =
    let t = c.args.c.now.tracker in
    let h1 = g.St.Store.holds c.rest_left.new.store in
    let s1 = g.St.Store.signs c.rest_left.new.store in
    let h2 = g.St.Store.holds c.rest_from.new.store in
    let s2 = g.St.Store.signs c.rest_from.new.store in
    let next : CallsBeside t c.args.right.now c.rest_from.new.self c.rest_left.new.left h1 h2 s1 s2 =
    calls_beside t c.args.right.now c.rest_from.new.self c.rest_left.new.left h1 h2 s1 s2 (own_turned t 0 c.rest_left.new.left.streams c.args.right.now.streams h1 s1 c.rest_left.ensures.beside.own) c.rest_from.ensures.went
    (ap (λ (p : Stack). p.page_blocks) c.rest_from.ensures.kept) (ap (λ (p : Stack). p.levels) c.rest_from.ensures.kept) in
    let h = g.St.Store.holds c.args.store.now in
    let s = g.St.Store.signs c.args.store.now in
    let all : SameSlots c.args.left.now.page_blocks (over_both c.args.left.now c.args.right.now h s) (over_both c.rest_left.new.left c.rest_from.new.self h2 s2) =
    sides_slots c.args.left.now c.args.right.now c.rest_left.new.left c.rest_from.new.self h h1 h2 s s1 s2 c.requires.op.alike c.rest_left.ensures.beside.slots next.slots in
    if_err c.rest_from.result
    (λ e full. want_since c.args.left.now.page_blocks c.args.right.now.page_blocks c.args.left.now c.args.right.now h h2 s s2 c.rest_left.new.left.streams c.rest_from.new.self.streams c.law_stack.ensures c.law_stack-2.ensures refl c.requires.op.alike all c.requires.op.alike e full)
    c.rest_from.ensures.full

pub returns-clause-cause : goal.returns-clause-cause
returns-clause-cause g c = if_err c.rest_from.result (λ e answered. answered_before e _ _ _ c.rest_left.ensures.beside.leaves.grows answered) c.rest_from.ensures.cause

pub returns-clause-made : goal.returns-clause-made
returns-clause-made g c =
    few_both 0 0 0 (g.St.Store.signs c.args.store.now) (g.St.Store.signs c.rest_left.new.store) (g.St.Store.signs c.rest_from.new.store) (omega arith) c.rest_left.ensures.made
    (laying_makes 0 c.args.c.now.tracker (over c.args.right.now (g.St.Store.holds c.rest_left.new.store) (g.St.Store.signs c.rest_left.new.store)) (over c.rest_from.new.self (g.St.Store.holds c.rest_from.new.store) (g.St.Store.signs c.rest_from.new.store)) (let same = c.rest_from.ensures.pages in omega (arith, same)) c.rest_from.ensures.went)

pub returns-in_err-rest_left-clause-enough : goal.returns-in_err-rest_left-clause-enough
returns-in_err-rest_left-clause-enough g c =
    let t = c.args.c.now.tracker in
    let h = g.St.Store.holds c.args.store.now in
    let s = g.St.Store.signs c.args.store.now in
    let h1 = g.St.Store.holds c.rest_left.new.store in
    let s1 = g.St.Store.signs c.rest_left.new.store in
    let some : 0 < length_of c.args.left.now.page_blocks h = some_len c.args.left.now.page_blocks h.block_len c.requires.op.sized (let least = c.block_len-len.ensures.least in let value = c.block_len-len.ensures.value in omega (arith, least, value)) in
    let same : c.from_residual.result ≡ Err c.in_err-rest_left.field-0.0 = search rules in
    rw same
    (λ start lefts rights keeps.
    below_rested c.law_scratch.ensures.few t c.args.left.now.page_blocks c.args.left.now c.args.right.now c.rest_left.new.left c.args.right.now h h1 s s1 c.rest_left.ensures.beside.slots c.law_stack.ensures c.law_stack-2.ensures c.requires.op.alike c.rest_left.ensures.beside.leaves.others.block_len
    some refl c.in_err-rest_left.field-0.0 c.in_err-rest_left.ensures.answers.1
    (left_side c.args._shape.now) (right_side c.args._shape.now) lefts rights (length lefts + length rights) (bytes_of lefts + bytes_of rights) c.requires.op.owns keeps.left keeps.right c.requires.feeding.left.sixteen c.requires.feeding.right.sixteen
    c.rest_left.ensures.pages refl (omega arith) (omega arith))

pub returns-clause-enough : goal.returns-clause-enough
returns-clause-enough g c =
    let t = c.args.c.now.tracker in
    let h1 = g.St.Store.holds c.rest_left.new.store in
    let s1 = g.St.Store.signs c.rest_left.new.store in
    let h2 = g.St.Store.holds c.rest_from.new.store in
    let s2 = g.St.Store.signs c.rest_from.new.store in
    let next : CallsBeside t c.args.right.now c.rest_from.new.self c.rest_left.new.left h1 h2 s1 s2 =
    calls_beside t c.args.right.now c.rest_from.new.self c.rest_left.new.left h1 h2 s1 s2 (own_turned t 0 c.rest_left.new.left.streams c.args.right.now.streams h1 s1 c.rest_left.ensures.beside.own) c.rest_from.ensures.went
    (ap (λ (p : Stack). p.page_blocks) c.rest_from.ensures.kept) (ap (λ (p : Stack). p.levels) c.rest_from.ensures.kept) in
    let h = g.St.Store.holds c.args.store.now in
    let s = g.St.Store.signs c.args.store.now in
    let all : SameSlots c.args.left.now.page_blocks (over_both c.args.left.now c.args.right.now h s) (over_both c.rest_left.new.left c.rest_from.new.self h2 s2) =
    sides_slots c.args.left.now c.args.right.now c.rest_left.new.left c.rest_from.new.self h h1 h2 s s1 s2 c.requires.op.alike c.rest_left.ensures.beside.slots next.slots in
    let some : 0 < length_of c.args.left.now.page_blocks h = some_len c.args.left.now.page_blocks h.block_len c.requires.op.sized (let least = c.block_len-len.ensures.least in let value = c.block_len-len.ensures.value in omega (arith, least, value)) in
    if_err c.rest_from.result
    (λ e full start lefts rights keeps.
    below_rested c.law_scratch.ensures.few t c.args.right.now.page_blocks c.args.left.now c.args.right.now c.rest_left.new.left c.rest_from.new.self h h2 s s2 all c.law_stack.ensures c.law_stack-2.ensures c.requires.op.alike (next.leaves.others.block_len ∙ c.rest_left.ensures.beside.leaves.others.block_len)
    some c.requires.op.alike e full
    (left_side c.args._shape.now) (right_side c.args._shape.now) lefts rights (length lefts + length rights) (bytes_of lefts + bytes_of rights) c.requires.op.owns keeps.left keeps.right c.requires.feeding.left.sixteen c.requires.feeding.right.sixteen
    c.rest_left.ensures.pages c.rest_from.ensures.pages (omega arith) (omega arith))
    c.rest_from.ensures.full
