use Rattle.std.proofs.Common.{◌∙◌, ◌+◌, ◌*◌, ℕ, List, [], Option, append-nil, ap, length, subst, sym}
use Rattle.row_codec.specs.declared.values.Value.{Value}
use Rattle.partition_stack.proofs.Results.{if_err, on_err, on_ok}
use Rattle.partition_stack.specs.Slots.{IsWantOf, with_more}
use Rattle.join_op.specs.Handing.{IsWantAmong}
use Rattle.join_op.specs.Operator.{slots_for}
use Rattle.join_op.specs.Pairs.{SameRows, pairs_of}
use Rattle.query_run.specs.Feeder.{Took, pages_made, slots_for_rows}
use Rattle.query_run.specs.Taking.{join_slots}
use Rattle.query_run.specs.declared.feeder.FeederOf.{FeederOf}
use Rattle.query_run.proofs.BothWants.{among_pairs, took_no_slots}
use Rattle.query_run.proofs.Feeders.{none_with}
use Rattle.query_run.proofs.Joining.{holds_so}
use Rattle.query_run.proofs.Names.{both_kinds}
use Rattle.query_run.proofs.Counted.{counted_from_none, took_of}
use Rattle.query_run.proofs.feeder.hand_pairs.Goals as goal

pub finish-result-requires-clause-admits : goal.finish-result-requires-clause-admits
finish-result-requires-clause-admits g c = λ left right one left_kinds other right_kinds. both_kinds left right _ _ left_kinds right_kinds ∙ sym c.requires.kinds

pub returns-clause-ok : goal.returns-clause-ok
returns-clause-ok g c =
    on_ok c.finish-result.result (λ emitted start lefts rights keeps told.
    let pairs = emitted start lefts rights keeps told in
    record { rows = pairs.rows; same = pairs.same; taken = pairs.came [] c.requires.none })
    c.finish-result.ensures.ok

pub returns-clause-kept : goal.returns-clause-kept
returns-clause-kept g c = on_ok c.finish-result.result (λ kept start lefts rights keeps. holds_so _ _ _ _ _ _ _ _ _ (λ same. ap (λ (e : FeederOf _). e.feeder) same) (kept start lefts rights keeps)) c.finish-result.ensures.kept

pub returns-clause-few : goal.returns-clause-few
returns-clause-few g c = λ start lefts rights keeps told.
    let took = Took g.B.Whose.client g.B.Whose.shape g.B.Whose.blocks c.finish-result.new.emit.feeder (g.St.Store.holds c.finish-result.new.store) in
    took_of took (pairs_of c.args.op.now.shape lefts rights) c.finish-result.result
    (on_ok c.finish-result.result (λ emitted. let pairs = emitted start lefts rights keeps told in record { some = pairs.rows; rest = []; same = subst (λ (rows : List (List Value)). SameRows rows (pairs_of c.args.op.now.shape lefts rights)) (sym (append-nil pairs.rows)) pairs.same; came = pairs.came [] c.requires.none }) c.finish-result.ensures.ok)
    (on_err c.finish-result.result (λ emitted. emitted start lefts rights keeps told [] c.requires.none) c.finish-result.ensures.err)

pub returns-clause-made : goal.returns-clause-made
returns-clause-made g c = λ start lefts rights keeps told.
    counted_from_none (15 * (length lefts + length rights)) (pages_made c.args.feeder.op c.args.feeder.taken) _ (g.St.Store.signs c.args.store.now) (g.St.Store.signs c.finish-result.new.store) (c.finish-result.ensures.made start lefts rights keeps told)

pub returns-clause-slots : goal.returns-clause-slots
returns-clause-slots g c =
    let total = join_slots c.args.op.now (g.St.Store.holds c.args.store.now) (g.St.Store.signs c.args.store.now) in
    let none = took_no_slots c.args.feeder.op c.args.feeder.client g.B.Whose.client g.B.Whose.shape g.B.Whose.blocks c.args.feeder (g.St.Store.holds c.args.store.now) c.requires.none in
    c.finish-result.ensures.slots.sum ∙ ap (λ (n : ℕ). with_more n total) none ∙ none_with total

pub returns-clause-want : goal.returns-clause-want
returns-clause-want g c =
    let total = join_slots c.args.op.now (g.St.Store.holds c.args.store.now) (g.St.Store.signs c.args.store.now) in
    let none = took_no_slots c.args.feeder.op c.args.feeder.client g.B.Whose.client g.B.Whose.shape g.B.Whose.blocks c.args.feeder (g.St.Store.holds c.args.store.now) c.requires.none in
    if_err c.finish-result.result (λ e want. subst (λ (n : ℕ). IsWantOf n total e) (sym c.requires.blocks)
    (subst (λ (o : Option ℕ). IsWantOf c.args.op.now.left.page_blocks o e) (ap (λ (n : ℕ). with_more n total) none ∙ none_with total) want))
    (c.finish-result.ensures.want c.requires.blocks)

pub returns-clause-enough : goal.returns-clause-enough
returns-clause-enough g c =
    let h = g.St.Store.holds c.args.store.now in
    let total = join_slots c.args.op.now h (g.St.Store.signs c.args.store.now) in
    let none = took_no_slots c.args.feeder.op c.args.feeder.client g.B.Whose.client g.B.Whose.shape g.B.Whose.blocks c.args.feeder h c.requires.none in
    if_err c.finish-result.result (λ e wants start lefts rights keeps told.
    let pairs = pairs_of c.args.op.now.shape lefts rights in
    let among = subst (λ (o : Option ℕ). IsWantAmong (slots_for_rows g.B.Whose.shape g.B.Whose.blocks c.args.feeder.page) [] pairs (slots_for c.args.op.now h lefts rights) o e) (ap (λ (n : ℕ). with_more n total) none ∙ none_with total) (wants start lefts rights [] keeps told c.requires.none) in
    among_pairs g.B.Whose.shape g.B.Whose.blocks c.args.feeder.page pairs (slots_for c.args.op.now h lefts rights) total e c.requires.long among)
    c.finish-result.ensures.enough
