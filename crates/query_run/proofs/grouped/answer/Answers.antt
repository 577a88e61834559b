use Rattle.std.proofs.Common.{◌≡◌, ◌<◌, List, [], ◌∙◌, ℕ, IfSome, true, ap, length, sym, subst, arith, rules, refl, None, Err}
use Rattle.tuple_stream.specs.Families.{slots_in}
use Rattle.partition_stack.specs.Slots.{IsWantBelow}
use Rattle.group_op.specs.Operator.{slots_for}
use Rattle.row_codec.specs.declared.values.Value.{Value}
use Rattle.query_run.specs.Causes.{OfPool}
use Rattle.query_run.specs.Feeding.{OfTaken}
use Rattle.partition_stack.specs.Making.{MakesFew}
use Rattle.tuple_stream.specs.Trails.{EnteredEvents}
use Rattle.partition_stack.specs.Stack.{over}
use Rattle.group_op.specs.Laid.{HoldsGroups}
use Rattle.store_api.specs.declared.shapes.Shape.{Shape}
use Rattle.query_run.specs.Plans.{shape_of}
use Rattle.query_run.specs.Taking.{GroupMakes, GroupWants}
use Rattle.query_run.specs.Through.{taken_in}
use Rattle.query_run.proofs.Fronts.{taken_so}
use Rattle.query_run.proofs.Going.{feeds_still, goes_then, of_pool_so, stopped_later}
use Rattle.query_run.proofs.Made.{group_makes_none}
use Rattle.partition_stack.proofs.Results.{if_err, if_ok, on_err, on_ok}
use Rattle.query_run.proofs.Results.{both_ok}
use Rattle.query_run.proofs.Whole.{all_numbers, fed_as, grouped, groups_alone, holds_for, left_kinds, part_answer, passing_are, passing_of, same_page, whole_answer}
use Rattle.query_run.proofs.Taken.{group_feeds_none, group_goes_none}
use Rattle.query_run.proofs.Wants.{front_wants, whole_wants}
use Rattle.query_run.proofs.Counted.{alone_taken, alone_whole, fed_makes, whole_makes}
use Rattle.query_run.specs.Run.{ReadAndWrote, world}
use Rattle.query_run.proofs.Alone.{says_left}
use Rattle.query_run.proofs.Runs.{unread, wrote}
use Rattle.query_run.proofs.grouped.answer.Goals as goal

pub returns-clause-outside : goal.returns-clause-outside
returns-clause-outside g c =
    let plan = c.args.plan.now in
    let has = c.in_ok-fed.ensures.ok in
    let keeps = has.came _ [] c.requires.begins.keeps in
    let tells = c.feed_side.ensures.goes.went.leaves.others.told in
    let formed = fed_as plan c.feed_side.new.op.shape _ c.requires.plan.alone (c.feed_side.ensures.goes.same.shape ∙ c.requires.begins.shape_is) has.formed in
    let held = holds_for _ _ _ _ _ keeps formed in
    let groups = grouped plan (groups_alone plan c.requires.plan) in
    wrote g.S.Source g.K.Sink plan c.args.page _ _ _ c.write_groups.result (c.in_ok-fed.ensures.read, refl)
    (λ told. on_ok c.write_groups.result (λ ok. whole_answer plan c.args.page c.requires.plan.alone groups _ _ _ has.rows has.are (ok _ held (tells ∙ told))) c.write_groups.ensures.ok)
    (if_ok c.write_groups.result (λ ran both. all_numbers plan c.args.page c.requires.plan.alone groups _ _ has.rows c.in_ok-fed.fed ran has.are has.read has.kept both.0.0 both.0.1 both.0.2 (λ told. both.1 _ held (tells ∙ told)))
    (both_ok _ _ c.write_groups.result c.write_groups.ensures.read c.write_groups.ensures.lines))
    c.write_groups.ensures.cause
    (λ told. on_err c.write_groups.result (λ err. part_answer plan c.args.page c.requires.plan.alone groups _ _ _ has.rows has.are (err _ held (tells ∙ told))) c.write_groups.ensures.err)
    c.write_groups.ensures.sink c.write_groups.ensures.stops (c.feed_side.ensures.source_kept, refl)

pub returns-in_err-fed-clause-outside : goal.returns-in_err-fed-clause-outside
returns-in_err-fed-clause-outside g c =
    let e = c.in_err-fed.field-0.0 in
    let plan = c.args.plan.now in
    let tells = (g.St.Store.holds c.args.store.now).told in
    let stopped : ReadAndWrote g.S.Source g.K.Sink plan c.args.page tells (world c.args.left.now None c.args.sink.now) (world c.feed_side.new.source None c.args.sink.now) (Err e) =
    unread g.S.Source g.K.Sink plan c.args.page tells _ _ e (says_left plan c.args.page _ _ e c.in_err-fed.ensures.input) c.in_err-fed.ensures.cause refl (c.feed_side.ensures.source_kept, refl) in
    search (rules, stopped)

pub returns-clause-pool : goal.returns-clause-pool
returns-clause-pool g c =
    let went = c.feed_side.ensures.goes.went in
    if_err c.write_groups.result (λ e came. stopped_later _ _ _ _ _ _ _ e c.feed_side.ensures.goes.same.blocks went.slots went.leaves.grows came) c.write_groups.ensures.pool

pub returns-clause-kept : goal.returns-clause-kept
returns-clause-kept g c =
    let has = c.in_ok-fed.ensures.ok in
    let keeps = has.came _ [] c.requires.begins.keeps in
    let len = same_page c.args.op.now c.feed_side.new.op _ _ _ _ c.feed_side.ensures.goes.same c.feed_side.ensures.goes.went ∙ sym c.requires.begins.page_is in
    on_ok c.write_groups.result (λ kept. record {
      rows = passing_of c.args.plan.now has.rows;
      read = passing_are c.args.plan.now c.args.page _ has.rows has.are;
      kept = subst (λ n. EnteredEvents (HoldsGroups (shape_of c.args.plan.now) n (passing_of c.args.plan.now has.rows) (over c.write_groups.new.op.parts (g.St.Store.holds c.write_groups.new.store) (g.St.Store.signs c.write_groups.new.store))) (g.St.Store.signs c.args.store.now).trail (g.St.Store.signs c.write_groups.new.store).trail) len (kept _ _ keeps);
    }) c.write_groups.ensures.kept

pub returns-clause-went : goal.returns-clause-went
returns-clause-went g c = goes_then c.args.op.now c.feed_side.new.op c.write_groups.new.op _ _ _ _ _ _ c.feed_side.ensures.goes.went c.write_groups.ensures.went.went

pub feed_side-requires-clause-kinds : goal.feed_side-requires-clause-kinds
feed_side-requires-clause-kinds g c = ap (λ (s : Shape). s.kinds) c.requires.begins.shape_is ∙ sym (left_kinds c.args.plan.now c.requires.plan.alone)

pub feed_side-requires-clause-extra : goal.feed_side-requires-clause-extra
feed_side-requires-clause-extra g c = rw c.requires.begins.shape_is (omega arith)

pub feed_side-requires-clause-stands : goal.feed_side-requires-clause-stands
feed_side-requires-clause-stands g c = record { is = c.requires.begins.is; feeding = c.requires.begins.feeding }

pub feed_side-requires-clause-feeds : goal.feed_side-requires-clause-feeds
feed_side-requires-clause-feeds g c = group_feeds_none _ _ _

pub feed_side-requires-clause-goes : goal.feed_side-requires-clause-goes
feed_side-requires-clause-goes g c = group_goes_none _ _ _ (record { is = c.requires.begins.is; feeding = c.requires.begins.feeding })

pub feed_side-requires-clause-memory : goal.feed_side-requires-clause-memory
feed_side-requires-clause-memory g c = λ after. record { answered = tt; want = tt }

pub write_groups-requires-clause-plan : goal.write_groups-requires-clause-plan
write_groups-requires-clause-plan g c = groups_alone c.args.plan.now c.requires.plan

pub feed_side-requires-clause-makes : goal.feed_side-requires-clause-makes
feed_side-requires-clause-makes g c = group_makes_none c.args.op.now (g.St.Store.holds c.args.store.now) (g.St.Store.signs c.args.store.now) c.law_few.ensures.pages c.requires.begins.feeding

pub feed_side-requires-clause-none : goal.feed_side-requires-clause-none
feed_side-requires-clause-none g c = λ start fed keeps. tt

pub returns-in_err-fed-clause-made : goal.returns-in_err-fed-clause-made
returns-in_err-fed-clause-made g c = λ told.
    let s0 = g.St.Store.signs c.args.store.now in
    let s1 = g.St.Store.signs c.feed_side.new.store in
    let h = g.St.Store.holds c.args.store.now in
    alone_taken c.args.plan.now c.args.page (g.S.Source.remaining c.args.left.now) s0 s1
    (taken_so c.args.plan.now c.args.plan.now.left c.args.page _ (λ rows. GroupMakes c.args.op.now c.feed_side.new.op rows h s0 s1)
    (λ rows. MakesFew (length rows) s0 s1)
    (λ rows makes. fed_makes c.args.op.now c.feed_side.new.op rows h s0.trail s0 s1 c.requires.begins.keeps makes) c.feed_side.ensures.few)

pub returns-clause-made : goal.returns-clause-made
returns-clause-made g c = λ told.
    let has = c.in_ok-fed.ensures.ok in
    let keeps = has.came _ [] c.requires.begins.keeps in
    let goes = c.feed_side.ensures.goes in
    let taken = c.feed_side.ensures.few in
    let fed = passing_of c.args.plan.now has.rows in
    let h1 = g.St.Store.holds c.feed_side.new.store in
    let s0 = g.St.Store.signs c.args.store.now in
    let s1 = g.St.Store.signs c.feed_side.new.store in
    let s2 = g.St.Store.signs c.write_groups.new.store in
    let later = c.write_groups.ensures.made fed keeps.holds (goes.went.leaves.others.told ∙ told) in
    alone_whole c.args.plan.now c.args.page (g.S.Source.remaining c.args.left.now) fed s0 s2 (passing_are c.args.plan.now c.args.page _ has.rows has.are)
    (whole_makes c.args.op.now c.feed_side.new.op taken.rows fed (g.St.Store.holds c.args.store.now) h1 s0 s1 s2 c.law_few.ensures.pages (feeds_still c.args.op.now c.feed_side.new.op c.requires.begins.feeding goes.same) keeps.holds taken.so later)

pub returns-in_err-fed-clause-enough : goal.returns-in_err-fed-clause-enough
returns-in_err-fed-clause-enough g c =
    let e = c.in_err-fed.field-0.0 in
    let plan = c.args.plan.now in
    let page = c.args.page in
    let op = c.args.op.now in
    let h = g.St.Store.holds c.args.store.now in
    let s = g.St.Store.signs c.args.store.now in
    let told = g.S.Source.remaining c.args.left.now in
    let total = slots_in (over op.parts h s) in
    let long = subst (λ (n : ℕ). 0 < n) c.requires.begins.page_is c.requires.begins.long in
    let rows : List ℕ → List (List Value) = λ bytes. taken_in plan plan.left page bytes in
    let all : OfPool (λ why. h.told ≡ true → IfSome told (λ bytes. IsWantBelow (slots_for 544 op h (rows bytes)) total why)) e =
    of_pool_so (λ why. OfTaken plan plan.left page told (λ rows. GroupWants op rows h s why))
    (λ why. h.told ≡ true → IfSome told (λ bytes. IsWantBelow (slots_for 544 op h (rows bytes)) total why))
    (λ why taken tells. front_wants plan page told op h s s.trail why long c.requires.begins.keeps taken) e c.in_err-fed.ensures.enough in
    search (rules, all)

pub returns-clause-enough : goal.returns-clause-enough
returns-clause-enough g c =
    let has = c.in_ok-fed.ensures.ok in
    let plan = c.args.plan.now in
    let keeps = has.came _ [] c.requires.begins.keeps in
    let goes = c.feed_side.ensures.goes in
    let fed = passing_of plan has.rows in
    let a = c.args.op.now in
    let b = c.feed_side.new.op in
    let h0 = g.St.Store.holds c.args.store.now in
    let h1 = g.St.Store.holds c.feed_side.new.store in
    let s0 = g.St.Store.signs c.args.store.now in
    let s1 = g.St.Store.signs c.feed_side.new.store in
    let told = g.S.Source.remaining c.args.left.now in
    if_err c.write_groups.result (λ e enough. of_pool_so _ (λ why. h0.told ≡ true → IfSome told
    (λ bytes. IsWantBelow (slots_for 544 a h0 (taken_in plan plan.left c.args.page bytes)) (slots_in (over a.parts h0 s0)) why))
    (λ why below tells. whole_wants plan c.args.page told fed a b h0 h1 s0 s1 why goes (passing_are plan c.args.page _ has.rows has.are) (below fed keeps.holds (goes.went.leaves.others.told ∙ tells))) e enough) c.write_groups.ensures.enough
