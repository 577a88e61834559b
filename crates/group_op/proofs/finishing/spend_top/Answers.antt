use Rattle.std.proofs.Common.{rules, ◌≡◌, ◌∙◌, ◌+◌, Err, Bool, [], true, false, length, refl, ap, subst, arith}
use Rattle.std.proofs.lemmas.Option.{slice_get_within}
use Rattle.store_api.specs.Signs.{WasAnswered}
use Rattle.store_api.proofs.Answered.{answered_before}
use Rattle.store_api.proofs.Growing.{grows_trans}
use Rattle.tuple_stream.specs.Trails.{EnteredEvents}
use Rattle.bucket_table.specs.Tables.{Table}
use Rattle.partition_stack.specs.Stack.{Stack, over}
use Rattle.group_op.specs.Finishing.{HasRead, IsRead}
use Rattle.group_op.specs.Held.{State, rows_of, state}
use Rattle.group_op.specs.Making.{MakesFew}
use Rattle.tuple_stream.specs.Families.{slots_in}
use Rattle.tuple_stream.specs.FamilyCalls.{shares}
use Rattle.group_op.specs.Causes.{IsWant}
use Rattle.group_op.specs.Pinning.{HasBegun}
use Rattle.partition_stack.proofs.Making.{few_both, laying_makes}
use Rattle.partition_stack.proofs.Slots.{full_since}
use Rattle.group_op.proofs.Begun.{begun_divided}
use Rattle.group_op.proofs.Divided.{has_divided, less_divided, serves_works}
use Rattle.group_op.proofs.Makings.{made_few}
use Rattle.group_op.proofs.Serving.{serves_then, serves_touched}
use Rattle.group_op.proofs.Shown.{show_flushed, stand_flushed}
use Rattle.group_op.proofs.Wants.{want_shown}
use Rattle.group_op.proofs.finishing.spend_top.Goals as goal

pub returns-in_err-flush-clause-serves : goal.returns-in_err-flush-clause-serves
returns-in_err-flush-clause-serves g c = serves_works _ _ _ _ _ c.absorb.ensures.serves c.flush.ensures.works

pub returns-in_err-flush-clause-cause : goal.returns-in_err-flush-clause-cause
returns-in_err-flush-clause-cause g c =
    let came : WasAnswered c.in_err-flush.field-0.0 (g.St.Store.signs c.args.store.now) (g.St.Store.signs c.flush.new.store) =
    answered_before c.in_err-flush.field-0.0 _ _ _ c.absorb.ensures.serves.leaves.grows c.in_err-flush.ensures.cause in
    search (rules, came)

pub returns-in_err-rest_from-clause-serves : goal.returns-in_err-rest_from-clause-serves
returns-in_err-rest_from-clause-serves g c =
    let works = c.flush.ensures.works in
    serves_then _ _ _ _ _ (serves_works _ _ _ _ _ c.absorb.ensures.serves works)
    (serves_touched c.args.c.now.tracker c.args.shape.now c.flush.new.table c.flush.new.parts c.rest_from.new.self _ _ _ _ works.held works.entries c.rest_from.ensures.went (ap (λ (p : Stack). p.page_blocks) c.rest_from.ensures.kept))

pub returns-in_err-rest_from-clause-cause : goal.returns-in_err-rest_from-clause-cause
returns-in_err-rest_from-clause-cause g c =
    let came : WasAnswered c.in_err-rest_from.field-0.0 (g.St.Store.signs c.args.store.now) (g.St.Store.signs c.rest_from.new.store) =
    answered_before c.in_err-rest_from.field-0.0 _ _ _ (grows_trans _ _ _ c.absorb.ensures.serves.leaves.grows c.flush.ensures.works.leaves.grows) c.in_err-rest_from.ensures.cause in
    search (rules, came)

pub returns-clause-serves : goal.returns-clause-serves
returns-clause-serves g c =
    let works = c.flush.ensures.works in
    serves_then _ _ _ _ _ (serves_works _ _ _ _ _ c.absorb.ensures.serves works)
    (serves_touched c.args.c.now.tracker c.args.shape.now c.flush.new.table c.flush.new.parts c.rest_from.new.self _ _ _ _ works.held works.entries c.rest_from.ensures.went (ap (λ (p : Stack). p.page_blocks) c.rest_from.ensures.kept))

pub returns-clause-divided : goal.returns-clause-divided
returns-clause-divided g c =
    let levels = ap (λ (p : Stack). p.levels) c.rest_from.ensures.kept in
    let yes : c.in_ok-absorb.field-0 ≡ true = search (rules, c.if-not-branch.false) in
    let read : IsRead true c.args.at c.args.level c.args.parts.now c.absorb.new.parts = rw yes at c.in_ok-absorb.ensures.read in
    λ is. (
      record {
        empty = ap (λ (x : Table). x.nodes) c.in_ok-flush.ensures.ok.table;
        closed = λ i s there. c.in_ok-rest_from.ensures.ok.closed i s there (let inside = slice_get_within c.rest_from.new.self.streams i s there in let long = c.in_ok-rest_from.ensures.ok.steps.long in omega (arith, inside, long));
      },
      less_divided c.args.parts.now.levels c.rest_from.new.self.levels c.args.at c.args.level c.requires.level c.requires.deep.0 (levels ∙ c.flush.ensures.works.levels ∙ read.1),
      λ rows stacked.
          let has : HasRead c.args.shape.now c.args.at c.args.level true rows (rows c.args.at) [] (state c.absorb.new.table c.absorb.new.parts (g.St.Store.holds c.absorb.new.store) (g.St.Store.signs c.absorb.new.store)) =
          rw yes at (c.in_ok-absorb.ensures.rows rows stacked) in
          has_divided c.args.c.now.tracker c.args.shape.now c.args.at c.args.level _ rows _ _ c.flush.new.table c.flush.new.parts c.rest_from.new.self _ _ _ _ stacked c.requires.top c.requires.level c.requires.deep.0 has read
          c.absorb.ensures.serves c.absorb.ensures.serves.entries c.in_ok-flush.ensures.ok c.flush.ensures.works _ c.in_ok-rest_from.ensures.ok levels,
    )

pub returns-then-not-branch-clause-first : goal.returns-then-not-branch-clause-first
returns-then-not-branch-clause-first g c =
    let not : c.in_ok-absorb.field-0 ≡ false = search (rules, c.if-not-branch.true) in
    subst (λ (d : Bool). EnteredEvents (HasBegun d (state c.absorb.new.table c.absorb.new.parts (g.St.Store.holds c.absorb.new.store) (g.St.Store.signs c.absorb.new.store))) (g.St.Store.signs c.args.store.now).trail (g.St.Store.signs c.absorb.new.store).trail) not c.in_ok-absorb.ensures.first

pub returns-clause-first : goal.returns-clause-first
returns-clause-first g c =
    let yes : c.in_ok-absorb.field-0 ≡ true = search (rules, c.if-not-branch.false) in
    begun_divided (state c.absorb.new.table c.absorb.new.parts (g.St.Store.holds c.absorb.new.store) (g.St.Store.signs c.absorb.new.store)) (state c.flush.new.table c.rest_from.new.self (g.St.Store.holds c.rest_from.new.store) (g.St.Store.signs c.rest_from.new.store)) (g.St.Store.signs c.args.store.now).trail (g.St.Store.signs c.absorb.new.store).trail (g.St.Store.signs c.rest_from.new.store).trail
    (subst (λ (d : Bool). EnteredEvents (HasBegun d (state c.absorb.new.table c.absorb.new.parts (g.St.Store.holds c.absorb.new.store) (g.St.Store.signs c.absorb.new.store))) (g.St.Store.signs c.args.store.now).trail (g.St.Store.signs c.absorb.new.store).trail) yes c.in_ok-absorb.ensures.first)
    (grows_trans _ _ _ c.flush.ensures.works.leaves.grows c.rest_from.ensures.went.grows).trail

pub returns-in_err-absorb-clause-want : goal.returns-in_err-absorb-clause-want
returns-in_err-absorb-clause-want g c =
    let want : IsWant c.args.parts.now.page_blocks (slots_in (over c.args.parts.now (g.St.Store.holds c.args.store.now) (g.St.Store.signs c.args.store.now))) c.in_err-absorb.field-0.0 =
    full_since c.args.parts.now.page_blocks c.args.parts.now.page_blocks (over c.args.parts.now (g.St.Store.holds c.args.store.now) (g.St.Store.signs c.args.store.now)) (over c.absorb.new.parts (g.St.Store.holds c.absorb.new.store) (g.St.Store.signs c.absorb.new.store)) c.absorb.ensures.serves.slots c.law_stack.ensures.each refl c.in_err-absorb.field-0.0 c.in_err-absorb.ensures.full in
    search (rules, want)

pub returns-in_err-flush-clause-want : goal.returns-in_err-flush-clause-want
returns-in_err-flush-clause-want g c =
    let want : IsWant c.args.parts.now.page_blocks (slots_in (over c.args.parts.now (g.St.Store.holds c.args.store.now) (g.St.Store.signs c.args.store.now))) c.in_err-flush.field-0.0 =
    full_since c.args.parts.now.page_blocks c.absorb.new.parts.page_blocks (over c.args.parts.now (g.St.Store.holds c.args.store.now) (g.St.Store.signs c.args.store.now)) (over c.flush.new.parts (g.St.Store.holds c.flush.new.store) (g.St.Store.signs c.flush.new.store)) (returns-in_err-flush-clause-serves g c).slots c.law_stack.ensures.each c.absorb.ensures.serves.blocks c.in_err-flush.field-0.0 c.in_err-flush.ensures.full in
    search (rules, want)

pub returns-in_err-rest_from-clause-want : goal.returns-in_err-rest_from-clause-want
returns-in_err-rest_from-clause-want g c =
    let want : IsWant c.args.parts.now.page_blocks (slots_in (over c.args.parts.now (g.St.Store.holds c.args.store.now) (g.St.Store.signs c.args.store.now))) c.in_err-rest_from.field-0.0 =
    full_since c.args.parts.now.page_blocks c.flush.new.parts.page_blocks (over c.args.parts.now (g.St.Store.holds c.args.store.now) (g.St.Store.signs c.args.store.now)) (over c.rest_from.new.self (g.St.Store.holds c.rest_from.new.store) (g.St.Store.signs c.rest_from.new.store)) (returns-in_err-rest_from-clause-serves g c).slots c.law_stack.ensures.each (c.flush.ensures.works.blocks ∙ c.absorb.ensures.serves.blocks) c.in_err-rest_from.field-0.0 c.in_err-rest_from.ensures.full in
    search (rules, want)

pub returns-in_err-flush-clause-made : goal.returns-in_err-flush-clause-made
returns-in_err-flush-clause-made g c = λ s there.
    let less = c.in_ok-absorb.ensures.less s there in
    let fewer = less.fewer in
    let flushed : MakesFew (length (rows_of c.absorb.new.table)) (g.St.Store.signs c.absorb.new.store) (g.St.Store.signs c.flush.new.store) =
    made_few (over c.absorb.new.parts (g.St.Store.holds c.absorb.new.store) (g.St.Store.signs c.absorb.new.store)) (over c.flush.new.parts (g.St.Store.holds c.flush.new.store) (g.St.Store.signs c.flush.new.store)) (length (rows_of c.absorb.new.table)) c.flush.ensures.works.made c.flush.ensures.few in
    few_both less.made (length (rows_of c.absorb.new.table)) s.count (g.St.Store.signs c.args.store.now) (g.St.Store.signs c.absorb.new.store) (g.St.Store.signs c.flush.new.store) (omega (arith, fewer)) less.few flushed

pub returns-in_err-rest_from-clause-made : goal.returns-in_err-rest_from-clause-made
returns-in_err-rest_from-clause-made g c = λ s there.
    let less = c.in_ok-absorb.ensures.less s there in
    let fewer = less.fewer in
    let flushed : MakesFew (length (rows_of c.absorb.new.table)) (g.St.Store.signs c.absorb.new.store) (g.St.Store.signs c.flush.new.store) =
    made_few (over c.absorb.new.parts (g.St.Store.holds c.absorb.new.store) (g.St.Store.signs c.absorb.new.store)) (over c.flush.new.parts (g.St.Store.holds c.flush.new.store) (g.St.Store.signs c.flush.new.store)) (length (rows_of c.absorb.new.table)) c.flush.ensures.works.made c.flush.ensures.few in
    let spent : MakesFew s.count (g.St.Store.signs c.args.store.now) (g.St.Store.signs c.flush.new.store) = few_both less.made (length (rows_of c.absorb.new.table)) s.count (g.St.Store.signs c.args.store.now) (g.St.Store.signs c.absorb.new.store) (g.St.Store.signs c.flush.new.store) (omega (arith, fewer)) less.few flushed in
    few_both s.count 0 s.count (g.St.Store.signs c.args.store.now) (g.St.Store.signs c.flush.new.store) (g.St.Store.signs c.rest_from.new.store) (omega arith) spent
    (laying_makes 0 c.args.c.now.tracker (over c.flush.new.parts (g.St.Store.holds c.flush.new.store) (g.St.Store.signs c.flush.new.store)) (over c.rest_from.new.self (g.St.Store.holds c.rest_from.new.store) (g.St.Store.signs c.rest_from.new.store)) (let same = c.rest_from.ensures.pages in omega (arith, same)) c.rest_from.ensures.went)

pub returns-clause-made : goal.returns-clause-made
returns-clause-made g c = λ s there.
    let less = c.in_ok-absorb.ensures.less s there in
    let fewer = less.fewer in
    let flushed : MakesFew (length (rows_of c.absorb.new.table)) (g.St.Store.signs c.absorb.new.store) (g.St.Store.signs c.flush.new.store) =
    made_few (over c.absorb.new.parts (g.St.Store.holds c.absorb.new.store) (g.St.Store.signs c.absorb.new.store)) (over c.flush.new.parts (g.St.Store.holds c.flush.new.store) (g.St.Store.signs c.flush.new.store)) (length (rows_of c.absorb.new.table)) c.flush.ensures.works.made c.flush.ensures.few in
    let spent : MakesFew s.count (g.St.Store.signs c.args.store.now) (g.St.Store.signs c.flush.new.store) = few_both less.made (length (rows_of c.absorb.new.table)) s.count (g.St.Store.signs c.args.store.now) (g.St.Store.signs c.absorb.new.store) (g.St.Store.signs c.flush.new.store) (omega (arith, fewer)) less.few flushed in
    few_both s.count 0 s.count (g.St.Store.signs c.args.store.now) (g.St.Store.signs c.flush.new.store) (g.St.Store.signs c.rest_from.new.store) (omega arith) spent
    (laying_makes 0 c.args.c.now.tracker (over c.flush.new.parts (g.St.Store.holds c.flush.new.store) (g.St.Store.signs c.flush.new.store)) (over c.rest_from.new.self (g.St.Store.holds c.rest_from.new.store) (g.St.Store.signs c.rest_from.new.store)) (let same = c.rest_from.ensures.pages in omega (arith, same)) c.rest_from.ensures.went)

pub returns-in_err-absorb-clause-enough : goal.returns-in_err-absorb-clause-enough
returns-in_err-absorb-clause-enough g c =
    let a : State = (state c.args.table.now c.args.parts.now (g.St.Store.holds c.args.store.now) (g.St.Store.signs c.args.store.now)) in
    let b : State = (state c.absorb.new.table c.absorb.new.parts (g.St.Store.holds c.absorb.new.store) (g.St.Store.signs c.absorb.new.store)) in
    let same : c.from_residual.result ≡ Err c.in_err-absorb.field-0.0 = search rules in
    rw same
    (λ rows stacked.
    want_shown c.law_scratch.ensures.pages c.law_scratch.ensures.want c.args.c.now.tracker c.args.shape.now (shares (c.args.at + 1) rows) a b b c.args.parts.now.page_blocks c.in_err-absorb.field-0.0 c.law_stack.ensures.each c.absorb.ensures.serves c.absorb.ensures.serves.slots
    (c.in_err-absorb.ensures.stand rows stacked) refl refl c.in_err-absorb.ensures.full)

pub returns-in_err-flush-clause-enough : goal.returns-in_err-flush-clause-enough
returns-in_err-flush-clause-enough g c =
    let a : State = (state c.args.table.now c.args.parts.now (g.St.Store.holds c.args.store.now) (g.St.Store.signs c.args.store.now)) in
    let b : State = (state c.absorb.new.table c.absorb.new.parts (g.St.Store.holds c.absorb.new.store) (g.St.Store.signs c.absorb.new.store)) in
    let f : State = (state c.flush.new.table c.flush.new.parts (g.St.Store.holds c.flush.new.store) (g.St.Store.signs c.flush.new.store)) in
    let yes : c.in_ok-absorb.field-0 ≡ true = search (rules, c.if-not-branch.false) in
    let place : IsRead true c.args.at c.args.level c.args.parts.now c.absorb.new.parts = rw yes at c.in_ok-absorb.ensures.read in
    let serves = serves_works _ _ _ _ _ c.absorb.ensures.serves c.flush.ensures.works in
    let same : c.from_residual-in_err-flush.result ≡ Err c.in_err-flush.field-0.0 = search rules in
    rw same
    (λ rows stacked.
    let read : HasRead c.args.shape.now c.args.at c.args.level true rows (rows c.args.at) [] b = rw yes at (c.in_ok-absorb.ensures.rows rows stacked) in
    want_shown c.law_scratch.ensures.pages c.law_scratch.ensures.want c.args.c.now.tracker c.args.shape.now (shares (c.args.at + 1) rows) a f f c.absorb.new.parts.page_blocks c.in_err-flush.field-0.0 c.law_stack.ensures.each serves serves.slots
    (show_flushed c.args.shape.now c.args.at c.args.level rows b f c.args.parts.now read place (c.absorb.ensures.serves.leaves.others.told ∙ stacked.told) c.in_err-flush.ensures.stand) refl c.absorb.ensures.serves.blocks c.in_err-flush.ensures.full)

pub returns-in_err-rest_from-clause-enough : goal.returns-in_err-rest_from-clause-enough
returns-in_err-rest_from-clause-enough g c =
    let a : State = (state c.args.table.now c.args.parts.now (g.St.Store.holds c.args.store.now) (g.St.Store.signs c.args.store.now)) in
    let b : State = (state c.absorb.new.table c.absorb.new.parts (g.St.Store.holds c.absorb.new.store) (g.St.Store.signs c.absorb.new.store)) in
    let f : State = (state c.flush.new.table c.flush.new.parts (g.St.Store.holds c.flush.new.store) (g.St.Store.signs c.flush.new.store)) in
    let r : State = (state c.flush.new.table c.rest_from.new.self (g.St.Store.holds c.rest_from.new.store) (g.St.Store.signs c.rest_from.new.store)) in
    let yes : c.in_ok-absorb.field-0 ≡ true = search (rules, c.if-not-branch.false) in
    let place : IsRead true c.args.at c.args.level c.args.parts.now c.absorb.new.parts = rw yes at c.in_ok-absorb.ensures.read in
    let serves = serves_works _ _ _ _ _ c.absorb.ensures.serves c.flush.ensures.works in
    let same : c.from_residual-in_err-rest_from.result ≡ Err c.in_err-rest_from.field-0.0 = search rules in
    rw same
    (λ rows stacked.
    let read : HasRead c.args.shape.now c.args.at c.args.level true rows (rows c.args.at) [] b = rw yes at (c.in_ok-absorb.ensures.rows rows stacked) in
    let sixteen = place.0.sixteen in
    let low = place.0.low in
    want_shown c.law_scratch.ensures.pages c.law_scratch.ensures.want c.args.c.now.tracker c.args.shape.now (shares (c.args.at + 1) rows) a f r c.flush.new.parts.page_blocks c.in_err-rest_from.field-0.0 c.law_stack.ensures.each serves (returns-in_err-rest_from-clause-serves g c).slots
    (show_flushed c.args.shape.now c.args.at c.args.level rows b f c.args.parts.now read place (c.absorb.ensures.serves.leaves.others.told ∙ stacked.told)
    (stand_flushed c.args.c.now.tracker c.args.shape.now c.args.level (c.args.at + 1) b f (omega (arith, sixteen, low)) c.in_ok-flush.ensures.ok))
    c.rest_from.ensures.pages (c.flush.ensures.works.blocks ∙ c.absorb.ensures.serves.blocks) c.in_err-rest_from.ensures.full)
