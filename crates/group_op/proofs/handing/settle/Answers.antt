use Rattle.std.proofs.Common.{rules, ◌≡◌, ◌∙◌, ◌++◌, ℕ, Err, inl, subst, length, refl, ap, arith}
use Rattle.std.proofs.lemmas.Option.{slice_get_within}
use Rattle.bucket_table.specs.Tables.{Table}
use Rattle.tuple_stream.specs.Families.{slots_in}
use Rattle.tuple_stream.specs.FamilyCalls.{shares}
use Rattle.partition_stack.specs.Stack.{Stack, over}
use Rattle.partition_stack.proofs.Results.{if_err, on_ok}
use Rattle.group_op.proofs.Serving.{serves_then, serves_touched}
use Rattle.group_op.specs.Causes.{IsWant}
use Rattle.group_op.specs.Held.{State, rows_of, state}
use Rattle.group_op.specs.Making.{MakesFew}
use Rattle.group_op.specs.Wanting.{ShowNoMore}
use Rattle.group_op.proofs.Laying.{settled_left}
use Rattle.group_op.proofs.Makings.{made_few}
use Rattle.partition_stack.proofs.Making.{few_both, laying_makes}
use Rattle.partition_stack.proofs.Slots.{full_since}
use Rattle.group_op.proofs.Settled.{answered_later, has_settled, serves_of}
use Rattle.group_op.proofs.Shown.{stand_flushed}
use Rattle.group_op.proofs.Wants.{want_shown}
use Rattle.group_op.proofs.handing.settle.Goals as goal

pub returns-clause-between : goal.returns-clause-between
returns-clause-between g c =
    on_ok c.rest_from.result
    (λ rests. record {
      empty = ap (λ (x : Table). x.nodes) c.in_ok-flush.ensures.ok.table;
      closed = λ i s there. rests.closed i s there (let inside = slice_get_within c.rest_from.new.self.streams i s there in let long = rests.steps.long in omega (arith, inside, long));
    })
    c.rest_from.ensures.ok

pub returns-clause-ok : goal.returns-clause-ok
returns-clause-ok g c =
    on_ok c.rest_from.result
    (λ rests rows shows.
    has_settled c.args.c.now.tracker c.args.shape.now _ rows _ c.flush.new.table c.flush.new.parts c.rest_from.new.self _ _ _ _ shows c.requires.sixteen c.requires.first c.requires.entries c.in_ok-flush.ensures.ok c.flush.ensures.works _ rests
    (ap (λ (p : Stack). p.levels) c.rest_from.ensures.kept))
    c.rest_from.ensures.ok

pub returns-clause-serves : goal.returns-clause-serves
returns-clause-serves g c =
    let works = c.flush.ensures.works in
    serves_then _ _ _ _ _ (serves_of _ _ _ _ works)
    (serves_touched c.args.c.now.tracker c.args.shape.now c.flush.new.table c.flush.new.parts c.rest_from.new.self _ _ _ _ works.held works.entries c.rest_from.ensures.went (ap (λ (p : Stack). p.page_blocks) c.rest_from.ensures.kept))

pub returns-clause-cause : goal.returns-clause-cause
returns-clause-cause g c = answered_later c.rest_from.result _ _ _ c.flush.ensures.works.leaves.grows c.rest_from.ensures.cause

pub returns-clause-left : goal.returns-clause-left
returns-clause-left g c =
    on_ok c.rest_from.result
    (λ rests start rows built.
    settled_left c.args.c.now.tracker c.args.shape.now rows (state c.args.table.now c.args.parts.now (g.St.Store.holds c.args.store.now) (g.St.Store.signs c.args.store.now)) c.flush.new.table c.flush.new.parts c.rest_from.new.self
    (g.St.Store.holds c.flush.new.store) (g.St.Store.holds c.rest_from.new.store) (g.St.Store.signs c.flush.new.store) (g.St.Store.signs c.rest_from.new.store) start built c.in_ok-flush.ensures.ok rests
    (let long = rests.steps.long in let many = c.flush.ensures.works.many in let sixteen = c.requires.sixteen in omega (arith, long, many, sixteen)))
    c.rest_from.ensures.ok

pub returns-in_err-flush-clause-levels : goal.returns-in_err-flush-clause-levels
returns-in_err-flush-clause-levels g c = c.flush.ensures.works.levels

pub returns-clause-levels : goal.returns-clause-levels
returns-clause-levels g c = ap (λ (p : Stack). p.levels) c.rest_from.ensures.kept ∙ c.flush.ensures.works.levels

pub returns-in_err-flush-clause-want : goal.returns-in_err-flush-clause-want
returns-in_err-flush-clause-want g c =
    let want : IsWant c.args.parts.now.page_blocks (slots_in (over c.args.parts.now (g.St.Store.holds c.args.store.now) (g.St.Store.signs c.args.store.now))) c.in_err-flush.field-0.0 =
    full_since c.args.parts.now.page_blocks c.args.parts.now.page_blocks (over c.args.parts.now (g.St.Store.holds c.args.store.now) (g.St.Store.signs c.args.store.now)) (over c.flush.new.parts (g.St.Store.holds c.flush.new.store) (g.St.Store.signs c.flush.new.store)) c.flush.ensures.works.slots c.law_stack.ensures.each refl c.in_err-flush.field-0.0 c.in_err-flush.ensures.full in
    search (rules, want)

pub returns-clause-want : goal.returns-clause-want
returns-clause-want g c =
    if_err c.rest_from.result
    (λ e full. full_since c.args.parts.now.page_blocks c.flush.new.parts.page_blocks (over c.args.parts.now (g.St.Store.holds c.args.store.now) (g.St.Store.signs c.args.store.now)) (over c.rest_from.new.self (g.St.Store.holds c.rest_from.new.store) (g.St.Store.signs c.rest_from.new.store)) (returns-clause-serves g c).slots c.law_stack.ensures.each c.flush.ensures.works.blocks e full)
    c.rest_from.ensures.full

pub returns-in_err-flush-clause-made : goal.returns-in_err-flush-clause-made
returns-in_err-flush-clause-made g c =
    made_few (over c.args.parts.now (g.St.Store.holds c.args.store.now) (g.St.Store.signs c.args.store.now)) (over c.flush.new.parts (g.St.Store.holds c.flush.new.store) (g.St.Store.signs c.flush.new.store)) (length (rows_of c.args.table.now)) c.flush.ensures.works.made c.flush.ensures.few

pub returns-clause-made : goal.returns-clause-made
returns-clause-made g c =
    let flushed : MakesFew (length (rows_of c.args.table.now)) (g.St.Store.signs c.args.store.now) (g.St.Store.signs c.flush.new.store) =
    made_few (over c.args.parts.now (g.St.Store.holds c.args.store.now) (g.St.Store.signs c.args.store.now)) (over c.flush.new.parts (g.St.Store.holds c.flush.new.store) (g.St.Store.signs c.flush.new.store)) (length (rows_of c.args.table.now)) c.flush.ensures.works.made c.flush.ensures.few in
    few_both (length (rows_of c.args.table.now)) 0 (length (rows_of c.args.table.now)) (g.St.Store.signs c.args.store.now) (g.St.Store.signs c.flush.new.store) (g.St.Store.signs c.rest_from.new.store) (omega arith) flushed
    (laying_makes 0 c.args.c.now.tracker (over c.flush.new.parts (g.St.Store.holds c.flush.new.store) (g.St.Store.signs c.flush.new.store)) (over c.rest_from.new.self (g.St.Store.holds c.rest_from.new.store) (g.St.Store.signs c.rest_from.new.store)) (let same = c.rest_from.ensures.pages in omega (arith, same)) c.rest_from.ensures.went)

pub returns-in_err-flush-clause-enough : goal.returns-in_err-flush-clause-enough
returns-in_err-flush-clause-enough g c =
    let a : State = (state c.args.table.now c.args.parts.now (g.St.Store.holds c.args.store.now) (g.St.Store.signs c.args.store.now)) in
    let f : State = (state c.flush.new.table c.flush.new.parts (g.St.Store.holds c.flush.new.store) (g.St.Store.signs c.flush.new.store)) in
    let serves = serves_of _ _ _ _ c.flush.ensures.works in
    let same : c.from_residual.result ≡ Err c.in_err-flush.field-0.0 = search rules in
    rw same
    (λ rows shows.
    want_shown c.law_scratch.ensures.pages c.law_scratch.ensures.want c.args.c.now.tracker c.args.shape.now (rows_of c.args.table.now ++ shares 16 rows) a f f c.args.parts.now.page_blocks c.in_err-flush.field-0.0 c.law_stack.ensures.each serves serves.slots
    (subst (λ (n : ℕ). ShowNoMore (rows_of c.args.table.now ++ shares n rows) f) c.requires.sixteen (c.in_err-flush.ensures.stand.show rows (inl shows.told) shows.shows)) refl refl c.in_err-flush.ensures.full)

pub returns-clause-enough : goal.returns-clause-enough
returns-clause-enough g c =
    let a : State = (state c.args.table.now c.args.parts.now (g.St.Store.holds c.args.store.now) (g.St.Store.signs c.args.store.now)) in
    let f : State = (state c.flush.new.table c.flush.new.parts (g.St.Store.holds c.flush.new.store) (g.St.Store.signs c.flush.new.store)) in
    let r : State = (state c.flush.new.table c.rest_from.new.self (g.St.Store.holds c.rest_from.new.store) (g.St.Store.signs c.rest_from.new.store)) in
    let serves = serves_of _ _ _ _ c.flush.ensures.works in
    let sixteen = c.requires.sixteen in
    if_err c.rest_from.result
    (λ e full rows shows.
    let stand = stand_flushed c.args.c.now.tracker c.args.shape.now 0 0 a f (omega (arith, sixteen)) c.in_ok-flush.ensures.ok in
    want_shown c.law_scratch.ensures.pages c.law_scratch.ensures.want c.args.c.now.tracker c.args.shape.now (rows_of c.args.table.now ++ shares 16 rows) a f r c.flush.new.parts.page_blocks e c.law_stack.ensures.each serves (returns-clause-serves g c).slots
    (subst (λ (n : ℕ). ShowNoMore (rows_of c.args.table.now ++ shares n rows) f) c.requires.sixteen (stand.show rows (inl shows.told) shows.shows)) c.rest_from.ensures.pages c.flush.ensures.works.blocks full)
    c.rest_from.ensures.full
