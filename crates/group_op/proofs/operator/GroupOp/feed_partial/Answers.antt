use Rattle.std.proofs.Common.{◌≡◌, ◌∙◌, ◌*◌, ◌<◌, ℕ, List, ◌++◌, IfErr, refl, ap, sym, subst, arith}
use Rattle.row_codec.specs.declared.values.Value.{Value}
use Rattle.store_api.specs.Conditions.{IsBlockCount}
use Rattle.bucket_table.proofs.Opened.{most_len}
use Rattle.tuple_stream.specs.Families.{slots_in}
use Rattle.partition_stack.specs.Stack.{over}
use Rattle.partition_stack.proofs.Slots.{full_since}
use Rattle.group_op.specs.Causes.{IsWantBelowOf, IsWantOf}
use Rattle.group_op.specs.Feeding.{IsPartOf}
use Rattle.group_op.specs.Making.{Makes}
use Rattle.group_op.specs.Operator.{Holds, IsFeeding, Keeps, Operator, operator, page_of, slots_for}
use Rattle.group_op.proofs.Made.{makes_unput}
use Rattle.group_op.proofs.Paging.{made_none}
use Rattle.group_op.proofs.Serving.{unless_err}
use Rattle.group_op.proofs.Wants.{fed_below, some_page}
use Rattle.group_op.proofs.operator.GroupOp.feed_partial.Goals as goal
use Rattle.group_op.proofs.operator.GroupOp.feed_partial.Goals.{in-Err, in-Ok}

pub spell_partial-requires-clause-short : goal.spell_partial-requires-clause-short
spell_partial-requires-clause-short g c =
    let h = g.St.Store.holds c.args.store.now in
    let blocks : ℕ = c.args.self.now.parts.page_blocks in
    let len = c.block_len-len.ensures.value in
    let most = most_len c.args.self.now.parts.page_blocks c.block_len-len.result 1 1 c.requires.op.sized c.block_len-len.ensures.most (omega arith) in
    let page : blocks * h.block_len ≡ blocks * c.block_len-len.result = ap (λ (n : ℕ). blocks * n) (sym len) in
    let short = c.requires.row.short in
    omega (arith, most, page, short)

pub returns-clause-want : goal.returns-clause-want
returns-clause-want g c =
    let h = g.St.Store.holds c.args.store.now in
    let s = g.St.Store.signs c.args.store.now in
    let p = c.self.inside.parts in
    subst (λ (o : Operator). IfErr c.match-feed_row.result (IsWantOf o.parts.page_blocks (slots_in (over o.parts h s)))) c.self.view_is
    (elim c.match-feed_row.branch [
      | in-Ok w ↦ rw w.result-is tt
      | in-Err w ↦
          rw w.result-is
          (full_since p.page_blocks p.page_blocks (over p h s) (over c.feed_row.new.parts (g.St.Store.holds c.feed_row.new.store) (g.St.Store.signs c.feed_row.new.store)) c.feed_row.ensures.slots c.law_stack.ensures.each refl w.in-Err.e w.in-Err.ensures.full)
    ])

pub returns-clause-keeps : goal.returns-clause-keeps
returns-clause-keeps g c =
    let spells = unless_err c.spell_partial.result (sym c.is_err.ensures.value ∙ c.if-is_err.false) c.spell_partial.ensures.spells in
    elim c.match-feed_row.branch [
      | in-Ok w ↦
          rw w.result-is
          (λ start fed more part keeps.
          w.in-Ok.ensures.keeps start fed more (spells more (subst (λ (o : Operator). IsPartOf o.shape c.args.row.now more) (sym c.self.view_is) part))
          (subst (λ (o : Operator). Keeps start fed o (g.St.Store.holds c.args.store.now) (g.St.Store.signs c.args.store.now)) (sym c.self.view_is) keeps))
      | in-Err w ↦ rw w.result-is tt
    ]

pub returns-then-is_err-clause-makes : goal.returns-then-is_err-clause-makes
returns-then-is_err-clause-makes g c =
    let h = g.St.Store.holds c.args.store.now in
    let s = g.St.Store.signs c.args.store.now in
    let p = c.self.inside.parts in
    subst (λ (o : Operator). Makes o (operator c.self.inside.client c.self.inside.shape p c.self.inside.table) h s s) c.self.view_is
    (makes_unput c.self.inside.client c.self.inside.shape c.self.inside.table p h s (subst IsFeeding (sym c.self.view_is) c.requires.feeding) c.self.inside.table h s (made_none (over p h s)))

pub returns-then-is_err-clause-enough : goal.returns-then-is_err-clause-enough
returns-then-is_err-clause-enough g c = λ fed more holds. tt

pub returns-clause-enough : goal.returns-clause-enough
returns-clause-enough g c =
    let h = g.St.Store.holds c.args.store.now in
    let s = g.St.Store.signs c.args.store.now in
    let p = c.self.inside.parts in
    let inside : Operator = operator c.self.inside.client c.self.inside.shape p c.self.inside.table in
    let least = c.block_len-len.ensures.least in
    let value = c.block_len-len.ensures.value in
    let some : 0 < page_of inside h = some_page p.page_blocks h (subst (λ (o : Operator). IsBlockCount o.parts.page_blocks) (sym c.self.view_is) c.requires.op.sized) (omega (arith, least, value)) in
    subst (λ (o : Operator). IfErr c.match-feed_row.result (λ e. (fed more : List (List Value)) → Holds fed o h s → IsWantBelowOf (slots_for 16 o h (fed ++ more)) (slots_in (over o.parts h s)) e)) c.self.view_is
    (elim c.match-feed_row.branch [
      | in-Ok w ↦ rw w.result-is tt
      | in-Err w ↦ rw w.result-is (λ fed more holds. fed_below inside h fed more (slots_in (over p h s)) w.in-Err.e some (w.in-Err.ensures.enough fed holds some))
    ])
