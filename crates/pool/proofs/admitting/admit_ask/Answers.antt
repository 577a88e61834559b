use Rattle.std.proofs.Common.{◌≡◌, ℕ, suc, ◌+◌, ◌-◌, ◌*◌, ◌≤◌, List, [], length, None, refl, sym, ap, ◌∙◌, subst, arith}
use Rattle.pin_core.specs.StateOf.{state_of}
use Rattle.pin_core.specs.calls.Opening.{spare_of}
use Rattle.pool.specs.declared.ask.Ask.{Ask}
use Rattle.pool.specs.declared.left.Left.{Left}
use Rattle.pool.specs.Remaining.{first_refusal, left_in, less}
use Rattle.pool.proofs.Admitted.{Coming, none_come, one_comes, all_come, stands_more, left_more, not_turned, all_to_come, one_to_come, next_granted, next_spare, one_spare}
use Rattle.pool.proofs.admitting.admit_ask.Goals as goal

pub admit-number-requires-clause-granted : goal.admit-number-requires-clause-granted
admit-number-requires-clause-granted g c =
    let ask : Ask = c.args.ask.now in
    let k : ℕ = ask.count - (c.loop-i._i + 1) in
    not_turned (state_of c.loop-i.shared.state) ask k
    (next_granted (state_of c.loop-i.shared.state) ask (ask.count - c.loop-i._i) k (one_to_come ask.count c.loop-i._i c.loop-i-test.true) c.loop-i.invariant.3)

pub admit-number-requires-clause-spare : goal.admit-number-requires-clause-spare
admit-number-requires-clause-spare g c =
    let ask : Ask = c.args.ask.now in
    one_spare (ask.count - c.loop-i._i) (ask.count - (c.loop-i._i + 1)) ask.quota (spare_of c.loop-i.shared.state) (one_to_come ask.count c.loop-i._i c.loop-i-test.true) c.loop-i.invariant.4

pub loop-i-init : goal.loop-i-init
loop-i-init g c =
    let ask : Ask = c.args.ask.now in
    let none : c.args.numbers.items ≡ [] = c.requires.none in
    let spare : ask.count * ask.quota + 0 ≤ spare_of c.args.shared.now.state = c.requires.spare in (
      c.args.numbers.ok.0 ∙ ap length none,
      c.requires.room,
      c.requires.stands,
      subst (λ (n : ℕ). first_refusal n ask (left_in (state_of c.args.shared.now.state)) ≡ None) (all_to_come ask.count) c.requires.granted,
      subst (λ (n : ℕ). n * ask.quota ≤ spare_of c.args.shared.now.state) (all_to_come ask.count) (omega (arith, spare)),
      λ before stood.
          subst (λ (n : ℕ). Coming g.D.Slot g.T.Opened.opening g.T.Opened.outset.told g.T.Opened.first ask before c.args.numbers.items n c.args.shared.now.state (record { trail = c.args.shared.now.trail; counts = c.args.shared.now.counts }) c.args.shared.now.state) (all_to_come ask.count)
          (subst (λ (ms : List ℕ). Coming g.D.Slot g.T.Opened.opening g.T.Opened.outset.told g.T.Opened.first ask before ms ask.count c.args.shared.now.state (record { trail = c.args.shared.now.trail; counts = c.args.shared.now.counts }) c.args.shared.now.state) (sym none)
          (none_come g.D.Slot g.T.Opened.opening g.T.Opened.outset.told g.T.Opened.first ask before (record { trail = c.args.shared.now.trail; counts = c.args.shared.now.counts }) c.args.shared.now.state stood)),
      refl,
    )

pub loop-i-preserved : goal.loop-i-preserved
loop-i-preserved g c =
    let ask : Ask = c.args.ask.now in
    let n : ℕ = ask.count - c.loop-i._i in
    let k : ℕ = ask.count - (c.loop-i._i + 1) in
    let is : n ≡ suc k = one_to_come ask.count c.loop-i._i c.loop-i-test.true in
    let len = c.push_reserved.ensures.len in
    let len_was = c.loop-i.invariant.0 in
    let cap = c.push_reserved.ensures.capacity in
    let cap_was = c.loop-i.invariant.1 in
    let more : left_in (state_of c.admit-number.new.shared.state) ≡ less ask (left_in (state_of c.loop-i.shared.state)) =
    left_more g.D.Slot g.T.Opened.opening g.T.Opened.outset.told g.T.Opened.first ask c.admit-number.result (record { trail = c.loop-i.shared.trail; counts = c.loop-i.shared.counts }) (record { trail = c.admit-number.new.shared.trail; counts = c.admit-number.new.shared.counts }) c.loop-i.shared.state c.admit-number.new.shared.state
    c.admit-number.ensures.opens c.admit-number.ensures.trail c.admit-number.ensures.counts.0 c.loop-i.invariant.2.items c.loop-i.invariant.2.stands in (
      omega (arith, len, len_was),
      omega (arith, cap, cap_was),
      record {
        items = _;
        stands = stands_more g.D.Slot g.T.Opened.opening g.T.Opened.outset.told g.T.Opened.first ask c.admit-number.result (record { trail = c.loop-i.shared.trail; counts = c.loop-i.shared.counts }) (record { trail = c.admit-number.new.shared.trail; counts = c.admit-number.new.shared.counts }) c.loop-i.shared.state c.admit-number.new.shared.state
            c.admit-number.ensures.opens c.admit-number.ensures.trail c.admit-number.ensures.counts.0 c.loop-i.invariant.2.items c.loop-i.invariant.2.stands;
      },
      subst (λ (l : Left). first_refusal k ask l ≡ None) (sym more) (next_granted (state_of c.loop-i.shared.state) ask n k is c.loop-i.invariant.3).rest,
      next_spare n k ask.quota (spare_of c.loop-i.shared.state) (spare_of c.admit-number.new.shared.state) is c.loop-i.invariant.4 c.admit-number.ensures.opens.spare,
      λ before stood.
          subst (λ (ms : List ℕ). Coming g.D.Slot g.T.Opened.opening g.T.Opened.outset.told g.T.Opened.first ask before ms k c.args.shared.now.state (record { trail = c.admit-number.new.shared.trail; counts = c.admit-number.new.shared.counts }) c.admit-number.new.shared.state) (sym c.push_reserved.ensures.items)
          (one_comes g.D.Slot g.T.Opened.opening g.T.Opened.outset.told g.T.Opened.first ask c.admit-number.result (record { trail = c.loop-i.shared.trail; counts = c.loop-i.shared.counts }) (record { trail = c.admit-number.new.shared.trail; counts = c.admit-number.new.shared.counts }) c.loop-i.shared.state c.admit-number.new.shared.state
          c.admit-number.ensures.opens c.admit-number.ensures.trail c.admit-number.ensures.counts.0 before c.loop-i.numbers.items n k c.args.shared.now.state is (c.loop-i.invariant.5 before stood)),
      c.admit-number.ensures.counts.1 ∙ c.loop-i.invariant.6,
    )

pub returns-clause-admits : goal.returns-clause-admits
returns-clause-admits g c = λ before stood.
    let ask : Ask = c.args.ask.now in
    let none : ask.count - c.loop-i._i ≡ 0 = let done = c.loop-i-test.false in omega (arith, done) in
    let count : c.loop-i._i ≡ ask.count = let done = c.loop-i-test.false in let few = c.loop-i.auto._i-end in omega (arith, done, few) in
    all_come g.D.Slot g.T.Opened.opening g.T.Opened.outset.told g.T.Opened.first ask before c.loop-i.numbers.items (ask.count - c.loop-i._i) c.args.shared.now.state (record { trail = c.loop-i.shared.trail; counts = c.loop-i.shared.counts }) c.loop-i.shared.state none
    (sym c.loop-i.numbers.ok.0 ∙ c.loop-i.invariant.0 ∙ count) (c.loop-i.invariant.5 before stood)
