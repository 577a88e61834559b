use Rattle.std.proofs.Common.{◌≡◌, ◌<◌, ℕ, List, Some, length, sym, ap, ◌∙◌, get_or, arith}
use Rattle.std.proofs.lemmas.List.{length-map}
use Rattle.outside.specs.InMemory.{SlotState, lie_at}
use Rattle.outside.proofs.Lies.{lie_here, lie_past, read_map}
use Rattle.outside.proofs.memory.slot.MemSlot.lie.Goals as goal

pub loop-i-preserved : goal.loop-i-preserved
loop-i-preserved c =
    let lies_is = ap (λ (s : SlotState). s.lies) c.self.view_is in
    let items = c.self.inside.lies.items in
    let e = c.index-lie.result.now in
    let lie : ℕ × List ℕ = (e.0, e.1.items) in
    let here : lie ≡ get_or c.args.self.now.lies c.loop-i.i lie = read_map {Y = ℕ × List ℕ} (λ l. (l.0, l.1.items)) items c.loop-i.i e c.index-lie.ensures ∙ ap (λ (l : List (ℕ × List ℕ)). get_or l c.loop-i.i lie) lies_is in
    let long : length c.args.self.now.lies ≡ length items = ap length (sym lies_is) ∙ length-map {B = ℕ × List ℕ} items (λ l. (l.0, l.1.items)) in
    let inside : c.loop-i.i < length c.args.self.now.lies = omega (arith, long, c.loop-i-test.true, c.len-i-end.ensures, c.self.inside.lies.ok.0) in
    lie_past c.calls-call.result c.args.len c.loop-i.i c.args.self.now.lies lie inside here (sym c.is_for.ensures ∙ c.if-is_for.false) ∙ c.loop-i.invariant

pub returns-then-is_for-clause-value : goal.returns-then-is_for-clause-value
returns-then-is_for-clause-value c =
    let lies_is = ap (λ (s : SlotState). s.lies) c.self.view_is in
    let items = c.self.inside.lies.items in
    let e = c.index-lie.result.now in
    let lie : ℕ × List ℕ = (e.0, e.1.items) in
    let here : lie ≡ get_or c.args.self.now.lies c.loop-i.i lie = read_map {Y = ℕ × List ℕ} (λ l. (l.0, l.1.items)) items c.loop-i.i e c.index-lie.ensures ∙ ap (λ (l : List (ℕ × List ℕ)). get_or l c.loop-i.i lie) lies_is in
    let long : length c.args.self.now.lies ≡ length items = ap length (sym lies_is) ∙ length-map {B = ℕ × List ℕ} items (λ l. (l.0, l.1.items)) in
    let inside : c.loop-i.i < length c.args.self.now.lies = omega (arith, long, c.loop-i-test.true, c.len-i-end.ensures, c.self.inside.lies.ok.0) in
    ap Some c.as_slice.ensures.value ∙ lie_here c.calls-call.result c.args.len c.loop-i.i c.args.self.now.lies lie inside here (sym c.is_for.ensures ∙ c.if-is_for.true) ∙ c.loop-i.invariant
    ∙ ap (λ (n : ℕ). lie_at n c.args.len c.args.self.now.lies) (c.calls-call.ensures ∙ ap (λ (s : SlotState). s.plan.calls) c.self.view_is)
