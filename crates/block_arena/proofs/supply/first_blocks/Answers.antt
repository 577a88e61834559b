use Rattle.std.proofs.Common.{◌≡◌, ℕ, ◌^◌, ◌++◌, ◌∷◌, [], length, ap, ◌∙◌, arith, Some}
use Rattle.std.proofs.lemmas.List.{length-replicate}
use Rattle.std.proofs.lemmas.List.Elements.{All-pop, All-push, All-same}
use Rattle.block_arena.proofs.supply.first_blocks.Goals as goal

pub loop-i-preserved : goal.loop-i-preserved
loop-i-preserved c =
    let before = c.loop-i.invariant in
    let size : ℕ = 2 ^ c.args.each.shift in
    let made = ap length c.zeroed.ensures ∙ length-replicate c.bytes.result 0 ∙ c.bytes.ensures in
    let put = c.push_reserved.ensures.items in
    record {
      left = omega arith;
      made = omega arith;
      to_room = omega arith;
      from_sizes = (All-pop (λ room. room ≡ size) c.loop-i.from.items c.take_last.new.self.items (Some c.take_last.result) c.take_last.ensures.items before.from_sizes).0;
      to_sizes = λ sizes. All-same (λ one. length one ≡ size) c.push_reserved.new.self.items (c.loop-i.to.items ++ c.zeroed.result ∷ []) put (All-push (λ one. length one ≡ size) c.loop-i.to.items c.zeroed.result (before.to_sizes sizes) made);
    }
