use Rattle.std.proofs.Common.{◌≡◌, ◌≤◌, ◌+◌, ◌∙◌, ap, refl, sym, drop, length, arith}
use Rattle.std.proofs.lemmas.List.{length-drop}
use Rattle.block_arena.specs.Bytes.{fitted}
use Rattle.block_arena.proofs.Fronts.{whole_lent}
use Rattle.block_arena.proofs.layout.Block.marked_mut.Goals as goal

pub returns : goal.returns
returns c =
    let own = c.self.inside.own in
    let long : 20 ≤ length own.items = c.self.invariant in
    let whole : length c.as_mut_slice.result.now ≡ length own.items = ap length c.as_mut_slice.ensures.value in
    let rest : length c.args.self.now ≡ length (drop 20 own.items) = ap length (sym c.self.view_is) in (
      (refl, λ w. whole_lent 20 own.len own.items w own.ok.0 ∙ ap (λ old. fitted old (drop 20 w)) c.self.view_is),
      record {
        writes_back = tt;
        value = ap (drop 20) c.as_mut_slice.ensures.value ∙ c.self.view_is;
        len = omega (arith, long, whole, rest, length-drop 20 own.items);
      },
    )
