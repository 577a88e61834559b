use Rattle.std.proofs.Common.{◌≡◌, ◌∙◌, ◌-◌, ap, refl, sym, drop, length, arith}
use Rattle.std.proofs.lemmas.List.{length-drop, take_all}
use Rattle.block_arena.specs.Bytes.{fitted}
use Rattle.block_arena.proofs.Fronts.{behind_lent}
use Rattle.block_arena.proofs.layout.Block.bytes_mut.Goals as goal

pub returns : goal.returns
returns c =
    let own = c.self.inside.own in (
      (refl, λ w. behind_lent 20 own.len own.items w own.ok.0 c.self.invariant ∙ ap (λ old. fitted old w) c.self.view_is),
      record { writes_back = tt; value = c.slice_mut.ensures.value ∙ take_all (own.len - 20) (drop 20 own.items) (omega (arith, own.ok.0, length-drop 20 own.items)) ∙ c.self.view_is },
    )
