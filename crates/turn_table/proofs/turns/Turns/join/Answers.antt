use Rattle.std.proofs.Common.{rules, ap, ◌∙◌}
use Rattle.turn_table.specs.Knowledge.{first_at}
use Rattle.turn_table.specs.Face.{in_hand}
use Rattle.turn_table.proofs.Calls.{joins}
use Rattle.turn_table.proofs.turns.Turns.join.Goals as goal

pub join_seat-requires : goal.join_seat-requires
join_seat-requires g c =
    let knows = ap (λ s. s.knows) c.seat.view_is in
    let others = ap (λ s. s.knows) c.other.view_is in
    let idle = ap (λ v. v.stage) others ∙ c.requires.idle.1 in (
      search rules,
      search rules,
      c.other.invariant ∙ ap in_hand idle,
      search rules,
      joins _ _ _ _ _ _ (ap (λ v. v.stage) knows ∙ c.requires.idle.0) (ap (λ v. first_at v.role) knows ∙ c.requires.first) idle,
    )
