use Rattle.std.proofs.Common.{rules, ap, sym, subst, ◌∙◌}
use Rattle.turn_table.specs.Lists.{IsAmong}
use Rattle.turn_table.specs.Knowledge.{first_at}
use Rattle.turn_table.proofs.Calls.{splits}
use Rattle.turn_table.proofs.turns.Turns.split_by.Goals as goal

pub split_seat-place-requires : goal.split_seat-place-requires
split_seat-place-requires g c =
    let knows = ap (λ s. s.knows) c.seat.view_is in (
      search rules,
      search rules,
      splits _ _ _ _ _ (ap (λ v. v.stage) knows ∙ c.requires.idle) (ap (λ v. first_at v.role) knows ∙ c.requires.first)
          (subst (λ right. IsAmong right c.seat.inside.place.me.0.rights) (sym c.requires.named) (subst (λ v. IsAmong c.args._right v.rights) (sym knows) c.requires.among)),
    )
