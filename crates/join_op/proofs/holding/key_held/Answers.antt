use Rattle.std.proofs.Common.{List, sym, subst}
use Rattle.std.specs.Prelude.{All}
use Rattle.row_codec.specs.declared.values.Kind.{Kind}
use Rattle.row_reading.specs.Reading.{IsKeyColumn}
use Rattle.join_op.proofs.holding.key_held.Goals as goal

pub key_into-requires : goal.key_into-requires
key_into-requires c = record { columns = subst (λ (kinds : List Kind). All (IsKeyColumn kinds) c.args.columns.now) (sym c.held_kinds.ensures) c.requires.columns.keyed }
