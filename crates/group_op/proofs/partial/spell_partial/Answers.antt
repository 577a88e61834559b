use Rattle.std.proofs.Common.{◌∙◌, ◌++◌, List, ℕ, ap, subst, sym}
use Rattle.row_codec.specs.RowBytes.{row_bytes}
use Rattle.group_op.specs.Feeding.{Spells}
use Rattle.group_op.specs.Stored.{IsPartialRow}
use Rattle.group_op.proofs.Advancing.{ok_both}
use Rattle.group_op.proofs.Taken.{is_taken, taken_formed, taken_spells}
use Rattle.group_op.proofs.partial.spell_partial.Goals as goal

pub returns-clause-spells : goal.returns-clause-spells
returns-clause-spells c =
    ok_both c.encode_row.result (λ items values more part.
    subst (λ bytes. Spells c.args._shape.now bytes more) (sym (items ∙ ap (λ (xs : List ℕ). xs ++ row_bytes c.args.row.now) c.clear.ensures.items))
    (taken_spells c.law_row_back.ensures.law c.args._shape.now c.args.row.now (is_taken c.args._shape.now c.args.row.now c.requires.shape c.requires.kinds c.requires.short values) c.requires.kinds more part))
    c.encode_row.ensures.ok c.encode_row.ensures.values

pub returns-clause-formed : goal.returns-clause-formed
returns-clause-formed c =
    ok_both c.encode_row.result (λ items values.
    subst (IsPartialRow c.args._shape.now) (sym (items ∙ ap (λ (xs : List ℕ). xs ++ row_bytes c.args.row.now) c.clear.ensures.items))
    (taken_formed c.law_row_back.ensures.law c.args._shape.now c.args.row.now (is_taken c.args._shape.now c.args.row.now c.requires.shape c.requires.kinds c.requires.short values) c.requires.kinds))
    c.encode_row.ensures.ok c.encode_row.ensures.values
