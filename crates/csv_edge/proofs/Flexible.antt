-- Whether rows may differ in length changes no text.
use Rattle.std.proofs.Common.{◌≡◌, ◌∙◌, ◌++◌, ap, append_assoc, sym, refl, List, ℕ, [], ◌∷◌}
use Rattle.csv.specs.Writing.{default_writer, escaped, field_text, fields_text, is_blank, row_text}
use Rattle.csv_edge.specs.Writer.{lines_setup}

escaped-same : (field : List ℕ) → escaped lines_setup field ≡ escaped default_writer field
unfolding escaped
escaped-same [] = refl
escaped-same (b ∷ rest) = rw (escaped-same rest) refl

field-same : (field : List ℕ) → field_text lines_setup field ≡ field_text default_writer field
field-same field = rw (escaped-same field) refl

fields-same : (fields : List (List ℕ)) → fields_text lines_setup fields ≡ fields_text default_writer fields
unfolding fields_text
fields-same [] = refl
fields-same (field ∷ rest) = rw (field-same field, fields-same rest) refl

blank-same : (fields : List (List ℕ)) → is_blank lines_setup fields ≡ is_blank default_writer fields
unfolding is_blank
blank-same [] = refl
blank-same (field ∷ []) = rw (field-same field) refl
blank-same (field ∷ next ∷ rest) = refl

pub row-same : (fields : List (List ℕ)) → row_text lines_setup fields ≡ row_text default_writer fields
unfolding is_blank
row-same [] = refl
row-same (field ∷ rest) = rw (field-same field, fields-same rest, blank-same (field ∷ rest)) refl

-- one more piece behind what stands there
pub piece-more : (base before after body longer piece : List ℕ) → after ≡ before ++ piece → before ≡ base ++ body → longer ≡ body ++ piece → after ≡ base ++ longer
piece-more base before after body longer piece e f g =
    e ∙ ap (λ (t : List ℕ). t ++ piece) f ∙ append_assoc base body piece ∙ ap (λ (t : List ℕ). base ++ t) (sym g)
