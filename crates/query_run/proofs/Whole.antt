-- What was read, fed and written, as one answer.
use Rattle.std.proofs.Common.{rules, ◌≡◌, ◌∙◌, ◌++◌, ℕ, Bool, true, List, [], Option, Some, None, IfSome, filter, length, map, ap, sym, subst, refl, arith}
use Rattle.std.specs.Io.KnownBytes.{Appends}
use Rattle.pool_model.specs.declared.entry.Entry.{Entry}
use Rattle.row_codec.specs.declared.values.Value.{Value}
use Rattle.row_codec.specs.declared.values.Value.TheVariants.{Text}
use Rattle.scan_filter.specs.Passes.{passes}
use Rattle.csv_edge.specs.Written.{AppendsFront}
use Rattle.store_api.specs.Holdings.{Holdings}
use Rattle.store_api.specs.Signs.{Signs}
use Rattle.group_op.specs.Operator.{IsSame, Keeps, Operator, page_of}
use Rattle.query_plan.specs.declared.plan.Query.{Query}
use Rattle.query_plan.specs.Sizes.{groups}
use Rattle.query_run.specs.Answer.{AreLines, IsAnswer, LineNumbers, Numbers, WroteAnswer, WroteFront, agg_name, answer_text, group_rows, header_of}
use Rattle.query_run.specs.Both.{AreAccepted, answered, both_told, right_passing, right_rows}
use Rattle.query_run.specs.FedRows.{AreFed}
use Rattle.query_run.specs.Plans.{HasGroups, IsGrouping, grouping_of, kinds_of_columns, name_at, row_columns, shape_of}
use Rattle.store_api.specs.declared.shapes.Shape.{Shape}
use Rattle.query_run.specs.Input.{IsAccepted, left_rows, passing}
use Rattle.query_run.specs.Inside.{GoesOn}
use Rattle.query_run.specs.Writing.{HoldsFor}
use Rattle.query_run.specs.declared.feeding.Fed.{Fed}
use Rattle.query_plan.specs.declared.outcome.Ran.{Ran}

-- the rows that were read are the input's, which is accepted, where its bytes are told
abbrev pub AreRead : Query → ℕ → Option (List ℕ) → List (List Value) → Type 0
AreRead plan page told rows = IfSome told (λ bytes. IsAccepted plan page bytes × (rows ≡ left_rows plan bytes))

abbrev pub passing_of : Query → List (List Value) → List (List Value)
passing_of plan rows = filter (passes plan.left.preds) rows

-- the answer over these rows
abbrev pub groups_text : Query → List (List Value) → List ℕ
groups_text plan rows = answer_text plan (group_rows (grouping_of plan) rows)

module _ (plan : Query) (page : ℕ) (alone : plan.right ≡ None) (grouped : groups plan ≡ true) where
  accepted-alone : (bytes rights : List ℕ) → IsAccepted plan page bytes → AreAccepted plan page (record { left = bytes; right = rights })
  accepted-alone bytes rights accepted = record { left = accepted; right = rw alone tt }

  answered-alone : (bytes rights : List ℕ) → answered plan (record { left = bytes; right = rights }) ≡ passing plan bytes
  answered-alone bytes rights = rw alone refl

  lines-alone : (rows : List (List Value)) → AreLines plan rows (group_rows (grouping_of plan) rows)
  lines-alone rows = rw grouped refl

  is-answer : (bytes rights : List ℕ) → IsAccepted plan page bytes → IsAnswer plan page (record { left = bytes; right = rights }) (groups_text plan (passing plan bytes))
  is-answer bytes rights accepted = record {
    accepted = accepted-alone bytes rights accepted;
    out = group_rows (grouping_of plan) (passing plan bytes);
    are = subst (λ rows. AreLines plan rows (group_rows (grouping_of plan) (passing plan bytes))) (sym (answered-alone bytes rights)) (lines-alone (passing plan bytes));
    is = refl;
  }

  pub whole_answer : (told old new : Option (List ℕ)) (rows : List (List Value)) → AreRead plan page told rows → Appends old new (groups_text plan (passing_of plan rows)) → WroteAnswer plan page (both_told told (Some [])) old new
  whole_answer None old new rows are appends = tt
  whole_answer (Some bytes) old new rows are appends =
      (groups_text plan (passing plan bytes), is-answer bytes [] are.0, subst (λ r. Appends old new (groups_text plan (passing_of plan r))) are.1 appends)

  pub part_answer : (told old new : Option (List ℕ)) (rows : List (List Value)) → AreRead plan page told rows → AppendsFront old new (groups_text plan (passing_of plan rows)) → WroteFront plan page (both_told told (Some [])) old new
  part_answer None old new rows are appends = tt
  part_answer (Some bytes) old new rows are appends =
      (groups_text plan (passing plan bytes), is-answer bytes [] are.0, subst (λ r. AppendsFront old new (groups_text plan (passing_of plan r))) are.1 appends)

  none-right : (bytes : List ℕ) → length (right_rows plan.right bytes) ≡ 0
  none-right bytes = rw alone refl

  none-passes : (bytes : List ℕ) → length (right_passing plan.right bytes) ≡ 0
  none-passes bytes = rw alone refl

  pub all_numbers : (told : Option (List ℕ)) (tells : Bool) (rows : List (List Value)) (fed : Fed) (ran : Ran) → AreRead plan page told rows
      → fed.read ≡ length rows → fed.kept ≡ length (passing_of plan rows) → ran.left ≡ fed.read → ran.right ≡ 0 → ran.kept ≡ fed.kept
      → (tells ≡ true → LineNumbers plan (passing_of plan rows) ran) → IfSome (both_told told (Some [])) (Numbers plan page tells ran)
  all_numbers None tells rows fed ran are read kept left right passed lines = tt
  all_numbers (Some bytes) tells rows fed ran are read kept left right passed lines =
      let none = none-right [] in
      let no-more = none-passes [] in
      let pass : ran.kept ≡ length (passing plan bytes) = passed ∙ kept ∙ ap (λ r. length (passing_of plan r)) are.1 in
      record {
        accepted = accepted-alone bytes [] are.0;
        left = left ∙ read ∙ ap length are.1;
        right = right ∙ sym none;
        kept = omega (arith, pass, no-more);
        lines = λ tell. subst (λ r. LineNumbers plan r ran) (ap (passing_of plan) are.1 ∙ sym (answered-alone bytes [])) (lines tell);
      }

-- where there is no right input, the row that is grouped is a left one
pub left_kinds : (plan : Query) → plan.right ≡ None → kinds_of_columns plan.left.columns ≡ (shape_of plan).kinds
left_kinds plan alone = rw alone refl

-- a query that groups the rows of its left input groups
pub groups_alone : (plan : Query) → IsGrouping plan → HasGroups plan
groups_alone plan is = record { paged = is.paged; shape = is.shape; keys = is.keys; aggs = is.aggs }

-- a query that groups has a key
pub grouped : (plan : Query) → HasGroups plan → groups plan ≡ true
grouped plan is = let some = is.shape.some in search (rules, some)

pub passing_are : (plan : Query) (page : ℕ) (told : Option (List ℕ)) (rows : List (List Value)) → AreRead plan page told rows
    → IfSome told (λ bytes. IsAccepted plan page bytes × (passing_of plan rows ≡ passing plan bytes))
passing_are plan page None rows are = tt
passing_are plan page (Some bytes) rows are = (are.0, ap (passing_of plan) are.1)

-- rows of the left input are of the shape that is grouped
pub fed_as : (plan : Query) (shape : Shape) (rows : List (List Value)) → plan.right ≡ None → shape ≡ shape_of plan → AreFed (kinds_of_columns plan.left.columns) rows → AreFed shape.kinds rows
fed_as plan shape rows alone same fed =
    let kinds : kinds_of_columns plan.left.columns ≡ shape.kinds = left_kinds plan alone ∙ sym (ap (λ (s : Shape). s.kinds) same) in
    subst (λ ks. AreFed ks rows) kinds fed

-- what was fed is of its own groups
pub holds_for : (start : Option (List Entry)) (rows : List (List Value)) (op : Operator) (h : Holdings) (signs : Signs) → Keeps start rows op h signs → AreFed op.shape.kinds rows → HoldsFor rows op h signs
holds_for start rows op h signs keeps formed = record { fed = rows; many = refl; weigh = refl; holds = keeps.holds; same = refl; values = keeps.holds.values; formed = formed }

-- pages are as long as they were
pub same_page : (a b : Operator) (old new : Holdings) (before after : Signs) → IsSame a b → GoesOn a b old new before after → page_of b new ≡ page_of a old
same_page a b old new before after same went = rw (same.blocks, went.leaves.others.block_len) refl

-- the names of an answer
pub group_names : (plan : Query) → HasGroups plan
    → map (λ place. Text (name_at (row_columns plan) place)) plan.group ++ map (λ agg. Text (agg_name (row_columns plan) agg)) plan.aggs ≡ header_of plan
group_names plan is = let groups-it = grouped plan is in rw groups-it refl
