use Rattle.std.proofs.Common.{rules, ◌≡◌, ◌==◌, ◌∙◌, ◌++◌, [], ◌∷◌, ℕ, List, Some, false, true, not, length, inl, sym, ap₂, true≢false, arith, refl}
use Rattle.std.specs.Prelude.{All, eqb}
use Rattle.std.specs.List.{IsDistinct}
use Rattle.std.proofs.lemmas.Map.Keys.{IsDistinct-cons}
use Rattle.std.proofs.lemmas.List.Elements.{All-cons, All-nil}
use Rattle.row_codec.specs.declared.values.Agg.{Agg}
use Rattle.row_codec.specs.declared.values.Agg.TheVariants.{Count, Sum}
use Rattle.row_codec.specs.declared.values.Kind.{Kind}
use Rattle.row_codec.specs.declared.values.Kind.TheVariants.{Int, Text}
use Rattle.store_api.specs.Shapes.{IsJoinShape, IsKeyColumn, IsOverInts, IsShape}
use Rattle.query_plan.specs.declared.plan.Query.{Query}
use Rattle.query_run.specs.Plans.{kinds_of_columns, row_columns}
use Rattle.query_run.proofs.Names.{joined_kinds}
use Rattle.tests_queries.proofs.tests.queries.both.plan.Goals as goal

abbrev both : List Kind
both = Int ∷ Text ∷ Int ∷ Text ∷ []

none_distinct : IsDistinct {K = ℕ} eqb []
unfolding IsDistinct
none_distinct = tt

-- the right text is grouped, and what is computed is over the left int
by_text : (kinds : List Kind) (keys : List ℕ) (aggs : List Agg) → kinds ≡ both → keys ≡ 3 ∷ [] → aggs ≡ Count ∷ Sum 0 ∷ [] → IsShape (record { kinds = kinds; keys = keys; aggs = aggs })
by_text kinds keys aggs four one two =
    rw (four, one, two) (record {
      some = omega arith;
      distinct = IsDistinct-cons eqb 3 [] tt none_distinct;
      keys = All-cons (IsKeyColumn both) 3 [] (Text, refl, λ same. cc) (All-nil (IsKeyColumn both));
      aggs = All-cons (IsOverInts both) Count (Sum 0 ∷ []) tt (All-cons (IsOverInts both) (Sum 0) [] refl (All-nil (IsOverInts both)));
    })

abbrev IsOn : ℕ × ℕ → Type 0
IsOn pair = IsKeyColumn (Int ∷ Text ∷ []) pair.0 × IsKeyColumn (Int ∷ Text ∷ []) pair.1

-- the first columns are to be equal, ints of both sides
by_ints : (left right : List Kind) (on : List (ℕ × ℕ)) → left ≡ Int ∷ Text ∷ [] → right ≡ Int ∷ Text ∷ [] → on ≡ (0, 0) ∷ [] → IsJoinShape (record { left = left; right = right; on = on })
by_ints left right on lefts rights pair =
    rw (lefts, rights, pair) (record {
      left = omega arith;
      right = omega arith;
      on = All-cons IsOn (0, 0) [] ((Int, refl, λ same. cc), (Int, refl, λ same. cc)) (All-nil IsOn);
    })

pub returns-clause-runnable : goal.returns-clause-runnable
returns-clause-runnable c =
    let pair : c.from_vec.result ≡ (0, 0) ∷ [] = search rules in
    let group : c.from_vec-2.result ≡ 3 ∷ [] = search rules in
    let aggs : c.from_vec-3.result ≡ Count ∷ Sum 0 ∷ [] = search rules in
    let groups-it : not (length c.from_vec-2.result == 0) ≡ true = rw group refl in
    let plan : Query = record { page_blocks = 1; limit = 8192; quota = 700; output = c.from_string.result; left = c.in_ok-side.field-0; right = Some c.in_ok-side-2.field-0; on = c.from_vec.result; group = c.from_vec-2.result; aggs = c.from_vec-3.result; fragments = 1 } in
    let kinds : kinds_of_columns (row_columns plan) ≡ both = joined_kinds plan c.in_ok-side-2.field-0 refl ∙ ap₂ (λ (ls rs : List Kind). ls ++ rs) c.in_ok-side.ensures.kinds c.in_ok-side-2.ensures.kinds in
    record {
      paged = refl;
      left = c.in_ok-side.ensures.side;
      right = c.in_ok-side-2.ensures.side;
      join = by_ints _ _ _ c.in_ok-side.ensures.kinds c.in_ok-side-2.ensures.kinds pair;
      does = inl groups-it;
      shape = λ groups. by_text _ _ _ kinds group aggs;
      keys = rw group (omega arith);
      aggs = rw aggs (omega arith);
      none = λ (not-so : not (length c.from_vec-2.result == 0) ≡ false). absurd (true≢false (sym groups-it ∙ not-so));
    }
