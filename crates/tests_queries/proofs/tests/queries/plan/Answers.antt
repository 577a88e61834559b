use Rattle.std.proofs.Common.{rules, ◌≡◌, ◌==◌, ◌∙◌, [], ◌∷◌, ℕ, List, false, true, not, length, inl, sym, true≢false, arith, refl}
use Rattle.std.specs.Prelude.{All, eqb}
use Rattle.std.specs.List.{IsDistinct}
use Rattle.std.proofs.lemmas.Map.Keys.{IsDistinct-cons}
use Rattle.std.proofs.lemmas.List.Elements.{All-cons, All-nil}
use Rattle.row_codec.specs.declared.values.Agg.{Agg}
use Rattle.row_codec.specs.declared.values.Kind.{Kind}
use Rattle.row_codec.specs.declared.values.Kind.TheVariants.{Int, Text}
use Rattle.store_api.specs.Shapes.{IsKeyColumn, IsOverInts, IsShape}
use Rattle.tests_queries.proofs.tests.queries.plan.Goals as goal

none_distinct : IsDistinct {K = ℕ} eqb []
unfolding IsDistinct
none_distinct = tt

-- a text is grouped, and what is computed is over the int behind it
by_text : (kinds : List Kind) (keys : List ℕ) (aggs : List Agg) → kinds ≡ Text ∷ Int ∷ [] → keys ≡ 0 ∷ [] → All (IsOverInts (Text ∷ Int ∷ [])) aggs → IsShape (record { kinds = kinds; keys = keys; aggs = aggs })
by_text kinds keys aggs two one ints =
    rw (two, one) (record {
      some = omega arith;
      distinct = IsDistinct-cons eqb 0 [] tt none_distinct;
      keys = All-cons (IsKeyColumn (Text ∷ Int ∷ [])) 0 [] (Text, refl, λ same. cc) (All-nil (IsKeyColumn (Text ∷ Int ∷ [])));
      aggs = ints;
    })

pub returns-clause-runnable : goal.returns-clause-runnable
returns-clause-runnable c =
    let key : c.from_vec.result ≡ 0 ∷ [] = search rules in
    let ints : All (IsOverInts (Text ∷ Int ∷ [])) c.from_vec-2.result = rw c.from_vec-2.ensures.moved c.in_ok-aggs_of.ensures.ints in
    let groups-it : not (length c.from_vec.result == 0) ≡ true = rw key refl in
    record {
      paged = refl;
      left = c.in_ok-side.ensures.side;
      right = tt;
      join = tt;
      does = inl groups-it;
      shape = λ groups. by_text _ _ _ c.in_ok-side.ensures.kinds key ints;
      keys = rw key (omega arith);
      aggs = rw c.from_vec-2.ensures.moved c.in_ok-aggs_of.ensures.few;
      none = λ (not-so : not (length c.from_vec.result == 0) ≡ false). absurd (true≢false (sym groups-it ∙ not-so));
    }
