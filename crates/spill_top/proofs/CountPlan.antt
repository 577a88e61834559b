-- The plan of a count is one that runs, and what its query says is said of the command.
use Rattle.std.proofs.Common.{◌≡◌, ◌≢◌, ℕ, List, [], ◌∷◌, Option, IfSome, false, true≢false, inl, arith, refl, subst}
use Rattle.std.specs.Prelude.{eqb}
use Rattle.std.specs.List.{IsDistinct}
use Rattle.std.proofs.lemmas.Map.Keys.{IsDistinct-cons}
use Rattle.std.proofs.lemmas.List.Elements.{All-cons, All-nil}
use Rattle.row_codec.specs.declared.values.Agg.TheVariants.{Count}
use Rattle.row_codec.specs.declared.values.Kind.TheVariants.{Text, Wide}
use Rattle.pool_model.specs.Bytes.{bytes_of}
use Rattle.store_api.specs.Shapes.{IsKeyColumn, IsOverInts}
use Rattle.outside.specs.Told.{GivesBytes}
use Rattle.query_plan.specs.Sizes.{groups, page_len}
use Rattle.query_plan.specs.declared.plan.Query.{Query}
use Rattle.query_run.specs.Causes.{IsOfBytes}
use Rattle.query_run.specs.Input.{IsRefusal}
use Rattle.query_run.specs.Plans.{IsAbout, IsRunnable, IsSide}
use Rattle.query_plan.specs.declared.outcome.QueryErr.{QueryErr}
use Rattle.spill_top.specs.Counting.{counting, counting_conf}
use Rattle.spill_top.specs.Headline.{page_bytes}
use Rattle.spill_top.specs.Pooled.{HasMemoryFor}
use Rattle.spill_top.specs.Words.{Command}
use Rattle.spill_top.proofs.Causes.{told_some}

pub none_distinct : IsDistinct {K = ℕ} eqb []
unfolding IsDistinct
none_distinct = tt

one_text : (command : Command) → IsSide (counting command).left
one_text command =
    record {
      some = omega arith;
      few = omega arith;
      narrow = All-cons (λ column. column.kind ≢ Wide) (record { name = command.column; kind = Text }) [] (λ same. cc) (All-nil (λ column. column.kind ≢ Wide));
      preds = All-nil (IsAbout (counting command).left.columns);
    }

pub runs : (command : Command) → IsRunnable (counting command)
runs command =
    record {
      paged = refl;
      left = one_text command;
      right = tt;
      join = tt;
      does = inl refl;
      shape = λ groups. record {
        some = omega arith;
        distinct = IsDistinct-cons eqb 0 [] tt none_distinct;
        keys = All-cons (IsKeyColumn (Text ∷ [])) 0 [] (Text, refl, λ same. cc) (All-nil (IsKeyColumn (Text ∷ [])));
        aggs = All-cons (IsOverInts (Text ∷ [])) Count [] tt (All-nil (IsOverInts (Text ∷ [])));
      };
      keys = omega arith;
      aggs = omega arith;
      none = λ (groups_none : groups (counting command) ≡ false). absurd (true≢false groups_none);
    }

-- its pool has the memory for it
pub pool_fits : (command : Command) → HasMemoryFor (counting command) counting_conf
unfolding bytes_of
pool_fits command = record {
  opens = record { block_len = refl; some = omega arith; blocks = omega arith; memory = omega arith; profile = inl refl };
  first = refl;
  least = omega arith;
  allowed = omega arith;
}

-- its pages over a store of such blocks
pub page_is : (command : Command) (plan : Query) (block_len : ℕ) → plan ≡ counting command → block_len ≡ 8192 → page_len plan block_len ≡ page_bytes
page_is command plan block_len planned len = rw (planned, len) refl

-- what a query says of the bytes that its source gave is so of those under its file
pub refused_so : (command : Command) (plan : Query) (block_len : ℕ) (told given : Option (List ℕ)) (e : QueryErr) → plan ≡ counting command → block_len ≡ 8192 → GivesBytes told given
    → (IsOfBytes e → IfSome given (λ bytes. IsRefusal plan (page_len plan block_len) bytes e)) → IsOfBytes e → IfSome told (λ bytes. IsRefusal (counting command) page_bytes bytes e)
refused_so command plan block_len told given e planned len gives says = λ is.
    told_some (λ bytes. IsRefusal (counting command) page_bytes bytes e) told given gives
    (subst (λ (n : ℕ). IfSome given (λ bytes. IsRefusal (counting command) n bytes e)) (page_is command plan block_len planned len)
    (subst (λ (q : Query). IfSome given (λ bytes. IsRefusal q (page_len plan block_len) bytes e)) planned (says is)))
