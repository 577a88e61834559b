-- What a client has beside a stream, while calls of the stream go on. For tests.
use Rattle.std.proofs.Common.{◌≡◌, ◌≢◌, ◌∙◌, ℕ, [], ◌∷◌, Option, IsSome, refl, ap, sym, subst, arith}
use Rattle.std.specs.Prelude.{eqb}
use Rattle.std.specs.List.{IsDistinct}
use Rattle.std.proofs.lemmas.Map.Keys.{IsDistinct-cons}
use Rattle.std.proofs.lemmas.List.Elements.{All-cons, All-nil}
use Rattle.row_codec.specs.declared.values.Agg.TheVariants.{Count}
use Rattle.row_codec.specs.declared.values.Kind.TheVariants.{Text}
use Rattle.store_api.specs.Conditions.{IsIdle}
use Rattle.store_api.specs.Holdings.{Holdings, LiveLoan, LivePage}
use Rattle.store_api.specs.Shapes.{IsKeyColumn, IsOverInts, IsShape}
use Rattle.tuple_stream.specs.Streamed.{Streamed}
use Rattle.tuple_stream.specs.Streams.{IsApart}
use Rattle.tuple_stream.specs.Touches.{Touches}
use Rattle.group_op.specs.Leaving.{Leaves}
use Rattle.group_op.specs.Scanning.{ReadBeside}

pub touched_leaves : (t : ℕ) (s now : Streamed) (old new : Holdings) → Touches t s now old new → Leaves t s now old new
touched_leaves t s now old new touches =
    record {
      pages = λ q page own is apart.
          let back = touches.back q (subst (λ (o : Option LivePage). IsSome o) (sym is) refl) apart in
          (back.0 ∙ is, back.1);
      loans = λ q loan own is. sym (ap (λ (loans : ℕ → Option LiveLoan). loans q) touches.loans) ∙ is;
      live_clients = touches.live_clients;
    }

pub beside_leaves : (t : ℕ) (client : Option ℕ) (s now : Streamed) (old new : Holdings) → ReadBeside t client s now old new → Leaves t s now old new
beside_leaves t client s now old new beside =
    record {
      pages = λ q page own is apart.
          let far : IsApart q s.pages = subst (IsApart q) (ap (λ (x : Streamed). x.pages) beside.same) apart in
          ((beside.pages q page own far).0 is, far);
      loans = λ q loan own is. (beside.loans q loan own).0 is;
      live_clients = beside.query.live_clients;
    }

pub leaves_trans : (t : ℕ) (s a b : Streamed) (h0 h1 h2 : Holdings) → Leaves t s a h0 h1 → Leaves t a b h1 h2 → Leaves t s b h0 h2
leaves_trans t s a b h0 h1 h2 one two =
    record {
      pages = λ q page own is apart. let mid = two.pages q page own is apart in one.pages q page own mid.0 mid.1;
      loans = λ q loan own is. one.loans q loan own (two.loans q loan own is);
      live_clients = two.live_clients ∙ one.live_clients;
    }

-- once it has no pages, the client is as idle as before
pub leaves_idle : (t : ℕ) (s now : Streamed) (old new : Holdings) → Leaves t s now old new → now.pages ≡ [] → IsIdle t old → IsIdle t new
leaves_idle t s now old new leaves none idle =
    record {
      pages = λ q page is own. idle.pages q page (leaves.pages q page own is (subst (IsApart q) (sym none) (All-nil (λ p. p.name ≢ q)))).0 own;
      loans = λ q loan is own. idle.loans q loan (leaves.loans q loan own is) own;
    }

none_distinct : IsDistinct {K = ℕ} eqb []
unfolding IsDistinct
none_distinct = tt

pub counted_texts : IsShape (record { kinds = Text ∷ []; keys = 0 ∷ []; aggs = Count ∷ [] })
counted_texts =
    record {
      some = omega arith;
      distinct = IsDistinct-cons eqb 0 [] tt none_distinct;
      keys = All-cons (IsKeyColumn (Text ∷ [])) 0 [] (Text, refl, λ same. cc) (All-nil (IsKeyColumn (Text ∷ [])));
      aggs = All-cons (IsOverInts (Text ∷ [])) Count [] tt (All-nil (IsOverInts (Text ∷ [])));
    }
