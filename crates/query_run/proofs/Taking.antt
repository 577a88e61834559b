-- A row more of an answer: its line, and its numbers.
use Rattle.std.proofs.Common.{◌≡◌, ◌∙◌, ◌++◌, ◌∷◌, [], ℕ, ℤ, List, Option, Some, None, ◌+◌, ◌≢◌, map, length, take, sym, ap, refl, subst, arith}
use Rattle.std.specs.Int.{w128, int_wrap}
use Rattle.std.specs.Prelude.{◌+ℤ◌, pos, fold}
use Rattle.std.proofs.lemmas.Int.{int_wrap-add_left}
use Rattle.std.proofs.lemmas.Grind.{flat_map-append}
use Rattle.std.proofs.lemmas.List.{append_assoc, append-nil, length-append, map-append}
use Rattle.std.proofs.Math.Seq.{take-append_seam}
use Rattle.row_codec.specs.declared.values.Agg.{Agg}
use Rattle.row_codec.specs.declared.values.Agg.TheVariants.{Sum}
use Rattle.row_codec.specs.declared.values.Value.{Value}
use Rattle.csv_edge.specs.Lines.{line_of}
use Rattle.group_rows.specs.Aggregates.{aggregate, number_at, numbers_at, own_number, total}
use Rattle.group_rows.specs.Partials.{combined_numbers}
use Rattle.query_run.specs.Answer.{lines_of}
use Rattle.outside.specs.Counts.{Rose}
use Rattle.outside.specs.Faults.{Faults}
use Rattle.outside.specs.Sinks.{StopsAt}
use Rattle.outside.proofs.Stopping.{stops_later}
use Rattle.query_run.specs.Parts.{FrontOf, HasSent, StopsWriting}
use Rattle.query_run.specs.Writing.{Begun, HasTaken, text_behind, written}
use Rattle.query_plan.specs.declared.outcome.QueryErr.{QueryErr}
use Rattle.query_plan.specs.declared.outcome.QueryErr.TheVariants.{SinkFault}
use Rattle.query_run.proofs.Sending.{front_on}

-- the text of one row more
pub text_more : (front : List ℕ) (row : List Value) (rows : List (List Value)) → text_behind front rows ++ line_of row ≡ text_behind front (rows ++ row ∷ [])
text_more front row rows =
    append_assoc front (lines_of rows) (line_of row)
    ∙ ap (λ l. front ++ l) (ap (λ l. lines_of rows ++ l) (sym (append-nil (line_of row))) ∙ sym (flat_map-append line_of rows (row ∷ [])))

total_more : (a : ℤ) (ns : List ℤ) (n : ℤ) → fold ◌+ℤ◌ a (ns ++ n ∷ []) ≡ fold ◌+ℤ◌ a ns +ℤ n
total_more a [] n = refl
total_more a (m ∷ ns) n = total_more (a +ℤ m) ns n

-- the sum of a column over one row more
sum_more : (column : ℕ) (row : List Value) (rows : List (List Value))
    → int_wrap w128 (aggregate (Sum column) rows +ℤ own_number (Sum column) row) ≡ aggregate (Sum column) (rows ++ row ∷ [])
sum_more column row rows =
    int_wrap-add_left w128 (total (numbers_at column rows)) (number_at column row)
    ∙ ap (int_wrap w128) (sym (total_more (pos 0) (numbers_at column rows) (number_at column row)) ∙ ap total (sym (map-append (number_at column) rows (row ∷ []))))

-- the sums of all columns
pub sums_more : (columns : List ℕ) (row : List Value) (rows : List (List Value))
    → combined_numbers (map Sum columns) (map (λ column. aggregate (Sum column) rows) columns) (map (λ agg. own_number agg row) (map Sum columns))
    ≡ map (λ column. aggregate (Sum column) (rows ++ row ∷ [])) columns
sums_more [] row rows = refl
sums_more (column ∷ columns) row rows = rw (sum_more column row rows, sums_more columns row rows) refl

-- a list that is written over from its front to its end
pub written_over : {X : Type 0} (len : ℕ) (new rest : List X) → length new ≡ len → take len (new ++ rest) ≡ new
written_over len new rest long = subst (λ n. take n (new ++ rest) ≡ new) long (take-append_seam new rest)

-- a row was taken
pub took_row : (before : Begun) (rows : List (List Value)) (row : List Value) (stopped : Option QueryErr) (contents contents' : Option (List ℕ)) (faults faults' : Faults) (waits waits' : List ℕ) (count next : ℕ) (totals totals' : List ℤ) (sums : List Agg)
    → next ≡ count + 1 → stopped ≡ None → HasTaken before rows (written contents faults stopped waits count totals)
    → ((start : Option (List ℕ)) (text : List ℕ) → HasSent start contents waits text → HasSent start contents' waits' (text ++ line_of row))
    → faults'.count ≡ faults.count → faults'.first ≡ faults.first → sums ≡ map Sum before.columns → totals' ≡ combined_numbers sums totals (map (λ agg. own_number agg row) sums)
    → HasTaken before (rows ++ row ∷ []) (written contents' faults' stopped waits' next totals')
took_row before rows row (Some why) contents contents' faults faults' waits waits' count next totals totals' sums is none taken sends quiet whole are combined = absurd (cc)
took_row before rows row None contents contents' faults faults' waits waits' count next totals totals' sums is none taken sends quiet whole are combined =
    let more = length-append rows (row ∷ []) in
    let so-far = taken.counted in
    record {
      sent = (subst (HasSent before.contents contents' waits') (text_more before.front row rows) (sends before.contents (text_behind before.front rows) taken.sent.0), quiet ∙ taken.sent.1, whole ∙ taken.sent.2);
      counted = omega (arith, more, so-far, is);
      totals = combined ∙ rw (are, taken.totals) (sums_more before.columns row rows);
    }

-- nothing more is taken
pub took_stop : (before : Begun) (rows : List (List Value)) (why : QueryErr) (stopped : Option QueryErr) (contents contents' : Option (List ℕ)) (faults faults' : Faults) (waits waits' : List ℕ) (count : ℕ) (totals : List ℤ)
    → stopped ≡ None → HasTaken before rows (written contents faults stopped waits count totals)
    → FrontOf contents contents' waits → (why ≡ SinkFault → Rose faults.count faults'.count) → (why ≢ SinkFault → faults'.count ≡ faults.count) → StopsWriting why → StopsAt (why ≡ SinkFault) faults.first faults'.first contents'
    → HasTaken before rows (written contents' faults' (Some why) waits' count totals)
took_stop before rows why (Some old) contents contents' faults faults' waits waits' count totals none taken front fault quiet stops ends = absurd (cc)
took_stop before rows why None contents contents' faults faults' waits waits' count totals none taken front fault quiet stops ends =
    let all : FrontOf before.contents contents' (text_behind before.front rows) =
    subst (FrontOf before.contents contents') (append-nil (text_behind before.front rows)) (front_on before.contents contents contents' waits (text_behind before.front rows) [] taken.sent.0 front) in
    record {
      sent = (all, (λ is. subst (λ n. Rose n faults'.count) taken.sent.1 (fault is)), (λ other. quiet other ∙ taken.sent.1), stops, stops_later (why ≡ SinkFault) before.faults.first faults.first faults'.first contents' taken.sent.2 ends);
      counted = taken.counted;
      totals = taken.totals;
    }
