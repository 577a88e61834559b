-- The rows of streams that rest are on the pages that were left, each once.
use Rattle.std.proofs.Common.{◌≡◌, ◌∙◌, ℕ, ◌+◌, ◌≤◌, List, [], ◌∷◌, ◌++◌, length, refl, sym, subst, arith}
use Rattle.std.specs.List.{flat_map, sum_by}
use Rattle.std.proofs.lemmas.List.Sums.{sum_by-append, sum_by-cons}
use Rattle.pool_model.specs.declared.event.Event.{Event}
use Rattle.tuple_stream.specs.PageRows.{rows_on}
use Rattle.tuple_stream.specs.Trails.{Left, all_left}
use Rattle.tuple_stream.specs.Families.{AreShaped, Family}
use Rattle.tuple_stream.specs.FamilyCalls.{HoldAll, shares}
use Rattle.group_op.specs.Laid.{HasLeft}
use Rattle.partition_stack.proofs.PagesOnce.{distinct_left, marks_permute, once_in}

sum_flat : (mark : List ℕ → ℕ) (ls : List Left) → sum_by mark (flat_map (λ l. rows_on l.bytes) ls) ≡ sum_by (λ l. sum_by mark (rows_on l.bytes)) ls
sum_flat mark [] = refl
sum_flat mark (l ∷ ls) =
    let rest = sum_flat mark ls in
    let now : sum_by mark (rows_on l.bytes ++ flat_map (λ l. rows_on l.bytes) ls) ≡ sum_by mark (rows_on l.bytes) + sum_by mark (flat_map (λ l. rows_on l.bytes) ls) = sum_by-append mark (rows_on l.bytes) (flat_map (λ (l : Left). rows_on l.bytes) ls) in
    let was : sum_by (λ l. sum_by mark (rows_on l.bytes)) (l ∷ ls) ≡ sum_by mark (rows_on l.bytes) + sum_by (λ l. sum_by mark (rows_on l.bytes)) ls = sum_by-cons (λ (l : Left). sum_by mark (rows_on l.bytes)) l ls in
    omega (arith, rest, now, was)

-- the rows of streams that rest are on the pages that were left, each once
pub held_left : (t : ℕ) (g : Family) (rows : ℕ → List (List ℕ)) (events : List Event) → AreShaped t g → HoldAll rows g events → HasLeft (shares (length g.streams) rows) events
held_left t g rows events shaped holds =
    record {
      these = flat_map (λ l. rows_on l.bytes) (all_left events);
      leaves = record {
        building = holds.building;
        once = distinct_left (all_left events) (λ name. subst (λ (n : ℕ). n ≤ 1) (sym (holds.pages name)) (once_in name g.streams (λ i s there. (shaped.each i s there).apart) shaped.apart));
        rows_are = refl;
      };
      moved = marks_permute (shares (length g.streams) rows) (flat_map (λ l. rows_on l.bytes) (all_left events)) (λ mark. sym (sum_flat mark (all_left events) ∙ holds.rows_are mark));
    }
