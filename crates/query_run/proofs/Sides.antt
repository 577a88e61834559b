-- What was read of both inputs, fed and written, as one answer.
use Rattle.std.proofs.Common.{◌≡◌, ◌∙◌, ◌+◌, ◌<◌, ◌^◌, ℕ, Bool, false, true, not, List, Option, Some, None, IfSome, filter, length, ap, sym, subst, refl, arith}
use Rattle.std.specs.Prelude.{⊤}
use Rattle.std.specs.Io.KnownBytes.{Appends}
use Rattle.std.proofs.lemmas.List.{length-append}
use Rattle.std.proofs.lemmas.List.Filters.{length-filter_both}
use Rattle.pool_model.specs.declared.entry.Entry.{Entry}
use Rattle.row_codec.specs.declared.values.Value.{Value}
use Rattle.scan_filter.specs.Passes.{passes}
use Rattle.csv_edge.specs.Written.{AppendsFront}
use Rattle.tuple_stream.specs.Families.{Family}
use Rattle.tuple_stream.specs.Trails.{EnteredEvents}
use Rattle.join_op.specs.Laid.{HoldsSides}
use Rattle.join_op.specs.Pairs.{SameRows, pairs_of}
use Rattle.query_plan.specs.Sizes.{groups}
use Rattle.query_plan.specs.declared.plan.Query.{Query}
use Rattle.query_plan.specs.declared.plan.Side.{Side}
use Rattle.query_plan.specs.declared.plan.Side.TheVariants.{Left, Right}
use Rattle.query_plan.specs.declared.plan.SidePlan.{SidePlan}
use Rattle.query_run.specs.Answer.{IsAnswer, LineNumbers, Numbers, WroteAnswer, WroteFront, answer_text, group_rows}
use Rattle.query_run.specs.Both.{answered, both_told, passing_of_both, right_passing}
use Rattle.query_run.specs.Feeding.{HasFed}
use Rattle.query_run.specs.Input.{IsAccepted, IsAcceptedIn, passing, passing_in}
use Rattle.query_run.specs.Joined.{HasFedBoth, KeptBoth, WrotePairs, WroteSomePairs}
use Rattle.query_run.specs.Plans.{grouping_of, join_shape_of}
use Rattle.query_run.specs.Trail.{HoldsRows, KeptSides}
use Rattle.query_run.specs.declared.feeding.Fed.{Fed}
use Rattle.query_plan.specs.declared.outcome.Ran.{Ran}

-- ---- what was read

pub fed_accepted : (plan : Query) (page : ℕ) (told : Option (List ℕ)) (fed : Fed) (feeds : List (List Value) → Type 0) → HasFed plan Left plan.left page told fed feeds → IfSome told (IsAccepted plan page)
fed_accepted plan page None fed feeds has = tt
fed_accepted plan page (Some bytes) fed feeds has = let are = has.are in are.0

rows-are : (plan : Query) (side : Side) (asked : SidePlan) (page : ℕ) (bytes : List ℕ) (fed : Fed) (xs : List (List Value)) → HasFed plan side asked page (Some bytes) fed (λ rows. rows ≡ xs)
    → xs ≡ passing_in asked bytes
rows-are plan side asked page bytes fed xs has = sym has.came ∙ ap (filter (passes asked.preds)) has.are.1

are-read : (plan : Query) (side : Side) (asked : SidePlan) (page : ℕ) (told : Option (List ℕ)) (fed : Fed) (xs : List (List Value)) → HasFed plan side asked page told fed (λ rows. rows ≡ xs)
    → IfSome told (λ bytes. IsAcceptedIn plan side asked page bytes × (xs ≡ passing_in asked bytes))
are-read plan side asked page None fed xs has = tt
are-read plan side asked page (Some bytes) fed xs has = (has.are.0, rows-are plan side asked page bytes fed xs has)

-- fewer passed than were read
pub few_kept : (plan : Query) (side : Side) (asked : SidePlan) (page : ℕ) (told : Option (List ℕ)) (fed : Fed) (feeds : List (List Value) → Type 0) → HasFed plan side asked page told fed feeds → fed.kept < 2 ^ 32
few_kept plan side asked page told fed feeds has =
    let test = passes asked.preds in
    let fewer = length-filter_both test (λ (row : List Value). not (test row)) (λ row. refl) has.rows in
    let kept = has.kept in
    let few = has.few in
    omega (arith, fewer, kept, few)

-- they are those that pass
pub both_are : (plan : Query) (right : SidePlan) (page : ℕ) (l r : List ℕ) (left_fed right_fed : Fed) (keeps : List (List Value) → List (List Value) → Type 0) (has : HasFedBoth plan right page (Some l) (Some r) left_fed right_fed keeps)
    → (has.lefts ≡ passing plan l) × (has.rights ≡ passing_in right r)
both_are plan right page l r left_fed right_fed keeps has = (rows-are plan Left plan.left page l left_fed has.lefts has.lefts_fed, rows-are plan Right right page r right_fed has.rights has.rights_fed)

module _ (plan : Query) (right : SidePlan) (page : ℕ) (planned : plan.right ≡ Some right) where
  -- as many were fed as pass
  pub fed_many : (l r : List ℕ) (left_fed right_fed : Fed) (keeps : List (List Value) → List (List Value) → Type 0) (has : HasFedBoth plan right page (Some l) (Some r) left_fed right_fed keeps)
      → length has.lefts + length has.rights ≡ length (passing_of_both plan (record { left = l; right = r }))
  fed_many l r left_fed right_fed keeps has =
      let lefts : length has.lefts ≡ length (passing plan l) = ap length (rows-are plan Left plan.left page l left_fed has.lefts has.lefts_fed) in
      let rights : length has.rights ≡ length (right_passing plan.right r) = rw planned (ap length (rows-are plan Right right page r right_fed has.rights has.rights_fed)) in
      let sum = length-append (passing plan l) (right_passing plan.right r) in
      omega (arith, lefts, rights, sum)

  pub shows : (l r : List ℕ) (left_fed right_fed : Fed) (keeps : List (List Value) → List (List Value) → Type 0) (has : HasFedBoth plan right page (Some l) (Some r) left_fed right_fed keeps)
      → pairs_of (join_shape_of plan right) has.lefts has.rights ≡ answered plan (record { left = l; right = r })
  shows l r left_fed right_fed keeps has =
      let lefts = rows-are plan Left plan.left page l left_fed has.lefts has.lefts_fed in
      let rights = rows-are plan Right right page r right_fed has.rights has.rights_fed in
      rw (planned, lefts, rights) refl

  pub joined_numbers : (lefts_told rights_told : Option (List ℕ)) (tells : Bool) (left_fed right_fed : Fed) (keeps : List (List Value) → List (List Value) → Type 0) (ran : Ran) (has : HasFedBoth plan right page lefts_told rights_told left_fed right_fed keeps)
      → ran.left ≡ left_fed.read → ran.right ≡ right_fed.read → ran.kept ≡ left_fed.kept + right_fed.kept
      → (tells ≡ true → LineNumbers plan (pairs_of (join_shape_of plan right) has.lefts has.rights) ran) → IfSome (both_told lefts_told rights_told) (Numbers plan page tells ran)
  joined_numbers None rights_told tells left_fed right_fed keeps ran has lefts rights kept lines = tt
  joined_numbers (Some l) None tells left_fed right_fed keeps ran has lefts rights kept lines = tt
  joined_numbers (Some l) (Some r) tells left_fed right_fed keeps ran has lefts rights kept lines =
      let first = has.lefts_fed in
      let second = has.rights_fed in
      let left_kept : left_fed.kept ≡ length (passing plan l) = first.kept ∙ ap (λ rows. length (filter (passes plan.left.preds) rows)) first.are.1 in
      let right_kept : right_fed.kept ≡ length (passing_in right r) = second.kept ∙ ap (λ rows. length (filter (passes right.preds) rows)) second.are.1 in
      let right_is : length (right_passing plan.right r) ≡ length (passing_in right r) = rw planned refl in
      record {
        accepted = record { left = first.are.0; right = subst (λ (o : Option SidePlan). IfSome o (λ asked. IsAcceptedIn plan Right asked page r)) (sym planned) second.are.0 };
        left = lefts ∙ first.read ∙ ap length first.are.1;
        right = rw planned (rights ∙ second.read ∙ ap length second.are.1);
        kept = omega (arith, kept, left_kept, right_kept, right_is);
        lines = λ tell. subst (λ pairs. LineNumbers plan pairs ran) (shows l r left_fed right_fed keeps has) (lines tell);
      }

  module _ (alone : groups plan ≡ false) where
    is-answer : (l r : List ℕ) (left_fed right_fed : Fed) (keeps : List (List Value) → List (List Value) → Type 0) (has : HasFedBoth plan right page (Some l) (Some r) left_fed right_fed keeps) (out : List (List Value))
        → SameRows out (pairs_of (join_shape_of plan right) has.lefts has.rights) → IsAnswer plan page (record { left = l; right = r }) (answer_text plan out)
    is-answer l r left_fed right_fed keeps has out same = record {
      accepted = record { left = has.lefts_fed.are.0; right = subst (λ (o : Option SidePlan). IfSome o (λ asked. IsAcceptedIn plan Right asked page r)) (sym planned) has.rights_fed.are.0 };
      out = out;
      are = rw alone (subst (SameRows out) (shows l r left_fed right_fed keeps has) same);
      is = refl;
    }

    pub joined_answer : (lefts_told rights_told old new : Option (List ℕ)) (left_fed right_fed : Fed) (keeps : List (List Value) → List (List Value) → Type 0) (has : HasFedBoth plan right page lefts_told rights_told left_fed right_fed keeps)
        → WrotePairs plan (pairs_of (join_shape_of plan right) has.lefts has.rights) old new → WroteAnswer plan page (both_told lefts_told rights_told) old new
    joined_answer None rights_told old new left_fed right_fed keeps has wrote = tt
    joined_answer (Some l) None old new left_fed right_fed keeps has wrote = tt
    joined_answer (Some l) (Some r) old new left_fed right_fed keeps has wrote = (answer_text plan wrote.out, is-answer l r left_fed right_fed keeps has wrote.out wrote.same, wrote.written)

    pub joined_front : (lefts_told rights_told old new : Option (List ℕ)) (left_fed right_fed : Fed) (keeps : List (List Value) → List (List Value) → Type 0) (has : HasFedBoth plan right page lefts_told rights_told left_fed right_fed keeps)
        → WroteSomePairs plan (pairs_of (join_shape_of plan right) has.lefts has.rights) old new → WroteFront plan page (both_told lefts_told rights_told) old new
    joined_front None rights_told old new left_fed right_fed keeps has wrote = tt
    joined_front (Some l) None old new left_fed right_fed keeps has wrote = tt
    joined_front (Some l) (Some r) old new left_fed right_fed keeps has wrote = (answer_text plan wrote.out, is-answer l r left_fed right_fed keeps has wrote.out wrote.same, wrote.written)

  -- so it is of the groups of the pairs
  module _ (grouped : groups plan ≡ true) where
    are-groups : (l r : List ℕ) (left_fed right_fed : Fed) (keeps : List (List Value) → List (List Value) → Type 0) (has : HasFedBoth plan right page (Some l) (Some r) left_fed right_fed keeps)
        → IsAnswer plan page (record { left = l; right = r }) (answer_text plan (group_rows (grouping_of plan) (pairs_of (join_shape_of plan right) has.lefts has.rights)))
    are-groups l r left_fed right_fed keeps has = record {
      accepted = record { left = has.lefts_fed.are.0; right = subst (λ (o : Option SidePlan). IfSome o (λ asked. IsAcceptedIn plan Right asked page r)) (sym planned) has.rights_fed.are.0 };
      out = group_rows (grouping_of plan) (pairs_of (join_shape_of plan right) has.lefts has.rights);
      are = rw grouped (ap (group_rows (grouping_of plan)) (shows l r left_fed right_fed keeps has));
      is = refl;
    }

    pub groups_answer : (lefts_told rights_told old new : Option (List ℕ)) (left_fed right_fed : Fed) (keeps : List (List Value) → List (List Value) → Type 0) (has : HasFedBoth plan right page lefts_told rights_told left_fed right_fed keeps)
        → Appends old new (answer_text plan (group_rows (grouping_of plan) (pairs_of (join_shape_of plan right) has.lefts has.rights))) → WroteAnswer plan page (both_told lefts_told rights_told) old new
    groups_answer None rights_told old new left_fed right_fed keeps has wrote = tt
    groups_answer (Some l) None old new left_fed right_fed keeps has wrote = tt
    groups_answer (Some l) (Some r) old new left_fed right_fed keeps has wrote = (_, are-groups l r left_fed right_fed keeps has, wrote)

    pub groups_front : (lefts_told rights_told old new : Option (List ℕ)) (left_fed right_fed : Fed) (keeps : List (List Value) → List (List Value) → Type 0) (has : HasFedBoth plan right page lefts_told rights_told left_fed right_fed keeps)
        → AppendsFront old new (answer_text plan (group_rows (grouping_of plan) (pairs_of (join_shape_of plan right) has.lefts has.rights))) → WroteFront plan page (both_told lefts_told rights_told) old new
    groups_front None rights_told old new left_fed right_fed keeps has wrote = tt
    groups_front (Some l) None old new left_fed right_fed keeps has wrote = tt
    groups_front (Some l) (Some r) old new left_fed right_fed keeps has wrote = (_, are-groups l r left_fed right_fed keeps has, wrote)

-- the rows that were kept on pages are those that pass
pub both_held : (plan : Query) (right : SidePlan) (page : ℕ) (lefts_told rights_told : Option (List ℕ)) (left_fed right_fed : Fed) (keeps : List (List Value) → List (List Value) → Type 0) (start now : Option (List Entry))
    → (has : HasFedBoth plan right page lefts_told rights_told left_fed right_fed keeps) → EnteredEvents (HoldsRows (join_shape_of plan right) has.lefts has.rights) start now
    → KeptSides plan right page lefts_told rights_told start now
both_held plan right page lefts_told rights_told left_fed right_fed keeps start now has kept = record {
  lefts = has.lefts;
  rights = has.rights;
  lefts_read = are-read plan Left plan.left page lefts_told left_fed has.lefts has.lefts_fed;
  rights_read = are-read plan Right right page rights_told right_fed has.rights has.rights_fed;
  kept = kept;
}

pub both_kept : (plan : Query) (right : SidePlan) (page : ℕ) (lefts_told rights_told : Option (List ℕ)) (left_fed right_fed : Fed) (keeps : List (List Value) → List (List Value) → Type 0) (f g : Family) (start now : Option (List Entry))
    → (has : HasFedBoth plan right page lefts_told rights_told left_fed right_fed keeps) → EnteredEvents (HoldsSides (join_shape_of plan right) has.lefts has.rights f g ⊤) start now
    → KeptBoth plan right page lefts_told rights_told f g start now
both_kept plan right page lefts_told rights_told left_fed right_fed keeps f g start now has kept = record {
  lefts = has.lefts;
  rights = has.rights;
  lefts_read = are-read plan Left plan.left page lefts_told left_fed has.lefts has.lefts_fed;
  rights_read = are-read plan Right right page rights_told right_fed has.rights has.rights_fed;
  kept = kept;
}

-- rows of both sides came, the left ones first
pub fed_both : (plan : Query) (right : SidePlan) (page : ℕ) (lefts_told rights_told : Option (List ℕ)) (left_fed right_fed : Fed) (left_feeds right_feeds : List (List Value) → Type 0) (keeps : List (List Value) → List (List Value) → Type 0)
    → HasFed plan Left plan.left page lefts_told left_fed left_feeds → HasFed plan Right right page rights_told right_fed right_feeds
    → ((lefts rights : List (List Value)) → left_feeds lefts → right_feeds rights → keeps lefts rights) → HasFedBoth plan right page lefts_told rights_told left_fed right_fed keeps
fed_both plan right page lefts_told rights_told left_fed right_fed left_feeds right_feeds keeps first second both = record {
  lefts = filter (passes plan.left.preds) first.rows;
  rights = filter (passes right.preds) second.rows;
  lefts_fed = record { rows = first.rows; read = first.read; kept = first.kept; few = first.few; formed = first.formed; came = refl; are = first.are };
  rights_fed = record { rows = second.rows; read = second.read; kept = second.kept; few = second.few; formed = second.formed; came = refl; are = second.are };
  kept = both (filter (passes plan.left.preds) first.rows) (filter (passes right.preds) second.rows) first.came second.came;
}
