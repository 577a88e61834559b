-- What is taken of inputs that are accepted: all rows that pass.
use Rattle.std.proofs.Common.{◌≡◌, ◌∙◌, ◌+◌, ◌∷◌, ◌&&◌, ℕ, Bool, List, [], true, Option, Some, None, inl, inr, is_none, filter, if◌then◌else◌, length, nat_le, ap, refl, rules}
use Rattle.std.specs.Option.{option_or}
use Rattle.std.proofs.lemmas.Bool.{cases_Bool}
use Rattle.row_codec.specs.declared.values.Value.{Value}
use Rattle.scan_filter.specs.Passes.{passes}
use Rattle.join_op.specs.Pairs.{pairs_of}
use Rattle.query_plan.specs.Sizes.{groups}
use Rattle.query_plan.specs.declared.plan.Query.{Query}
use Rattle.query_plan.specs.declared.plan.Side.{Side}
use Rattle.query_plan.specs.declared.plan.Side.TheVariants.{Left, Right}
use Rattle.query_plan.specs.declared.plan.SidePlan.{SidePlan}
use Rattle.query_run.specs.Both.{Told}
use Rattle.query_run.specs.Input.{IsAccepted, IsAcceptedIn, accepts, first_too_long, most_bytes, passing, passing_in, rows_read, weight_of}
use Rattle.query_run.specs.Plans.{join_shape_of}
use Rattle.query_run.specs.Through.{accepts_both, accepts_right, lefts_taken, light_front, pairs_in, pairs_taken, rights_taken, rights_taken_with, taken_in}

first-none : {X : Type 0} (a b : Option X) → option_or a b ≡ None → a ≡ None
first-none None b none = refl
first-none (Some x) b none = absurd (cc)

-- where no row is too long, all are light
none-too-long : (plan : Query) (side : Side) (page number : ℕ) (rows : List (List Value)) → first_too_long plan side page number rows ≡ None
    → light_front plan page rows ≡ rows
none-too-long plan side page number [] none = refl
none-too-long plan side page number (row ∷ rest) none = elim (cases_Bool (nat_le (weight_of plan row) page)) [
  | inl is ↦ rw is (ap (λ (rows : List (List Value)). row ∷ rows) (none-too-long plan side page (number + 1) rest (rw is at none)))
  | inr heavy ↦ let some = rw heavy at none in absurd (cc)
]

module _ (plan : Query) (side : Side) (asked : SidePlan) (page : ℕ) (bytes : List ℕ) (is : IsAcceptedIn plan side asked page bytes) where
  pub all_taken : taken_in plan asked page bytes ≡ passing_in asked bytes
  all_taken = ap (filter (passes asked.preds)) (none-too-long plan side page 1 (rows_read asked bytes) (first-none _ _ is.whole))

  pub is_accepted : accepts plan side asked page bytes ≡ true
  is_accepted =
      let fits = is.fits in
      let small : nat_le (length bytes) most_bytes ≡ true = search (rules, fits) in
      ap (λ (o : Option _). is_none o && nat_le (length bytes) most_bytes) is.whole ∙ small

-- the bytes of both inputs
abbrev pub told_of : List ℕ → List ℕ → Told
told_of l r = record { left = l; right = r }

module _ (plan : Query) (page : ℕ) (l r : List ℕ) (left : IsAccepted plan page l) where
  pub lefts_whole : lefts_taken plan page (told_of l r) ≡ passing plan l
  lefts_whole = all_taken plan Left plan.left page l left

  module _ (asked : SidePlan) (planned : plan.right ≡ Some asked) where
    -- right rows are read
    pub rights_here : rights_taken plan page (told_of l r) ≡ taken_in plan asked page r
    rights_here =
        ap (λ (o : Option SidePlan). rights_taken_with o plan page (told_of l r)) planned
        ∙ ap (λ (b : Bool). if b then taken_in plan asked page r else []) (is_accepted plan Left plan.left page l left)

    module _ (right : IsAcceptedIn plan Right asked page r) where
      pub rights_whole : rights_taken plan page (told_of l r) ≡ passing_in asked r
      rights_whole = rights_here ∙ all_taken plan Right asked page r right

      -- and pairs come
      pub pairs_whole : groups plan ≡ true → pairs_taken plan page (told_of l r) ≡ pairs_of (join_shape_of plan asked) (passing plan l) (passing_in asked r)
      pairs_whole grouped =
          let both : accepts_both plan page (told_of l r) ≡ true =
          ap (λ (b : Bool). b && accepts_right plan.right plan page r) (is_accepted plan Left plan.left page l left)
          ∙ ap (λ (o : Option SidePlan). accepts_right o plan page r) planned ∙ is_accepted plan Right asked page r right in
          let are : pairs_in plan (told_of l r) ≡ pairs_of (join_shape_of plan asked) (passing plan l) (passing_in asked r) = rw (grouped, planned) refl in
          ap (λ (b : Bool). if b then pairs_in plan (told_of l r) else []) both ∙ are
