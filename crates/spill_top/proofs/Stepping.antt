-- What the calls for a plan's queries keep of them, place by place: how each was refused, and its session.
use Rattle.std.proofs.Common.{◌≡◌, ◌∙◌, ℕ, zero, suc, Bool, List, [], ◌∷◌, Option, Some, None, Result, Ok, Err, IsSome, All, length, map, refl, sym, ap, subst, arith}
use Rattle.std.specs.List.{AllByRecursion, slice_get}
use Rattle.std.proofs.lemmas.List.Elements.{All-head}
use Rattle.std.proofs.lemmas.Option.{none-some, same_Some}
use Rattle.reservation_tree.specs.declared.errors.PoolErr.{PoolErr}
use Rattle.turn_table.specs.Face.{Spot}
use Rattle.pool_model.specs.State.{Opening}
use Rattle.pool.specs.Asking.{Answers, AreNew, IsNew}
use Rattle.pool.specs.declared.item.Item.{Item}
use Rattle.pool.specs.Sitting.{Sitting}
use Rattle.query_plan.specs.declared.plan.Query.{Query}
use Rattle.spill_top.specs.declared.job.Job.{Job}
use Rattle.spill_top.specs.Together.{ask_of, job_with}
use Rattle.spill_top.proofs.Coming.{Shape}
use Rattle.spill_top.proofs.Stays.{first_of}

-- ---- lists of the same length, or with the same parts

-- something stands at each place of a list as long as another
pub there : {X Y : Type 0} (xs : List X) (ys : List Y) (place : ℕ) (y : Y) → length xs ≡ length ys → slice_get ys place ≡ Some y → (x : X) × (slice_get xs place ≡ Some x)
there [] [] place y same at = absurd (none-some y at)
there [] (z ∷ ys) place y same at = absurd (omega (arith, same))
there (x ∷ xs) [] place y same at = absurd (none-some y at)
there (x ∷ xs) (z ∷ ys) zero y same at = (x, refl)
there (x ∷ xs) (z ∷ ys) (suc place) y same at = there xs ys place y (omega (arith, same)) at

-- what stands at a place of a list that is mapped from another
pub part_at : {X Z : Type 0} (f : X → Z) (xs : List X) (place : ℕ) (z : Z) → slice_get (map f xs) place ≡ Some z → (x : X) × (slice_get xs place ≡ Some x) × (f x ≡ z)
part_at f [] place z at = absurd (none-some z at)
part_at f (x ∷ xs) zero z at = (x, refl, same_Some (f x) z at)
part_at f (x ∷ xs) (suc place) z at = part_at f xs place z at

pub at_part : {X Z : Type 0} (f : X → Z) (xs : List X) (place : ℕ) (x : X) → slice_get xs place ≡ Some x → slice_get (map f xs) place ≡ Some (f x)
at_part f [] place x at = absurd (none-some x at)
at_part f (y ∷ xs) zero x at = ap (λ z. Some (f z)) (same_Some y x at)
at_part f (y ∷ xs) (suc place) x at = at_part f xs place x at

-- lists with the same parts have them at the same places
pub same_part : {X Y Z : Type 0} (f : X → Z) (g : Y → Z) (xs : List X) (ys : List Y) (place : ℕ) (y : Y) → map f xs ≡ map g ys → slice_get ys place ≡ Some y → (x : X) × (slice_get xs place ≡ Some x) × (f x ≡ g y)
same_part {Z = Z} f g xs ys place y same at = part_at f xs place (g y) (subst (λ (zs : List Z). slice_get zs place ≡ Some (g y)) (sym same) (at_part g ys place y at))

-- what is mapped twice
pub map_both : {X Y Z : Type 0} (f : Y → Z) (g : X → Y) (xs : List X) → map f (map g xs) ≡ map (λ x. f (g x)) xs
map_both f g [] = refl
map_both f g (x ∷ xs) = ap (λ zs. f (g x) ∷ zs) (map_both f g xs)

-- what is seen of the same parts
pub seen_same : {X Y Z : Type 0} (f : Y → Z) (g : X → Y) (xs ys : List X) → map g xs ≡ map g ys → map (λ x. f (g x)) xs ≡ map (λ y. f (g y)) ys
seen_same f g xs ys same = sym (map_both f g xs) ∙ ap (map f) same ∙ map_both f g ys

-- ---- a query that isn't refused has its session, which is new

module _ (S K : Type 0) where
  one-seated : (answer : Result (List Sitting) PoolErr) → Shape answer → (job_with {S = S} {K = K} answer).refused ≡ None → IsSome (job_with {S = S} {K = K} answer).session
  one-seated (Ok []) is none = absurd (omega (arith, is))
  one-seated (Ok (s ∷ sessions)) is none = refl
  one-seated (Err e) is none = cc

  pub seated_at : (seen : Answers) (place : ℕ) (job : Job S K Sitting) → AllByRecursion Shape seen → slice_get (map job_with seen) place ≡ Some job → job.refused ≡ None → IsSome job.session
  seated_at [] place job are at none = absurd (none-some job at)
  seated_at (answer ∷ seen) zero job are at none =
      let is = same_Some (job_with answer) job at in
      subst (λ (j : Job S K Sitting). IsSome j.session) is (one-seated answer are.0 (ap (λ (j : Job S K Sitting). j.refused) is ∙ none))
  seated_at (answer ∷ seen) (suc place) job are at none = seated_at seen place job are.1 at none

  first-seen : (answer : Result (List Sitting) PoolErr) → (job_with {S = S} {K = K} answer).session ≡ first_of answer
  first-seen (Ok []) = refl
  first-seen (Ok (s ∷ sessions)) = refl
  first-seen (Err e) = refl

  -- the sessions are those that came
  pub firsts_seen : (seen : Answers) → map (λ (job : Job S K Sitting). job.session) (map job_with seen) ≡ map first_of seen
  firsts_seen [] = refl
  firsts_seen (answer ∷ seen) =
      ap (λ (x : Option Sitting). x ∷ map (λ (job : Job S K Sitting). job.session) (map job_with seen)) (first-seen answer) ∙ ap (λ (xs : List (Option Sitting)). first_of answer ∷ xs) (firsts_seen seen)

  module _ (o : Opening) (told : Bool) (mid : Spot Item) (block_len : ℕ) where
    one-new : (query : Query) (xs : List Sitting) (s : Sitting) → All (IsNew o told mid (ask_of block_len query)) xs → (job_with {S = S} {K = K} (Ok xs)).session ≡ Some s → IsNew o told mid (ask_of block_len query) s
    one-new query [] s are is = absurd (none-some s is)
    one-new query (x ∷ xs) s are is = subst (IsNew o told mid (ask_of block_len query)) (same_Some x s is) (All-head (IsNew o told mid (ask_of block_len query)) x xs are)

    pub new_at : (queries : List Query) (seen : Answers) (place : ℕ) (query : Query) (job : Job S K Sitting) (s : Sitting) → AreNew o told mid (map (ask_of block_len) queries) seen
        → slice_get queries place ≡ Some query → slice_get (map job_with seen) place ≡ Some job → job.session ≡ Some s → IsNew o told mid (ask_of block_len query) s
    new_at [] seen place query job s are at_query at is = absurd (none-some query at_query)
    new_at (q ∷ queries) [] place query job s are at_query at is = absurd (none-some job at)
    new_at (q ∷ queries) (Ok sessions ∷ seen) zero query job s are at_query at is =
        subst (λ (p : Query). IsNew o told mid (ask_of block_len p) s) (same_Some q query at_query)
        (one-new q sessions s are.0 (ap (λ (j : Job S K Sitting). j.session) (same_Some (job_with (Ok sessions)) job at) ∙ is))
    new_at (q ∷ queries) (Err e ∷ seen) zero query job s are at_query at is =
        absurd (none-some s (ap (λ (j : Job S K Sitting). j.session) (same_Some (job_with (Err e)) job at) ∙ is))
    new_at (q ∷ queries) (Ok sessions ∷ seen) (suc place) query job s are at_query at is = new_at queries seen place query job s are.1 at_query at is
    new_at (q ∷ queries) (Err e ∷ seen) (suc place) query job s are at_query at is = new_at queries seen place query job s are at_query at is
