-- The first and the last of a queue.
use Rattle.std.proofs.Common.{◌≡◌, ℕ, ◌-◌, suc, List, [], ◌∷◌, ◌++◌, length, ◌↔◌, Option, Some, None, option_map, slice_get, refl, ap, sym, ◌∙◌, subst, arith, Bool, IsTrue, unwrap_or}
use Rattle.std.specs.FinMap.{get}
use Rattle.pool_model.specs.State.{State, dirty_of}
use Rattle.trace_follow.specs.declared.follower.Follower.{Follower}
use Rattle.trace_follow.specs.Showing.{Shows}
use Rattle.trace_follow.specs.Queues.{Queue, names_in, first_in, last_in, IsFirst, IsLast}

pub first_told : (queue : Queue) (p : ℕ) → first_in queue ≡ Some p ↔ IsFirst p (names_in queue)
first_told [] p = (λ is. cc, λ first. let no : [] ≡ p ∷ first.0 = first.1 in cc)
first_told (e ∷ es) p = (
  λ is. let same : e.1 ≡ p = cc in (names_in es, ap (λ (n : ℕ). n ∷ names_in es) same),
  λ first. let whole : e.1 ∷ names_in es ≡ p ∷ first.0 = first.1 in let same : e.1 ≡ p = cc in ap (λ (n : ℕ). Some n) same,
)

abbrev last_one : Queue → Option ℕ
last_one [] = None
last_one (e ∷ []) = Some e.1
last_one (e ∷ d ∷ es) = last_one (d ∷ es)

last_is : (queue : Queue) → last_in queue ≡ last_one queue
last_is [] = refl
last_is (e ∷ []) = refl
last_is (e ∷ d ∷ es) =
    let one_less : length (e ∷ d ∷ es) - 1 ≡ suc (length (d ∷ es) - 1) = omega arith in
    ap (λ (i : ℕ). option_map (λ (f : ℕ × ℕ). f.1) (slice_get (e ∷ d ∷ es) i)) one_less ∙ last_is (d ∷ es)

ends_with : (queue : Queue) (p : ℕ) → last_one queue ≡ Some p → IsLast p (names_in queue)
ends_with [] p is = cc
ends_with (e ∷ []) p is = let same : e.1 ≡ p = cc in ([], ap (λ (n : ℕ). n ∷ []) same)
ends_with (e ∷ d ∷ es) p is = let rest : IsLast p (names_in (d ∷ es)) = ends_with (d ∷ es) p is in (e.1 ∷ rest.0, ap (λ (t : List ℕ). e.1 ∷ t) rest.1)

some_end : (older : List ℕ) (p : ℕ) → [] ≡ older ++ p ∷ [] → ⊥
some_end [] p is = cc
some_end (n ∷ older) p is = cc

last_ends : (queue : Queue) (older : List ℕ) (p : ℕ) → names_in queue ≡ older ++ p ∷ [] → last_one queue ≡ Some p
last_ends [] older p is = absurd (some_end older p is)
last_ends (e ∷ []) [] p is = let same : e.1 ≡ p = cc in ap (λ (n : ℕ). Some n) same
last_ends (e ∷ []) (n ∷ older) p is = let rest : [] ≡ older ++ p ∷ [] = cc in absurd (some_end older p rest)
last_ends (e ∷ d ∷ es) [] p is = cc
last_ends (e ∷ d ∷ es) (n ∷ older) p is = let rest : names_in (d ∷ es) ≡ older ++ p ∷ [] = cc in last_ends (d ∷ es) older p rest

pub last_told : (queue : Queue) (p : ℕ) → last_in queue ≡ Some p ↔ IsLast p (names_in queue)
last_told queue p = (
  λ is. ends_with queue p (sym (last_is queue) ∙ is),
  λ last. last_is queue ∙ last_ends queue last.0 p last.1,
)

-- and of what waits in a state
module _ (v : Follower) (s : State) (shows : Shows v s) (p : ℕ) (test : Bool) where
  pub oldest_told : IsTrue test ↔ (first_in v.clean ≡ Some p) → IsTrue test ↔ IsFirst p s.clean
  oldest_told tests =
      let told : first_in v.clean ≡ Some p ↔ IsFirst p (names_in v.clean) = first_told v.clean p in
      subst (λ (names : List ℕ). IsTrue test ↔ IsFirst p names) shows.queues.clean_names (λ is. told.0 (tests.0 is), λ first. tests.1 (told.1 first))

  pub newest_told : (c : ℕ) (queue : Queue) → get v.dirty c ≡ Some queue → IsTrue test ↔ (last_in queue ≡ Some p) → IsTrue test ↔ IsLast p (dirty_of s c)
  newest_told c queue has tests =
      let told : last_in queue ≡ Some p ↔ IsLast p (names_in queue) = last_told queue p in
      let names : names_in queue ≡ dirty_of s c = sym (ap (λ (o : Option Queue). names_in (unwrap_or o [])) has) ∙ shows.queues.dirty_names c in
      subst (λ (found : List ℕ). IsTrue test ↔ IsLast p found) names (λ is. told.0 (tests.0 is), λ last. tests.1 (told.1 last))
