-- The way from a tracker up to the root.
use Rattle.std.proofs.Common.{◌≡◌, ℕ, zero, suc, ◌+◌, ◌-◌, ◌<◌, ◌≤◌, ◌≢◌, ◌==◌, Bool, true, false, leb, if◌then◌else◌, Option, Some, None, refl, ap, sym, ◌∙◌, subst, arith, eqb-true, leb-true, leb-false}
use borrow.Author.Tests.{eqb-false}
use Rattle.std.specs.FinMap.{get}
use Rattle.reservation_tree.specs.Tracker.{Tracker, Trackers, IsLive, depth_of, parent_of, Hangs, IsTree}
use Rattle.reservation_tree.specs.Change.{up, meeting, ancestor_of}
use Rattle.reservation_tree.proofs.Maps.{is_there}
use Rattle.reservation_tree.proofs.Outline.{depth_is, parent_is}

-- the tracker above a live one
pub record Above (ts : Trackers) (t : ℕ) (x : Tracker) (depth : ℕ) : Type 0 where
  pub parent : ℕ
  pub tracker : Tracker
  pub under : x.parent ≡ Some parent
  pub lives : get ts parent ≡ Some tracker
  pub deep : depth_of ts parent ≡ depth
  pub named : parent_of ts t ≡ parent
  pub apart : parent ≢ t

one_less : (m n : ℕ) → suc m ≡ n + 1 → n ≡ m
one_less m n is = omega arith

not_one_more : (m n : ℕ) → zero ≡ n + 1 → m ≡ n
not_one_more m n is = omega arith

module _ (ts : Trackers) (tree : IsTree ts) where
  above_by : (t depth : ℕ) (x : Tracker) → get ts t ≡ Some x → depth_of ts t ≡ suc depth → (o : Option ℕ) → x.parent ≡ o → Hangs ts t x.depth o → Above ts t x depth
  above_by t depth x is deep None under hangs =
      let mine : depth_of ts t ≡ x.depth = depth_is ts t x is in
      let none : x.depth ≡ 0 = hangs.1 in
      absurd (omega (arith, mine, none, deep))
  above_by t depth x is deep (Some p) under hangs =
      let mine : depth_of ts t ≡ x.depth = depth_is ts t x is in
      let y : Tracker = hangs.0 in
      let more : x.depth ≡ y.depth + 1 = hangs.2 in
      let high : depth_of ts p ≡ y.depth = depth_is ts p y hangs.1 in
      let its : depth_of ts p ≡ depth = omega (arith, mine, more, high, deep) in
      record {
        parent = p;
        tracker = y;
        under = under;
        lives = hangs.1;
        deep = its;
        named = parent_is ts t x p is under;
        apart = λ same.
            let one : depth_of ts p ≡ depth_of ts t = ap (depth_of ts) same in
            omega (arith, one, its, deep);
      }

  pub above : (t depth : ℕ) (x : Tracker) → get ts t ≡ Some x → depth_of ts t ≡ suc depth → Above ts t x depth
  above t depth x is deep = above_by t depth x is deep x.parent refl (tree.hangs t x is)

  root_by : (t : ℕ) (x : Tracker) → get ts t ≡ Some x → depth_of ts t ≡ 0 → (o : Option ℕ) → x.parent ≡ o → Hangs ts t x.depth o → (x.parent ≡ None) × (t ≡ 0)
  root_by t x is top None under hangs = (under, hangs.0)
  root_by t x is top (Some p) under hangs =
      let mine : depth_of ts t ≡ x.depth = depth_is ts t x is in
      let y : Tracker = hangs.0 in
      let more : x.depth ≡ y.depth + 1 = hangs.2 in
      absurd (omega (arith, mine, more, top))

  pub at_root : (t : ℕ) (x : Tracker) → get ts t ≡ Some x → depth_of ts t ≡ 0 → (x.parent ≡ None) × (t ≡ 0)
  at_root t x is top = root_by t x is top x.parent refl (tree.hangs t x is)

-- `c` is on the way of `t`
pub record IsAbove (ts : Trackers) (c t : ℕ) : Type 0 where
  pub higher : depth_of ts c ≤ depth_of ts t
  pub reached : up ts (depth_of ts t - depth_of ts c) t ≡ c

pub above_itself : (ts : Trackers) (c t : ℕ) → c ≡ t → IsAbove ts c t
above_itself ts c t same =
    let deep : depth_of ts c ≡ depth_of ts t = ap (depth_of ts) same in
    let none : 0 ≡ depth_of ts t - depth_of ts c = omega (arith, deep) in
    record { higher = omega (arith, deep); reached = subst (λ (n : ℕ). up ts n t ≡ c) none (sym same) }

pub above_more : (ts : Trackers) (c p t depth : ℕ) → depth_of ts t ≡ suc depth → depth_of ts p ≡ depth → parent_of ts t ≡ p → IsAbove ts c p → IsAbove ts c t
above_more ts c p t depth deep its named it =
    let low : depth_of ts c ≤ depth_of ts p = it.higher in
    let more : suc (depth_of ts p - depth_of ts c) ≡ depth_of ts t - depth_of ts c = omega (arith, deep, its, low) in
    record {
      higher = omega (arith, deep, its, low);
      reached = subst (λ (n : ℕ). up ts n t ≡ c) more (subst (λ (q : ℕ). up ts (depth_of ts p - depth_of ts c) q ≡ c) (sym named) it.reached);
    }

-- where two ways meet
pub record Meets (ts : Trackers) (a b c : ℕ) : Type 0 where
  pub lives : IsLive ts c
  pub of_first : IsAbove ts c a
  pub of_second : IsAbove ts c b

module _ (ts : Trackers) (tree : IsTree ts) where
  -- two trackers of depth 0 are one
  one_root : (a b : ℕ) (x y : Tracker) → get ts a ≡ Some x → get ts b ≡ Some y → depth_of ts a ≡ 0 → depth_of ts b ≡ 0 → a ≡ b
  one_root a b x y isx isy low_a low_b = (at_root ts tree a x isx low_a).1 ∙ sym (at_root ts tree b y isy low_b).1

  first_up : (steps a b : ℕ) (x y : Tracker) → get ts a ≡ Some x → get ts b ≡ Some y → suc steps ≡ depth_of ts a + depth_of ts b → a ≢ b → depth_of ts b ≤ depth_of ts a
      → ((p : ℕ) (z : Tracker) → get ts p ≡ Some z → steps ≡ depth_of ts p + depth_of ts b → Meets ts p b (meeting ts steps p b))
      → (depth : ℕ) → depth_of ts a ≡ depth → Meets ts a b (meeting ts steps (parent_of ts a) b)
  first_up steps a b x y isx isy all apart low go zero deep = absurd (apart (one_root a b x y isx isy deep (omega (arith, low, deep))))
  first_up steps a b x y isx isy all apart low go (suc depth) deep =
      let over_it : Above ts a x depth = above ts tree a depth x isx deep in
      let p : ℕ = over_it.parent in
      let its : depth_of ts p ≡ depth = over_it.deep in
      let rest : Meets ts p b (meeting ts steps p b) = go p over_it.tracker over_it.lives (omega (arith, all, deep, its)) in
      let c : ℕ = meeting ts steps p b in
      let met : Meets ts a b c = record { lives = rest.lives; of_first = above_more ts c p a depth deep its over_it.named rest.of_first; of_second = rest.of_second } in
      subst (λ (q : ℕ). Meets ts a b (meeting ts steps q b)) (sym over_it.named) met

  second_up : (steps a b : ℕ) (x y : Tracker) → get ts a ≡ Some x → get ts b ≡ Some y → suc steps ≡ depth_of ts a + depth_of ts b → depth_of ts a < depth_of ts b
      → ((p : ℕ) (z : Tracker) → get ts p ≡ Some z → steps ≡ depth_of ts a + depth_of ts p → Meets ts a p (meeting ts steps a p))
      → (depth : ℕ) → depth_of ts b ≡ depth → Meets ts a b (meeting ts steps a (parent_of ts b))
  second_up steps a b x y isx isy all low go zero deep = absurd (omega (arith, low, deep))
  second_up steps a b x y isx isy all low go (suc depth) deep =
      let over_it : Above ts b y depth = above ts tree b depth y isy deep in
      let p : ℕ = over_it.parent in
      let its : depth_of ts p ≡ depth = over_it.deep in
      let rest : Meets ts a p (meeting ts steps a p) = go p over_it.tracker over_it.lives (omega (arith, all, deep, its)) in
      let c : ℕ = meeting ts steps a p in
      let met : Meets ts a b c = record { lives = rest.lives; of_first = rest.of_first; of_second = above_more ts c p b depth deep its over_it.named rest.of_second } in
      subst (λ (q : ℕ). Meets ts a b (meeting ts steps a q)) (sym over_it.named) met

  pub meets : (steps a b : ℕ) (x y : Tracker) → get ts a ≡ Some x → get ts b ≡ Some y → steps ≡ depth_of ts a + depth_of ts b → Meets ts a b (meeting ts steps a b)
  meets zero a b x y isx isy all =
      let same : a ≡ b = one_root a b x y isx isy (omega (arith, all)) (omega (arith, all)) in
      record { lives = is_there (get ts a) x isx; of_first = above_itself ts a a refl; of_second = above_itself ts a b same }
  meets (suc steps) a b x y isx isy all =
      elim (a == b) as (λ (r : Bool). (a == b) ≡ r → Meets ts a b (if r then a else (if leb (depth_of ts b) (depth_of ts a) then meeting ts steps (parent_of ts a) b else meeting ts steps a (parent_of ts b)))) [
        | true ↦ λ is. record { lives = is_there (get ts a) x isx; of_first = above_itself ts a a refl; of_second = above_itself ts a b (eqb-true a b is) }
        | false ↦ λ apart.
            elim (leb (depth_of ts b) (depth_of ts a)) as (λ (r : Bool). leb (depth_of ts b) (depth_of ts a) ≡ r → Meets ts a b (if r then meeting ts steps (parent_of ts a) b else meeting ts steps a (parent_of ts b))) [
              | true ↦ λ is. first_up steps a b x y isx isy all (eqb-false a b apart) (leb-true _ _ is) (λ p z isz e. meets steps p b z y isz isy e) (depth_of ts a) refl
              | false ↦ λ is. second_up steps a b x y isx isy all (leb-false _ _ is) (λ p z isz e. meets steps a p x z isx isz e) (depth_of ts b) refl
            ] refl
      ] refl

  -- the nearest common ancestor is on both ways
  pub ancestor-meets : (a b : ℕ) (x y : Tracker) → get ts a ≡ Some x → get ts b ≡ Some y → Meets ts a b (ancestor_of ts a b)
  unfolding ancestor_of
  ancestor-meets a b x y isx isy = meets (depth_of ts a + depth_of ts b) a b x y isx isy refl
