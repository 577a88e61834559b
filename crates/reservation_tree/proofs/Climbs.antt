-- The next step of a walk along a way.
use Rattle.std.proofs.Common.{◌≡◌, ℕ, zero, suc, ◌+◌, ◌-◌, ◌<◌, ◌≤◌, ◌≢◌, Option, Some, None, IsSome, is_some, Ok, Err, unwrap_or, refl, ap, sym, ◌∙◌, subst, arith, Bool, true, false, leb, if◌then◌else◌, eq-eqb, ne_eqb, le-leb}
use Rattle.std.proofs.lemmas.Bool.{lt-leb}
use Rattle.std.specs.FinMap.{get}
use Rattle.reservation_tree.specs.declared.errors.PoolErr.{PoolErr}
use Rattle.reservation_tree.specs.declared.row.Row.{Row}
use Rattle.reservation_tree.specs.Tree.{TreeState, charge_of}
use Rattle.reservation_tree.specs.Rows.{IsRowOf}
use Rattle.reservation_tree.specs.Tracker.{Hangs, Tracker, Trackers, no_tracker, IsLive, tracker_at, depth_of, parent_of, room_of, unused, FitsTree, IsTree}
use Rattle.reservation_tree.specs.Change.{Refusal, up, over, or_else, growth_above, raise, grown, grown_refusal, grow, grow_refusal, risen, risen_refusal, lower, fallen, meeting, ancestor_of, levels_below, move_to, move_refusal}
use Rattle.reservation_tree.specs.Answer.{answer, no_reservation, IsFrom}
use Rattle.reservation_tree.proofs.Maps.{found, is_there}
use Rattle.reservation_tree.proofs.Outline.{tracker_is, depth_is, parent_is, depth_same, live_same}
use Rattle.reservation_tree.proofs.Above.{Above, above, at_root, Meets, ancestor-meets}
use Rattle.reservation_tree.proofs.Growing.{Lifted, grown-lifts, has_room, not_first, not_later, refused-nothing, grown-nothing}
use Rattle.reservation_tree.proofs.Moving.{risen-lifts, Fallen, falls, frees, falls_to, up_same, refusal_less}

pub none_answered : (o : Option Refusal) → answer o ≡ Ok tt → o ≡ None
none_answered None is = refl
none_answered (Some r) is = cc

pub first_answers : (a b : Option Refusal) (e : PoolErr) → answer a ≡ Err e → or_else a b ≡ a
first_answers None b e is = cc
first_answers (Some r) b e is = refl

-- what a tracker needs to rise over these
pub record CanRise (charge : ℕ → ℕ) (rest : Trackers) (t bytes : ℕ) : Type 0 where
  pub live : IsLive rest t
  pub room : bytes ≤ room_of rest t
  pub spare : (p : ℕ) → (tracker_at rest t).parent ≡ Some p → bytes ≤ unused charge rest p

some_same : (a b : ℕ) → Some a ≡ Some b → a ≡ b
some_same a b is = ap (λ (o : Option ℕ). unwrap_or o a) is

module _ (charge : ℕ → ℕ) (ts : Trackers) (tree : IsTree ts) (t : ℕ) (x : Tracker) (is : get ts t ≡ Some x) where
  -- over a rest that left this tracker
  pub can_rise : (rest : Trackers) (p depth bytes : ℕ) → Above ts t x depth → depth_of ts t ≡ suc depth → parent_of ts t ≡ p → Lifted charge ts rest p → bytes ≤ room_of ts t → bytes ≤ unused charge rest p → CanRise charge rest t bytes
  can_rise rest p depth bytes over_it deep named was room spare =
      let same : over_it.parent ≡ p = sym over_it.named ∙ named in
      let its : depth_of ts p ≡ depth = ap (depth_of ts) (sym same) ∙ over_it.deep in
      let apart : t ≢ p = λ here. let one : depth_of ts t ≡ depth_of ts p = ap (depth_of ts) here in omega (arith, one, its, deep) in
      let kept : get rest t ≡ get ts t = was.still t (omega (arith, its, deep)) apart in
      let now : get rest t ≡ Some x = kept ∙ is in
      record {
        live = is_there (get rest t) x now;
        room = subst (λ (o : Option Tracker). bytes ≤ (unwrap_or o no_tracker).limit - (unwrap_or o no_tracker).reservation) (sym kept) room;
        spare = λ q under.
            let parent : q ≡ p = some_same q p (sym under ∙ ap (λ (y : Tracker). y.parent) (tracker_is rest t x now) ∙ over_it.under ∙ ap Some same) in
            subst (λ (r : ℕ). bytes ≤ unused charge rest r) (sym parent) spare;
      }

  grow_by : FitsTree charge ts → (bytes depth : ℕ) → depth_of ts t ≡ depth → grown_refusal charge ts (suc depth) bytes t ≡ None → CanRise charge (grown charge ts depth (growth_above charge ts bytes t) (parent_of ts t)) t bytes
  grow_by fits bytes zero deep none = record {
    live = is_there (get ts t) x is;
    room = has_room ts bytes t (not_first _ _ none);
    spare = λ q under.
        let no : None ≡ Some q = sym (at_root ts tree t x is deep).0 ∙ ap (λ (y : Tracker). y.parent) (sym (tracker_is ts t x is)) ∙ under in
        cc;
  }
  grow_by fits bytes (suc depth) deep none =
      let over_it : Above ts t x depth = above ts tree t depth x is deep in
      let p : ℕ = parent_of ts t in
      let same : p ≡ over_it.parent = over_it.named in
      let lifted : Lifted charge ts (grown charge ts (suc depth) (growth_above charge ts bytes t) p) p
      × (growth_above charge ts bytes t + unused charge ts p ≡ unused charge (grown charge ts (suc depth) (growth_above charge ts bytes t) p) p) =
      grown-lifts charge ts tree fits depth (growth_above charge ts bytes t) p over_it.tracker (ap (get ts) same ∙ over_it.lives) (ap (depth_of ts) same ∙ over_it.deep) (not_later (over ts bytes t) _ none) in
      let gained : (bytes - unused charge ts p) + unused charge ts p ≡ unused charge (grown charge ts (suc depth) (growth_above charge ts bytes t) p) p = lifted.1 in
      can_rise (grown charge ts (suc depth) (growth_above charge ts bytes t) p) p depth bytes over_it deep refl lifted.0 (has_room ts bytes t (not_first _ _ none)) (omega (arith, gained))

  -- once all above it grew, the tracker can
  pub grow_step : FitsTree charge ts → (bytes : ℕ) → grow_refusal charge bytes t ts ≡ None → CanRise charge (grown charge ts (depth_of ts t) (growth_above charge ts bytes t) (parent_of ts t)) t bytes
  unfolding grow_refusal
  grow_step fits bytes none = grow_by fits bytes (depth_of ts t) refl none

  refused_by : (bytes depth : ℕ) (p : ℕ) → x.parent ≡ Some p → depth_of ts t ≡ depth → grown_refusal charge ts (suc depth) bytes t ≡ or_else (over ts bytes t) (grown_refusal charge ts (suc (depth_of ts p)) (bytes - unused charge ts p) p)
  refused_by bytes zero p under deep = let no : None ≡ Some p = sym (at_root ts tree t x is deep).0 ∙ under in cc
  refused_by bytes (suc depth) p under deep =
      let over_it : Above ts t x depth = above ts tree t depth x is deep in
      let same : p ≡ over_it.parent = some_same _ _ (sym under ∙ over_it.under) in
      let named : parent_of ts t ≡ p = over_it.named ∙ sym same in
      let high : suc depth ≡ suc (depth_of ts p) = ap suc (sym (ap (depth_of ts) same ∙ over_it.deep)) in
      ap (λ (q : ℕ). or_else (over ts bytes t) (grown_refusal charge ts (suc depth) (bytes - unused charge ts q) q)) named
      ∙ ap (λ (n : ℕ). or_else (over ts bytes t) (grown_refusal charge ts n (bytes - unused charge ts p) p)) high

  -- the refusal of a growth is the tracker's own, or else the parent's
  pub refused_above : (bytes p : ℕ) → x.parent ≡ Some p → grow_refusal charge bytes t ts ≡ or_else (over ts bytes t) (grow_refusal charge (bytes - unused charge ts p) p ts)
  unfolding grow_refusal
  refused_above bytes p under = refused_by bytes (depth_of ts t) p under refl

  root_depth : (depth : ℕ) → depth_of ts t ≡ depth → x.parent ≡ None → depth_of ts t ≡ 0
  root_depth zero deep none = deep
  root_depth (suc depth) deep none =
      let over_it : Above ts t x depth = above ts tree t depth x is deep in
      let no : None ≡ Some over_it.parent = sym none ∙ over_it.under in
      cc

  nothing_later : (o : Option Refusal) → or_else o None ≡ o
  nothing_later None = refl
  nothing_later (Some r) = refl

  -- the root's is its own
  pub refused_at_root : (bytes : ℕ) → x.parent ≡ None → grow_refusal charge bytes t ts ≡ over ts bytes t
  unfolding grow_refusal
  refused_at_root bytes none = ap (λ (n : ℕ). grown_refusal charge ts (suc n) bytes t) (root_depth (depth_of ts t) refl none) ∙ nothing_later (over ts bytes t)

pub refused_none : (charge : ℕ → ℕ) (ts : Trackers) (bytes t : ℕ) → bytes ≡ 0 → grow_refusal charge bytes t ts ≡ None
unfolding grow_refusal
refused_none charge ts bytes t none = refused-nothing charge ts (suc (depth_of ts t)) bytes t none

pub grow_none : (charge : ℕ → ℕ) (ts : Trackers) → IsTree ts → (bytes t : ℕ) (x : Tracker) → get ts t ≡ Some x → bytes ≡ 0 → grow charge bytes t ts ≡ ts
unfolding grow
grow_none charge ts tree bytes t x is none = grown-nothing charge ts tree (depth_of ts t) bytes t x is refl none

-- a growth is that of all above, and then the tracker's own
pub grow_is : (charge : ℕ → ℕ) (ts : Trackers) (bytes t : ℕ) → grow charge bytes t ts ≡ raise bytes t (grown charge ts (depth_of ts t) (growth_above charge ts bytes t) (parent_of ts t))
unfolding grow
grow_is charge ts bytes t = refl

module _ (s : TreeState) (tree : IsTree s.trackers) (t : ℕ) (live : IsLive s.trackers t) (row : Row) (of : IsRowOf s t row) where
  it : (x : Tracker) × (get s.trackers t ≡ Some x)
  it = found (get s.trackers t) live

  its_parent : (o : Option ℕ) → row.parent ≡ o → it.0.parent ≡ o
  its_parent o is = ap (λ (y : Tracker). y.parent) (sym (tracker_is s.trackers t it.0 it.1) ∙ of.says) ∙ is

  -- where the tracker has room, the parent's refusal is the whole growth's
  pub refusal_goes_on : (p bytes : ℕ) → row.parent ≡ Some p → over s.trackers bytes t ≡ None
      → grow_refusal (charge_of s) bytes t s.trackers ≡ grow_refusal (charge_of s) (bytes - unused (charge_of s) s.trackers p) p s.trackers
  refusal_goes_on p bytes under none =
      refused_above (charge_of s) s.trackers tree t it.0 it.1 bytes p (its_parent (Some p) under)
      ∙ ap (λ (o : Option Refusal). or_else o (grow_refusal (charge_of s) (bytes - unused (charge_of s) s.trackers p) p s.trackers)) none

  pub refusal_above_none : (p bytes : ℕ) → row.parent ≡ Some p → grow_refusal (charge_of s) bytes t s.trackers ≡ None → grow_refusal (charge_of s) (bytes - unused (charge_of s) s.trackers p) p s.trackers ≡ None
  refusal_above_none p bytes under none = not_later (over s.trackers bytes t) _ (sym (refused_above (charge_of s) s.trackers tree t it.0 it.1 bytes p (its_parent (Some p) under)) ∙ none)

  pub root_refusal : (bytes : ℕ) → row.parent ≡ None → grow_refusal (charge_of s) bytes t s.trackers ≡ over s.trackers bytes t
  root_refusal bytes under = refused_at_root (charge_of s) s.trackers tree t it.0 it.1 bytes (its_parent None under)

  pub less_deep : (p : ℕ) → row.parent ≡ Some p → depth_of s.trackers p < depth_of s.trackers t
  less_deep p under =
      let hangs : Hangs s.trackers t row.depth (Some p) = subst (λ (o : Option ℕ). Hangs s.trackers t row.depth o) under of.hangs in
      let mine : depth_of s.trackers t ≡ row.depth = ap (λ (x : Tracker). x.depth) of.says in
      let y : Tracker = hangs.0 in
      let deep : depth_of s.trackers p ≡ y.depth = depth_is s.trackers p y hangs.1 in
      let more : row.depth ≡ y.depth + 1 = hangs.2 in
      omega (arith, mine, deep, more)

  -- what has grown above
  pub grown_above : (p bytes : ℕ) → row.parent ≡ Some p
      → grown (charge_of s) s.trackers (depth_of s.trackers t) (growth_above (charge_of s) s.trackers bytes t) (parent_of s.trackers t) ≡ grow (charge_of s) (bytes - unused (charge_of s) s.trackers p) p s.trackers
  unfolding grow
  grown_above p bytes under =
      let named : parent_of s.trackers t ≡ p = parent_is s.trackers t it.0 p it.1 (its_parent (Some p) under) in
      let hangs : Hangs s.trackers t row.depth (Some p) = subst (λ (o : Option ℕ). Hangs s.trackers t row.depth o) under of.hangs in
      let mine : depth_of s.trackers t ≡ row.depth = ap (λ (x : Tracker). x.depth) of.says in
      let y : Tracker = hangs.0 in
      let deep : depth_of s.trackers p ≡ y.depth = depth_is s.trackers p y hangs.1 in
      let more : row.depth ≡ y.depth + 1 = hangs.2 in
      let high : depth_of s.trackers t ≡ suc (depth_of s.trackers p) = omega (arith, mine, deep, more) in
      ap (λ (q : ℕ). grown (charge_of s) s.trackers (depth_of s.trackers t) (bytes - unused (charge_of s) s.trackers q) q) named
      ∙ ap (λ (n : ℕ). grown (charge_of s) s.trackers n (bytes - unused (charge_of s) s.trackers p) p) high

  pub grown_root : (bytes : ℕ) → row.parent ≡ None
      → grown (charge_of s) s.trackers (depth_of s.trackers t) (growth_above (charge_of s) s.trackers bytes t) (parent_of s.trackers t) ≡ s.trackers
  grown_root bytes under =
      let hangs : (t ≡ 0) × (row.depth ≡ 0) = subst (λ (o : Option ℕ). Hangs s.trackers t row.depth o) under of.hangs in
      let top : depth_of s.trackers t ≡ 0 = ap (λ (x : Tracker). x.depth) of.says ∙ hangs.1 in
      ap (λ (n : ℕ). grown (charge_of s) s.trackers n (growth_above (charge_of s) s.trackers bytes t) (parent_of s.trackers t)) top

  pub rises : FitsTree (charge_of s) s.trackers → (bytes : ℕ) → grow_refusal (charge_of s) bytes t s.trackers ≡ None
      → CanRise (charge_of s) (grown (charge_of s) s.trackers (depth_of s.trackers t) (growth_above (charge_of s) s.trackers bytes t) (parent_of s.trackers t)) t bytes
  rises fits bytes none = grow_step (charge_of s) s.trackers tree t it.0 it.1 fits bytes none

-- so many levels rise, and the lowest of them last
module _ (charge : ℕ → ℕ) (ts : Trackers) (tree : IsTree ts) (fits : FitsTree charge ts) (t : ℕ) (live : IsLive ts t) where
  pub rise_step : (levels bytes : ℕ) → 0 < levels → levels ≤ depth_of ts t → bytes ≤ unused charge ts (up ts levels t) → risen_refusal levels bytes t ts ≡ None
      → CanRise charge (risen (levels - 1) bytes (parent_of ts t) ts) t bytes
  rise_step levels bytes some far spare none =
      let fewer : ℕ = levels - 1 in
      let more : levels ≡ suc fewer = omega (arith, some) in
      let x : (y : Tracker) × (get ts t ≡ Some y) = found (get ts t) live in
      let depth : ℕ = depth_of ts t - 1 in
      let deep : depth_of ts t ≡ suc depth = omega (arith, some, far) in
      let over_it : Above ts t x.0 depth = above ts tree t depth x.0 x.1 deep in
      let p : ℕ = parent_of ts t in
      let here : get ts p ≡ Some over_it.tracker = ap (get ts) over_it.named ∙ over_it.lives in
      let its : depth_of ts p ≡ depth = ap (depth_of ts) over_it.named ∙ over_it.deep in
      let none_now : risen_refusal (suc fewer) bytes t ts ≡ None = subst (λ (n : ℕ). risen_refusal n bytes t ts ≡ None) more none in
      let spare_now : bytes ≤ unused charge ts (up ts (suc fewer) t) = subst (λ (n : ℕ). bytes ≤ unused charge ts (up ts n t)) more spare in
      let rest : Lifted charge ts (risen fewer bytes p ts) p × (bytes ≤ unused charge (risen fewer bytes p ts) p) =
      risen-lifts charge ts tree fits fewer bytes p over_it.tracker here (omega (arith, far, deep, its)) spare_now (not_later (over ts bytes t) _ none_now) in
      can_rise charge ts tree t x.0 x.1 (risen fewer bytes p ts) p depth bytes over_it deep refl rest.0 (has_room ts bytes t (not_first _ _ none_now)) rest.1

pub risen_is : (ts : Trackers) (levels bytes t : ℕ) → 0 < levels → risen levels bytes t ts ≡ raise bytes t (risen (levels - 1) bytes (parent_of ts t) ts)
risen_is ts levels bytes t some =
    let more : levels ≡ suc (levels - 1) = omega (arith, some) in
    ap (λ (n : ℕ). risen n bytes t ts) more

pub risen_refusal_is : (ts : Trackers) (levels bytes t : ℕ) → 0 < levels → risen_refusal levels bytes t ts ≡ or_else (over ts bytes t) (risen_refusal (levels - 1) bytes (parent_of ts t) ts)
risen_refusal_is ts levels bytes t some =
    let more : levels ≡ suc (levels - 1) = omega (arith, some) in
    ap (λ (n : ℕ). risen_refusal n bytes t ts) more

pub up_is : (ts : Trackers) (levels t : ℕ) → 0 < levels → up ts levels t ≡ up ts (levels - 1) (parent_of ts t)
up_is ts levels t some =
    let more : levels ≡ suc (levels - 1) = omega (arith, some) in
    ap (λ (n : ℕ). up ts n t) more

pub fallen_is : (ts : Trackers) (levels bytes t : ℕ) → 0 < levels → fallen levels bytes t ts ≡ fallen (levels - 1) bytes (parent_of ts t) (lower bytes t ts)
fallen_is ts levels bytes t some =
    let more : levels ≡ suc (levels - 1) = omega (arith, some) in
    ap (λ (n : ℕ). fallen n bytes t ts) more

-- two ways, one step on
pub met : (ts : Trackers) (steps a b : ℕ) → a ≡ b → meeting ts steps a b ≡ a
met ts zero a b same = refl
met ts (suc steps) a b same = ap (λ (r : Bool). if r then a else (if leb (depth_of ts b) (depth_of ts a) then meeting ts steps (parent_of ts a) b else meeting ts steps a (parent_of ts b))) (eq-eqb a b same)

module _ (ts : Trackers) (tree : IsTree ts) (a b : ℕ) (live_a : IsLive ts a) (live_b : IsLive ts b) (apart : a ≢ b) where
  -- the parent of the deeper one, and how deep it is
  pub record Higher (t : ℕ) : Type 0 where
    pub live : IsLive ts (parent_of ts t)
    pub less : suc (depth_of ts (parent_of ts t)) ≡ depth_of ts t

  higher_by : (t : ℕ) → IsLive ts t → (depth : ℕ) → depth_of ts t ≡ suc depth → Higher t
  higher_by t live depth deep =
      let x : (y : Tracker) × (get ts t ≡ Some y) = found (get ts t) live in
      let over_it : Above ts t x.0 depth = above ts tree t depth x.0 x.1 deep in
      record { live = is_there _ over_it.tracker (ap (get ts) over_it.named ∙ over_it.lives); less = ap suc (ap (depth_of ts) over_it.named ∙ over_it.deep) ∙ sym deep }

  first_deep : (depth : ℕ) → depth_of ts a ≡ depth → depth_of ts b ≤ depth_of ts a → Higher a
  first_deep zero deep low =
      let x : (y : Tracker) × (get ts a ≡ Some y) = found (get ts a) live_a in
      let y : (z : Tracker) × (get ts b ≡ Some z) = found (get ts b) live_b in
      absurd (apart ((at_root ts tree a x.0 x.1 deep).1 ∙ sym (at_root ts tree b y.0 y.1 (omega (arith, deep, low))).1))
  first_deep (suc depth) deep low = higher_by a live_a depth deep

  pub first_higher : depth_of ts b ≤ depth_of ts a → Higher a
  first_higher low = first_deep (depth_of ts a) refl low

  pub second_higher : depth_of ts a < depth_of ts b → Higher b
  second_higher low =
      let deep : depth_of ts b ≡ suc (depth_of ts b - 1) = omega (arith, low) in
      higher_by b live_b (depth_of ts b - 1) deep

  pub first_goes : depth_of ts b ≤ depth_of ts a → meeting ts (depth_of ts a + depth_of ts b) a b ≡ meeting ts (depth_of ts (parent_of ts a) + depth_of ts b) (parent_of ts a) b
  first_goes low =
      let less : suc (depth_of ts (parent_of ts a)) ≡ depth_of ts a = (first_higher low).less in
      let steps : ℕ = depth_of ts (parent_of ts a) + depth_of ts b in
      let more : depth_of ts a + depth_of ts b ≡ suc steps = omega (arith, less) in
      ap (λ (n : ℕ). meeting ts n a b) more
      ∙ ap (λ (r : Bool). if r then a else (if leb (depth_of ts b) (depth_of ts a) then meeting ts steps (parent_of ts a) b else meeting ts steps a (parent_of ts b))) (ne_eqb a b apart)
      ∙ ap (λ (r : Bool). if r then meeting ts steps (parent_of ts a) b else meeting ts steps a (parent_of ts b)) (le-leb (depth_of ts b) (depth_of ts a) low)

  pub second_goes : depth_of ts a < depth_of ts b → meeting ts (depth_of ts a + depth_of ts b) a b ≡ meeting ts (depth_of ts a + depth_of ts (parent_of ts b)) a (parent_of ts b)
  second_goes low =
      let less : suc (depth_of ts (parent_of ts b)) ≡ depth_of ts b = (second_higher low).less in
      let steps : ℕ = depth_of ts a + depth_of ts (parent_of ts b) in
      let more : depth_of ts a + depth_of ts b ≡ suc steps = omega (arith, less) in
      ap (λ (n : ℕ). meeting ts n a b) more
      ∙ ap (λ (r : Bool). if r then a else (if leb (depth_of ts b) (depth_of ts a) then meeting ts steps (parent_of ts a) b else meeting ts steps a (parent_of ts b))) (ne_eqb a b apart)
      ∙ ap (λ (r : Bool). if r then meeting ts steps (parent_of ts a) b else meeting ts steps a (parent_of ts b)) (lt-leb (depth_of ts b) (depth_of ts a) low)

-- once the bytes fell on the one side, they can rise on the other
pub record CanMove (charge : ℕ → ℕ) (new : Trackers) (rising bytes dst : ℕ) : Type 0 where
  pub live : IsLive new dst
  pub far : rising ≤ depth_of new dst
  pub spare : bytes ≤ unused charge new (up new rising dst)
  pub none : risen_refusal rising bytes dst new ≡ None

pub move_step : (charge : ℕ → ℕ) (ts : Trackers) → IsTree ts → FitsTree charge ts → (bytes src dst falling rising : ℕ) → IsLive ts src → IsLive ts dst
    → falling ≡ levels_below ts (ancestor_of ts src dst) src → rising ≡ levels_below ts (ancestor_of ts src dst) dst
    → bytes ≤ unused charge ts src → risen_refusal rising bytes dst ts ≡ None → CanMove charge (fallen falling bytes src ts) rising bytes dst
move_step charge ts tree fits bytes src dst falling rising live_src live_dst falls_by rises_by spare none =
    let x : (y : Tracker) × (get ts src ≡ Some y) = found (get ts src) live_src in
    let y : (z : Tracker) × (get ts dst ≡ Some z) = found (get ts dst) live_dst in
    let top : ℕ = ancestor_of ts src dst in
    let meet : Meets ts src dst top = ancestor-meets ts tree src dst x.0 y.0 x.1 y.1 in
    let new : Trackers = fallen falling bytes src ts in
    let fell : Fallen charge ts new × (bytes ≤ unused charge new (up ts falling src)) = falls_to charge falling bytes src ts x.0 tree fits x.1 spare (omega (arith, falls_by)) in
    let one : up ts falling src ≡ top = ap (λ (n : ℕ). up ts n src) falls_by ∙ meet.of_first.reached in
    let two : up new rising dst ≡ top = up_same ts new fell.0.outline rising dst ∙ ap (λ (n : ℕ). up ts n dst) rises_by ∙ meet.of_second.reached in
    let deep : depth_of new dst ≡ depth_of ts dst = depth_same ts new fell.0.outline dst in
    record {
      live = live_same ts new fell.0.outline dst live_dst;
      far = omega (arith, deep, rises_by);
      spare = subst (λ (q : ℕ). bytes ≤ unused charge new q) (one ∙ sym two) fell.1;
      none = refusal_less charge ts new fell.0 rising bytes dst none;
    }

-- the ancestor of a tracker and itself
pub ancestor_itself : (ts : Trackers) (a b : ℕ) → a ≡ b → ancestor_of ts a b ≡ a
unfolding ancestor_of
ancestor_itself ts a b same = met ts (depth_of ts a + depth_of ts b) a b same

pub no_move : (ts : Trackers) (bytes a b : ℕ) → a ≡ b → move_to bytes a b ts ≡ ts
unfolding move_to
no_move ts bytes a b same =
    let top : ancestor_of ts a b ≡ a = ancestor_itself ts a b same in
    let one : depth_of ts a - depth_of ts (ancestor_of ts a b) ≡ 0 = let deep : depth_of ts (ancestor_of ts a b) ≡ depth_of ts a = ap (depth_of ts) top in omega (arith, deep) in
    let two : depth_of ts b - depth_of ts (ancestor_of ts a b) ≡ 0 = let deep : depth_of ts (ancestor_of ts a b) ≡ depth_of ts b = ap (depth_of ts) (top ∙ same) in omega (arith, deep) in
    ap (λ (n : ℕ). risen n bytes b (fallen (depth_of ts a - depth_of ts (ancestor_of ts a b)) bytes a ts)) two ∙ ap (λ (n : ℕ). fallen n bytes a ts) one

pub no_move_refusal : (ts : Trackers) (bytes a b : ℕ) → a ≡ b → move_refusal bytes a b ts ≡ None
unfolding move_refusal
no_move_refusal ts bytes a b same =
    let two : depth_of ts b - depth_of ts (ancestor_of ts a b) ≡ 0 = let deep : depth_of ts (ancestor_of ts a b) ≡ depth_of ts b = ap (depth_of ts) (ancestor_itself ts a b same ∙ same) in omega (arith, deep) in
    ap (λ (n : ℕ). risen_refusal n bytes b ts) two

-- once a tracker fell, the one above can
pub record CanFall (charge : ℕ → ℕ) (new : Trackers) (above levels bytes : ℕ) : Type 0 where
  pub live : IsLive new above
  pub far : levels ≤ depth_of new above + 1
  pub spare : 0 < levels → bytes ≤ unused charge new above

fall_by : (charge : ℕ → ℕ) (ts : Trackers) → IsTree ts → FitsTree charge ts → (t levels bytes : ℕ) (x : Tracker) → get ts t ≡ Some x → IsLive ts (parent_of ts t) → levels ≤ depth_of ts t → bytes ≤ unused charge ts t
    → (depth : ℕ) → depth_of ts t ≡ depth → CanFall charge (lower bytes t ts) (parent_of ts t) levels bytes
fall_by charge ts tree fits t levels bytes x is over_live far spare zero deep =
    let fell : Fallen charge ts (lower bytes t ts) = falls charge ts t x is fits bytes spare in
    record {
      live = live_same ts (lower bytes t ts) fell.outline (parent_of ts t) over_live;
      far = omega (arith, far, deep);
      spare = λ some. absurd (omega (arith, some, far, deep));
    }
fall_by charge ts tree fits t levels bytes x is over_live far spare (suc depth) deep =
    let fell : Fallen charge ts (lower bytes t ts) = falls charge ts t x is fits bytes spare in
    let over_it : Above ts t x depth = above ts tree t depth x is deep in
    let its : depth_of ts (parent_of ts t) ≡ depth = ap (depth_of ts) over_it.named ∙ over_it.deep in
    let high : depth_of (lower bytes t ts) (parent_of ts t) ≡ depth_of ts (parent_of ts t) = depth_same ts (lower bytes t ts) fell.outline (parent_of ts t) in
    record {
      live = live_same ts (lower bytes t ts) fell.outline (parent_of ts t) over_live;
      far = omega (arith, far, deep, its, high);
      spare = λ _. frees charge ts t x is tree fits bytes depth spare deep;
    }

pub fall_step : (charge : ℕ → ℕ) (ts : Trackers) → IsTree ts → FitsTree charge ts → (t levels bytes : ℕ) → IsLive ts t → IsLive ts (parent_of ts t) → levels ≤ depth_of ts t → bytes ≤ unused charge ts t
    → CanFall charge (lower bytes t ts) (parent_of ts t) levels bytes
fall_step charge ts tree fits t levels bytes live over_live far spare =
    let x : (y : Tracker) × (get ts t ≡ Some y) = found (get ts t) live in
    fall_by charge ts tree fits t levels bytes x.0 x.1 over_live far spare (depth_of ts t) refl

-- an error is a refusal's
pub error_from : (o : Option Refusal) (e : PoolErr) → answer o ≡ Err e → IsSome o × IsFrom o e
error_from None e is = cc
error_from (Some r) e is =
    let errors : answer (Some r) ≡ Err e = is in
    let same : e ≡ no_reservation r = cc in
    (refl, same)

pub none_there : (o : Option Refusal) → o ≡ None → IsSome o → ⊥
none_there o none some = let no : false ≡ true = ap is_some (sym none) ∙ some in cc

-- where two ways meet is no deeper than either tracker
pub stands_above : (ts : Trackers) → IsTree ts → (src dst : ℕ) → IsLive ts src → IsLive ts dst → (depth_of ts (ancestor_of ts src dst) ≤ depth_of ts src) × (depth_of ts (ancestor_of ts src dst) ≤ depth_of ts dst)
stands_above ts tree src dst live_src live_dst =
    let x : (y : Tracker) × (get ts src ≡ Some y) = found (get ts src) live_src in
    let y : (z : Tracker) × (get ts dst ≡ Some z) = found (get ts dst) live_dst in
    let meet : Meets ts src dst (ancestor_of ts src dst) = ancestor-meets ts tree src dst x.0 y.0 x.1 y.1 in
    (meet.of_first.higher, meet.of_second.higher)

pub refusal_of_move : (ts : Trackers) (bytes src dst rising : ℕ) → rising ≡ levels_below ts (ancestor_of ts src dst) dst → risen_refusal rising bytes dst ts ≡ move_refusal bytes src dst ts
unfolding move_refusal
refusal_of_move ts bytes src dst rising by = ap (λ (n : ℕ). risen_refusal n bytes dst ts) by

pub moved_by : (ts : Trackers) (bytes src dst falling rising : ℕ) → falling ≡ levels_below ts (ancestor_of ts src dst) src → rising ≡ levels_below ts (ancestor_of ts src dst) dst
    → risen rising bytes dst (fallen falling bytes src ts) ≡ move_to bytes src dst ts
unfolding move_to
moved_by ts bytes src dst falling rising falls_by rises_by =
    ap (λ (n : ℕ). risen n bytes dst (fallen falling bytes src ts)) rises_by
    ∙ ap (λ (n : ℕ). risen (levels_below ts (ancestor_of ts src dst) dst) bytes dst (fallen n bytes src ts)) falls_by
