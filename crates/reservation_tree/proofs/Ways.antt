-- Growths, falls and moves over three levels, written out.
use Rattle.std.proofs.Common.{◌≡◌, ◌≢◌, ℕ, suc, ◌+◌, ◌-◌, Bool, leb, if◌then◌else◌, Option, Some, None, IsSome, unwrap_or, refl, sym, ap, ◌∙◌, arith, ne_eqb, le-leb}
use Rattle.std.proofs.lemmas.Bool.{lt-leb}
use Rattle.std.specs.FinMap.{get}
use Rattle.reservation_tree.specs.Tracker.{Tracker, Trackers, no_tracker, reservation_of, depth_of, parent_of, unused}
use Rattle.reservation_tree.specs.Change.{raise, lower, lacking, grown, grow, grown_refusal, grow_refusal, fallen, shrink, risen, risen_refusal, move_to, Refusal, over, or_else, move_refusal, meeting, ancestor_of}
use Rattle.reservation_tree.specs.Ways.{IsUnderRoot, IsUnderQuery, QueriesStep, ClientsStep, QueriesMove, ClientsMove, MovesToItself}
use Rattle.reservation_tree.proofs.Outline.{parent_same, set_outline}
use Rattle.reservation_tree.proofs.Climbs.{met, no_move, no_move_refusal}

pub or_none : (o : Option Refusal) → or_else o None ≡ o
or_none None = refl
or_none (Some r) = refl

-- a tracker with some above it is live
deep_lives : (o : Option Tracker) (n : ℕ) → (unwrap_or o no_tracker).depth ≡ suc n → IsSome o
deep_lives None n deep = cc
deep_lives (Some x) n deep = refl

module _ (charge : ℕ → ℕ) (ts : Trackers) (n q : ℕ) (high : IsUnderRoot ts q) where
  pub query_grows : grow charge n q ts ≡ raise n q (raise (lacking charge n 0 ts) 0 ts)
  unfolding grow
  query_grows = ap (λ (d : ℕ). grown charge ts (suc d) n q) high.depth ∙ ap (λ (p : ℕ). raise n q (raise (n - unused charge ts p) p ts)) high.parent

  pub query_falls : shrink n q ts ≡ lower n 0 (lower n q ts)
  unfolding shrink
  query_falls = ap (λ (d : ℕ). fallen (suc d) n q ts) high.depth ∙ ap (λ (p : ℕ). lower n p (lower n q ts)) high.parent

  pub query_refused : grow_refusal charge n q ts ≡ or_else (over ts n q) (over ts (lacking charge n 0 ts) 0)
  unfolding grow_refusal
  query_refused =
      ap (λ (d : ℕ). grown_refusal charge ts (suc d) n q) high.depth
      ∙ ap (λ (p : ℕ). or_else (over ts n q) (or_else (over ts (n - unused charge ts p) p) None)) high.parent
      ∙ ap (λ (o : Option Refusal). or_else (over ts n q) o) (or_none (over ts (lacking charge n 0 ts) 0))

  module _ (t : ℕ) (low : IsUnderQuery ts t q) where
    pub client_grows : grow charge n t ts ≡ raise n t (raise (lacking charge n q ts) q (raise (lacking charge (lacking charge n q ts) 0 ts) 0 ts))
    unfolding grow
    client_grows =
        ap (λ (d : ℕ). grown charge ts (suc d) n t) low.depth
        ∙ ap (λ (p : ℕ). raise n t (raise (n - unused charge ts p) p (raise ((n - unused charge ts p) - unused charge ts (parent_of ts p)) (parent_of ts p) ts))) low.parent
        ∙ ap (λ (r : ℕ). raise n t (raise (lacking charge n q ts) q (raise (lacking charge n q ts - unused charge ts r) r ts))) high.parent

    pub client_falls : shrink n t ts ≡ lower n 0 (lower n q (lower n t ts))
    unfolding shrink
    client_falls =
        let stays : parent_of (lower n t ts) q ≡ parent_of ts q = parent_same ts (lower n t ts) (set_outline ts t (reservation_of ts t - n) (deep_lives (get ts t) 1 low.depth)) q in
        ap (λ (d : ℕ). fallen (suc d) n t ts) low.depth
        ∙ ap (λ (p : ℕ). lower n (parent_of (lower n t ts) p) (lower n p (lower n t ts))) low.parent
        ∙ ap (λ (r : ℕ). lower n r (lower n q (lower n t ts))) (stays ∙ high.parent)

    pub client_refused : grow_refusal charge n t ts ≡ or_else (over ts n t) (or_else (over ts (lacking charge n q ts) q) (over ts (lacking charge (lacking charge n q ts) 0 ts) 0))
    unfolding grow_refusal
    client_refused =
        ap (λ (d : ℕ). grown_refusal charge ts (suc d) n t) low.depth
        ∙ ap (λ (p : ℕ). or_else (over ts n t) (or_else (over ts (n - unused charge ts p) p) (or_else (over ts ((n - unused charge ts p) - unused charge ts (parent_of ts p)) (parent_of ts p)) None))) low.parent
        ∙ ap (λ (r : ℕ). or_else (over ts n t) (or_else (over ts (lacking charge n q ts) q) (or_else (over ts (lacking charge n q ts - unused charge ts r) r) None))) high.parent
        ∙ ap (λ (o : Option Refusal). or_else (over ts n t) (or_else (over ts (lacking charge n q ts) q) o)) (or_none (over ts (lacking charge (lacking charge n q ts) 0 ts) 0))

    pub not_query : t ≢ q
    not_query same = let one : depth_of ts t ≡ depth_of ts q = ap (depth_of ts) same in omega (arith, one, low.depth, high.depth)

    meet_at : (steps : ℕ) → meeting ts (suc steps) t q ≡ meeting ts steps q q
    meet_at steps =
        ap (λ (r : Bool). if r then t else (if leb (depth_of ts q) (depth_of ts t) then meeting ts steps (parent_of ts t) q else meeting ts steps t (parent_of ts q))) (ne_eqb t q not_query)
        ∙ ap (λ (r : Bool). if r then meeting ts steps (parent_of ts t) q else meeting ts steps t (parent_of ts q)) (le-leb (depth_of ts q) (depth_of ts t) (omega (arith, low.depth, high.depth)))
        ∙ ap (λ (p : ℕ). meeting ts steps p q) low.parent

    meet_from : (steps : ℕ) → meeting ts (suc steps) q t ≡ meeting ts steps q q
    meet_from steps =
        ap (λ (r : Bool). if r then q else (if leb (depth_of ts t) (depth_of ts q) then meeting ts steps (parent_of ts q) t else meeting ts steps q (parent_of ts t))) (ne_eqb q t (λ same. not_query (sym same)))
        ∙ ap (λ (r : Bool). if r then meeting ts steps (parent_of ts q) t else meeting ts steps q (parent_of ts t)) (lt-leb (depth_of ts t) (depth_of ts q) (omega (arith, low.depth, high.depth)))
        ∙ ap (λ (p : ℕ). meeting ts steps q p) low.parent

    met_itself : (steps : ℕ) → meeting ts steps q q ≡ q
    met_itself steps = met ts steps q q refl

    pub moves_up : move_to n t q ts ≡ lower n t ts
    unfolding move_to ancestor_of
    moves_up =
        let steps : depth_of ts t + depth_of ts q ≡ suc 2 = omega (arith, low.depth, high.depth) in
        let top : meeting ts (depth_of ts t + depth_of ts q) t q ≡ q = ap (λ (k : ℕ). meeting ts k t q) steps ∙ meet_at 2 ∙ met_itself 2 in
        let none : depth_of ts q - depth_of ts q ≡ 0 = omega arith in
        let one : depth_of ts t - depth_of ts q ≡ 1 = omega (arith, low.depth, high.depth) in
        ap (λ (a : ℕ). risen (depth_of ts q - depth_of ts a) n q (fallen (depth_of ts t - depth_of ts a) n t ts)) top
        ∙ ap (λ (k : ℕ). risen k n q (fallen (depth_of ts t - depth_of ts q) n t ts)) none
        ∙ ap (λ (k : ℕ). fallen k n t ts) one

    -- a client that gives to its query passes no limit
    pub never_refused : move_refusal n t q ts ≡ None
    unfolding move_refusal ancestor_of
    never_refused =
        let steps : depth_of ts t + depth_of ts q ≡ suc 2 = omega (arith, low.depth, high.depth) in
        let top : meeting ts (depth_of ts t + depth_of ts q) t q ≡ q = ap (λ (k : ℕ). meeting ts k t q) steps ∙ meet_at 2 ∙ met_itself 2 in
        let none : depth_of ts q - depth_of ts q ≡ 0 = omega arith in
        ap (λ (a : ℕ). risen_refusal (depth_of ts q - depth_of ts a) n q ts) top ∙ ap (λ (k : ℕ). risen_refusal k n q ts) none

    pub moves_down : move_to n q t ts ≡ raise n t ts
    unfolding move_to ancestor_of
    moves_down =
        let steps : depth_of ts q + depth_of ts t ≡ suc 2 = omega (arith, low.depth, high.depth) in
        let top : meeting ts (depth_of ts q + depth_of ts t) q t ≡ q = ap (λ (k : ℕ). meeting ts k q t) steps ∙ meet_from 2 ∙ met_itself 2 in
        let none : depth_of ts q - depth_of ts q ≡ 0 = omega arith in
        let one : depth_of ts t - depth_of ts q ≡ 1 = omega (arith, low.depth, high.depth) in
        ap (λ (a : ℕ). risen (depth_of ts t - depth_of ts a) n t (fallen (depth_of ts q - depth_of ts a) n q ts)) top
        ∙ ap (λ (k : ℕ). risen (depth_of ts t - depth_of ts q) n t (fallen k n q ts)) none
        ∙ ap (λ (k : ℕ). risen k n t ts) one

    -- a query that gives to its client passes at most the client's limit
    pub refused_down : move_refusal n q t ts ≡ over ts n t
    unfolding move_refusal ancestor_of
    refused_down =
        let steps : depth_of ts q + depth_of ts t ≡ suc 2 = omega (arith, low.depth, high.depth) in
        let top : meeting ts (depth_of ts q + depth_of ts t) q t ≡ q = ap (λ (k : ℕ). meeting ts k q t) steps ∙ meet_from 2 ∙ met_itself 2 in
        let one : depth_of ts t - depth_of ts q ≡ 1 = omega (arith, low.depth, high.depth) in
        ap (λ (a : ℕ). risen_refusal (depth_of ts t - depth_of ts a) n t ts) top ∙ ap (λ (k : ℕ). risen_refusal k n t ts) one ∙ or_none (over ts n t)

    module _ (b : ℕ) (low_b : IsUnderQuery ts b q) (apart : t ≢ b) where
      meet_beside : (steps : ℕ) → meeting ts (suc steps) t b ≡ meeting ts steps q b
      meet_beside steps =
          ap (λ (r : Bool). if r then t else (if leb (depth_of ts b) (depth_of ts t) then meeting ts steps (parent_of ts t) b else meeting ts steps t (parent_of ts b))) (ne_eqb t b apart)
          ∙ ap (λ (r : Bool). if r then meeting ts steps (parent_of ts t) b else meeting ts steps t (parent_of ts b)) (le-leb (depth_of ts b) (depth_of ts t) (omega (arith, low.depth, low_b.depth)))
          ∙ ap (λ (p : ℕ). meeting ts steps p b) low.parent

-- from one client to another of the same query
pub moves_beside : (charge : ℕ → ℕ) (ts : Trackers) (n q a b : ℕ) → IsUnderRoot ts q → IsUnderQuery ts a q → IsUnderQuery ts b q → a ≢ b → move_to n a b ts ≡ raise n b (lower n a ts)
unfolding move_to ancestor_of
moves_beside charge ts n q a b high low_a low_b apart =
    let steps : depth_of ts a + depth_of ts b ≡ suc (suc 2) = omega (arith, low_a.depth, low_b.depth) in
    let top : meeting ts (depth_of ts a + depth_of ts b) a b ≡ q =
    ap (λ (k : ℕ). meeting ts k a b) steps ∙ meet_beside charge ts n q high a low_a b low_b apart (suc 2) ∙ meet_from charge ts n q high b low_b 2 ∙ met_itself charge ts n q high b low_b 2 in
    let one : depth_of ts a - depth_of ts q ≡ 1 = omega (arith, low_a.depth, high.depth) in
    let one_b : depth_of ts b - depth_of ts q ≡ 1 = omega (arith, low_b.depth, high.depth) in
    ap (λ (r : ℕ). risen (depth_of ts b - depth_of ts r) n b (fallen (depth_of ts a - depth_of ts r) n a ts)) top
    ∙ ap (λ (k : ℕ). risen k n b (fallen (depth_of ts a - depth_of ts q) n a ts)) one_b
    ∙ ap (λ (k : ℕ). raise n b (fallen k n a ts)) one

-- such a move passes at most the other's limit
pub refused_beside : (charge : ℕ → ℕ) (ts : Trackers) (n q a b : ℕ) → IsUnderRoot ts q → IsUnderQuery ts a q → IsUnderQuery ts b q → a ≢ b → move_refusal n a b ts ≡ over ts n b
unfolding move_refusal ancestor_of
refused_beside charge ts n q a b high low_a low_b apart =
    let steps : depth_of ts a + depth_of ts b ≡ suc (suc 2) = omega (arith, low_a.depth, low_b.depth) in
    let top : meeting ts (depth_of ts a + depth_of ts b) a b ≡ q =
    ap (λ (k : ℕ). meeting ts k a b) steps ∙ meet_beside charge ts n q high a low_a b low_b apart (suc 2) ∙ meet_from charge ts n q high b low_b 2 ∙ met_itself charge ts n q high b low_b 2 in
    let one_b : depth_of ts b - depth_of ts q ≡ 1 = omega (arith, low_b.depth, high.depth) in
    ap (λ (r : ℕ). risen_refusal (depth_of ts b - depth_of ts r) n b ts) top ∙ ap (λ (k : ℕ). risen_refusal k n b ts) one_b ∙ or_none (over ts n b)

no_charge : ℕ → ℕ
no_charge t = 0

pub queries_step : QueriesStep
queries_step charge ts bytes q high = record {
  grows = query_grows charge ts bytes q high;
  falls = query_falls charge ts bytes q high;
  refused = query_refused charge ts bytes q high;
}

pub clients_step : ClientsStep
clients_step charge ts bytes t q low = record {
  grows = client_grows charge ts bytes q low.query t low;
  falls = client_falls charge ts bytes q low.query t low;
  refused = client_refused charge ts bytes q low.query t low;
}

pub queries_move : QueriesMove
queries_move ts bytes t q low = record {
  up = moves_up no_charge ts bytes q low.query t low;
  up_refused = never_refused no_charge ts bytes q low.query t low;
  down = moves_down no_charge ts bytes q low.query t low;
  down_refused = refused_down no_charge ts bytes q low.query t low;
}

pub clients_move : ClientsMove
clients_move ts bytes a b q low_a low_b apart = record {
  moves = moves_beside no_charge ts bytes q a b low_a.query low_a low_b apart;
  refused = refused_beside no_charge ts bytes q a b low_a.query low_a low_b apart;
}

pub moves_to_itself : MovesToItself
moves_to_itself ts bytes t = record { moves = no_move ts bytes t t refl; refused = no_move_refusal ts bytes t t refl }
