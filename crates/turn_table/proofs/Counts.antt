-- The queue, the party and the housing, after the views are changed.
use Rattle.std.proofs.Common.{◌≡◌, ℕ, ◌+◌, ◌-◌, ◌<◌, ◌≤◌, ◌≢◌, List, set, sym, refl, ap, ◌∙◌, arith, Option}
use mathlib.Core.Option.{none, some}
use mathlib.Core.Logic.{dite}
use native.Mathlib.Decide.{ℕ_discrete, dec_lt}
use lib.ListN.{get_elem?}
use Rattle.turn_table.specs.declared.view.Role.{Role}
use Rattle.turn_table.specs.declared.view.Role.TheVariants.{First, Other}
use Rattle.turn_table.specs.declared.view.Stage.{Stage}
use Rattle.turn_table.specs.declared.view.Stage.TheVariants.{Idle, Waiting, Turn, Spent}
use Rattle.turn_table.specs.declared.view.View.{View}
use Rattle.turn_table.specs.Lists.{total, times}
use Rattle.turn_table.specs.Knowledge.{first_at}
use Rattle.turn_table.specs.Rule.{ticket_at, turn_at, live_at, out_at, turns, InTurn, Queue, Party, Housing, Trails}
use Rattle.turn_table.specs.Steps.{one_more, one_less}
use Rattle.turn_table.proofs.Sums.{total_set, one_of, two_of, gap, alone, same_is, same_not}

module _ {E : Type 0} where
  -- the counts, as sums of what each view is
  abbrev pub ticket_of : ℕ → View E → ℕ
  ticket_of t v = ticket_at t v.stage

  abbrev pub turn_of : View E → ℕ
  turn_of v = turn_at v.stage

  abbrev pub live_of : View E → ℕ
  live_of v = live_at v.stage

  abbrev pub first_of : View E → ℕ
  first_of v = first_at v.role

  abbrev pub out_of : View E → ℕ
  out_of v = out_at v.role

  abbrev pub right_of : ℕ → View E → ℕ
  right_of r v = times r v.rights

module _ {E : Type 0} {before after : List (View E)} where
  pub queue_kept : {ticket serving : ℕ} → ((t : ℕ) → total (ticket_of t) after ≡ total (ticket_of t) before) → Queue ticket serving before → Queue ticket serving after
  queue_kept same_tickets q = record {
    order = q.order;
    fits = q.fits;
    drawn = λ t low high. same_tickets t ∙ q.drawn t low high;
    served = λ t low. same_tickets t ∙ q.served t low;
    undrawn = λ t high. same_tickets t ∙ q.undrawn t high;
  }

  pub party_kept : total first_of after ≡ total first_of before → total live_of after ≡ total live_of before → total out_of after ≡ total out_of before → ((r : ℕ) → total (right_of r) after ≡ total (right_of r) before)
      → Party before → Party after
  party_kept firsts lives outs rights p = record {
    one_first = firsts ∙ p.one_first;
    others = let o = p.others in omega arith;
    apart = λ r. let a = p.apart r in let e = rights r in omega arith;
  }

  pub housing_kept : {V : Type 0} {stands : V → List E → Type 0} {log : List E} {homes : List (mathlib.Core.Option.Option (Option V))} → turns after ≡ turns before → Housing stands log homes before → Housing stands log homes after
  housing_kept same_turns h = record { home = λ z. h.home (sym same_turns ∙ z); away = λ some_turn. h.away (omega arith) }

-- a view that isn't first has no seats out
out_none : (role : Role) → first_at role ≡ 0 → out_at role ≡ 0
out_none (First n) e = absurd (omega arith)
out_none Other e = refl

pub out_more : (role : Role) → first_at role ≡ 1 → out_at (one_more role) ≡ out_at role + 1
out_more (First n) e = refl
out_more Other e = absurd (omega arith)

pub first_more : (role : Role) → first_at (one_more role) ≡ first_at role
first_more (First n) = refl
first_more Other = refl

pub out_less : (role : Role) → out_at (one_less role) ≡ out_at role - 1
out_less (First n) = refl
out_less Other = refl

pub first_less : (role : Role) → first_at (one_less role) ≡ first_at role
first_less (First n) = refl
first_less Other = refl

pub first_bound : (role : Role) → first_at role ≤ 1
first_bound (First n) = omega arith
first_bound Other = omega arith

-- only a live seat that is served has its turn
turn_le : {A : Type 0} (stage : Stage) (s : ℕ) → (live_at stage ≡ 1 → (b : List A) × InTurn s b stage) → turn_at stage ≤ ticket_at s stage
turn_le Idle s h = omega arith
turn_le (Waiting t) s h = omega arith
turn_le (Turn t) s h = let e = same_is s t (sym (h refl).1.0) in omega arith
turn_le Spent s h = omega arith

turn_lives : (stage : Stage) → live_at stage ≡ 0 → turn_at stage ≡ 0
turn_lives Idle e = refl
turn_lives (Waiting t) e = refl
turn_lives (Turn t) e = absurd (omega arith)
turn_lives Spent e = refl

module _ {E : Type 0} {views : List (View E)} {ticket serving : ℕ} (q : Queue ticket serving views) (id : ℕ) {v : View E} (at : get_elem? views id ≡ some v) where
  pub queue_draws : (w : View E) → v.stage ≡ Idle → w.stage ≡ Waiting ticket → ticket + 1 < 18446744073709551616 → Queue (ticket + 1) serving (set views id w)
  queue_draws w idle waits room =
      let sum = λ (t : ℕ). total_set (ticket_of t) views id v w at in
      let old = λ (t : ℕ). ap (ticket_at t) idle in
      let new = λ (t : ℕ). ap (ticket_at t) waits in
      let order = q.order in
      record {
        order = omega arith;
        fits = room;
        drawn = λ t low high. dite (ℕ_discrete t ticket)
            (λ e. let s = sum t in let o = old t in let n = new t in let one = same_is t ticket e in let z = q.undrawn t (omega arith) in omega arith)
            (λ ne. let s = sum t in let o = old t in let n = new t in let none_here = same_not t ticket ne in let z = q.drawn t low (omega arith) in omega arith);
        served = λ t low. let s = sum t in let o = old t in let n = new t in let none_here = same_not t ticket (λ e. omega arith) in let z = q.served t low in omega arith;
        undrawn = λ t high. let s = sum t in let o = old t in let n = new t in let none_here = same_not t ticket (λ e. omega arith) in let z = q.undrawn t (omega arith) in omega arith;
      }

  -- the number that a seat has drawn, and that is served, was drawn by it alone
  pub one_served : ticket_of serving v ≡ 1 → (serving < ticket) × (total (ticket_of serving) views ≡ 1)
  one_served here =
      let there = one_of (ticket_of serving) views id v at in
      let below : serving < ticket = dite (dec_lt serving ticket) (λ y. y) (λ n. let z = q.undrawn serving (omega arith) in absurd (omega arith)) in
      (below, q.drawn serving (omega arith) below)

  pub queue_serves : (w : View E) → v.stage ≡ Turn serving → w.stage ≡ Idle → Queue ticket (serving + 1) (set views id w)
  queue_serves w turn idle =
      let sum = λ (t : ℕ). total_set (ticket_of t) views id v w at in
      let old = λ (t : ℕ). ap (ticket_at t) turn in
      let new = λ (t : ℕ). ap (ticket_at t) idle in
      let one = one_served (old serving ∙ same_is serving serving refl) in
      let below = one.0 in
      record {
        order = omega arith;
        fits = q.fits;
        drawn = λ t low high. let s = sum t in let o = old t in let n = new t in let none_here = same_not t serving (λ e. omega arith) in let z = q.drawn t (omega arith) high in omega arith;
        served = λ t low. dite (ℕ_discrete t serving)
            (λ e. let s = sum t in let o = old t in let n = new t in let here = same_is t serving e in let z = q.drawn t (omega arith) (omega arith) in omega arith)
            (λ ne. let s = sum t in let o = old t in let n = new t in let none_here = same_not t serving ne in let z = q.served t (omega arith) in omega arith);
        undrawn = λ t high. let s = sum t in let o = old t in let n = new t in let none_here = same_not t serving (λ e. omega arith) in let z = q.undrawn t high in omega arith;
      }

module _ {E : Type 0} {needs : E → List ℕ} {written : List (ℕ × E)} {views : List (View E)} {ticket serving : ℕ} (q : Queue ticket serving views) (t : Trails needs written serving views) (id : ℕ) {v : View E} (at : get_elem? views id ≡ some v) where
  turn_served : (j : ℕ) (u : View E) → get_elem? views j ≡ some u → turn_of u ≤ ticket_of serving u
  turn_served j u there = turn_le {A = ℕ × E} u.stage serving (λ live. let k = t.each j u there live in (k.behind, k.in_turn))

  -- where a seat waits with the number that is served, none has its turn
  pub none_turns : v.stage ≡ Waiting serving → turns views ≡ 0
  none_turns waits =
      let here : ticket_of serving v ≡ 1 = ap (ticket_at serving) waits ∙ same_is serving serving refl in
      let not_turn : turn_of v ≡ 0 = ap turn_at waits in
      let one = (one_served q id at here).1 in
      let g = gap turn_of (ticket_of serving) 1 views id v turn_served at (omega arith) in
      omega arith

  -- where a seat has its turn, it is the only one
  pub one_turn : v.stage ≡ Turn serving → turns views ≡ 1
  one_turn turn =
      let here : ticket_of serving v ≡ 1 = ap (ticket_at serving) turn ∙ same_is serving serving refl in
      let its_turn : turn_of v ≡ 1 = ap turn_at turn in
      let one = (one_served q id at here).1 in
      let g = gap turn_of (ticket_of serving) 0 views id v turn_served at (omega arith) in
      let p = one_of turn_of views id v at in
      omega arith

  pub others_rest : v.stage ≡ Turn serving → (j : ℕ) (u : View E) → get_elem? views j ≡ some u → j ≢ id → turn_of u ≡ 0
  others_rest turn j u there other =
      let its_turn : turn_of v ≡ 1 = ap turn_at turn in
      let one = one_turn turn in
      let two = two_of turn_of views id j v u (λ e. other (sym e)) at there in
      omega arith

module _ {E : Type 0} {views : List (View E)} (p : Party views) (id : ℕ) {v : View E} (at : get_elem? views id ≡ some v) (first : first_of v ≡ 1) where
  -- the first seat knows how many are out
  pub out_all : total out_of views ≡ out_of v
  out_all = alone out_of first_of views id v (λ u e. out_none u.role e) p.one_first at first

  pub not_first : (j : ℕ) (u : View E) → get_elem? views j ≡ some u → j ≢ id → (first_of u ≡ 0) × (out_of u ≡ 0)
  not_first j u there other =
      let one = p.one_first in
      let two = two_of first_of views id j v u (λ e. other (sym e)) at there in
      let z : first_of u ≡ 0 = omega arith in
      (z, out_none u.role z)

  -- where none is out, no seat but the first has its turn
  pub none_out : out_of v ≡ 0 → live_of v ≡ 1 → turns views ≡ turn_of v
  none_out zero_out live =
      let o = p.others in
      let all_out = out_all in
      alone turn_of live_of views id v (λ u e. turn_lives u.stage e) (omega arith) at live
