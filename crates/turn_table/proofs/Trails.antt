-- The trails of all seats, after one view is changed, added or spent, or the one list grows.
use Rattle.std.proofs.Common.{◌≡◌, ℕ, zero, suc, ◌<◌, ◌≢◌, ⊎_elim, List, [], ◌∷◌, ◌++◌, length, set, sym, refl, ap, subst, ◌∙◌, arith, append-nil, length-append, length-set}
use mathlib.Core.Option.{some, some-injective, some-ne-none}
use mathlib.Core.Logic.{dite}
use native.Mathlib.Decide.{ℕ_discrete}
use lib.ListN.{get_elem?}
use Rattle.atomic_table.proofs.Lists.{at_set, set_here, set_else, at_longer}
use Rattle.turn_table.specs.declared.view.View.{View}
use Rattle.turn_table.specs.Lists.{entries, by, tagged}
use Rattle.turn_table.specs.Knowledge.{NeedsNone}
use Rattle.turn_table.specs.Rule.{turn_at, live_at, Knows, Trails}
use Rattle.turn_table.specs.Steps.{grown, spent}
use Rattle.turn_table.proofs.Sums.{at_new}
use Rattle.turn_table.proofs.Authors.{entries-append, entries-tagged, by-append, by-tagged_other}
use Rattle.turn_table.proofs.Knowing.{all_entries, knows_serves, knows_beside}

module _ {E : Type 0} where
  pub within : (l : List (View E)) (i : ℕ) (v : View E) → get_elem? l i ≡ some v → i < length l
  within [] i v e = absurd (some-ne-none v (sym e))
  within (x ∷ xs) zero v e = omega arith
  within (x ∷ xs) (suc i) v e = let r = within xs i v e in omega arith

  -- some live view has seen this list
  abbrev pub Longest : List (View E) → List E → Type 0
  Longest views log = (j : ℕ) × (v : View E) × (get_elem? views j ≡ some v) × (live_at v.stage ≡ 1) × (v.seen ≡ log)

  pub longest_set : (views : List (View E)) (i : ℕ) (v w : View E) (log : List E) → get_elem? views i ≡ some v → live_at w.stage ≡ 1 → (v.seen ≡ log → w.seen ≡ log) → Longest views log → Longest (set views i w) log
  longest_set views i v w log at live more (j, u, there, alive, whole) = dite (ℕ_discrete j i)
      (λ e. (i, w, set_here views i w (within views i v at), live, more (ap (λ (x : View E). x.seen) (some-injective v u (sym at ∙ sym (ap (λ (n : ℕ). get_elem? views n) e) ∙ there)) ∙ whole)))
      (λ n. (j, u, set_else views i j w n ∙ there, alive, whole))

  -- where another seat has seen the list too, one may be spent
  pub longest_spent : (views : List (View E)) (i j : ℕ) (v u : View E) (log : List E) → get_elem? views i ≡ some v → get_elem? views j ≡ some u → i ≢ j → live_at v.stage ≡ 1 → (u.seen ≡ log → v.seen ≡ log) → Longest views log → Longest (set views j spent) log
  longest_spent views i j v u log at there other live more (k, x, at_k, alive, whole) = dite (ℕ_discrete k j)
      (λ e. (i, v, set_else views j i spent other ∙ at, live, more (ap (λ (y : View E). y.seen) (some-injective u x (sym there ∙ sym (ap (λ (n : ℕ). get_elem? views n) e) ∙ at_k)) ∙ whole)))
      (λ n. (k, x, set_else views j k spent n ∙ at_k, alive, whole))

  module _ {needs : E → List ℕ} {written : List (ℕ × E)} {serving : ℕ} {views : List (View E)} (t : Trails needs written serving views) where
    -- one view is changed
    pub trails_set : (i : ℕ) (w : View E) → (live_at w.stage ≡ 1 → Knows needs i written serving w) → Longest (set views i w) (entries written) → Trails needs written serving (set views i w)
    trails_set i w knows longest = record {
      each = λ j u there live. ⊎_elim
          (λ h. subst (λ (n : ℕ). Knows needs n written serving u) (sym h.0) (subst (λ (x : View E). live_at x.stage ≡ 1 → Knows needs i written serving x) h.1 knows live))
          (λ h. t.each j u h.1 live)
          (at_set views i j w u there);
      longest = longest;
      unseated = λ j far. t.unseated j (let same_length = length-set views i w in omega arith);
    }

    -- a view is added
    pub trails_snoc : (w : View E) → Knows needs (length views) written serving w → Trails needs written serving (views ++ w ∷ [])
    trails_snoc w knows = record {
      each = λ j u there live. ⊎_elim
          (λ h. t.each j u h live)
          (λ h. subst (λ (n : ℕ). Knows needs n written serving u) (sym h.0) (subst (λ (x : View E). Knows needs (length views) written serving x) h.1 knows))
          (at_new views w u j there);
      longest = (t.longest.0, t.longest.1, at_longer views (w ∷ []) t.longest.0 t.longest.1 t.longest.2, t.longest.3, t.longest.4);
      unseated = λ j far. t.unseated j (let longer_by_one = length-append views (w ∷ []) in omega arith);
    }

    -- the seat that has its turn adds entries, which need no right of another
    pub trails_serve : (i next : ℕ) (v : View E) (new : List E) (at : get_elem? views i ≡ some v) (live : live_at v.stage ≡ 1) → (t.each i v at live).behind ≡ []
        → ((j : ℕ) (u : View E) → get_elem? views j ≡ some u → j ≢ i → (turn_at u.stage ≡ 0) × NeedsNone needs u.rights new)
        → Trails needs (written ++ tagged i new) next (set views i (grown new v))
    trails_serve i next v new at live none others =
        let w : View E = grown new v in
        let k = t.each i v at live in
        let log : v.seen ≡ entries written = sym (all_entries needs k ∙ ap (λ (z : List (ℕ × E)). v.seen ++ entries z) none ∙ append-nil v.seen) in
        record {
          each = λ j u there alive. ⊎_elim
              (λ h. subst (λ (n : ℕ). Knows needs n (written ++ tagged i new) next u) (sym h.0) (subst (λ (x : View E). Knows needs i (written ++ tagged i new) next x) h.1 (knows_serves needs k new next none)))
              (λ h. let o = others j u h.1 h.0 in knows_beside needs (t.each j u h.1 alive) i new next h.0 o.1 o.0)
              (at_set views i j w u there);
          longest = (i, w, set_here views i w (within views i v at), refl, ap (λ (z : List E). z ++ new) log ∙ sym (entries-append written (tagged i new) ∙ ap (λ (z : List E). entries written ++ z) (entries-tagged i new)));
          unseated = λ j far.
              let same_length = length-set views i w in let inside = within views i v at in
              by-append j written (tagged i new) ∙ ap (λ (z : List E). z ++ by j (tagged i new)) (t.unseated j (omega arith)) ∙ by-tagged_other j i new (λ e. omega arith);
        }
