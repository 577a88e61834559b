-- What the writes of a call make of the threads.
use Rattle.std.proofs.Common.{ℕ, ◌≡◌, ◌-◌, ◌^◌, cond, eqb, refl, ap, sym, ◌∙◌}
use Rattle.std.proofs.lemmas.Bool.{cond-true, cond-false, eq-eqb, ne_eqb}
use Rattle.index_list.specs.Threads.{Threads, Joins, Notes}
use Rattle.index_list.proofs.Chains.{Pushed, Removed, Sides}

-- what a test at the very number gives, and what it gives elsewhere
pub at_it : (a b q x : ℕ) (old : ℕ) → q ≡ cond (eqb a b) x old → a ≡ b → q ≡ x
at_it a b q x old e s = e ∙ cond-true (eqb a b) x old (eq-eqb a b s)

pub off_it : (a b q x : ℕ) (old : ℕ) → q ≡ cond (eqb a b) x old → (a ≡ b → ⊥) → q ≡ old
off_it a b q x old e n = e ∙ cond-false (eqb a b) x old (ne_eqb a b n)

-- two joins put the node between the end and what stood before it
pub pushed-by : (t u v w : Threads) (list end last node : ℕ) → Joins t u last node → Joins u v node end → Notes v w node list → t.prev end ≡ last → t.next last ≡ end → (last ≡ node → ⊥) → (end ≡ node → ⊥) → Pushed t w list end node
pushed-by t u v w list end last node one two three before forth nl ne = record {
  keeps = record {
    joined = λ p q np nq far j. record {
      forth = three.next p ∙ off_it node p _ end _ (two.next p) (λ s. np (sym s))
          ∙ off_it last p _ node _ (one.next p) (λ s. far (sym j.forth ∙ ap t.next (sym s) ∙ forth)) ∙ j.forth;
      back = three.prev q ∙ off_it end q _ node _ (two.prev q) (λ s. far (sym s))
          ∙ off_it node q _ last _ (one.prev q) (λ s. nq (sym s)) ∙ j.back;
    };
    home = λ q nq. off_it node q _ list _ (three.home q) (λ s. nq (sym s)) ∙ two.home q ∙ one.home q;
  };
  before = rw before record {
    forth = three.next last ∙ off_it node last _ end _ (two.next last) (λ s. nl (sym s)) ∙ at_it last last _ node _ (one.next last) refl;
    back = three.prev node ∙ off_it end node _ node _ (two.prev node) ne ∙ at_it node node _ last _ (one.prev node) refl;
  };
  behind = record {
    forth = three.next node ∙ at_it node node _ end _ (two.next node) refl;
    back = three.prev end ∙ at_it end end _ node _ (two.prev end) refl;
  };
  home = at_it node node _ list _ (three.home node) refl;
}

-- one join lets the entries on both sides of the node meet
pub removed-by : (t u w : Threads) (room before behind node : ℕ) → Joins t u before behind → Notes u w node (2 ^ 32 - 1) → Sides t room node → t.prev node ≡ before → t.next node ≡ behind → Removed t w node
removed-by t u w room before behind node one two sides eb en = record {
  keeps = record {
    joined = λ p q np nq _ j. record {
      forth = two.next p ∙ off_it before p _ behind _ (one.next p) (λ s. nq (sym j.forth ∙ ap t.next (sym s) ∙ ap t.next (sym eb) ∙ sides.from_before)) ∙ j.forth;
      back = two.prev q ∙ off_it behind q _ before _ (one.prev q) (λ s. np (sym j.back ∙ ap t.prev (sym s) ∙ ap t.prev (sym en) ∙ sides.from_behind)) ∙ j.back;
    };
    home = λ q nq. off_it node q _ (2 ^ 32 - 1) _ (two.home q) (λ s. nq (sym s)) ∙ one.home q;
  };
  met = rw (eb, en) record {
    forth = two.next before ∙ at_it before before _ behind _ (one.next before) refl;
    back = two.prev behind ∙ at_it behind behind _ before _ (one.prev behind) refl;
  };
  left = record { home = at_it node node _ (2 ^ 32 - 1) _ (two.home node) refl };
}
