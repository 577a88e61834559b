-- The lists of waiting pages, when one page leaves them, a client's begins or ends, or none changes.
use Rattle.std.proofs.Common.{◌≡◌, ◌≢◌, ℕ, Bool, true, false, ◌&&◌, Option, None, unwrap_or, List, [], ◌∷◌, ◌++◌, refl, ap, sym, ◌∙◌, subst, inl, inr}
use Rattle.std.specs.Ordering.{nat_cmp}
use Rattle.std.specs.FinMap.{FinMap, get, insert}
use Rattle.reservation_tree.proofs.Maps.{get_same, get_other, same_or_other}
use Rattle.pool_model.specs.declared.event.Event.{Event}
use Rattle.pool_model.specs.declared.entry.Entry.{Entry}
use Rattle.pool_model.specs.State.{State, dirty_of}
use Rattle.pool_model.specs.Parts.{without}
use Rattle.pool_model.specs.Orders.{dirtied, cleaned, is_page, last_time, InOrder, stands_in, dirty_for, clean_at, AreQueues}
use Rattle.pool_model.proofs.Queues.{stands_gone, stands_other, order_left, order_same}
use Rattle.pool_model.proofs.Times.{last_time_more}

pub lists_here : (dirty : FinMap nat_cmp (List ℕ)) (k : ℕ) (names : List ℕ) → unwrap_or (get (insert dirty k names) k) [] ≡ names
lists_here dirty k names = ap (λ (o : Option (List ℕ)). unwrap_or o []) (get_same dirty k names)

pub lists_beside : (dirty : FinMap nat_cmp (List ℕ)) (k : ℕ) (names : List ℕ) (c : ℕ) → c ≢ k → unwrap_or (get (insert dirty k names) c) [] ≡ unwrap_or (get dirty c) []
lists_beside dirty k names c apart = ap (λ (o : Option (List ℕ)). unwrap_or o []) (get_other dirty k names c apart)

pub and_false : (b : Bool) → (b && false) ≡ false
and_false true = refl
and_false false = refl

module _ (h : List Entry) (s new : State) (e : Entry) (queues : AreQueues h s) where
  -- times that no event changed
  same_time : (which : Event → Option ℕ) → which e.event ≡ None → (p : ℕ) → last_time which (h ++ e ∷ []) p ≡ last_time which h p
  same_time which none p = last_time_more which h e p false (ap (is_page p) none)

  pub still_dirty : dirtied e.event ≡ None → (names : List ℕ) → InOrder (last_time dirtied h) names → InOrder (last_time dirtied (h ++ e ∷ [])) names
  still_dirty none names order = order_same (last_time dirtied h) (last_time dirtied (h ++ e ∷ [])) names (λ q is. same_time dirtied none q) order

  pub still_clean : cleaned e.event ≡ None → (names : List ℕ) → InOrder (last_time cleaned h) names → InOrder (last_time cleaned (h ++ e ∷ [])) names
  still_clean none names order = order_same (last_time cleaned h) (last_time cleaned (h ++ e ∷ [])) names (λ q is. same_time cleaned none q) order

  -- no list changed
  pub unchanged : dirtied e.event ≡ None → cleaned e.event ≡ None → ((c : ℕ) → dirty_of new c ≡ dirty_of s c) → new.clean ≡ s.clean
      → ((c q : ℕ) → dirty_for c (get new.pages q) ≡ dirty_for c (get s.pages q)) → ((q : ℕ) → clean_at (get new.pages q) ≡ clean_at (get s.pages q)) → AreQueues (h ++ e ∷ []) new
  unchanged no_dirt no_wash dirty clean same_dirty same_clean = record {
    dirty = λ c. subst (InOrder (last_time dirtied (h ++ e ∷ []))) (sym (dirty c)) (still_dirty no_dirt (dirty_of s c) (queues.dirty c));
    dirty_ones = λ c p. ap (λ (names : List ℕ). stands_in names p) (dirty c) ∙ queues.dirty_ones c p ∙ sym (same_dirty c p);
    clean = subst (InOrder (last_time cleaned (h ++ e ∷ []))) (sym clean) (still_clean no_wash s.clean queues.clean);
    clean_ones = λ p. ap (λ (names : List ℕ). stands_in names p) clean ∙ queues.clean_ones p ∙ sym (same_clean p);
  }

  -- one page waits no more
  pub left : dirtied e.event ≡ None → cleaned e.event ≡ None → (p k : ℕ) → new.dirty ≡ insert s.dirty k (without p (dirty_of s k)) → new.clean ≡ without p s.clean
      → ((c : ℕ) → c ≢ k → dirty_for c (get s.pages p) ≡ false)
      → ((q : ℕ) → q ≢ p → get new.pages q ≡ get s.pages q) → ((c : ℕ) → dirty_for c (get new.pages p) ≡ false) → clean_at (get new.pages p) ≡ false → AreQueues (h ++ e ∷ []) new
  left no_dirt no_wash p k lists clean others same no_dirty no_clean =
      let here : dirty_of new k ≡ without p (dirty_of s k) = ap (λ (d : FinMap nat_cmp (List ℕ)). unwrap_or (get d k) []) lists ∙ lists_here s.dirty k (without p (dirty_of s k)) in
      let beside : (c : ℕ) → c ≢ k → dirty_of new c ≡ dirty_of s c = λ c apart.
      ap (λ (d : FinMap nat_cmp (List ℕ)). unwrap_or (get d c) []) lists ∙ lists_beside s.dirty k (without p (dirty_of s k)) c apart in
      record {
        dirty = λ c. elim (same_or_other c k) [
          | inl same_client ↦ subst (InOrder (last_time dirtied (h ++ e ∷ []))) (sym (ap (dirty_of new) same_client ∙ here))
              (still_dirty no_dirt (without p (dirty_of s k)) (order_left (last_time dirtied h) (dirty_of s k) p (queues.dirty k)))
          | inr apart ↦ subst (InOrder (last_time dirtied (h ++ e ∷ []))) (sym (beside c apart)) (still_dirty no_dirt (dirty_of s c) (queues.dirty c))
        ];
        dirty_ones = λ c q. elim (same_or_other c k) [
          | inl same_client ↦ ap (λ (names : List ℕ). stands_in names q) (ap (dirty_of new) same_client ∙ here) ∙ elim (same_or_other q p) [
            | inl at ↦ ap (stands_in (without p (dirty_of s k))) at ∙ stands_gone (dirty_of s k) p ∙ sym (no_dirty c) ∙ ap (λ (r : ℕ). dirty_for c (get new.pages r)) (sym at)
            | inr away ↦ stands_other (dirty_of s k) p q away ∙ ap (λ (d : ℕ). stands_in (dirty_of s d) q) (sym same_client) ∙ queues.dirty_ones c q ∙ ap (dirty_for c) (sym (same q away))
          ]
          | inr apart ↦ ap (λ (names : List ℕ). stands_in names q) (beside c apart) ∙ queues.dirty_ones c q ∙ elim (same_or_other q p) [
            | inl at ↦ ap (λ (r : ℕ). dirty_for c (get s.pages r)) at ∙ others c apart ∙ sym (no_dirty c) ∙ ap (λ (r : ℕ). dirty_for c (get new.pages r)) (sym at)
            | inr away ↦ ap (dirty_for c) (sym (same q away))
          ]
        ];
        clean = subst (InOrder (last_time cleaned (h ++ e ∷ []))) (sym clean) (still_clean no_wash (without p s.clean) (order_left (last_time cleaned h) s.clean p queues.clean));
        clean_ones = λ q. ap (λ (names : List ℕ). stands_in names q) clean ∙ elim (same_or_other q p) [
          | inl at ↦ ap (stands_in (without p s.clean)) at ∙ stands_gone s.clean p ∙ sym no_clean ∙ ap (λ (r : ℕ). clean_at (get new.pages r)) (sym at)
          | inr away ↦ stands_other s.clean p q away ∙ queues.clean_ones q ∙ ap clean_at (sym (same q away))
        ];
      }

  -- a client's list begins, or ends
  pub renewed : dirtied e.event ≡ None → cleaned e.event ≡ None → (t : ℕ) → dirty_of new t ≡ [] → ((c : ℕ) → c ≢ t → dirty_of new c ≡ dirty_of s c) → new.clean ≡ s.clean
      → ((q : ℕ) → get new.pages q ≡ get s.pages q) → ((q : ℕ) → dirty_for t (get s.pages q) ≡ false) → AreQueues (h ++ e ∷ []) new
  renewed no_dirt no_wash t empty beside clean same none = record {
    dirty = λ c. elim (same_or_other c t) [
      | inl at ↦ subst (InOrder (last_time dirtied (h ++ e ∷ []))) (sym (ap (dirty_of new) at ∙ empty)) tt
      | inr apart ↦ subst (InOrder (last_time dirtied (h ++ e ∷ []))) (sym (beside c apart)) (still_dirty no_dirt (dirty_of s c) (queues.dirty c))
    ];
    dirty_ones = λ c q. elim (same_or_other c t) [
      | inl at ↦ ap (λ (names : List ℕ). stands_in names q) (ap (dirty_of new) at ∙ empty) ∙ sym (none q) ∙ ap (λ (d : ℕ). dirty_for d (get s.pages q)) (sym at) ∙ ap (dirty_for c) (sym (same q))
      | inr apart ↦ ap (λ (names : List ℕ). stands_in names q) (beside c apart) ∙ queues.dirty_ones c q ∙ ap (dirty_for c) (sym (same q))
    ];
    clean = subst (InOrder (last_time cleaned (h ++ e ∷ []))) (sym clean) (still_clean no_wash s.clean queues.clean);
    clean_ones = λ q. ap (λ (names : List ℕ). stands_in names q) clean ∙ queues.clean_ones q ∙ ap clean_at (sym (same q));
  }
