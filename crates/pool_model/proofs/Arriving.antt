-- The lists of waiting pages, when one page comes to one of them.
use Rattle.std.proofs.Common.{◌≡◌, ◌≢◌, ℕ, ◌==◌, true, false, Option, Some, None, IsSome, unwrap_or, List, [], ◌∷◌, ◌++◌, length, refl, ap, sym, ◌∙◌, subst, inl, inr, eq-eqb, ne_eqb}
use Rattle.std.specs.Ordering.{nat_cmp}
use Rattle.std.specs.FinMap.{FinMap, get, insert}
use Rattle.reservation_tree.proofs.Maps.{same_or_other}
use Rattle.pool_model.specs.declared.event.Event.{Event}
use Rattle.pool_model.specs.declared.entry.Entry.{Entry}
use Rattle.pool_model.specs.State.{State, dirty_of}
use Rattle.pool_model.specs.Orders.{dirtied, cleaned, is_page, last_time, IsBefore, InOrder, stands_in, dirty_for, clean_at, AreQueues}
use Rattle.pool_model.proofs.Queues.{stands_new, stands_old, has_time, order_same, order_last}
use Rattle.pool_model.proofs.Times.{last_time_more, AreBelow, before_next}
use Rattle.pool_model.proofs.Waiting.{lists_here, lists_beside, still_dirty, still_clean}

module _ (h : List Entry) (s new : State) (e : Entry) (queues : AreQueues h s) where
  -- the time of the page that came, and of others
  new_time : (which : Event → Option ℕ) (p : ℕ) → which e.event ≡ Some p → last_time which (h ++ e ∷ []) p ≡ Some (length h)
  new_time which p is = last_time_more which h e p true (ap (is_page p) is ∙ eq-eqb p p refl)

  other_time : (which : Event → Option ℕ) (p : ℕ) → which e.event ≡ Some p → (q : ℕ) → q ≢ p → last_time which (h ++ e ∷ []) q ≡ last_time which h q
  other_time which p is q apart = last_time_more which h e q false (ap (is_page q) is ∙ ne_eqb p q (λ same. apart (sym same)))

  -- a list that the page isn't in keeps its order, and has it behind when it comes
  kept_order : (which : Event → Option ℕ) (p : ℕ) → which e.event ≡ Some p → (names : List ℕ) → stands_in names p ≡ false → InOrder (last_time which h) names → InOrder (last_time which (h ++ e ∷ [])) names
  kept_order which p is names out order = order_same (last_time which h) (last_time which (h ++ e ∷ [])) names
      (λ q stands. other_time which p is q (λ same. let no : false ≡ true = sym out ∙ ap (stands_in names) (sym same) ∙ stands in cc)) order

  order_more : (which : Event → Option ℕ) → AreBelow which h → (p : ℕ) → which e.event ≡ Some p → (names : List ℕ) → stands_in names p ≡ false → InOrder (last_time which h) names
      → InOrder (last_time which (h ++ e ∷ [])) (names ++ p ∷ [])
  order_more which below p is names out order =
      let kept : InOrder (last_time which (h ++ e ∷ [])) names = kept_order which p is names out order in
      order_last (last_time which (h ++ e ∷ [])) names p kept (subst IsSome (sym (new_time which p is)) refl)
      (λ q stands.
      let apart : q ≢ p = λ same. let no : false ≡ true = sym out ∙ ap (stands_in names) (sym same) ∙ stands in cc in
      subst (λ (o : Option ℕ). IsBefore (last_time which (h ++ e ∷ []) q) o) (sym (new_time which p is))
      (subst (λ (o : Option ℕ). IsBefore o (Some (length h))) (sym (other_time which p is q apart))
      (before_next which h below q (last_time which h q) refl (has_time (last_time which h) names order q stands))))

  -- a page comes to its client's dirty ones
  pub queued : cleaned e.event ≡ None → AreBelow dirtied h → (p k : ℕ) → dirtied e.event ≡ Some p → new.dirty ≡ insert s.dirty k (dirty_of s k ++ p ∷ []) → new.clean ≡ s.clean
      → ((c : ℕ) → dirty_for c (get s.pages p) ≡ false) → clean_at (get s.pages p) ≡ false
      → ((q : ℕ) → q ≢ p → get new.pages q ≡ get s.pages q) → ((c : ℕ) → dirty_for c (get new.pages p) ≡ (k == c)) → clean_at (get new.pages p) ≡ false → AreQueues (h ++ e ∷ []) new
  queued no_wash below p k is lists clean not_dirty not_clean same now_dirty still_not =
      let here : dirty_of new k ≡ dirty_of s k ++ p ∷ [] = ap (λ (d : FinMap nat_cmp (List ℕ)). unwrap_or (get d k) []) lists ∙ lists_here s.dirty k (dirty_of s k ++ p ∷ []) in
      let beside : (c : ℕ) → c ≢ k → dirty_of new c ≡ dirty_of s c = λ c apart.
      ap (λ (d : FinMap nat_cmp (List ℕ)). unwrap_or (get d c) []) lists ∙ lists_beside s.dirty k (dirty_of s k ++ p ∷ []) c apart in
      let out : (c : ℕ) → stands_in (dirty_of s c) p ≡ false = λ c. queues.dirty_ones c p ∙ not_dirty c in
      record {
        dirty = λ c. elim (same_or_other c k) [
          | inl same_client ↦ subst (InOrder (last_time dirtied (h ++ e ∷ []))) (sym (ap (dirty_of new) same_client ∙ here)) (order_more dirtied below p is (dirty_of s k) (out k) (queues.dirty k))
          | inr apart ↦ subst (InOrder (last_time dirtied (h ++ e ∷ []))) (sym (beside c apart)) (kept_order dirtied p is (dirty_of s c) (out c) (queues.dirty c))
        ];
        dirty_ones = λ c q. elim (same_or_other c k) [
          | inl same_client ↦ ap (λ (names : List ℕ). stands_in names q) (ap (dirty_of new) same_client ∙ here) ∙ elim (same_or_other q p) [
            | inl at ↦ ap (stands_in (dirty_of s k ++ p ∷ [])) at ∙ stands_new (dirty_of s k) p ∙ sym (eq-eqb k c (sym same_client)) ∙ sym (now_dirty c) ∙ ap (λ (r : ℕ). dirty_for c (get new.pages r)) (sym at)
            | inr away ↦ stands_old (dirty_of s k) p q away ∙ ap (λ (d : ℕ). stands_in (dirty_of s d) q) (sym same_client) ∙ queues.dirty_ones c q ∙ ap (dirty_for c) (sym (same q away))
          ]
          | inr apart ↦ ap (λ (names : List ℕ). stands_in names q) (beside c apart) ∙ queues.dirty_ones c q ∙ elim (same_or_other q p) [
            | inl at ↦ ap (λ (r : ℕ). dirty_for c (get s.pages r)) at ∙ not_dirty c ∙ sym (ne_eqb k c (λ same_client. apart (sym same_client))) ∙ sym (now_dirty c) ∙ ap (λ (r : ℕ). dirty_for c (get new.pages r)) (sym at)
            | inr away ↦ ap (dirty_for c) (sym (same q away))
          ]
        ];
        clean = subst (InOrder (last_time cleaned (h ++ e ∷ []))) (sym clean) (still_clean h s new e queues no_wash s.clean queues.clean);
        clean_ones = λ q. ap (λ (names : List ℕ). stands_in names q) clean ∙ queues.clean_ones q ∙ elim (same_or_other q p) [
          | inl at ↦ ap (λ (r : ℕ). clean_at (get s.pages r)) at ∙ not_clean ∙ sym still_not ∙ ap (λ (r : ℕ). clean_at (get new.pages r)) (sym at)
          | inr away ↦ ap clean_at (sym (same q away))
        ];
      }

  -- a page comes to the clean ones
  pub washed : dirtied e.event ≡ None → AreBelow cleaned h → (p : ℕ) → cleaned e.event ≡ Some p → ((c : ℕ) → dirty_of new c ≡ dirty_of s c) → new.clean ≡ s.clean ++ p ∷ []
      → clean_at (get s.pages p) ≡ false → ((q : ℕ) → q ≢ p → get new.pages q ≡ get s.pages q) → ((c : ℕ) → dirty_for c (get new.pages p) ≡ dirty_for c (get s.pages p)) → clean_at (get new.pages p) ≡ true
      → AreQueues (h ++ e ∷ []) new
  washed no_dirt below p is dirty clean not_clean same same_dirty now_clean =
      let out : stands_in s.clean p ≡ false = queues.clean_ones p ∙ not_clean in
      record {
        dirty = λ c. subst (InOrder (last_time dirtied (h ++ e ∷ []))) (sym (dirty c)) (still_dirty h s new e queues no_dirt (dirty_of s c) (queues.dirty c));
        dirty_ones = λ c q. ap (λ (names : List ℕ). stands_in names q) (dirty c) ∙ queues.dirty_ones c q ∙ elim (same_or_other q p) [
          | inl at ↦ ap (λ (r : ℕ). dirty_for c (get s.pages r)) at ∙ sym (same_dirty c) ∙ ap (λ (r : ℕ). dirty_for c (get new.pages r)) (sym at)
          | inr away ↦ ap (dirty_for c) (sym (same q away))
        ];
        clean = subst (InOrder (last_time cleaned (h ++ e ∷ []))) (sym clean) (order_more cleaned below p is s.clean out queues.clean);
        clean_ones = λ q. ap (λ (names : List ℕ). stands_in names q) clean ∙ elim (same_or_other q p) [
          | inl at ↦ ap (stands_in (s.clean ++ p ∷ [])) at ∙ stands_new s.clean p ∙ sym now_clean ∙ ap (λ (r : ℕ). clean_at (get new.pages r)) (sym at)
          | inr away ↦ stands_old s.clean p q away ∙ queues.clean_ones q ∙ ap clean_at (sym (same q away))
        ];
      }
