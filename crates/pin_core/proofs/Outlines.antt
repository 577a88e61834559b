-- Who hangs under whom, and how many trackers are live, where reservations alone change.
use Rattle.std.proofs.Common.{◌≡◌, ℕ, zero, suc, ◌==◌, Bool, false, cond, List, [], ◌∷◌, length, Option, Some, None, IsSome, is_some, option_map, refl, ap, sym, ◌∙◌, inl, inr, arith}
use Rattle.std.specs.Ordering.{nat_cmp}
use Rattle.std.specs.FinMap.{FinMap, get, remove, empty, entries, len, get-empty, get-entries, len-entries, len-empty, empty_of_len, find}
use Rattle.std.proofs.lemmas.Bool.{false≢true}
use Rattle.reservation_tree.specs.Tracker.{Tracker, Trackers}
use Rattle.reservation_tree.proofs.Maps.{alike, found, len_less, removed_same, removed_other, same_number, same_or_other}
use Rattle.reservation_tree.proofs.Outline.{SameOutline, bare}
use Rattle.pool_model.specs.Sums.{is_client}
use Rattle.pin_core.specs.Invariant.{hangs_under, is_live_client}

some_key : {X : Type 0} (es : List (ℕ × X)) (n : ℕ) → length es ≡ suc n → (k : ℕ) × IsSome (find nat_cmp k es)
some_key [] n is = absurd (omega (arith, is))
some_key {X} (e ∷ es) n is = (e.0, ap (λ (b : Bool). is_some {T = X} (cond b (Some e.1) (find nat_cmp e.0 es))) (same_number e.0))

nothing : {Y : Type 0} (o : Option Y) → is_some o ≡ false → o ≡ None
nothing None is = refl
nothing (Some y) is = absurd (false≢true (sym is))

none_left : {Y : Type 0} (b : FinMap nat_cmp Y) → ((q : ℕ) → is_some (get b q) ≡ false) → b ≡ empty
none_left b none = alike b empty (λ q. nothing (get b q) (none q) ∙ sym (get-empty nat_cmp q))

module _ {X Y : Type 0} where
  -- maps with the same keys have as many
  pub len_domain : (n : ℕ) (a : FinMap nat_cmp X) (b : FinMap nat_cmp Y) → len a ≡ n → ((q : ℕ) → is_some (get b q) ≡ is_some (get a q)) → len b ≡ n
  len_domain zero a b is same =
      let bare_a : a ≡ empty = empty_of_len a is in
      let bare_b : b ≡ empty = none_left b (λ q. same q ∙ ap (λ (m : FinMap nat_cmp X). is_some (get m q)) bare_a ∙ ap (λ (o : Option X). is_some o) (get-empty nat_cmp q)) in
      ap len bare_b ∙ len-empty nat_cmp Y
  len_domain (suc n) a b is same =
      let key : (k : ℕ) × IsSome (find nat_cmp k (entries a)) = some_key (entries a) n (sym (len-entries a) ∙ is) in
      let k : ℕ = key.0 in
      let at_a : IsSome (get a k) = ap (λ (o : Option X). is_some o) (get-entries a k) ∙ key.1 in
      let x : (z : X) × (get a k ≡ Some z) = found (get a k) at_a in
      let y : (z : Y) × (get b k ≡ Some z) = found (get b k) (same k ∙ at_a) in
      let less_a = len_less a k x.0 x.1 in
      let less_b = len_less b k y.0 y.1 in
      let rest : len (remove b k) ≡ n = len_domain n (remove a k) (remove b k) (omega (arith, less_a, is)) (λ q. elim (same_or_other q k) [
        | inl here ↦ ap (λ (o : Option Y). is_some o) (ap (get (remove b k)) here ∙ removed_same b k) ∙ sym (ap (λ (o : Option X). is_some o) (ap (get (remove a k)) here ∙ removed_same a k))
        | inr other ↦ ap (λ (o : Option Y). is_some o) (removed_other b k q other) ∙ same q ∙ sym (ap (λ (o : Option X). is_some o) (removed_other a k q other))
      ]) in
      omega (arith, rest, less_b)

-- where a tracker hangs, and whether it is a client's
abbrev pub under_in : ℕ → Option Tracker → Bool
under_in parent o = elim o [ None ↦ false | Some x ↦ elim x.parent [ None ↦ false | Some p ↦ p == parent ] ]

abbrev pub client_in : Option Tracker → Bool
client_in o = elim o [ None ↦ false | Some x ↦ is_client x ]

under_bare : (parent : ℕ) (o : Option Tracker) → under_in parent (option_map bare o) ≡ under_in parent o
under_bare parent None = refl
under_bare parent (Some x) = refl

client_bare : (o : Option Tracker) → client_in (option_map bare o) ≡ client_in o
client_bare None = refl
client_bare (Some x) = refl

some_bare : (o : Option Tracker) → is_some (option_map bare o) ≡ is_some o
some_bare None = refl
some_bare (Some x) = refl

module _ (old new : Trackers) (same : SameOutline old new) where
  pub hangs_same : (parent t : ℕ) → hangs_under new parent t ≡ hangs_under old parent t
  hangs_same parent t = sym (under_bare parent (get new t)) ∙ ap (under_in parent) (same t) ∙ under_bare parent (get old t)

  pub client_same : (t : ℕ) → is_live_client new t ≡ is_live_client old t
  client_same t = sym (client_bare (get new t)) ∙ ap client_in (same t) ∙ client_bare (get old t)

  pub count_same : len new ≡ len old
  count_same = len_domain (len old) old new refl (λ q. sym (some_bare (get new q)) ∙ ap is_some (same q) ∙ some_bare (get old q))
