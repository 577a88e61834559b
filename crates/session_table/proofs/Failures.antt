-- The failures that are noted of a session's clients, as a map, after each change.
use Rattle.std.proofs.Common.{◌≡◌, ℕ, ◌≢◌, true, false, not, eqb, List, [], ◌∷◌, ◌++◌, map, filter, Option, None, Some, unwrap_or, refl, ap, sym, ◌∙◌, subst, inl, inr}
use Rattle.std.specs.List.{IsDistinct}
use Rattle.std.specs.Option.{option_or}
use Rattle.std.specs.Ordering.{nat_cmp}
use Rattle.std.specs.FinMap.{FinMap, get, insert, remove, empty, get-empty}
use Rattle.std.proofs.lemmas.Bool.{cases_Bool, eqb-true, eq-eqb, false≢true, or_parts}
use Rattle.std.proofs.lemmas.Map.Keys.{IsDistinct-head, IsDistinct-tail}
use Rattle.std.specs.Cmp.{nat_eq_equiv}
use Rattle.reservation_tree.proofs.Maps.{get_same, get_other, removed_same, removed_other, alike, same_or_other, none_removed}
use Rattle.index_list.specs.Listing.{stands_in}
use Rattle.index_list.proofs.Members.{apart}
use Rattle.pool_model.specs.Parts.{keep_first}
use Rattle.pool_model.proofs.Keeping.{first_kept, others_kept}
use Rattle.session_table.specs.declared.member.Member.{Member}
use Rattle.session_table.specs.Seats.{Seat, trackers_of, first_of, noting, forgetting, with_member, without_member, noted, forgotten}
use Rattle.session_table.specs.Sessions.{with_first, failures_in}

module _ (failures : FinMap nat_cmp ℕ) (k : ℕ) where
  other_first : (failed : Option ℕ) (q : ℕ) → q ≢ k → get (with_first k failed failures) q ≡ get failures q
  other_first None q other = refl
  other_first (Some entry) q other = get_other failures k entry q other

  own_first : (failed : Option ℕ) → get failures k ≡ None → failed ≡ get (with_first k failed failures) k
  own_first None none = sym none
  own_first (Some entry) none = sym (get_same failures k entry)

  first_alike : (failed : Option ℕ) (more : FinMap nat_cmp ℕ) (q : ℕ) → get more q ≡ get failures q → get (with_first k failed more) q ≡ get (with_first k failed failures) q
  first_alike None more q is = is
  first_alike (Some entry) more q is = elim (same_or_other q k) [
    | inl here ↦ ap (get (insert more k entry)) here ∙ get_same more k entry ∙ sym (get_same failures k entry) ∙ ap (get (insert failures k entry)) (sym here)
    | inr there ↦ get_other more k entry q there ∙ is ∙ sym (get_other failures k entry q there)
  ]

  own_gone : (failed : Option ℕ) → remove failures k ≡ remove (with_first k failed failures) k
  own_gone None = refl
  own_gone (Some entry) = alike _ _ (λ q. elim (same_or_other q k) [
    | inl here ↦ ap (get (remove failures k)) here ∙ removed_same failures k ∙ sym (removed_same (insert failures k entry) k) ∙ ap (get (remove (insert failures k entry) k)) (sym here)
    | inr there ↦ removed_other failures k q there ∙ sym (get_other failures k entry q there) ∙ sym (removed_other (insert failures k entry) k q there)
  ])

  other_gone : (failed : Option ℕ) (t : ℕ) → k ≢ t → with_first k failed (remove failures t) ≡ remove (with_first k failed failures) t
  other_gone failed t apart = alike _ _ (λ q. elim (same_or_other q t) [
    | inl here ↦
        let other : q ≢ k = λ same. apart (sym same ∙ here) in
        other_first_of (remove failures t) failed q other
        ∙ ap (get (remove failures t)) here ∙ removed_same failures t ∙ sym (removed_same (with_first k failed failures) t)
        ∙ ap (get (remove (with_first k failed failures) t)) (sym here)
    | inr there ↦ first_alike failed (remove failures t) q (removed_other failures t q there) ∙ sym (removed_other (with_first k failed failures) t q there)
  ])
    where
      other_first_of : (more : FinMap nat_cmp ℕ) (failed : Option ℕ) (q : ℕ) → q ≢ k → get (with_first k failed more) q ≡ get more q
      other_first_of more None q other = refl
      other_first_of more (Some entry) q other = get_other more k entry q other

  keep_none : (entry : ℕ) → get failures k ≡ None → keep_first k entry failures ≡ insert failures k entry
  keep_none entry is = ap (λ (o : Option ℕ). elim o [ None ↦ insert failures k entry | Some first ↦ failures ]) is

  keep_some : (entry first : ℕ) → get failures k ≡ Some first → keep_first k entry failures ≡ failures
  keep_some entry first is = ap (λ (o : Option ℕ). elim o [ None ↦ insert failures k entry | Some j ↦ failures ]) is

module _ (failures : FinMap nat_cmp ℕ) where
  own_kept : (t entry : ℕ) (failed : Option ℕ) → get failures t ≡ None → insert failures t (unwrap_or failed entry) ≡ keep_first t entry (with_first t failed failures)
  own_kept t entry None none = sym (keep_none failures t entry none)
  own_kept t entry (Some first) none = sym (keep_some (insert failures t first) t entry first (get_same failures t first))

  other_kept : (k t entry : ℕ) (failed : Option ℕ) → k ≢ t → with_first k failed (keep_first t entry failures) ≡ keep_first t entry (with_first k failed failures)
  other_kept k t entry failed apart = alike _ _ (λ q. elim (same_or_other q t) [
    | inl here ↦
        let other : t ≢ k = λ same. apart (sym same) in
        ap (get (with_first k failed (keep_first t entry failures))) here
        ∙ other_first (keep_first t entry failures) k failed t other
        ∙ first_kept t entry failures
        ∙ ap (λ (o : Option ℕ). option_or o (Some entry)) (sym (other_first failures k failed t other))
        ∙ sym (first_kept t entry (with_first k failed failures))
        ∙ ap (get (keep_first t entry (with_first k failed failures))) (sym here)
    | inr there ↦
        first_alike failures k failed (keep_first t entry failures) q (others_kept t entry failures q there)
        ∙ sym (others_kept t entry (with_first k failed failures) q there)
  ])

-- no failure is noted of a client that isn't there
pub none_failed : (members : List Member) (t : ℕ) → stands_in t (trackers_of members) ≡ false → get (failures_in members) t ≡ None
none_failed [] t none = get-empty nat_cmp t
none_failed (m ∷ rest) t none =
    let parts = or_parts (eqb t m.tracker) (stands_in t (trackers_of rest)) none in
    let other : t ≢ m.tracker = λ same. false≢true (sym parts.0 ∙ eq-eqb t m.tracker same) in
    other_first (failures_in rest) m.tracker m.failed t other ∙ none_failed rest t parts.1

-- the first client is none of the rest
front_apart : (m : Member) (rest : List Member) → IsDistinct eqb (trackers_of (m ∷ rest)) → stands_in m.tracker (trackers_of rest) ≡ false
front_apart m rest distinct = apart m.tracker (trackers_of rest) (IsDistinct-head eqb m.tracker (trackers_of rest) distinct)

-- what is told of a client is what the map has
pub first_is : (members : List Member) (t : ℕ) → IsDistinct eqb (trackers_of members) → first_of members t ≡ get (failures_in members) t
first_is [] t distinct = sym (get-empty nat_cmp t)
first_is (m ∷ rest) t distinct = elim (cases_Bool (eqb m.tracker t)) [
  | inl is ↦
      let own : m.failed ≡ get (failures_in (m ∷ rest)) m.tracker = own_first (failures_in rest) m.tracker m.failed (none_failed rest m.tracker (front_apart m rest distinct)) in
      rw is (own ∙ ap (get (failures_in (m ∷ rest))) (eqb-true m.tracker t is))
  | inr is ↦
      let other : t ≢ m.tracker = λ same. false≢true (sym is ∙ eq-eqb m.tracker t (sym same)) in
      rw is (first_is rest t (IsDistinct-tail eqb m.tracker (trackers_of rest) distinct) ∙ sym (other_first (failures_in rest) m.tracker m.failed t other))
]

joined_of : (members : List Member) (t : ℕ) → failures_in (members ++ record { tracker = t; failed = None } ∷ []) ≡ failures_in members
joined_of [] t = refl
joined_of (m ∷ rest) t = ap (with_first m.tracker m.failed) (joined_of rest t)

pub failures_joined : (x : Seat) (t : ℕ) → failures_in (with_member t x).members ≡ failures_in x.members
failures_joined x t = joined_of x.members t

left_of : (members : List Member) (t : ℕ) → failures_in (filter (λ m. not (eqb m.tracker t)) members) ≡ remove (failures_in members) t
left_of [] t = sym (none_removed empty t (get-empty nat_cmp t))
left_of (m ∷ rest) t = elim (cases_Bool (eqb m.tracker t)) [
  | inl is ↦
      let own = own_gone (failures_in rest) m.tracker m.failed in
      rw is (left_of rest t ∙ subst (λ (q : ℕ). remove (failures_in rest) q ≡ remove (failures_in (m ∷ rest)) q) (eqb-true m.tracker t is) own)
  | inr is ↦
      let other : m.tracker ≢ t = λ same. false≢true (sym is ∙ eq-eqb m.tracker t same) in
      rw is (ap (with_first m.tracker m.failed) (left_of rest t) ∙ other_gone (failures_in rest) m.tracker m.failed t other)
]

pub failures_left : (x : Seat) (t : ℕ) → failures_in (without_member t x).members ≡ remove (failures_in x.members) t
failures_left x t = left_of x.members t

-- a failure of a client that isn't there is not noted
unnoted_of : (members : List Member) (t entry : ℕ) → stands_in t (trackers_of members) ≡ false → map (noting t entry) members ≡ members
unnoted_of [] t entry none = refl
unnoted_of (m ∷ rest) t entry none =
    let parts = or_parts (eqb t m.tracker) (stands_in t (trackers_of rest)) none in
    let other : eqb m.tracker t ≡ false = nat_eq_equiv.symm m.tracker t ∙ parts.0 in
    rw other (ap (λ (ms : List Member). m ∷ ms) (unnoted_of rest t entry parts.1))

noted_of : (members : List Member) (t entry : ℕ) → IsDistinct eqb (trackers_of members) → stands_in t (trackers_of members) ≡ true → failures_in (map (noting t entry) members) ≡ keep_first t entry (failures_in members)
noted_of [] t entry distinct there = absurd (false≢true there)
noted_of (m ∷ rest) t entry distinct there =
    let flip : eqb t m.tracker ≡ eqb m.tracker t = nat_eq_equiv.symm t m.tracker in
    elim (cases_Bool (eqb m.tracker t)) [
      | inl is ↦
          let same : m.tracker ≡ t = eqb-true m.tracker t is in
          let none : stands_in t (trackers_of rest) ≡ false = subst (λ (q : ℕ). stands_in q (trackers_of rest) ≡ false) same (front_apart m rest distinct) in
          let own : insert (failures_in rest) t (unwrap_or m.failed entry) ≡ keep_first t entry (with_first t m.failed (failures_in rest)) = own_kept (failures_in rest) t entry m.failed (none_failed rest t none) in
          rw (is, unnoted_of rest t entry none) (subst (λ (q : ℕ). insert (failures_in rest) q (unwrap_or m.failed entry) ≡ keep_first t entry (with_first q m.failed (failures_in rest))) (sym same) own)
      | inr is ↦
          let other : m.tracker ≢ t = λ same. false≢true (sym is ∙ eq-eqb m.tracker t same) in
          let later : stands_in t (trackers_of rest) ≡ true = rw (flip, is) at there in
          let more = noted_of rest t entry (IsDistinct-tail eqb m.tracker (trackers_of rest) distinct) later in
          rw is (ap (with_first m.tracker m.failed) more ∙ other_kept (failures_in rest) m.tracker t entry m.failed other)
    ]

pub failures_noted : (x : Seat) (t entry : ℕ) → IsDistinct eqb (trackers_of x.members) → stands_in t (trackers_of x.members) ≡ true → failures_in (noted t entry x).members ≡ keep_first t entry (failures_in x.members)
failures_noted x t entry distinct there = noted_of x.members t entry distinct there

forgotten_of : (members : List Member) → failures_in (map forgetting members) ≡ empty
forgotten_of [] = refl
forgotten_of (m ∷ rest) = forgotten_of rest

pub failures_forgotten : (x : Seat) → failures_in (forgotten x).members ≡ empty
failures_forgotten x = forgotten_of x.members
