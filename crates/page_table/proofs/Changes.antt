-- What becomes of the map of entries where one row changes.
use Rattle.std.proofs.Common.{◌≡◌, ℕ, ◌≢◌, Option, Some, None, ap, sym, ◌∙◌, inl, inr}
use Rattle.std.specs.FinMap.{insert, remove}
use Rattle.std.specs.FinMap as map
use Rattle.slab.specs.Slab.{Slab, get, Updates}
use Rattle.page_table.specs.declared.row.Row.{Row}
use Rattle.page_table.specs.Slots.{entries_in}
use Rattle.page_table.specs.Rows.{AreApart}
use Rattle.reservation_tree.proofs.Maps.{get_same, get_other, removed_same, removed_other, alike, same_or_other}
use Rattle.page_table.proofs.Entries.{one_of, entry-there, entry-absent, row_named}

module _ {E : Type 0} where
  abbrev get_in : Slab (Row E) → ℕ → Option (Row E)
  get_in s k = get s k

  -- what stands elsewhere than at k stood there before
  pub stood : (old new : Slab (Row E)) (k : ℕ) (slot : Option (Row E)) → Updates old new k slot → (q : ℕ) (row : Row E) → q ≢ k → get new q ≡ Some row → get old q ≡ Some row
  stood old new k slot up q row apart is = sym (up.others q apart) ∙ is

  pub stands : (old new : Slab (Row E)) (k : ℕ) (slot : Option (Row E)) → Updates old new k slot → (q : ℕ) (row : Row E) → q ≢ k → get old q ≡ Some row → get new q ≡ Some row
  stands old new k slot up q row apart is = up.others q apart ∙ is

  -- what stands at k is what was put there
  pub put_there : (old new : Slab (Row E)) (k : ℕ) (row : Row E) → Updates old new k (Some row) → (q : ℕ) (found : Row E) → q ≡ k → get new q ≡ Some found → row ≡ found
  put_there old new k row up q found here is = one_of (get_in new k) row found up.changed (ap (get_in new) (sym here) ∙ is)

  -- the name of a row that is put stands nowhere else
  abbrev pub IsOwn : Slab (Row E) → ℕ → ℕ → Type 0
  IsOwn old k name = (q : ℕ) (row : Row E) → q ≢ k → get old q ≡ Some row → row.name ≢ name

  pub apart-put : (old new : Slab (Row E)) (k : ℕ) (row : Row E) → Updates old new k (Some row) → IsOwn old k row.name → AreApart old → AreApart new
  apart-put old new k row up own apart q r a b isa isb same = elim (same_or_other q k) [
    | inl qk ↦ elim (same_or_other r k) [
      | inl rk ↦ qk ∙ sym rk
      | inr rn ↦ absurd (own r b rn (stood old new k (Some row) up r b rn isb) (sym same ∙ sym (ap (λ (x : Row E). x.name) (put_there old new k row up q a qk isa))))
    ]
    | inr qn ↦ elim (same_or_other r k) [
      | inl rk ↦ absurd (own q a qn (stood old new k (Some row) up q a qn isa) (same ∙ sym (ap (λ (x : Row E). x.name) (put_there old new k row up r b rk isb))))
      | inr rn ↦ apart q r a b (stood old new k (Some row) up q a qn isa) (stood old new k (Some row) up r b rn isb) same
    ]
  ]

  pub entries-put : (old new : Slab (Row E)) (k : ℕ) (row : Row E) → Updates old new k (Some row) → IsOwn old k row.name → ((was : Row E) → get old k ≡ Some was → was.name ≡ row.name) → AreApart old → entries_in new ≡ insert (entries_in old) row.name row.entry
  entries-put old new k row up own kept apart =
      let apart2 : AreApart new = apart-put old new k row up own apart in
      alike (entries_in new) (insert (entries_in old) row.name row.entry) (λ q. elim (same_or_other q row.name) [
        | inl here ↦
            ap (map.get (entries_in new)) here ∙ entry-there new apart2 k row up.changed
            ∙ sym (get_same (entries_in old) row.name row.entry) ∙ ap (map.get (insert (entries_in old) row.name row.entry)) (sym here)
        | inr other ↦ elim (row_named new q) [
          | inl found ↦
              let named : found.1.name ≡ q = found.3 in
              let away : found.0 ≢ k = λ at. other (sym named ∙ sym (ap (λ (x : Row E). x.name) (put_there old new k row up found.0 found.1 at found.2))) in
              ap (map.get (entries_in new)) (sym named) ∙ entry-there new apart2 found.0 found.1 found.2
              ∙ sym (entry-there old apart found.0 found.1 (stood old new k (Some row) up found.0 found.1 away found.2))
              ∙ ap (map.get (entries_in old)) named ∙ sym (get_other (entries_in old) row.name row.entry q other)
          | inr none ↦
              entry-absent new q none
              ∙ sym (entry-absent old q (λ i r is named. elim (same_or_other i k) [
                | inl at ↦ other (sym named ∙ kept r (ap (get_in old) (sym at) ∙ is))
                | inr away ↦ none i r (stands old new k (Some row) up i r away is) named
              ]))
              ∙ sym (get_other (entries_in old) row.name row.entry q other)
        ]
      ])

  pub apart-gone : (old new : Slab (Row E)) (k : ℕ) → Updates old new k None → AreApart old → AreApart new
  apart-gone old new k up apart q r a b isa isb same =
      let qn : q ≢ k = λ at. not_there new k q a up.changed at isa in
      let rn : r ≢ k = λ at. not_there new k r b up.changed at isb in
      apart q r a b (stood old new k None up q a qn isa) (stood old new k None up r b rn isb) same
    where
      not_there : (s : Slab (Row E)) (key other : ℕ) (x : Row E) → get s key ≡ None → other ≡ key → get s other ≡ Some x → ⊥
      not_there s key other x none at is =
          let both : None ≡ Some x = sym none ∙ ap (get_in s) (sym at) ∙ is in
          cc

  pub entries-gone : (old new : Slab (Row E)) (k : ℕ) (row : Row E) → Updates old new k None → get old k ≡ Some row → AreApart old → entries_in new ≡ remove (entries_in old) row.name
  entries-gone old new k row up is apart =
      let apart2 : AreApart new = apart-gone old new k up apart in
      alike (entries_in new) (remove (entries_in old) row.name) (λ q. elim (same_or_other q row.name) [
        | inl here ↦
            entry-absent new q (λ i r there named. elim (same_or_other i k) [
              | inl at ↦ vacant new k i r up.changed at there
              | inr away ↦ away (apart i k r row (stood old new k None up i r away there) is (named ∙ here))
            ])
            ∙ sym (removed_same (entries_in old) row.name) ∙ ap (map.get (remove (entries_in old) row.name)) (sym here)
        | inr other ↦ elim (row_named new q) [
          | inl found ↦
              let named : found.1.name ≡ q = found.3 in
              let away : found.0 ≢ k = λ at. vacant new k found.0 found.1 up.changed at found.2 in
              ap (map.get (entries_in new)) (sym named) ∙ entry-there new apart2 found.0 found.1 found.2
              ∙ sym (entry-there old apart found.0 found.1 (stood old new k None up found.0 found.1 away found.2))
              ∙ ap (map.get (entries_in old)) named ∙ sym (removed_other (entries_in old) row.name q other)
          | inr none ↦
              entry-absent new q none
              ∙ sym (entry-absent old q (λ i r there named. elim (same_or_other i k) [
                | inl at ↦ other (sym named ∙ ap (λ (x : Row E). x.name) (one_of (get_in old k) r row (ap (get_in old) (sym at) ∙ there) is))
                | inr away ↦ none i r (stands old new k None up i r away there) named
              ]))
              ∙ sym (removed_other (entries_in old) row.name q other)
        ]
      ])
    where
      vacant : (s : Slab (Row E)) (key other : ℕ) (x : Row E) → get s key ≡ None → other ≡ key → get s other ≡ Some x → ⊥
      vacant s key other x none at there =
          let both : None ≡ Some x = sym none ∙ ap (get_in s) (sym at) ∙ there in
          cc
