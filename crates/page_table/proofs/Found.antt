-- What the rows of a table say of its pages.
use Rattle.std.proofs.Common.{◌≡◌, ℕ, ◌<◌, ◌≢◌, Option, Some, None, option_map, refl, ap, sym, ◌∙◌, inl, inr, arith, ne_eqb, eq-eqb, eqb-true, nat_eq, IsTrue}
use Rattle.std.specs.FinMap.{insert}
use Rattle.std.specs.FinMap as map
use Rattle.slab.specs.Slab.{Slab, get}
use Rattle.page_table.specs.declared.page_id.PageId.{PageId}
use Rattle.page_table.specs.declared.row.Row.{Row}
use Rattle.page_table.specs.Pages.{Pages, IsLive, if_named, entry_of, id_of}
use Rattle.page_table.specs.Rows.{pages_in, AreApart, IsSound}
use Rattle.reservation_tree.proofs.Maps.{get_same, get_other, same_or_other, found}
use Rattle.page_table.proofs.Names.{name_in, get-names}
use Rattle.page_table.proofs.Entries.{one_of, entry-there, entry-absent}

abbrev id_named : ℕ → Option ℕ → Option PageId
id_named key o = option_map (λ name. record { name = name; key = key }) o

module _ {E : Type 0} where
  -- the row of a key that has this name
  pub row_of_name : (slot : Option (Row E)) (name : ℕ) → option_map name_in slot ≡ Some name → (row : Row E) × (slot ≡ Some row) × (row.name ≡ name)
  row_of_name None name is = absurd (cc)
  row_of_name (Some row) name is = (row, refl, cc)

  pub row_of_live : (rows : Slab (Row E)) (n r : ℕ) (t : Pages E) → pages_in rows n r ≡ t → (id : PageId) → IsLive t id → (row : Row E) × (get rows id.key ≡ Some row) × (row.name ≡ id.name)
  row_of_live rows n r t is id live =
      let named : option_map name_in (get rows id.key) ≡ Some id.name = sym (get-names rows id.key) ∙ ap (λ (p : Pages E). map.get p.names id.key) is ∙ live in
      row_of_name (get rows id.key) id.name named

  pub name_of_row : (rows : Slab (Row E)) (n r : ℕ) (t : Pages E) → pages_in rows n r ≡ t → (k : ℕ) (row : Row E) → get rows k ≡ Some row → map.get t.names k ≡ Some row.name
  name_of_row rows n r t is k row there =
      sym (ap (λ (p : Pages E). map.get p.names k) is) ∙ get-names rows k ∙ ap (option_map name_in) there

  pub no_name : (rows : Slab (Row E)) (n r : ℕ) (t : Pages E) → pages_in rows n r ≡ t → (k : ℕ) → get rows k ≡ None → map.get t.names k ≡ None
  no_name rows n r t is k none =
      sym (ap (λ (p : Pages E). map.get p.names k) is) ∙ get-names rows k ∙ ap (option_map name_in) none

  pub entry_of_row : (rows : Slab (Row E)) (n r : ℕ) (t : Pages E) → pages_in rows n r ≡ t → AreApart rows → (k : ℕ) (row : Row E) → get rows k ≡ Some row → map.get t.entries row.name ≡ Some row.entry
  entry_of_row rows n r t is apart k row there =
      sym (ap (λ (p : Pages E). map.get p.entries row.name) is) ∙ entry-there rows apart k row there

  pub if_same : (name : ℕ) (entry : Option E) → if_named (Some name) name entry ≡ entry
  if_same name entry = rw (eq-eqb name name refl) refl

  pub if_other : (name found : ℕ) (entry : Option E) → found ≢ name → if_named (Some found) name entry ≡ None
  if_other name found entry apart = rw (ne_eqb found name apart) refl

  -- the entry of a live page is the one under its name
  pub entry_of_live : (t : Pages E) (id : PageId) → IsLive t id → entry_of t id ≡ map.get t.entries id.name
  entry_of_live t id live =
      ap (λ (o : Option ℕ). if_named o id.name (map.get t.entries id.name)) live ∙ if_same id.name (map.get t.entries id.name)

  named_none : (name : ℕ) (o : Option ℕ) (entry : Option E) → (o ≡ Some name → ⊥) → if_named o name entry ≡ None
  named_none name None entry ended = refl
  named_none name (Some other) entry ended = if_other name other entry (λ same. ended (ap Some same))

  pub entry_of_ended : (t : Pages E) (id : PageId) → (IsLive t id → ⊥) → entry_of t id ≡ None
  entry_of_ended t id ended = named_none id.name (map.get t.names id.key) (map.get t.entries id.name) ended

  pub live_of_row : (rows : Slab (Row E)) (n r : ℕ) (t : Pages E) → pages_in rows n r ≡ t → (id : PageId) (row : Row E) → get rows id.key ≡ Some row → row.name ≡ id.name → IsLive t id
  live_of_row rows n r t is id row there named = name_of_row rows n r t is id.key row there ∙ ap Some named

  pub name_of_live : (rows : Slab (Row E)) (n r : ℕ) (t : Pages E) → pages_in rows n r ≡ t → (id : PageId) (row : Row E) → get rows id.key ≡ Some row → IsLive t id → row.name ≡ id.name
  name_of_live rows n r t is id row there live = one_of (map.get t.names id.key) row.name id.name (name_of_row rows n r t is id.key row there) live

  pub live_iff : (rows : Slab (Row E)) (n r : ℕ) (t : Pages E) → pages_in rows n r ≡ t → (id : PageId) (row : Row E) → get rows id.key ≡ Some row → (IsTrue (nat_eq row.name id.name) → IsLive t id) × (IsLive t id → IsTrue (nat_eq row.name id.name))
  live_iff rows n r t is id row there = (
    λ same. live_of_row rows n r t is id row there (eqb-true row.name id.name same),
    λ live. eq-eqb row.name id.name (name_of_live rows n r t is id row there live),
  )

  pub not_live : (rows : Slab (Row E)) (n r : ℕ) (t : Pages E) → pages_in rows n r ≡ t → (id : PageId) → get rows id.key ≡ None → IsLive t id → ⊥
  not_live rows n r t is id none live =
      let both : None ≡ Some id.name = sym (no_name rows n r t is id.key none) ∙ live in
      cc

  -- the entry of a row with the right name is the page's
  pub shown : (rows : Slab (Row E)) (n r : ℕ) (t : Pages E) → pages_in rows n r ≡ t → AreApart rows → (id : PageId) (row : Row E) → get rows id.key ≡ Some row → row.name ≡ id.name → Some row.entry ≡ entry_of t id
  shown rows n r t is apart id row there named =
      sym (entry_of_live t id (live_of_row rows n r t is id row there named) ∙ ap (map.get t.entries) (sym named) ∙ entry_of_row rows n r t is apart id.key row there)

  pub id_there : (rows : Slab (Row E)) (n r : ℕ) (t : Pages E) → pages_in rows n r ≡ t → (k : ℕ) (row : Row E) → get rows k ≡ Some row → Some (record { name = row.name; key = k }) ≡ id_of t k
  id_there rows n r t is k row there = sym (ap (λ (o : Option ℕ). id_named k o) (name_of_row rows n r t is k row there))

  pub no_id : (rows : Slab (Row E)) (n r : ℕ) (t : Pages E) → pages_in rows n r ≡ t → (k : ℕ) → get rows k ≡ None → None ≡ id_of t k
  no_id rows n r t is k none = sym (ap (λ (o : Option ℕ). id_named k o) (no_name rows n r t is k none))

  -- the next name is no live page's
  pub fresh : (rows : Slab (Row E)) (n r : ℕ) (t : Pages E) → IsSound rows n r → pages_in rows n r ≡ t → map.get t.entries n ≡ None
  fresh rows n r t sound is =
      sym (ap (λ (p : Pages E). map.get p.entries n) is) ∙ entry-absent rows n (λ q x at named. omega (arith, named, sound.below q x at))

  -- a name below the next one is found only where it was found before
  pub still : (t : Pages E) (k n : ℕ) (id : PageId) → id.name < n → map.get (insert t.names k n) id.key ≡ Some id.name → IsLive t id
  still t k n id old live = elim (same_or_other id.key k) [
    | inl here ↦
        let named : n ≡ id.name = one_of (map.get (insert t.names k n) id.key) n id.name (ap (map.get (insert t.names k n)) here ∙ get_same t.names k n) live in
        absurd (omega (arith, named, old))
    | inr away ↦ sym (get_other t.names k n id.key away) ∙ live
  ]
