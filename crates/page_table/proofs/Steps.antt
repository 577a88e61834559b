-- What each call leaves of the rows, and what that makes of the pages.
use Rattle.std.proofs.Common.{◌≡◌, ℕ, ◌+◌, ◌<◌, ◌≤◌, ◌≢◌, List, [], cond, Option, Some, None, IsSome, is_some, option_map, count_by, get_or, length, refl, ap, sym, ◌∙◌, subst, inl, inr, arith}
use Rattle.std.proofs.lemmas.List.Sums.{sum_by-set}
use Rattle.std.specs.Ordering.{nat_cmp}
use Rattle.std.specs.FinMap.{FinMap, insert, remove, len, empty, len-empty}
use Rattle.std.specs.FinMap as map
use Rattle.slab.specs.Slab.{Slab, get, slab_len, Updates, with_value}
use Rattle.slab.proofs.SlabLemmas.{Updates-with_value, ContainsKey-within}
use Rattle.page_table.specs.declared.page_id.PageId.{PageId}
use Rattle.page_table.specs.declared.row.Row.{Row}
use Rattle.page_table.specs.Pages.{Pages, IsLive, IsProper, opened, with_entry, with_page, without_page}
use Rattle.page_table.specs.Slots.{names_in, entries_in}
use Rattle.page_table.specs.Rows.{pages_in, IsSound}
use Rattle.reservation_tree.proofs.Maps.{same_or_other, found, is_there, len_same, len_more, len_less}
use Rattle.page_table.proofs.Names.{name_in, get-names, names-empty, names-put, names-kept, names-gone}
use Rattle.page_table.proofs.Entries.{one_of, entry-there, entry-absent, row_named, entries-empty}
use Rattle.page_table.proofs.Changes.{stood, put_there, IsOwn, apart-put, entries-put, apart-gone, entries-gone}
use Rattle.page_table.proofs.Found.{row_of_name, name_of_row}

module _ {E : Type 0} where
  abbrev filled : Option (Row E) → ℕ
  filled slot = cond {A = ℕ} (is_some slot) 1 0

  -- so many rows as there were, where one is written over
  count-kept : (rows : Slab (Row E)) (k : ℕ) (row v : Row E) → get rows k ≡ Some row → slab_len (with_value rows k v) ≡ slab_len rows
  count-kept rows k row v is =
      let within : k < length rows.slots = ContainsKey-within rows k (is_there (get rows k) row is) in
      let one : filled (get_or rows.slots k None) ≡ 1 = ap filled is in
      let sums = sum_by-set filled rows.slots k (Some v) None within in
      omega (arith, sums, one)

  -- what is kept of rows of which one was put
  sound-put : (old new : Slab (Row E)) (k n m r : ℕ) (row : Row E) → Updates old new k (Some row) → IsOwn old k row.name → IsSound old n r → n ≤ m → row.name < m → k < r → slab_len new ≡ len (entries_in new) → len (entries_in new) ≤ r → new.capacity ≡ old.capacity → IsSound new m r
  sound-put old new k n m r row up own sound rises named inside counted few same =
      record {
        apart = apart-put old new k row up own sound.apart;
        below = λ q x is. elim (same_or_other q k) [
          | inl here ↦ subst (λ (y : Row E). y.name < m) (put_there old new k row up q x here is) named
          | inr there ↦ omega (arith, rises, sound.below q x (stood old new k (Some row) up q x there is))
        ];
        keys = λ q x is. elim (same_or_other q k) [
          | inl here ↦ omega (arith, here, inside)
          | inr there ↦ sound.keys q x (stood old new k (Some row) up q x there is)
        ];
        counted = counted;
        few = few;
        capacity = same ∙ sound.capacity;
      }

  -- the rows are sound, and are these pages
  pub record Makes (rows : Slab (Row E)) (n r : ℕ) (t : Pages E) : Type 0 where
    pub sound : IsSound rows n r
    pub pages : pages_in rows n r ≡ t

  abbrev pages_of : FinMap nat_cmp E → FinMap nat_cmp ℕ → ℕ → ℕ → Pages E
  pages_of entries names n r = record { entries = entries; names = names; next_name = n; room = r }

  both_maps : (e1 e2 : FinMap nat_cmp E) (n1 n2 : FinMap nat_cmp ℕ) (n r : ℕ) → e1 ≡ e2 → n1 ≡ n2 → pages_of e1 n1 n r ≡ pages_of e2 n2 n r
  both_maps e1 e2 n1 n2 n r e is = ap (λ (m : FinMap nat_cmp E). pages_of m n1 n r) e ∙ ap (λ (m : FinMap nat_cmp ℕ). pages_of e2 m n r) is

  -- a live page's entry was written over
  pub wrote : (rows : Slab (Row E)) (n r : ℕ) (t : Pages E) → IsSound rows n r → pages_in rows n r ≡ t → (id : PageId) (row : Row E) (w : E) → IsLive t id → get rows id.key ≡ Some row → Makes (with_value rows id.key (record { name = row.name; entry = w })) n r (with_entry t id w)
  wrote rows n r t sound is id row w live there =
      let v : Row E = record { name = row.name; entry = w } in
      let new : Slab (Row E) = with_value rows id.key v in
      let up : Updates rows new id.key (Some v) = Updates-with_value rows id.key v (is_there (get rows id.key) row there) in
      let own : IsOwn rows id.key row.name = λ q x away at same. away (sound.apart q id.key x row at there same) in
      let entries : entries_in new ≡ insert (entries_in rows) row.name w = entries-put rows new id.key v up own (λ was at. ap (λ (x : Row E). x.name) (one_of (get rows id.key) was row at there)) sound.apart in
      let names : names_in new ≡ names_in rows = names-kept rows new id.key v row up there refl in
      let size : len (entries_in new) ≡ len (entries_in rows) = ap len entries ∙ len_same (entries_in rows) row.name row.entry w (entry-there rows sound.apart id.key row there) in
      let named : row.name ≡ id.name = same_name (map.get t.names id.key) (name_of_row rows n r t is id.key row there) live in
      record {
        sound = sound-put rows new id.key n n r v up own sound (omega arith) (sound.below id.key row there) (sound.keys id.key row there) (count-kept rows id.key row v there ∙ sound.counted ∙ sym size) (omega (arith, size, sound.few)) refl;
        pages = both_maps (entries_in new) (insert (entries_in rows) row.name w) (names_in new) (names_in rows) n r entries names
            ∙ ap (λ (p : Pages E). record p { entries = insert p.entries row.name w }) is
            ∙ ap (λ (q : ℕ). record t { entries = insert t.entries q w }) named;
      }
    where
      same_name : {a b : ℕ} (o : Option ℕ) → o ≡ Some a → o ≡ Some b → a ≡ b
      same_name {a} {b} o x y = one_of o a b x y

  -- a page came under the next name
  pub came : (old new : Slab (Row E)) (n r : ℕ) (t : Pages E) → IsSound old n r → pages_in old n r ≡ t → (k : ℕ) (entry : E) → Updates old new k (Some (record { name = n; entry = entry })) → get old k ≡ None → slab_len new ≡ slab_len old + 1 → k < new.capacity → new.capacity ≡ old.capacity → len t.entries < r → Makes new (n + 1) r (with_page t (record { name = n; key = k }) entry)
  came old new n r t sound is k entry up vacant count inside same room =
      let v : Row E = record { name = n; entry = entry } in
      let own : IsOwn old k n = λ q x away at named. omega (arith, named, sound.below q x at) in
      let was_absent : map.get (entries_in old) n ≡ None = entry-absent old n (λ q x at named. omega (arith, named, sound.below q x at)) in
      let entries : entries_in new ≡ insert (entries_in old) n entry = entries-put old new k v up own (λ was at. absurd (none_is (get old k) was vacant at)) sound.apart in
      let names : names_in new ≡ insert (names_in old) k n = names-put old new k v up in
      let size : len (entries_in new) ≡ len (entries_in old) + 1 = ap len entries ∙ len_more (entries_in old) n entry was_absent in
      let before : len (entries_in old) ≡ len t.entries = ap (λ (p : Pages E). len p.entries) is in
      record {
        sound = sound-put old new k n (n + 1) r v up own sound (omega arith) (omega arith) (omega (arith, inside, same, sound.capacity)) (omega (arith, count, size, sound.counted)) (omega (arith, size, before, room)) same;
        pages = both_maps (entries_in new) (insert (entries_in old) n entry) (names_in new) (insert (names_in old) k n) (n + 1) r entries names
            ∙ ap (λ (p : Pages E). record { entries = insert p.entries n entry; names = insert p.names k n; next_name = n + 1; room = r }) is
            ∙ ap (λ (q : ℕ). record { entries = insert t.entries n entry; names = insert t.names k n; next_name = q + 1; room = r }) (ap (λ (p : Pages E). p.next_name) is)
            ∙ ap (λ (q : ℕ). record { entries = insert t.entries n entry; names = insert t.names k n; next_name = t.next_name + 1; room = q }) (ap (λ (p : Pages E). p.room) is);
      }
    where
      none_is : {X : Type 0} (o : Option X) (x : X) → o ≡ None → o ≡ Some x → ⊥
      none_is None x a b = cc
      none_is (Some y) x a b = cc

  -- a page ended
  pub went : (old new : Slab (Row E)) (n r : ℕ) (t : Pages E) → IsSound old n r → pages_in old n r ≡ t → (id : PageId) (row : Row E) → IsLive t id → get old id.key ≡ Some row → Updates old new id.key None → slab_len new + 1 ≡ slab_len old → new.capacity ≡ old.capacity → Makes new n r (without_page t id)
  went old new n r t sound is id row live there up count same =
      let named : row.name ≡ id.name = one_of (map.get t.names id.key) row.name id.name (name_of_row old n r t is id.key row there) live in
      let entries : entries_in new ≡ remove (entries_in old) row.name = entries-gone old new id.key row up there sound.apart in
      let names : names_in new ≡ remove (names_in old) id.key = names-gone old new id.key up in
      let size : len (entries_in new) + 1 ≡ len (entries_in old) = ap (λ (m : FinMap nat_cmp E). len m + 1) entries ∙ len_less (entries_in old) row.name row.entry (entry-there old sound.apart id.key row there) in
      record {
        sound = record {
          apart = apart-gone old new id.key up sound.apart;
          below = λ q x at. sound.below q x (stays q x at);
          keys = λ q x at. sound.keys q x (stays q x at);
          counted = omega (arith, count, size, sound.counted);
          few = omega (arith, size, sound.few);
          capacity = same ∙ sound.capacity;
        };
        pages = both_maps (entries_in new) (remove (entries_in old) row.name) (names_in new) (remove (names_in old) id.key) n r entries names
            ∙ ap (λ (p : Pages E). record p { entries = remove p.entries row.name; names = remove p.names id.key }) is
            ∙ ap (λ (q : ℕ). record t { entries = remove t.entries q; names = remove t.names id.key }) named;
      }
    where
      stays : (q : ℕ) (x : Row E) → get new q ≡ Some x → get old q ≡ Some x
      stays q x at = elim (same_or_other q id.key) [
        | inl here ↦
            let both : None ≡ Some x = sym up.changed ∙ ap (λ (k : ℕ). get new k) (sym here) ∙ at in
            absurd (cc)
        | inr away ↦ stood old new id.key None up q x away at
      ]

  -- a table that was just opened
  pub opens : (rows : Slab (Row E)) (n r : ℕ) → rows.slots ≡ [] → rows.capacity ≡ r → Makes rows n r (opened r n)
  opens rows n r clean room =
      let entries : entries_in rows ≡ empty = entries-empty rows clean in
      let names : names_in rows ≡ empty = names-empty rows clean in
      let no_row : (k : ℕ) (x : Row E) → get rows k ≡ Some x → ⊥ = λ k x is. (
      let both : None ≡ Some x = sym (ap (λ (slots : List (Option (Row E))). get_or slots k None) clean) ∙ is in
      cc) in
      let none : len (entries_in rows) ≡ 0 = ap len entries ∙ none_live in
      record {
        sound = record {
          apart = λ q k x y isx isy same. absurd (no_row q x isx);
          below = λ q x is. absurd (no_row q x is);
          keys = λ q x is. absurd (no_row q x is);
          counted = ap (λ (slots : List (Option (Row E))). count_by is_some slots) clean ∙ sym none;
          few = omega (arith, none);
          capacity = room;
        };
        pages = both_maps (entries_in rows) empty (names_in rows) empty n r entries names;
      }
    where
      none_live : len (empty {X = E} {R = nat_cmp}) ≡ 0
      none_live = len-empty nat_cmp E

  -- what holds of the pages of sound rows
  pub proper : (rows : Slab (Row E)) (n r : ℕ) (t : Pages E) → IsSound rows n r → pages_in rows n r ≡ t → IsProper t
  proper rows n r t sound is = subst (λ (p : Pages E). IsProper p) is (record {
    named = λ key name at.
        (let row = row_of_name (get rows key) name (sym (get-names rows key) ∙ at) in
        is_there (map.get (entries_in rows) name) row.0.entry (ap (map.get (entries_in rows)) (sym row.2) ∙ entry-there rows sound.apart key row.0 row.1));
    keyed = λ name there. elim (row_named rows name) [
      | inl row ↦ (row.0, get-names rows row.0 ∙ ap (option_map name_in) row.2 ∙ ap Some row.3)
      | inr none ↦ absurd (gone name there none)
    ];
    apart = λ key other name at there.
        (let a = row_of_name (get rows key) name (sym (get-names rows key) ∙ at) in
        let b = row_of_name (get rows other) name (sym (get-names rows other) ∙ there) in
        sound.apart key other a.0 b.0 a.1 b.1 (a.2 ∙ sym b.2));
    keys = λ key name at.
        (let row = row_of_name (get rows key) name (sym (get-names rows key) ∙ at) in
        sound.keys key row.0 row.1);
    below = λ name there. elim (row_named rows name) [
      | inl row ↦ omega (arith, row.3, sound.below row.0 row.1 row.2)
      | inr none ↦ absurd (gone name there none)
    ];
    few = sound.few;
  })
    where
      gone : (name : ℕ) → IsSome (map.get (entries_in rows) name) → ((k : ℕ) (row : Row E) → get rows k ≡ Some row → row.name ≢ name) → ⊥
      gone name there none =
          let some = found (map.get (entries_in rows) name) there in
          let both : None ≡ Some some.0 = sym (entry-absent rows name none) ∙ some.1 in
          cc
