-- The live pages that a table knows. A page's name is its own for ever; its key comes again.
use Rattle.std.specs.Prelude.{◌≡◌, ℕ, ◌+◌, ◌-◌, ◌^◌, ◌<◌, ◌≤◌, ◌==◌, if◌then◌else◌, Option, Some, None, IsSome, option_map, refl}
use Rattle.std.specs.Ordering.{nat_cmp}
use Rattle.std.specs.FinMap.{FinMap, get, insert, remove, empty, len, code}
use Rattle.std.specs.Coded.{Coded, code_by, coded×, coded_ℕ}
use Rattle.page_table.specs.declared.page_id.PageId.{PageId}
use Rattle.page_table.specs.declared.entry.Entry.{Entry}
use Rattle.page_table.specs.declared.entry.Mem.{Mem}
use Rattle.page_table.specs.declared.entry.Place.TheVariants.{Pinned}

-- the entry of each live page by its name, the name of each live page by its key, the name of the
-- next page, and how many pages may be live
pub record Pages (E : Type 0) : Type 0 where
  pub entries : FinMap nat_cmp E
  pub names : FinMap nat_cmp ℕ
  pub next_name : ℕ
  pub room : ℕ

-- pages are stored as the tuple of their fields
abbrev pub pages_code : {E : Type 0} → Coded E → Coded (Pages E)
pages_code {E} entry_code =
    code_by
    (FinMap nat_cmp E × (FinMap nat_cmp ℕ × (ℕ × ℕ)))
    (coded× (code coded_ℕ entry_code) (coded× (code coded_ℕ coded_ℕ) (coded× coded_ℕ coded_ℕ)))
    (λ t. (t.entries, (t.names, (t.next_name, t.room))))
    (λ p. record { entries = p.0; names = p.1.0; next_name = p.1.1.0; room = p.1.1.1 })
    (λ _. refl)

module _ {E : Type 0} where
  -- the page with this key and this name is live
  abbrev pub IsLive : Pages E → PageId → Type 0
  IsLive t id = get t.names id.key ≡ Some id.name

  -- the entry where the key has this name, and else none
  abbrev pub if_named : Option ℕ → ℕ → Option E → Option E
  if_named None name entry = None
  if_named (Some found) name entry = if found == name then entry else None

  -- the entry of a live page
  abbrev pub entry_of : Pages E → PageId → Option E
  entry_of t id = if_named (get t.names id.key) id.name (get t.entries id.name)

  -- the live page with this key
  abbrev pub id_of : Pages E → ℕ → Option PageId
  id_of t key = option_map (λ name. record { name = name; key = key }) (get t.names key)

  -- the next name would be the last number of all
  abbrev pub IsSpent : Pages E → Type 0
  IsSpent t = t.next_name ≡ 2 ^ 64 - 1

  -- one more page may be live
  abbrev pub HasRoom : Pages E → Type 0
  HasRoom t = len t.entries < t.room

  -- no page is live
  abbrev pub opened : ℕ → ℕ → Pages E
  opened room first_name = record { entries = empty; names = empty; next_name = first_name; room = room }

  -- a live page has this entry
  abbrev pub with_entry : Pages E → PageId → E → Pages E
  with_entry t id entry = record t { entries = insert t.entries id.name entry }

  -- a page under the next name has come
  abbrev pub with_page : Pages E → PageId → E → Pages E
  with_page t id entry =
      record t {
        entries = insert t.entries id.name entry;
        names = insert t.names id.key id.name;
        next_name = t.next_name + 1;
      }

  -- a page has ended
  abbrev pub without_page : Pages E → PageId → Pages E
  without_page t id = record t { entries = remove t.entries id.name; names = remove t.names id.key }

  -- what holds of every table
  pub record IsProper (t : Pages E) : Type 0 where
    pub named : (key name : ℕ) → get t.names key ≡ Some name → IsSome (get t.entries name)
    pub keyed : (name : ℕ) → IsSome (get t.entries name) → (key : ℕ) × (get t.names key ≡ Some name)
    pub apart : (key other name : ℕ) → get t.names key ≡ Some name → get t.names other ≡ Some name → key ≡ other
    pub keys : (key name : ℕ) → get t.names key ≡ Some name → key < t.room
    pub below : (name : ℕ) → IsSome (get t.entries name) → name < t.next_name
    pub few : len t.entries ≤ t.room

-- a page as it begins: pinned once
abbrev pub new_entry : {S : Type 0} → ℕ → ℕ → ℕ → ℕ → Mem → S → Entry S
new_entry name session client blocks mem scratch =
    record { name = name; session = session; client = client; blocks = blocks; version = 0; place = Pinned 1; mem = mem; scratch = scratch }
