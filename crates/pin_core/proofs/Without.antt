-- A page goes: what stays of the others.
use Rattle.std.proofs.Common.{◌≡◌, ◌≢◌, ℕ, Bool, false, cond, List, [], get_or, Option, Some, None, unwrap_or, option_map, ap, sym, ◌∙◌, subst, inl, inr}
use Rattle.std.specs.FinMap.{get, insert, remove}
use Rattle.index_list.specs.Listing.{list_with, stands_in, others}
use Rattle.index_list.proofs.Members.{others-all, others-not, stands_in-others}
use Rattle.page_table.specs.declared.page_id.PageId.{PageId}
use Rattle.page_table.specs.declared.entry.Entry.{Entry}
use Rattle.page_table.specs.Pages.{Pages as Table, IsProper, without_page}
use Rattle.page_table.proofs.Proper.{proper-without_page}
use Rattle.client_lists.specs.declared.which.Which.TheVariants as which
use Rattle.client_lists.specs.Clients.{IsOpen, IsWhole, len_of, nodes_of, place}
use Rattle.clean_evict.specs.Eviction.{names_of}
use Rattle.reservation_tree.proofs.Maps.{get_same, get_other, removed_same, removed_other, same_or_other, alike, is_there}
use Rattle.pool_model.specs.Bytes.{bytes_of}
use Rattle.pool_model.specs.State.{dirty_of}
use Rattle.pool_model.specs.Parts.{without as without_name}
use Rattle.pool_model.proofs.Seats.{some_is}
use Rattle.pin_core.specs.declared.kept.Kept.{Kept}
use Rattle.pin_core.specs.declared.parts.Parts.{Parts}
use Rattle.pin_core.specs.StateOf.{key_of, page_of, pages_in, dirty_in, state_of}
use Rattle.pin_core.specs.Marking.{form_of}
use Rattle.pin_core.specs.Invariant.{IsMem, IsPlaced, AllPlaced, NoneStray, IsKept}
use Rattle.pin_core.proofs.Mapped.{get_mapped, mapped_gone, mapped_alike}
use Rattle.pin_core.proofs.Found.{key_found}
use Rattle.pin_core.proofs.Queued.{get_dirty, dirty_open, names_without}
use Rattle.pin_core.proofs.OnLists.{on_list_live, clean_key_live, one_key}
use Rattle.pin_core.proofs.Beside.{names_left}

module _ {D : Type 0} where
  -- the page of this key and name is gone, and the other pages stand where they stood
  pub record Goes (key name : ℕ) (x : Entry (Kept D)) (v new : Parts D) : Type 0 where
    pub live : get v.pages.names key ≡ Some name
    pub there : get v.pages.entries name ≡ Some x
    pub pages : new.pages ≡ without_page v.pages (record { name = name; key = key })
    pub gone : list_with key new.lists.pages.lists ≡ None
    pub lists : (k : ℕ) → k ≢ key → list_with k new.lists.pages.lists ≡ list_with k v.lists.pages.lists
    pub queues : (d : ℕ) → nodes_of d which.Dirty new.lists ≡ others key (nodes_of d which.Dirty v.lists)
    pub clean : new.clean.keys ≡ others key v.clean.keys
    pub block_len : new.arena.block_len ≡ v.arena.block_len
    pub form : form_of new ≡ form_of v
    pub opens : new.lists.is_open ≡ v.lists.is_open
    pub lens : (k : ℕ) → len_of k new.lists.pages ≡ len_of k v.lists.pages

  module _ (key name : ℕ) (x : Entry (Kept D)) (v new : Parts D) (goes : Goes key name x v new) (proper : IsProper v.pages) where
    abbrev id : PageId
    id = record { name = name; key = key }

    abbrev left : Table (Entry (Kept D))
    left = without_page v.pages id

    names_are : (k : ℕ) → get new.pages.names k ≡ get left.names k
    names_are k = ap (λ (t : Table (Entry (Kept D))). get t.names k) goes.pages

    entries_are : (q : ℕ) → get new.pages.entries q ≡ get left.entries q
    entries_are q = ap (λ (t : Table (Entry (Kept D))). get t.entries q) goes.pages

    -- a key that still has a page isn't this one
    still_named : (k n : ℕ) → get new.pages.names k ≡ Some n → k ≢ key
    still_named k n is same = let both : None ≡ Some n = sym (removed_same v.pages.names key) ∙ ap (get left.names) (sym same) ∙ sym (names_are k) ∙ is in cc

    pub name_before : (k n : ℕ) → get new.pages.names k ≡ Some n → get v.pages.names k ≡ Some n
    name_before k n is = sym (removed_other v.pages.names key k (still_named k n is)) ∙ sym (names_are k) ∙ is

    pub still_there : (q : ℕ) (page : Entry (Kept D)) → get new.pages.entries q ≡ Some page → q ≢ name
    still_there q page is same = let both : None ≡ Some page = sym (removed_same v.pages.entries name) ∙ ap (get left.entries) (sym same) ∙ sym (entries_are q) ∙ is in cc

    pub page_before : (q : ℕ) (page : Entry (Kept D)) → get new.pages.entries q ≡ Some page → get v.pages.entries q ≡ Some page
    page_before q page is = sym (removed_other v.pages.entries name q (still_there q page is)) ∙ sym (entries_are q) ∙ is

    pub gone_placed : AllPlaced v → AllPlaced new
    gone_placed all k n page live there =
        let apart = still_named k n live in
        let was : IsPlaced v k page = all k n page (name_before k n live) (page_before n page there) in
        record {
          on = goes.lists k apart ∙ was.on;
          opened = ap (λ (o : List Bool). get_or o page.client false) goes.opens ∙ was.opened;
          size = goes.lens k ∙ was.size ∙ ap (λ (len : ℕ). bytes_of len page.blocks) (sym goes.block_len);
          clean = ap (stands_in k) goes.clean ∙ stands_in-others k key v.clean.keys (λ same. apart (sym same)) ∙ was.clean;
          blocks = was.blocks;
          mem = subst (λ (len : ℕ). IsMem len page.blocks page.place page.mem) (sym goes.block_len) was.mem;
          kept = was.kept;
        }

    pub gone_stray : NoneStray v → NoneStray new
    gone_stray stray k none = elim (same_or_other k key) [
      | inl same ↦ (
        ap (λ (q : ℕ). list_with q new.lists.pages.lists) same ∙ goes.gone,
        ap (λ (q : ℕ). stands_in q new.clean.keys) same ∙ ap (stands_in key) goes.clean ∙ others-not key v.clean.keys,
      )
      | inr apart ↦
          let was = stray k (sym (removed_other v.pages.names key k apart) ∙ sym (names_are k) ∙ none) in
          (goes.lists k apart ∙ was.0, ap (stands_in k) goes.clean ∙ stands_in-others k key v.clean.keys (λ same. apart (sym same)) ∙ was.1)
    ]

    same_key : (q : ℕ) (page : Entry (Kept D)) → get left.entries q ≡ Some page → page_of left q page ≡ page_of v.pages q page
    same_key q page is =
        let still : get new.pages.entries q ≡ Some page = entries_are q ∙ is in
        let keyed = proper.keyed q (is_there (get v.pages.entries q) page (page_before q page still)) in
        let apart : keyed.0 ≢ key = λ same. still_there q page still (some_is q name (sym keyed.1 ∙ ap (get v.pages.names) same ∙ goes.live)) in
        let now : key_of left q ≡ keyed.0 = key_found left (proper-without_page v.pages proper id goes.live) keyed.0 q (removed_other v.pages.names key keyed.0 apart ∙ keyed.1) in
        let was : key_of v.pages q ≡ keyed.0 = key_found v.pages proper keyed.0 q keyed.1 in
        ap (λ (k : ℕ). record (page_of v.pages q page) { key = k }) (now ∙ sym was)

    pub gone_pages : pages_in new.pages ≡ remove (pages_in v.pages) name
    gone_pages =
        ap (λ (t : Table (Entry (Kept D))). pages_in t) goes.pages
        ∙ mapped_alike (page_of left) (page_of v.pages) left.entries same_key
        ∙ mapped_gone (page_of v.pages) v.pages.entries name

    pub page_gone : get (pages_in v.pages) name ≡ Some (page_of v.pages name x)
    page_gone = get_mapped (page_of v.pages) v.pages.entries name ∙ ap (λ (o : Option (Entry (Kept D))). option_map (page_of v.pages name) o) goes.there

    -- the names of the other keys
    names_others : (keys : List ℕ) → names_of new.pages (others key keys) ≡ names_of v.pages (others key keys)
    names_others keys = ap (λ (t : Table (Entry (Kept D))). names_of t (others key keys)) goes.pages ∙ names_left v.pages id (others key keys) (others-not key keys)

    module _ (is_kept : IsKept v) (whole : IsWhole v.lists) where
      pub gone_clean : names_of new.pages new.clean.keys ≡ without_name name (names_of v.pages v.clean.keys)
      gone_clean =
          ap (names_of new.pages) goes.clean ∙ names_others v.clean.keys
          ∙ names_without v.pages key name goes.live (one_key v.pages proper key name goes.live) v.clean.keys (clean_key_live v is_kept)

      -- a page that wasn't clean isn't missed there
      pub kept_clean : stands_in key v.clean.keys ≡ false → names_of new.pages new.clean.keys ≡ names_of v.pages v.clean.keys
      kept_clean out = ap (names_of new.pages) goes.clean ∙ names_others v.clean.keys ∙ ap (names_of v.pages) (others-all key v.clean.keys out)

      -- nor is one on a dirty list where it wasn't
      kept_queue : (d : ℕ) → stands_in key (nodes_of d which.Dirty v.lists) ≡ false → get (dirty_in new.pages new.lists) d ≡ get (dirty_in v.pages v.lists) d
      kept_queue d out =
          get_dirty new.pages new.lists d
          ∙ ap (λ (o : List Bool). cond (get_or o d false) (Some (names_of new.pages (nodes_of d which.Dirty new.lists))) None) goes.opens
          ∙ ap (λ (xs : List ℕ). cond (get_or v.lists.is_open d false) (Some xs) None)
          (ap (names_of new.pages) (goes.queues d) ∙ names_others (nodes_of d which.Dirty v.lists) ∙ ap (names_of v.pages) (others-all key (nodes_of d which.Dirty v.lists) out))
          ∙ sym (get_dirty v.pages v.lists d)

      pub kept_dirty : ((d : ℕ) → stands_in key (nodes_of d which.Dirty v.lists) ≡ false) → dirty_in new.pages new.lists ≡ dirty_in v.pages v.lists
      kept_dirty out = alike _ _ (λ d. kept_queue d (out d))

      pub gone_dirty : (c : ℕ) → IsOpen c v.lists → ((d : ℕ) → d ≢ c → stands_in key (nodes_of d which.Dirty v.lists) ≡ false)
          → dirty_in new.pages new.lists ≡ insert (dirty_in v.pages v.lists) c (without_name name (dirty_of (state_of v) c))
      gone_dirty c opened out =
          let names : List ℕ = without_name name (dirty_of (state_of v) c) in
          let queue : names_of new.pages (nodes_of c which.Dirty new.lists) ≡ names =
          ap (names_of new.pages) (goes.queues c) ∙ names_others (nodes_of c which.Dirty v.lists)
          ∙ names_without v.pages key name goes.live (one_key v.pages proper key name goes.live) (nodes_of c which.Dirty v.lists) (on_list_live v is_kept whole (place c which.Dirty))
          ∙ sym (ap (λ (r : Option (List ℕ)). without_name name (unwrap_or r [])) (dirty_open v.pages v.lists c opened)) in
          alike _ _ (λ d. elim (same_or_other d c) [
            | inl here ↦
                ap (get (dirty_in new.pages new.lists)) here ∙ get_dirty new.pages new.lists c
                ∙ ap (λ (b : Bool). cond b (Some (names_of new.pages (nodes_of c which.Dirty new.lists))) None) (ap (λ (o : List Bool). get_or o c false) goes.opens ∙ opened)
                ∙ ap Some queue ∙ sym (get_same (dirty_in v.pages v.lists) c names) ∙ ap (get (insert (dirty_in v.pages v.lists) c names)) (sym here)
            | inr other ↦ kept_queue d (out d other) ∙ sym (get_other (dirty_in v.pages v.lists) c names d other)
          ])
