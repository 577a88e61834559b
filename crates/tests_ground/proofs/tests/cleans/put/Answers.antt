-- A new page has a key that is not on the list, and leaves the pages of the list as they are.
use Rattle.std.proofs.Common.{◌≡◌, ℕ, ◌+◌, ◌≤◌, List, [], ◌∷◌, ◌++◌, Option, Some, None, refl, ap, sym, ◌∙◌, subst, arith}
use Rattle.std.specs.FinMap.{get}
use Rattle.std.specs.Option.{option_copied_mut}
use Rattle.std.proofs.lemmas.List.Sums.{sum_by_push}
use Rattle.block_arena.specs.Memory.{Supply, Buffer, IsBufferOf}
use Rattle.page_table.specs.declared.page_id.PageId.{PageId}
use Rattle.page_table.specs.declared.entry.Entry.{Entry}
use Rattle.page_table.specs.declared.entry.Mem.TheVariants.{Held}
use Rattle.page_table.specs.declared.entry.Place.TheVariants.{Clean}
use Rattle.page_table.specs.Pages.{Pages, IsLive, entry_of, new_entry, with_entry, with_page}
use Rattle.reservation_tree.proofs.Maps.{get_same, get_other}
use Rattle.page_table.proofs.Entries.{one_of}
use Rattle.page_table.proofs.Found.{entry_of_live}
use Rattle.clean_evict.specs.Eviction.{blocks_at, blocks_of, IsCleanPage, IsCleanList}
use Rattle.clean_evict.proofs.Kept.{AreSame, blocks-there, blocks-kept, clean-kept, clean-pushed}
use Rattle.tests_ground.proofs.tests.cleans.put.Goals as goal

-- the page as it is put
abbrev put_entry : ℕ → ℕ → Buffer → Entry ℕ
put_entry name blocks buf = record { name = name; session = 1; client = 2; blocks = blocks; version = 0; place = Clean; mem = Held buf; scratch = 3 }

abbrev put_first : ℕ → ℕ → Buffer → Entry ℕ
put_first name blocks buf = new_entry name 1 2 blocks (Held buf) 3

abbrev put_in : Pages (Entry ℕ) → PageId → ℕ → Buffer → Pages (Entry ℕ)
put_in pages id blocks buf = with_entry (with_page pages id (put_first id.name blocks buf)) id (put_entry id.name blocks buf)

put-page : (block_len : ℕ) (pages : Pages (Entry ℕ)) (id : PageId) (blocks : ℕ) (buf : Buffer) → IsBufferOf blocks block_len buf → IsCleanPage block_len (put_in pages id blocks buf) id.key
put-page block_len pages id blocks buf whole = record {
  name = id.name;
  page = put_entry id.name blocks buf;
  buffer = buf;
  live = get_same pages.names id.key id.name;
  there = get_same (with_page pages id (put_first id.name blocks buf)).entries id.name (put_entry id.name blocks buf);
  clean = refl;
  held = refl;
  whole = whole;
}

put-same : (arena : Supply) (pages : Pages (Entry ℕ)) (keys : List ℕ) (id : PageId) (blocks : ℕ) (buf : Buffer) → IsCleanList arena pages keys → get pages.names id.key ≡ None → get pages.entries id.name ≡ None → AreSame keys pages (put_in pages id blocks buf)
put-same arena pages keys id blocks buf clean vacant fresh = record {
  names = λ key s. get_other pages.names id.key id.name key (λ same.
      let c = clean.clean key s in
      let both : None ≡ Some c.name = sym vacant ∙ ap (λ (k : ℕ). get pages.names k) (sym same) ∙ c.live in
      absurd (cc));
  entries = λ key name s live.
      let c = clean.clean key s in
      let own : c.name ≡ name = one_of (get pages.names key) c.name name c.live live in
      let other : (name ≡ id.name → ⊥) = λ same.
      (let both : None ≡ Some c.page = sym fresh ∙ ap (λ (n : ℕ). get pages.entries n) (sym (own ∙ same)) ∙ c.there in
      absurd (cc)) in
      get_other (with_page pages id (put_first id.name blocks buf)).entries id.name (put_entry id.name blocks buf) name other
      ∙ get_other pages.entries id.name (put_first id.name blocks buf) name other;
}

put-blocks : (arena : Supply) (pages : Pages (Entry ℕ)) (keys : List ℕ) (id : PageId) (blocks : ℕ) (buf : Buffer) → IsCleanList arena pages keys → get pages.names id.key ≡ None → get pages.entries id.name ≡ None → IsBufferOf blocks arena.block_len buf → blocks_of (put_in pages id blocks buf) (keys ++ id.key ∷ []) ≡ blocks_of pages keys + blocks
put-blocks arena pages keys id blocks buf clean vacant fresh whole =
    let new = put_in pages id blocks buf in
    let all = sum_by_push (λ k. blocks_at new k) keys id.key in
    let kept = blocks-kept arena pages new keys (put-same arena pages keys id blocks buf clean vacant fresh) clean in
    let own = blocks-there new id.key id.name (put_entry id.name blocks buf) (get_same pages.names id.key id.name) (get_same (with_page pages id (put_first id.name blocks buf)).entries id.name (put_entry id.name blocks buf)) in
    omega (arith, all, kept, own)

put-clean : (arena : Supply) (pages : Pages (Entry ℕ)) (keys : List ℕ) (id : PageId) (blocks : ℕ) (buf : Buffer) → IsCleanList arena pages keys → get pages.names id.key ≡ None → get pages.entries id.name ≡ None → IsBufferOf blocks arena.block_len buf → arena.free + blocks_of pages keys + blocks ≤ arena.blocks → IsCleanList arena (put_in pages id blocks buf) (keys ++ id.key ∷ [])
put-clean arena pages keys id blocks buf clean vacant fresh whole fits =
    let new = put_in pages id blocks buf in
    let same = put-same arena pages keys id blocks buf clean vacant fresh in
    let page = put-page arena.block_len pages id blocks buf whole in
    let kept = blocks-kept arena pages new keys same clean in
    let own = blocks-there new id.key id.name (put_entry id.name blocks buf) (get_same pages.names id.key id.name) (get_same (with_page pages id (put_first id.name blocks buf)).entries id.name (put_entry id.name blocks buf)) in
    clean-pushed arena new keys id.key (clean-kept arena pages new keys same clean) page (omega (arith, kept, own, fits))

-- the entry that was lent is the new page's
lent : (pages new : Pages (Entry ℕ)) (id : PageId) (entry : Entry ℕ) (found : Option (Entry ℕ)) (page : Entry ℕ) → new ≡ with_page pages id entry → found ≡ entry_of new id → found ≡ Some page → page ≡ entry
lent pages new id entry found page added value is =
    let live : IsLive new id = ap (λ (t : Pages (Entry ℕ)). get t.names id.key) added ∙ get_same pages.names id.key id.name in
    one_of found page entry is (value ∙ entry_of_live new id live ∙ ap (λ (t : Pages (Entry ℕ)). get t.entries id.name) added ∙ get_same pages.entries id.name entry)

pub unwrap-entry-requires : goal.unwrap-entry-requires
unwrap-entry-requires c =
    c.get_mut.ensures.live.1 (ap (λ (t : Pages (Entry ℕ)). get t.names c.add-id.result.key) c.add-id.ensures.pages ∙ get_same c.args.pages.now.names c.add-id.result.key c.add-id.result.name)

-- a fact of the table where the page was put
put-holds : (P : Pages (Entry ℕ) → Type 0) (pages new : Pages (Entry ℕ)) (id : PageId) (blocks : ℕ) (buf : Buffer) (found : Option (Entry ℕ)) (page : Entry ℕ) → new ≡ with_page pages id (put_first id.name blocks buf) → found ≡ entry_of new id → found ≡ Some page → P (put_in pages id blocks buf) → P (with_entry new id (record page { place = Clean }))
put-holds P pages new id blocks buf found page added value is holds =
    let e = lent pages new id (put_first id.name blocks buf) found page added value is in
    subst (λ (x : Entry ℕ). P (with_entry new id (record x { place = Clean }))) (sym e)
    (subst (λ (t : Pages (Entry ℕ)). P (with_entry t id (put_entry id.name blocks buf))) (sym added) holds)

pub returns-clause-clean : goal.returns-clause-clean
returns-clause-clean c =
    let id = c.add-id.result in
    let keys = c.args.list.now.keys ++ id.key ∷ [] in
    rw c.push.ensures
    (put-holds (λ t. IsCleanList c.args.arena.now t keys) c.args.pages.now c.add-id.new.self id c.args.blocks c.args.buf _ c.unwrap-entry.result.now c.add-id.ensures.pages c.get_mut.ensures.value (ap option_copied_mut c.unwrap-entry.ensures)
    (put-clean c.args.arena.now c.args.pages.now c.args.list.now.keys id c.args.blocks c.args.buf c.requires.clean c.add-id.ensures.vacant c.add-id.ensures.fresh c.requires.whole c.requires.fits))

pub returns-clause-blocks : goal.returns-clause-blocks
returns-clause-blocks c =
    let id = c.add-id.result in
    let keys = c.args.list.now.keys ++ id.key ∷ [] in
    rw c.push.ensures
    (put-holds (λ t. blocks_of t keys ≡ blocks_of c.args.pages.now c.args.list.now.keys + c.args.blocks) c.args.pages.now c.add-id.new.self id c.args.blocks c.args.buf _ c.unwrap-entry.result.now c.add-id.ensures.pages c.get_mut.ensures.value (ap option_copied_mut c.unwrap-entry.ensures)
    (put-blocks c.args.arena.now c.args.pages.now c.args.list.now.keys id c.args.blocks c.args.buf c.requires.clean c.add-id.ensures.vacant c.add-id.ensures.fresh c.requires.whole))
