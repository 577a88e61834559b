-- What single entries do to a state, where the page that they name is known.
use Rattle.std.proofs.Common.{◌≡◌, ℕ, ◌+◌, ◌-◌, true, List, [], ◌∷◌, ◌++◌, Option, Some, unwrap_or, ap, ◌∙◌}
use Rattle.std.specs.FinMap.{get, insert, remove}
use Rattle.reservation_tree.proofs.Maps.{get_same}
use Rattle.reservation_tree.specs.declared.mark.Mark.{Mark}
use Rattle.pool_model.specs.declared.event.Event.TheVariants.{Unpin, StartWrite, WriteOk, WriteFailed, PinHere, PinLoad, PinAgain, UnpinOnce, ReadOk, ReadFailed, ReadStale, Evict, Destroy, Extract}
use Rattle.pool_model.specs.State.{State, Page, Pages, Dirty, Flying, Clean, Pinned, Loading, Evicted, no_page, page_at, pins_of, dirty_of, shown}
use Rattle.pool_model.specs.Effects.{after}
use Rattle.pool_model.specs.Parts.{without, give_slots, queue_dirty, with_failures, keep_first}
use Rattle.pool_model.proofs.Pages.{page_is}
use Rattle.pin_core.proofs.Mapped.{put_twice}

pub same_state : (a b : State) → a.block_len ≡ b.block_len → a.marked ≡ b.marked → a.blocks ≡ b.blocks → a.trackers ≡ b.trackers → a.sessions ≡ b.sessions
    → a.pages ≡ b.pages → a.buffers ≡ b.buffers → a.dirty ≡ b.dirty → a.clean ≡ b.clean → a.next_name ≡ b.next_name → a.entries ≡ b.entries → a ≡ b
same_state a b p1 p0 p2 p3 p4 p5 p6 p7 p8 p9 p10 = λ i. record {
  block_len = p1 i;
  blocks = p2 i;
  marked = p0 i;
  trackers = p3 i;
  sessions = p4 i;
  pages = p5 i;
  buffers = p6 i;
  dirty = p7 i;
  clean = p8 i;
  next_name = p9 i;
  entries = p10 i;
}

module _ (s : State) (maker p : ℕ) (y : Page) (is : get s.pages p ≡ Some y) where
  page_y : page_at s p ≡ y
  page_y = page_is s p y is

  pub unpin_effect : (content : List ℕ) → after s (record { maker = maker; event = Unpin p content }) ≡ record s {
    pages = insert s.pages p (record y { place = Dirty; has_slots = true });
    dirty = insert s.dirty y.client (dirty_of s y.client ++ p ∷ []);
    entries = shown (s.entries + 1);
  }
  unpin_effect content =
      let second : page_at (give_slots p (queue_dirty p s)) p ≡ record (page_at s p) { has_slots = true } =
      ap (λ (o : Option Page). unwrap_or o no_page) (get_same s.pages p (record (page_at s p) { has_slots = true })) in
      let whole : Page → Page → Page → State = λ (a b c : Page). record s {
        pages = insert (insert s.pages p (record a { has_slots = true })) p (record b { place = Dirty });
        dirty = insert s.dirty c.client (dirty_of s c.client ++ p ∷ []);
        entries = shown (s.entries + 1);
      } in
      ap (λ (b : Page). whole (page_at s p) b (page_at s p)) second
      ∙ ap (λ (a : Page). whole a (record a { has_slots = true }) a) page_y
      ∙ ap (λ (m : Pages). record s { pages = m; dirty = insert s.dirty y.client (dirty_of s y.client ++ p ∷ []); entries = shown (s.entries + 1) })
      (put_twice s.pages p (record y { has_slots = true }) (record y { place = Dirty; has_slots = true }))

  pub start_effect : after s (record { maker = maker; event = StartWrite p }) ≡ record s {
    pages = insert s.pages p (record y { place = Flying maker; version = s.entries });
    dirty = insert s.dirty y.client (without p (dirty_of s y.client));
    clean = without p s.clean;
    entries = shown (s.entries + 1);
  }
  start_effect = ap (λ (a : Page). record s {
    pages = insert s.pages p (record a { place = Flying maker; version = s.entries });
    dirty = insert s.dirty a.client (without p (dirty_of s a.client));
    clean = without p s.clean;
    entries = shown (s.entries + 1);
  }) page_y

  pub written_effect : after s (record { maker = maker; event = WriteOk p }) ≡ record s {
    pages = insert s.pages p (record y { place = Clean });
    clean = s.clean ++ p ∷ [];
    entries = shown (s.entries + 1);
  }
  written_effect = ap (λ (a : Page). record s { pages = insert s.pages p (record a { place = Clean }); clean = s.clean ++ p ∷ []; entries = shown (s.entries + 1) }) page_y

  pub here_effect : after s (record { maker = maker; event = PinHere p }) ≡ record s {
    pages = insert s.pages p (record y { place = Pinned 1 });
    dirty = insert s.dirty y.client (without p (dirty_of s y.client));
    clean = without p s.clean;
    entries = shown (s.entries + 1);
  }
  here_effect = ap (λ (a : Page). record s {
    pages = insert s.pages p (record a { place = Pinned 1 });
    dirty = insert s.dirty a.client (without p (dirty_of s a.client));
    clean = without p s.clean;
    entries = shown (s.entries + 1);
  }) page_y

  pub evict_effect : after s (record { maker = maker; event = Evict p }) ≡ record s {
    pages = insert s.pages p (record y { place = Evicted });
    dirty = insert s.dirty y.client (without p (dirty_of s y.client));
    clean = without p s.clean;
    entries = shown (s.entries + 1);
  }
  evict_effect = ap (λ (a : Page). record s {
    pages = insert s.pages p (record a { place = Evicted });
    dirty = insert s.dirty a.client (without p (dirty_of s a.client));
    clean = without p s.clean;
    entries = shown (s.entries + 1);
  }) page_y

  pub load_effect : after s (record { maker = maker; event = PinLoad p }) ≡ record s {
    pages = insert s.pages p (record y { place = Loading });
    entries = shown (s.entries + 1);
  }
  load_effect = ap (λ (a : Page). record s { pages = insert s.pages p (record a { place = Loading }); entries = shown (s.entries + 1) }) page_y

  pub read_effect : after s (record { maker = maker; event = ReadOk p }) ≡ record s {
    pages = insert s.pages p (record y { place = Pinned 1 });
    entries = shown (s.entries + 1);
  }
  read_effect = ap (λ (a : Page). record s { pages = insert s.pages p (record a { place = Pinned 1 }); entries = shown (s.entries + 1) }) page_y

  pub failed_effect : (before now : ℕ) → after s (record { maker = maker; event = WriteFailed p before now }) ≡ record s {
    pages = insert s.pages p (record y { place = Dirty });
    sessions = with_failures (keep_first y.client s.entries) y.session s.sessions;
    dirty = insert s.dirty y.client (dirty_of s y.client ++ p ∷ []);
    entries = shown (s.entries + 1);
  }
  failed_effect before now = ap (λ (a : Page). record s {
    pages = insert s.pages p (record a { place = Dirty });
    sessions = with_failures (keep_first a.client s.entries) a.session s.sessions;
    dirty = insert s.dirty a.client (dirty_of s a.client ++ p ∷ []);
    entries = shown (s.entries + 1);
  }) page_y

  pub stale_effect : (wanted found : Mark) → after s (record { maker = maker; event = ReadStale p wanted found }) ≡ record s {
    pages = insert s.pages p (record y { place = Evicted });
    entries = shown (s.entries + 1);
  }
  stale_effect wanted found = ap (λ (a : Page). record s { pages = insert s.pages p (record a { place = Evicted }); entries = shown (s.entries + 1) }) page_y

  pub unread_effect : (before now : ℕ) → after s (record { maker = maker; event = ReadFailed p before now }) ≡ record s {
    pages = insert s.pages p (record y { place = Evicted });
    sessions = with_failures (keep_first y.client s.entries) y.session s.sessions;
    entries = shown (s.entries + 1);
  }
  unread_effect before now = ap (λ (a : Page). record s {
    pages = insert s.pages p (record a { place = Evicted });
    sessions = with_failures (keep_first a.client s.entries) a.session s.sessions;
    entries = shown (s.entries + 1);
  }) page_y

  pub again_effect : after s (record { maker = maker; event = PinAgain p }) ≡ record s {
    pages = insert s.pages p (record y { place = Pinned (pins_of y.place + 1) });
    entries = shown (s.entries + 1);
  }
  again_effect = ap (λ (a : Page). record s { pages = insert s.pages p (record a { place = Pinned (pins_of a.place + 1) }); entries = shown (s.entries + 1) }) page_y

  pub once_effect : after s (record { maker = maker; event = UnpinOnce p }) ≡ record s {
    pages = insert s.pages p (record y { place = Pinned (pins_of y.place - 1) });
    entries = shown (s.entries + 1);
  }
  once_effect = ap (λ (a : Page). record s { pages = insert s.pages p (record a { place = Pinned (pins_of a.place - 1) }); entries = shown (s.entries + 1) }) page_y

  pub destroy_effect : after s (record { maker = maker; event = Destroy p }) ≡ record s {
    pages = remove s.pages p;
    dirty = insert s.dirty y.client (without p (dirty_of s y.client));
    clean = without p s.clean;
    entries = shown (s.entries + 1);
  }
  destroy_effect = ap (λ (a : Page). record s {
    pages = remove s.pages p;
    dirty = insert s.dirty a.client (without p (dirty_of s a.client));
    clean = without p s.clean;
    entries = shown (s.entries + 1);
  }) page_y

  pub extract_effect : (f : ℕ) → after s (record { maker = maker; event = Extract p f }) ≡ record s {
    pages = remove s.pages p;
    buffers = insert s.buffers f (record { client = y.client; blocks = y.blocks });
    entries = shown (s.entries + 1);
  }
  extract_effect f = ap (λ (a : Page). record s {
    pages = remove s.pages p;
    buffers = insert s.buffers f (record { client = a.client; blocks = a.blocks });
    entries = shown (s.entries + 1);
  }) page_y
